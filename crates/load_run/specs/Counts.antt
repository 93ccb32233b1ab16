-- What transactions come to in numbers (this project's own).
use Rattle.std.specs.Prelude.{◌≡◌, ℕ, ◌+◌, List, [], ◌∷◌, length, map, Option, Some, None}
use Rattle.std.specs.List.{flat_map, last_or}
use Rattle.ep_base.specs.declared.outcome.OutcomeKind.{OutcomeKind}
use Rattle.ep_base.specs.declared.outcome.OutcomeKind.TheVariants.{SelectNext, TryAgain, Approved, Declined, OnlineRequest, TryAnother, EndApplication}
use Rattle.ep_rules.specs.EntryPoint.Configuration.{Config}
use Rattle.ep_rules.specs.EntryPoint.Event.{Start, Pre, Notice, Card, Candidates, Activate, Outcome, Finished, NoCard, Event as EventData, Tells, Apdu, End, EndLink, EndBreach}
use Rattle.ep_claim.specs.Lanes.Standing.{events_of}
use Rattle.ep_claim.specs.Lanes.Exchanges.{Lane}
use Rattle.ep_rules.specs.EntryPoint.Bounds.{apdus}
use Rattle.ep_claim.specs.Lanes.LaneText.{Job}
use Rattle.ep_claim.specs.Lanes.Telling.{job_after, IsOverAt}
use Rattle.scenario.specs.Jobs.{job_of}
use Rattle.scenario.specs.Scenario.{Work}

-- How many transactions ended approved, declined or online, by the rules with another outcome, with a failed link, and without a card; and how many
-- commands were answered, records were logged, and exchanges were made (this project's own).
pub record Counts : Type 0 where
  pub approved : ℕ
  pub declined : ℕ
  pub online : ℕ
  pub ended : ℕ
  pub link : ℕ
  pub nocard : ℕ
  pub apdus : ℕ
  pub executed : ℕ
  pub exchanges : ℕ

-- The numbers of no transaction (this project's own).
abbrev pub nothing : Counts
nothing = record { approved = 0; declined = 0; online = 0; ended = 0; link = 0; nocard = 0; apdus = 0; executed = 0; exchanges = 0 }

-- The numbers of some transactions and of others (this project's own).
abbrev pub added : Counts → Counts → Counts
added a b = record {
  approved = a.approved + b.approved;
  declined = a.declined + b.declined;
  online = a.online + b.online;
  ended = a.ended + b.ended;
  link = a.link + b.link;
  nocard = a.nocard + b.nocard;
  apdus = a.apdus + b.apdus;
  executed = a.executed + b.executed;
  exchanges = a.exchanges + b.exchanges;
}

-- The outcome that an event tells, if it tells one (after EMV Contactless Book B).
abbrev pub outcome_in : EventData → List OutcomeKind
outcome_in (Tells (Start txn_type amount)) = []
outcome_in (Tells (Pre number one)) = []
outcome_in (Tells (Notice message)) = []
outcome_in (Tells (Card kind id)) = []
outcome_in (Tells (Candidates count)) = []
outcome_in (Tells (Activate given)) = []
outcome_in (Tells (Outcome kind)) = kind ∷ []
outcome_in (Apdu command response) = []
outcome_in (End ending) = []
outcome_in EndLink = []
outcome_in EndBreach = []

-- The last outcome among events, if there is one (after EMV Contactless Book B).
abbrev pub last_outcome : List EventData → Option OutcomeKind
last_outcome events = last_or None (flat_map outcome_in events)

-- A transaction that ended by the rules, by its last outcome; without one it counts nowhere (this project's own).
abbrev pub counted_done : Option OutcomeKind → Counts → Counts
counted_done None c = c
counted_done (Some Approved) c = record c { approved = 1 }
counted_done (Some Declined) c = record c { declined = 1 }
counted_done (Some OnlineRequest) c = record c { online = 1 }
counted_done (Some SelectNext) c = record c { ended = 1 }
counted_done (Some TryAgain) c = record c { ended = 1 }
counted_done (Some TryAnother) c = record c { ended = 1 }
counted_done (Some EndApplication) c = record c { ended = 1 }

-- A transaction with this last outcome, by its last event; one that ended at a breach counts nowhere (this project's own).
abbrev pub counted_by : Option OutcomeKind → Option EventData → Counts → Counts
counted_by outcome None c = c
counted_by outcome (Some (Tells what)) c = c
counted_by outcome (Some (Apdu command response)) c = c
counted_by outcome (Some (End Finished)) c = counted_done outcome c
counted_by outcome (Some (End NoCard)) c = record c { nocard = 1 }
counted_by outcome (Some EndLink) c = record c { link = 1 }
counted_by outcome (Some EndBreach) c = c

-- The numbers of one transaction with these events, this log and so many exchanges (this project's own).
abbrev pub counts_of : List EventData → List (ℕ × List ℕ) → ℕ → Counts
counts_of events log exchanges =
    counted_by (last_outcome events) (last_or None events)
    (record nothing { apdus = apdus events; executed = length log; exchanges = exchanges })

-- The transactions of all lanes, one lane after another (this project's own).
abbrev pub jobs_in_order : Config → List (List Work) → List Job
jobs_in_order settings lanes = map (job_of settings) (flat_map (λ (ws : List Work). ws) lanes)

-- The numbers of a transaction after these exchanges (this project's own).
abbrev pub counts_at : Job → Lane → Counts
counts_at j l = counts_of (events_of j.talk l.standing) l.field.log (length l.exchanges)

-- The transaction, exchange by exchange over its own field, is over after so many exchanges, and these are its numbers then (this project's own).
pub record IsCounted (fsdi : ℕ) (j : Job) (c : Counts) : Type 0 where
  pub count : ℕ
  pub over : IsOverAt fsdi j count
  pub counts : c ≡ counts_at j (job_after fsdi j count)

-- The numbers of each of these transactions (this project's own).
abbrev pub AreCounted : ℕ → List Job → List Counts → Type 0
AreCounted fsdi [] [] = Unit {0}
AreCounted fsdi [] (c ∷ cs) = ⊥
AreCounted fsdi (j ∷ js) [] = ⊥
AreCounted fsdi (j ∷ js) (c ∷ cs) = IsCounted fsdi j c × AreCounted fsdi js cs

-- All of these numbers together (this project's own).
abbrev pub total : List Counts → Counts
total [] = nothing
total (c ∷ cs) = added c (total cs)

-- These are the numbers of all of these transactions together (this project's own).
pub record IsTotal (fsdi : ℕ) (js : List Job) (c : Counts) : Type 0 where
  pub each : List Counts
  pub counted : AreCounted fsdi js each
  pub sum : c ≡ total each

-- Transactions have one such total alone: what each comes to is the same after every count of exchanges at which it is over (this project's own).
abbrev pub OneTotal : Type 0
OneTotal = (fsdi : ℕ) (js : List Job) (c d : Counts) → IsTotal fsdi js c → IsTotal fsdi js d → c ≡ d
