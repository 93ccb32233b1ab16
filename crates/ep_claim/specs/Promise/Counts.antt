-- What a transaction has taken after each of its exchanges, and how much it may take (this project's own).
use Rattle.std.specs.Prelude.{◌≡◌, ℕ, ◌+◌, ◌<◌, ◌≤◌, Bool, if◌then◌else◌, List, [], ◌∷◌, ◌++◌, length, map, Some}
use Rattle.ep_base.specs.declared.limits.TheConstants.{BETWEEN_TOGGLES, ROUND_EXCHANGES, ROUNDS, TOGGLES}
use Rattle.ep_base.specs.Air.Heard.{Heard}
use Rattle.ep_base.specs.Air.Heard as rounds
use Rattle.ep_base.specs.Poll.Round.{Stage, round_hears}
use Rattle.ep_base.specs.Link.Block.{same}
use Rattle.ep_base.specs.Link.ReaderEnd.{Reader, ReaderTurn, Asks, Gives, Spends, Breaks}
use Rattle.ep_base.specs.Link.Carry.{turn_on}
use Rattle.ep_rules.specs.EntryPoint.Talk.{Talk, is_found}
use Rattle.ep_claim.specs.Lanes.Standing.{Doing, Rounds, Carries, Closing, Stopped, Astray, Standing, started, after_hearing}
use Rattle.ep_claim.specs.Lanes.Exchanges.{Exchange}
use Rattle.ep_claim.specs.Lanes.Counting.{IsBounded, after_hearings, exchanges_most}
use Rattle.ep_claim.specs.Lanes.LaneText.{Job, Going}
use Rattle.ep_claim.specs.Lanes.Telling.{jobs_of}
use Rattle.ep_claim.specs.Lanes.WholeRun.{ProbeSteps, run_after}

-- The Start Bs that found a card; the rounds of this Start B that are over; the exchanges of this round; the commands that were answered; the
-- exchanges of the link since the reader's last toggle, or since it was opened; the toggles of this command; and all exchanges (this project's own).
pub record Counts : Type 0 where
  pub starts : ℕ
  pub rounds : ℕ
  pub round : ℕ
  pub commands : ℕ
  pub since : ℕ
  pub toggles : ℕ
  pub exchanges : ℕ

-- Before the first exchange (this project's own).
abbrev pub no_counts : Counts
no_counts = record { starts = 0; rounds = 0; round = 0; commands = 0; since = 0; toggles = 0; exchanges = 0 }

-- An exchange of a poll round: the round goes on; or it is over, and where it found a card its Start B is, and a link is opened (this project's own).
abbrev pub count_round : rounds.RoundTurn Stage → Counts → Counts
count_round (rounds.Goes stage) c = record {
  starts = c.starts;
  rounds = c.rounds;
  round = c.round + 1;
  commands = c.commands;
  since = c.since;
  toggles = c.toggles;
  exchanges = c.exchanges + 1;
}
count_round (rounds.Ends e) c = record {
  starts = if is_found e then c.starts + 1 else c.starts;
  rounds = if is_found e then 0 else c.rounds + 1;
  round = 0;
  commands = c.commands;
  since = if is_found e then 0 else c.since;
  toggles = c.toggles;
  exchanges = c.exchanges + 1;
}

-- An exchange of a command that is open, or comes to an end without a response: where the reader's number changes, it toggled (ISO/IEC 14443-4).
abbrev pub count_asked : (old now : Reader) → Counts → Counts
count_asked old now c = record {
  starts = c.starts;
  rounds = c.rounds;
  round = c.round;
  commands = c.commands;
  since = if same now.number old.number then c.since + 1 else 0;
  toggles = if same now.number old.number then c.toggles else c.toggles + 1;
  exchanges = c.exchanges + 1;
}

-- An exchange of a command that gives its response: the next command has no toggle of its own yet (ISO/IEC 14443-4).
abbrev pub count_given : (old now : Reader) → Counts → Counts
count_given old now c = record {
  starts = c.starts;
  rounds = c.rounds;
  round = c.round;
  commands = c.commands + 1;
  since = if same now.number old.number then c.since + 1 else 0;
  toggles = 0;
  exchanges = c.exchanges + 1;
}

-- By what the exchange of a command leads to (this project's own).
abbrev pub count_turn : Reader → ReaderTurn → Counts → Counts
count_turn old (Asks r) c = count_asked old r c
count_turn old (Gives response r) c = count_given old r c
count_turn old (Spends r) c = count_asked old r c
count_turn old (Breaks r) c = count_asked old r c

-- The exchange that closes a link (this project's own).
abbrev pub count_closing : Counts → Counts
count_closing c = record {
  starts = c.starts;
  rounds = c.rounds;
  round = c.round;
  commands = c.commands;
  since = c.since + 1;
  toggles = c.toggles;
  exchanges = c.exchanges + 1;
}

-- The counts after an exchange in which this was heard, by what it was of; a transaction that is over makes none (this project's own).
abbrev pub counted : Doing → Heard → Counts → Counts
counted (Rounds stage) heard c = count_round (round_hears stage heard) c
counted (Carries l) heard c = count_turn l.reader (turn_on l.set l.reader heard) c
counted (Closing l) heard c = count_closing c
counted (Stopped ending) heard c = c
counted Astray heard c = c

-- The counts after the exchanges in which these were heard, from a standing on (this project's own).
abbrev pub all_counted : ℕ → Talk → List Heard → Standing → Counts → Counts
all_counted fsdi talk [] s c = c
all_counted fsdi talk (heard ∷ more) s c = all_counted fsdi talk more (after_hearing fsdi talk heard s) (counted s.doing heard c)

-- From the transaction's start on (this project's own).
abbrev pub counts_after : ℕ → Talk → List Heard → Counts
counts_after fsdi talk hearings = all_counted fsdi talk hearings (started talk) no_counts

-- The most toggles of a command that are promised, one more than it can take (this project's profile).
abbrev pub toggles_most : ℕ
toggles_most = TOGGLES + 1

-- With its next exchange a round has at most `ROUND_EXCHANGES`, its Start B `ROUNDS` rounds, and the transaction its Start Bs (this project's
-- profile).
pub record RoundFits (most : ℕ) (c : Counts) : Type 0 where
  pub round : c.round < ROUND_EXCHANGES
  pub rounds : c.rounds < ROUNDS
  pub starts : c.starts < most

-- With its next exchange the link has at most `BETWEEN_TOGGLES` since the reader's last toggle, or since it was opened; the command has at most
-- `toggles_most` toggles, and the transaction its commands (this project's profile).
pub record CommandFits (most : ℕ) (c : Counts) : Type 0 where
  pub since : c.since < BETWEEN_TOGGLES
  pub toggles : c.toggles < toggles_most
  pub commands : c.commands < most

-- By what the next exchange is of (this project's profile).
abbrev pub NextFits : (commands starts : ℕ) → Doing → Counts → Type 0
NextFits commands starts (Rounds stage) c = RoundFits starts c × (c.exchanges < exchanges_most commands starts)
NextFits commands starts (Carries l) c = CommandFits commands c × (c.exchanges < exchanges_most commands starts)
NextFits commands starts (Closing l) c = (c.since < BETWEEN_TOGGLES) × (c.exchanges < exchanges_most commands starts)
NextFits commands starts (Stopped ending) c = c.exchanges ≤ exchanges_most commands starts
NextFits commands starts Astray c = c.exchanges ≤ exchanges_most commands starts

-- Whatever is heard, and after however many exchanges: the next one fits (this project's own).
abbrev pub IsCounted : (fsdi : ℕ) → Talk → (commands starts : ℕ) → Type 0
IsCounted fsdi talk commands starts =
    (hearings : List Heard) →
    NextFits commands starts (after_hearings fsdi talk hearings (started talk)).doing (counts_after fsdi talk hearings)

-- A transaction that is bounded is so (this project's own).
abbrev pub BoundedCount : Type 0
BoundedCount = (fsdi : ℕ) (talk : Talk) (commands starts : ℕ) → IsBounded commands starts talk → IsCounted fsdi talk commands starts

-- What was heard in these exchanges (this project's own).
abbrev pub heard_in : List Exchange → List Heard
heard_in exchanges = map (λ (x : Exchange). x.heard) exchanges

-- A transaction of a lane that has an exchange left, as its own exchanges led to it from its start (this project's own).
pub record IsUnderWay (fsdi : ℕ) (jobs : List Job) (g : Going) : Type 0 where
  pub before : List Job
  pub job : Job
  pub all : jobs ≡ before ++ job ∷ g.left
  pub number : g.txn ≡ length before + 1
  pub talks : g.talk ≡ job.talk
  pub led : g.lane.standing ≡ after_hearings fsdi job.talk (heard_in g.lane.exchanges) (started job.talk)

-- Each lane that has an exchange left stands so after every count of the run's exchanges, whatever the probe makes of the hearings (this project's
-- own).
abbrev pub AreUnderWay : {P : Type 0} → ProbeSteps P → Type 0
AreUnderWay {P} probe =
    (traced : Bool) (fsdi : ℕ) (turns : List ℕ) (p : P) (lanes : List (List Job)) (n lane : ℕ) (g : Going) →
    (run_after traced probe fsdi turns p lanes n).lanes lane ≡ Some g → IsUnderWay fsdi (jobs_of 1 lanes lane) g
