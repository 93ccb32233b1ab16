-- Each step of a talk adds the same to what was heard and executed as to the perfect run.
use Rattle.std.proofs.Common.{◌≡◌, inl, inr, ℕ, suc, List, ◌∷◌, refl, sym, ap, ◌∙◌, append-nil}
use Rattle.ep_base.specs.Air.Heard.{RoundEnd}
use Rattle.ep_rules.specs.EntryPoint.Event.{OwnEvent, Event as EventData, Tells, Apdu}
use Rattle.ep_rules.specs.EntryPoint.Talk.{Talk, Say, Poll, Command, Close, Result, Round, Response, Closed, Nothing, so_far}
use Rattle.ep_rules.specs.EntryPoint.TransportRun.{HearEnd, Whole, AtLink, AtBreach, AtDevice, said_for}
use Rattle.ep_rules.specs.EntryPoint.Perfect.{Perfect, gave, with_command}
use Rattle.ep_base.specs.Cards.Field.{Field}
use Rattle.ep_claim.specs.Promise.Perfection.{EndsInLink, Keeps}

-- Heard to the end: the perfect run has the same results.
pub record Same (talk : Talk) (heard : List Result) (log : List (ℕ × List ℕ)) (p : Perfect) : Type 0 where
  pub results : p.results ≡ heard
  pub executed : log ≡ p.commands
  pub over : (so_far talk heard).wish ≡ Nothing

-- Of a command that failed its link, Third is said.
abbrev pub Kept : (List ℕ → Type 0) → Talk → List Result → List (ℕ × List ℕ) → Perfect → HearEnd → Type 0
Kept Third talk heard log p Whole = Same talk heard log p
Kept Third talk heard log p AtLink = (e : EndsInLink talk heard (said_for talk heard AtLink) log p) × Third e.command
Kept Third talk heard log p AtBreach = ⊥
Kept Third talk heard log p AtDevice = ⊥

pub say_kept : (Third : List ℕ → Type 0) (x : OwnEvent) (next : Talk) (heard : List Result) (log : List (ℕ × List ℕ)) (p : Perfect) (ending : HearEnd) → Kept Third next heard log p ending → Kept Third (Say x next) heard log p ending
say_kept Third x next heard log p Whole r = record { results = r.results; executed = r.executed; over = r.over }
say_kept Third x next heard log p AtLink (r, third) = (
  record {
    number = r.number;
    command = r.command;
    wished = r.wished;
    response = r.response;
    before = Tells x ∷ r.before;
    after = r.after;
    perfect_said = ap (λ (l : List EventData). Tells x ∷ l) r.perfect_said;
    said = ap (λ (l : List EventData). Tells x ∷ l) r.said;
    earlier = r.earlier;
    later = r.later;
    perfect_executed = r.perfect_executed;
    all_earlier = r.all_earlier;
    executed = r.executed;
  },
  third,
)
say_kept Third x next heard log p AtBreach r = r
say_kept Third x next heard log p AtDevice r = r

pub poll_kept : (Third : List ℕ → Type 0) (x : RoundEnd) (next : RoundEnd → Talk) (heard : List Result) (log : List (ℕ × List ℕ)) (p : Perfect) (ending : HearEnd) → Kept Third (next x) heard log p ending
    → Kept Third (Poll next) (Round x ∷ heard) log (gave (Round x) p) ending
poll_kept Third x next heard log p Whole r = record { results = ap (λ (l : List Result). Round x ∷ l) r.results; executed = r.executed; over = r.over }
poll_kept Third x next heard log p AtLink (r, third) = (
  record {
    number = r.number;
    command = r.command;
    wished = r.wished;
    response = r.response;
    before = r.before;
    after = r.after;
    perfect_said = r.perfect_said;
    said = r.said;
    earlier = r.earlier;
    later = r.later;
    perfect_executed = r.perfect_executed;
    all_earlier = r.all_earlier;
    executed = r.executed;
  },
  third,
)
poll_kept Third x next heard log p AtBreach r = r
poll_kept Third x next heard log p AtDevice r = r

pub close_kept : (Third : List ℕ → Type 0) (next : Talk) (heard : List Result) (log : List (ℕ × List ℕ)) (p : Perfect) (ending : HearEnd) → Kept Third next heard log p ending → Kept Third (Close next) (Closed ∷ heard) log (gave Closed p) ending
close_kept Third next heard log p Whole r = record { results = ap (λ (l : List Result). Closed ∷ l) r.results; executed = r.executed; over = r.over }
close_kept Third next heard log p AtLink (r, third) = (
  record {
    number = r.number;
    command = r.command;
    wished = r.wished;
    response = r.response;
    before = r.before;
    after = r.after;
    perfect_said = r.perfect_said;
    said = r.said;
    earlier = r.earlier;
    later = r.later;
    perfect_executed = r.perfect_executed;
    all_earlier = r.all_earlier;
    executed = r.executed;
  },
  third,
)
close_kept Third next heard log p AtBreach r = r
close_kept Third next heard log p AtDevice r = r

pub answer_kept : (Third : List ℕ → Type 0) (n : ℕ) (c a : List ℕ) (next : List ℕ → Talk) (heard : List Result) (log : List (ℕ × List ℕ)) (p : Perfect) (ending : HearEnd) → Kept Third (next a) heard log p ending
    → Kept Third (Command c next) (Response a ∷ heard) ((n, c) ∷ log) (with_command n c (gave (Response a) p)) ending
answer_kept Third n c a next heard log p Whole r = record {
  results = ap (λ (l : List Result). Response a ∷ l) r.results;
  executed = ap (λ (l : List (ℕ × List ℕ)). (n, c) ∷ l) r.executed;
  over = r.over;
}
answer_kept Third n c a next heard log p AtLink (r, third) = (
  record {
    number = r.number;
    command = r.command;
    wished = r.wished;
    response = r.response;
    before = Apdu c a ∷ r.before;
    after = r.after;
    perfect_said = ap (λ (l : List EventData). Apdu c a ∷ l) r.perfect_said;
    said = ap (λ (l : List EventData). Apdu c a ∷ l) r.said;
    earlier = (n, c) ∷ r.earlier;
    later = r.later;
    perfect_executed = ap (λ (l : List (ℕ × List ℕ)). (n, c) ∷ l) r.perfect_executed;
    all_earlier = ap suc r.all_earlier;
    executed = elim r.executed [
      | inl e ↦ inl (ap (λ (l : List (ℕ × List ℕ)). (n, c) ∷ l) e)
      | inr e ↦ inr (ap (λ (l : List (ℕ × List ℕ)). (n, c) ∷ l) e)
    ];
  },
  third,
)
answer_kept Third n c a next heard log p AtBreach r = r
answer_kept Third n c a next heard log p AtDevice r = r

-- a link can't have failed where Q holds
pub record Fails (Q : Type 0) (c : List ℕ) : Type 0 where
  pub never : Q → ⊥

pub keeps : (Q : Type 0) (talk : Talk) (heard : List Result) (u : Field) (p : Perfect) (ending : HearEnd) → Kept (Fails Q) talk heard u.log p ending → Keeps talk heard u p ending
keeps Q talk heard u p Whole r = record {
  events = append-nil (so_far talk heard).events ∙ ap (λ (y : List Result). (so_far talk y).events) (sym r.results);
  executed = r.executed;
  over = r.over;
}
keeps Q talk heard u p AtLink r = r.0
keeps Q talk heard u p AtBreach r = r
keeps Q talk heard u p AtDevice r = r

-- where Q holds it is whole
pub whole_by : (Q : Type 0) (talk : Talk) (heard : List Result) (u : Field) (log : List (ℕ × List ℕ)) (p : Perfect) (ending : HearEnd) → Q → Kept (Fails Q) talk heard log p ending → ending ≡ Whole
whole_by Q talk heard u log p Whole q r = refl
whole_by Q talk heard u log p AtLink q r = absurd (r.1.never q)
whole_by Q talk heard u log p AtBreach q r = absurd r
whole_by Q talk heard u log p AtDevice q r = absurd r
