-- A mismatch tells two things that differ.
use Rattle.std.proofs.Common.{◌≡◌, ◌≢◌, ℕ, zero, suc, Bool, true, false, length, refl, sym, subst, ◌∙◌, Option, Some, None}
use Rattle.std.specs.Prelude.{if◌then◌else◌}
use Rattle.ep_base.specs.Air.Heard.{Ask, Heard}
use Rattle.ep_claim.specs.Lanes.Steps.{times}
use Rattle.ep_claim.specs.Lanes.ReplayRun.{Mismatch, Replaying, at_lane, begun_replay, compared, ends_unless, failing, left_over, next_line, same_shown, sends_unless, took}
use Rattle.ep_claim.specs.Text.TraceLine.{Shown, TraceLine}
use Rattle.lane_run.proofs.Results.{some_same}
use Rattle.lane_run.specs.Stopping.{MismatchesDiffer}
use Rattle.ep_claim.specs.Lanes.WholeReplay.{cardless, compared_at, replay_after, replay_next, trace_probe}
use Rattle.ep_claim.specs.Lanes.WholeRun.{Run, opened_run, run_step}
use Rattle.law_turns.proofs.Stepping.{by_step}
use Rattle.lane_run.proofs.Matching.{shown_self}

-- a failure tells two things that differ
abbrev Apart : Option Mismatch → Type 0
Apart None = Unit {0}
Apart (Some m) = m.wanted ≢ m.got

-- so does that of a trace after an answer
abbrev ApartAfter : Option Heard × Replaying → Type 0
ApartAfter a = Apart a.1.failure

none_some : (s : Shown) → None ≢ Some s
none_some s e = let clash : ⊥ = cc in clash

some_none : (s : Shown) → Some s ≢ None
some_none s e = let clash : ⊥ = cc in clash

other_shown : (a b : Shown) → same_shown a b ≡ false → Some a ≢ Some b
other_shown a b differs e =
    let same : same_shown a b ≡ true = subst (λ (x : Shown). same_shown a x ≡ true) (some_same a b e) (shown_self a) in
    let clash : true ≡ false = sym same ∙ differs in
    absurd (let never : ⊥ = cc in never)

module _ (got : Shown) (s : Replaying) (apart : Apart s.failure) where
  by_line : (l : Option TraceLine) → ApartAfter (compared got l s)
  by_line None = none_some got
  by_line (Some line) =
      elim (same_shown line.sent got) as (λ (b : Bool). same_shown line.sent got ≡ b
      → ApartAfter (if b then (Some line.heard, took s) else (None, failing (Some line.sent) (Some got) s))) [
        | true ↦ λ e. apart
        | false ↦ λ e. other_shown line.sent got e
      ] refl

  by_failure : (f : Option Mismatch) → ApartAfter (sends_unless f got s)
  by_failure None = by_line (next_line s)
  by_failure (Some m) = apart

module _ (s : Replaying) (apart : Apart s.failure) where
  by_left : (l : Option TraceLine) → Apart (left_over l s).1.failure
  by_left None = apart
  by_left (Some line) = some_none line.sent

  by_end : (f : Option Mismatch) → Apart (ends_unless f s).1.failure
  by_end None = by_left (next_line s)
  by_end (Some m) = apart

answer_apart : (lane : ℕ) (ask : Ask) (s : Replaying) → Apart s.failure → ApartAfter (compared_at lane ask s)
answer_apart lane ask s apart =
    by_failure (record { lane = lane; wave = ask.wave; frame = ask.bytes; wait = ask.wait }) (at_lane lane s) apart s.failure

module _ (fsdi count : ℕ) where
  step_apart : (run : Run Replaying) → Apart run.probe.failure → Apart (run_step false trace_probe fsdi count run).probe.failure
  step_apart run apart =
      by_step false trace_probe fsdi count run (λ t q. Apart q.probe.failure) (λ none. apart) (λ n o x y. apart) (λ n o g x y z. apart)
      (λ n o g ask x y z. answer_apart n ask run.probe apart)

  steps_apart : (n : ℕ) (run : Run Replaying) → Apart run.probe.failure → Apart (times (run_step false trace_probe fsdi count) n run).probe.failure
  steps_apart zero run apart = apart
  steps_apart (suc n) run apart = steps_apart n (run_step false trace_probe fsdi count run) (step_apart run apart)

pub mismatches_differ_law : MismatchesDiffer
mismatches_differ_law fsdi turns lines lanes m text ends =
    let first = opened_run fsdi turns (begun_replay lines) (cardless lanes) in
    let last = replay_after fsdi turns lines lanes ends.exchanges in
    let apart = steps_apart fsdi (length (cardless lanes)) ends.exchanges first tt in
    let next = replay_next fsdi (length lanes) last in
    subst (λ (f : Option Mismatch). Apart f) (sym ends.mismatch_is) (by_end next.probe (step_apart fsdi (length lanes) last apart) next.probe.failure)
