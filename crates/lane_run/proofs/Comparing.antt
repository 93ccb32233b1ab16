-- What a trace answers, and the lines that are left of it.
use Rattle.std.proofs.Common.{◌≡◌, ℕ, ◌<◌, Bool, true, false, refl, ap, subst, arith, Option, Some, None, is_some}
use Rattle.std.specs.Prelude.{if◌then◌else◌}
use Rattle.std.proofs.lemmas.Option.{slice_get_within}
use Rattle.ep_base.specs.Air.Heard.{Ask, Heard}
use Rattle.ep_claim.specs.Lanes.ReplayRun.{Mismatch, Replaying, at_lane, compared, failing, next_line, same_shown, sends_unless, took}
use Rattle.ep_claim.specs.Text.TraceLine.{Shown, TraceLine}
use Rattle.lane_run.specs.Machine.{lines_left}
use Rattle.ep_claim.specs.Lanes.WholeReplay.{compared_at}

-- a line is taken with each answer, and without one the trace has failed
abbrev pub AnswerIs : Replaying → Option Heard × Replaying → Type 0
AnswerIs s (None, t) = is_some t.failure ≡ true
AnswerIs s (Some heard, t) = (t.failure ≡ None) × (lines_left t < lines_left s)

module _ (got : Shown) (s : Replaying) where
  by_line : (l : Option TraceLine) → next_line s ≡ l → s.failure ≡ None → AnswerIs s (compared got l s)
  by_line None at well = refl
  by_line (Some line) at well =
      let within = slice_get_within s.lines s.taken line at in
      elim (same_shown line.sent got) as (λ (b : Bool). AnswerIs s (if b then (Some line.heard, took s) else (None, failing (Some line.sent) (Some got) s))) [
        | true ↦ (well, omega (arith, within))
        | false ↦ refl
      ]

  by_failure : (f : Option Mismatch) → s.failure ≡ f → AnswerIs s (sends_unless f got s)
  by_failure None well = by_line (next_line s) refl well
  by_failure (Some m) failed = ap is_some failed

pub answer_is : (lane : ℕ) (ask : Ask) (s : Replaying) → AnswerIs s (compared_at lane ask s)
answer_is lane ask s =
    by_failure (record { lane = lane; wave = ask.wave; frame = ask.bytes; wait = ask.wait }) (at_lane lane s) s.failure refl

pub answer_of : (lane : ℕ) (ask : Ask) (s : Replaying) (a : Option Heard × Replaying) → compared_at lane ask s ≡ a → AnswerIs s a
answer_of lane ask s a e = subst (λ (a : Option Heard × Replaying). AnswerIs s a) e (answer_is lane ask s)
