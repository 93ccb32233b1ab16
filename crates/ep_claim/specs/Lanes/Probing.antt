-- What a probe may make of a hearing, in plain data.
use Rattle.std.specs.Prelude.{◌≡◌, ℕ, ⊤}
use Rattle.ep_base.specs.Air.Heard.{Ask, Heard}
use Rattle.ep_claim.specs.Lanes.WholeRun.{ProbeSteps}

-- What a reader may hear, by the probe's state, the lane, what was asked and what the medium gave, and the probe's state after it (this project's own).
pub record ProbeAnswers (P : Type 0) : Type 1 where
  pub hears : P → (lane : ℕ) → Ask → Heard → Heard → P → Type 0

-- A probe that tells its step has one answer (this project's own).
abbrev pub probe_told : {P : Type 0} → ProbeSteps P → ProbeAnswers P
probe_told probe = record { hears = λ p lane ask given heard q. probe.hear p lane ask given ≡ (q, heard) }

-- A probe that tells nothing has one state, and every answer (this project's own).
abbrev pub probe_untold : ProbeAnswers (Unit {0})
probe_untold = record { hears = λ _ _ _ _ _ _. ⊤ }

-- A probe's answers are those of these steps (this project's own).
abbrev pub Tells : {P : Type 0} → ProbeAnswers P → ProbeSteps P → Type 0
Tells {P} answers steps =
    (p : P) (lane : ℕ) (ask : Ask) (given heard : Heard) (q : P) → answers.hears p lane ask given heard q → steps.hear p lane ask given ≡ (q, heard)
