-- A replay that failed.
use Rattle.std.proofs.Common.{◌≡◌, Bool, true, false, Option, Some, None, IsSome, IsNone, ◌↔◌, if◌then◌else◌, is_some, refl, sym, ◌∙◌}
use Rattle.ep_base.specs.Air.Heard.{Heard}
use Rattle.ep_claim.specs.Text.TraceLine.{Shown, TraceLine}
use Rattle.ep_claim.specs.Lanes.ReplayRun.{Mismatch, Replaying, compared, ends_unless, failing, left_over, next_line, same_shown, sends_unless, took, FailsForGood, FailureIsHeld}

pub fails_for_good : FailsForGood
fails_for_good s got some = by_failure s.failure some where
  by_failure : (o : Option Mismatch) → IsSome o → (sends_unless o got s ≡ (None, s)) × (ends_unless o s ≡ (false, s))
  by_failure None h = cc h
  by_failure (Some m) h = (refl, refl)

not_both : {X : Type 0} (b : Bool) → b ≡ false → b ≡ true → X
not_both b off on =
    let clash : false ≡ true = sym off ∙ on in
    cc clash

held_at : (s : Replaying) → IsNone s.failure → (line : TraceLine) (got : Shown) (b : Bool) → (r : Option Heard × Replaying)
    → r ≡ (if b then (Some line.heard, took s) else (None, failing (Some line.sent) (Some got) s)) → IsNone r.0 ↔ IsSome r.1.failure
held_at s none line got true r is = rw is (λ h. cc h, λ h. not_both (is_some s.failure) none h)
held_at s none line got false r is = rw is (λ h. refl, λ h. refl)

compared_holds : (s : Replaying) → IsNone s.failure → (got : Shown) (o : Option TraceLine) → IsNone (compared got o s).0 ↔ IsSome (compared got o s).1.failure
compared_holds s none got None = (λ h. refl, λ h. refl)
compared_holds s none got (Some line) = held_at s none line got (same_shown line.sent got) (compared got (Some line) s) refl

left_holds : (s : Replaying) → IsNone s.failure → (o : Option TraceLine) → ((left_over o s).0 ≡ false) ↔ IsSome (left_over o s).1.failure
left_holds s none None = (λ h. cc h, λ h. not_both (is_some s.failure) none h)
left_holds s none (Some line) = (λ h. refl, λ h. refl)

pub failure_is_held : FailureIsHeld
failure_is_held s got none = by_failure s.failure none where
  by_failure : (o : Option Mismatch) → IsNone o
      → (IsNone (sends_unless o got s).0 ↔ IsSome (sends_unless o got s).1.failure) × (((ends_unless o s).0 ≡ false) ↔ IsSome (ends_unless o s).1.failure)
  by_failure None h = (compared_holds s none got (next_line s), left_holds s none (next_line s))
  by_failure (Some m) h = cc h
