-- What a lane's standing tells of its transaction, for those who follow a run.
use Rattle.std.proofs.Common.{◌≡◌, ℕ, true, false, Option, Some, None, is_some, refl, sym, ◌∙◌, ap, subst}
use Rattle.ep_base.specs.Air.Heard.{Ask}
use Rattle.ep_rules.specs.EntryPoint.Kernel.{KernelSteps}
use Rattle.ep_rules.specs.EntryPoint.Talk.{Talk}
use Rattle.entry_session.specs.Turns.{IsOver}
use Rattle.ep_claim.specs.Lanes.Standing.{Standing, asked_by}
use Rattle.ep_lanes.specs.Lanes.{OpenTransaction, LaneHeld}
use Rattle.ep_lanes.specs.Turns.{TransactionIs, Stands}

module _ {S : Type 0} (k : KernelSteps S) (talk : Talk) (fsdi : ℕ) (st : Standing) where
  none_over : (t : Option (OpenTransaction S)) → is_some t ≡ false → TransactionIs k t talk fsdi st → IsOver st
  none_over None e h = h
  none_over (Some t) e h = let never : true ≡ false = e in cc

  asked_open : (t : Option (OpenTransaction S)) (ask : Ask) → asked_by fsdi st.doing ≡ Some ask → TransactionIs k t talk fsdi st → is_some t ≡ true
  asked_open (Some t) ask e h = refl
  asked_open None ask e h = let never : None ≡ Some ask = sym (ap (λ d. asked_by fsdi d) h.stopped) ∙ e in cc

  -- a lane with an open transaction asks what is asked in the standing
  pub asks_then : (l : LaneHeld S) (t : OpenTransaction S) → l.transaction ≡ Some t → Stands k l talk fsdi st → asked_by fsdi st.doing ≡ Some t.asks
  asks_then l t is h = (subst (λ o. TransactionIs k o talk fsdi st) is h.transaction).asks

  -- without one the transaction is over
  pub over_then : (l : LaneHeld S) → is_some l.transaction ≡ false → Stands k l talk fsdi st → IsOver st
  over_then l none h = none_over l.transaction none h.transaction

  -- where something is asked there is one
  pub open_then : (l : LaneHeld S) (ask : Ask) → asked_by fsdi st.doing ≡ Some ask → Stands k l talk fsdi st → is_some l.transaction ≡ true
  open_then l ask e h = asked_open l.transaction ask e h.transaction
