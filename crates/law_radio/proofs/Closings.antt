-- The transaction of Entry Point closes a card that was found alone.
use Rattle.std.proofs.Common.{ℕ, zero, suc, ◌+◌, Bool, true, false, List, [], ◌∷◌, Option, Some, None, refl}
use Rattle.std.specs.Prelude.{if◌then◌else◌}
use Rattle.ep_base.specs.declared.limits.TheConstants.{ROUNDS}
use Rattle.ep_base.specs.declared.outcome.OutcomeKind.{OutcomeKind}
use Rattle.ep_base.specs.declared.outcome.OutcomeKind.TheVariants.{SelectNext, TryAgain, Approved, Declined, OnlineRequest, TryAnother, EndApplication}
use Rattle.ep_base.specs.declared.outcome.Message.{Message}
use Rattle.ep_base.specs.Cards.Apdu.{is_9000}
use Rattle.ep_rules.specs.EntryPoint.PreProcessing.{PreparedOne, any_allowed}
use Rattle.ep_base.specs.Objects.Directory.{directory}
use Rattle.ep_rules.specs.EntryPoint.Candidates.{Candidate, candidates}
use Rattle.ep_base.specs.Air.Heard.{Activated, RoundEnd, Empty, Collision, Unsupported, Broken, Found}
use Rattle.ep_rules.specs.EntryPoint.Event.{Verdict, Activation}
use Rattle.ep_rules.specs.EntryPoint.Kernel.{KernelStep, Send, Done, KernelSteps}
use Rattle.ep_rules.specs.EntryPoint.Talk.{Talk, is_found, say_collision, by_end, rounds}
use Rattle.ep_rules.specs.EntryPoint.Transaction.{start_b, say_message, after_kind, after_verdict, after_move, kernel_runs, activates, given_to, selects, presented, starts, say_ready}
use Rattle.ep_claim.specs.Promise.Closings.{ClosesFound, TransactionCloses}

module _ (message : Message) (next : Activated → Talk) (closes : (card : Activated) → ClosesFound true (next card)) where
  collision_closes : (collided : Bool) (t : Talk) → ClosesFound false t → ClosesFound false (say_collision collided message t)
  collision_closes true t x = x
  collision_closes false t x = x

  end_closes : (collided : Bool) (again : Bool → Talk) → ((c : Bool) → ClosesFound false (again c)) → (e : RoundEnd) → ClosesFound (is_found e) (by_end message collided again next e)
  end_closes collided again x Empty = x collided
  end_closes collided again x Collision = collision_closes collided (again true) (x true)
  end_closes collided again x Unsupported = x collided
  end_closes collided again x Broken = x collided
  end_closes collided again x (Found card) = closes card

  rounds_close : (n : ℕ) (collided found : Bool) → ClosesFound found (rounds message n collided next)
  unfolding rounds
  rounds_close zero collided found = tt
  rounds_close (suc n) collided found = end_closes collided (λ c. rounds message n c next) (λ c. rounds_close n c false)

start_closes : (next : Activated → Talk) → ((card : Activated) → ClosesFound true (next card)) → ClosesFound false (start_b next)
unfolding start_b
start_closes next closes = rounds_close _ next closes ROUNDS false false

module _ {S : Type 0} (k : KernelSteps S) where
  abbrev AllClose : Bool → (S → Talk) → Type 0
  AllClose found next = (s : S) → ClosesFound found (next s)

  message_closes : (found : Bool) (o : Option Message) (t : Talk) → ClosesFound found t → ClosesFound found (say_message o t)
  message_closes found None t x = x
  message_closes found (Some m) t x = x

  kind_closes : (again more : S → Talk) → AllClose false again → AllClose true more → (kind : OutcomeKind) (s : S) → ClosesFound true (after_kind again more kind s)
  kind_closes again more a m SelectNext s = m s
  kind_closes again more a m TryAgain s = (refl, a s)
  kind_closes again more a m Approved s = (refl, tt)
  kind_closes again more a m Declined s = (refl, tt)
  kind_closes again more a m OnlineRequest s = (refl, tt)
  kind_closes again more a m TryAnother s = (refl, tt)
  kind_closes again more a m EndApplication s = (refl, tt)

  verdict_closes : (again more : S → Talk) → AllClose false again → AllClose true more → (v : Verdict) (s : S) → ClosesFound true (after_verdict again more v s)
  verdict_closes again more a m v s = message_closes true v.message (after_kind again more v.kind s) (kind_closes again more a m v.kind s)

  module _ (next : Verdict → S → Talk) (closes : (v : Verdict) → AllClose true (next v)) where
    move_closes : (more : S → Option (List ℕ) → Talk) → ((s : S) (last : Option (List ℕ)) → ClosesFound true (more s last)) → (m : KernelStep) (s : S) → ClosesFound true (after_move next more (m, s))
    move_closes more x (Send command) s = λ r. x s (Some r)
    move_closes more x (Done verdict) s = closes verdict s

    runs_close : (n : ℕ) (s : S) (last : Option (List ℕ)) → ClosesFound true (kernel_runs k next n s last)
    runs_close zero s last = tt
    runs_close (suc n) s last = move_closes (kernel_runs k next n) (runs_close n) (k.step s last).0 (k.step s last).1

    activates_closes : (g : Activation) (s : S) → ClosesFound true (activates k next g s)
    activates_closes g s = runs_close (k.commands (k.begin s g) + 1) (k.begin s g) None

  selects_closes : (again : S → Talk) → AllClose false again → (cs : List Candidate) → AllClose true (selects k again cs)
  selects_closes again a [] s = (refl, tt)
  selects_closes again a (c ∷ cs) s = λ r.
      elim (is_9000 r) as (λ (b : Bool). ClosesFound true (if b then activates k (after_verdict again (selects k again cs)) (given_to c r) s else selects k again cs s)) [
        | true ↦ activates_closes (after_verdict again (selects k again cs)) (verdict_closes again (selects k again cs) a (selects_closes again a cs)) (given_to c r) s
        | false ↦ selects_closes again a cs s
      ]

  presented_closes : (again : S → Talk) → AllClose false again → (ones : List PreparedOne) (s : S) (card : Activated) → ClosesFound true (presented k again ones s card)
  presented_closes again a ones s card = λ r. selects_closes again a (candidates ones (directory r)) s

  starts_close : (ones : List PreparedOne) (n : ℕ) → AllClose false (starts k ones n)
  starts_close ones zero s = start_closes _ (presented_closes _ (λ s. tt) ones s)
  starts_close ones (suc n) s = start_closes _ (presented_closes _ (starts_close ones n) ones s)

  ready_closes : (n : ℕ) (ones : List PreparedOne) (next : Talk) → ClosesFound false next → ClosesFound false (say_ready n ones next)
  ready_closes n [] next x = x
  ready_closes n (one ∷ ones) next x = ready_closes (n + 1) ones next x

  by_allowed : (b : Bool) (first second : Talk) → ClosesFound false first → ClosesFound false second → ClosesFound false (if b then first else second)
  by_allowed true first second x y = x
  by_allowed false first second x y = y

pub transaction_closes_law : {S : Type 0} (k : KernelSteps S) → TransactionCloses k
transaction_closes_law k txn_type amount ones kernel =
    ready_closes k 1 ones _ (by_allowed k (any_allowed ones) _ _ (starts_close k ones (k.restarts kernel) kernel) tt)
