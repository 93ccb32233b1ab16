-- The transaction of Entry Point polls and is over only where no card's presentation is open.
use Rattle.std.proofs.Common.{ℕ, zero, suc, ◌+◌, ◌≤◌, Bool, true, false, List, [], ◌∷◌, Option, Some, None, refl, arith}
use Rattle.std.specs.Prelude.{if◌then◌else◌}
use Rattle.ep_base.specs.declared.limits.TheConstants.{ROUNDS}
use Rattle.ep_base.specs.declared.outcome.OutcomeKind.{OutcomeKind}
use Rattle.ep_base.specs.declared.outcome.OutcomeKind.TheVariants.{SelectNext, TryAgain, Approved, Declined, OnlineRequest, TryAnother, EndApplication}
use Rattle.ep_base.specs.declared.outcome.Message.{Message}
use Rattle.ep_base.specs.Cards.Apdu.{is_9000}
use Rattle.ep_rules.specs.EntryPoint.PreProcessing.{PreparedOne, any_allowed}
use Rattle.ep_base.specs.Objects.Directory.{directory}
use Rattle.ep_rules.specs.EntryPoint.Candidates.{Candidate, candidates}
use Rattle.ep_base.specs.Air.Heard.{Activated, RoundEnd, Empty, Collision, Unsupported, Broken, Found}
use Rattle.ep_rules.specs.EntryPoint.Event.{Verdict, Activation}
use Rattle.ep_rules.specs.EntryPoint.Kernel.{KernelStep, Send, Done, KernelSteps}
use Rattle.ep_rules.specs.EntryPoint.KernelCounts.{CountsFall, FallingCounts}
use Rattle.ep_rules.specs.EntryPoint.Talk.{Talk, is_found, say_collision, by_end, rounds}
use Rattle.ep_rules.specs.EntryPoint.Transaction.{start_b, say_message, after_kind, after_verdict, after_move, kernel_runs, activates, given_to, selects, presented, starts, say_ready}
use Rattle.law_check.specs.Openings.{ClosesOpened, TransactionClosesOpened}

module _ (message : Message) (next : Activated → Talk) (closes : (card : Activated) → ClosesOpened true (next card)) where
  collision_closes : (collided : Bool) (t : Talk) → ClosesOpened false t → ClosesOpened false (say_collision collided message t)
  collision_closes true t x = x
  collision_closes false t x = x

  end_closes : (collided : Bool) (again : Bool → Talk) → ((c : Bool) → ClosesOpened false (again c)) → (e : RoundEnd) → ClosesOpened (is_found e) (by_end message collided again next e)
  end_closes collided again x Empty = x collided
  end_closes collided again x Collision = collision_closes collided (again true) (x true)
  end_closes collided again x Unsupported = x collided
  end_closes collided again x Broken = x collided
  end_closes collided again x (Found card) = closes card

  rounds_close : (n : ℕ) (collided : Bool) → ClosesOpened false (rounds message n collided next)
  unfolding rounds
  rounds_close zero collided = refl
  rounds_close (suc n) collided = (refl, end_closes collided (λ c. rounds message n c next) (λ c. rounds_close n c))

start_closes : (next : Activated → Talk) → ((card : Activated) → ClosesOpened true (next card)) → ClosesOpened false (start_b next)
unfolding start_b
start_closes next closes = rounds_close _ next closes ROUNDS false

module _ {S : Type 0} (k : KernelSteps S) (fall : FallingCounts k) where
  abbrev AllClose : Bool → (S → Talk) → Type 0
  AllClose found next = (s : S) → ClosesOpened found (next s)

  message_closes : (found : Bool) (o : Option Message) (t : Talk) → ClosesOpened found t → ClosesOpened found (say_message o t)
  message_closes found None t x = x
  message_closes found (Some m) t x = x

  kind_closes : (again more : S → Talk) → AllClose false again → AllClose true more → (kind : OutcomeKind) (s : S) → ClosesOpened true (after_kind again more kind s)
  kind_closes again more a m SelectNext s = m s
  kind_closes again more a m TryAgain s = a s
  kind_closes again more a m Approved s = refl
  kind_closes again more a m Declined s = refl
  kind_closes again more a m OnlineRequest s = refl
  kind_closes again more a m TryAnother s = refl
  kind_closes again more a m EndApplication s = refl

  verdict_closes : (again more : S → Talk) → AllClose false again → AllClose true more → (v : Verdict) (s : S) → ClosesOpened true (after_verdict again more v s)
  verdict_closes again more a m v s = message_closes true v.message (after_kind again more v.kind s) (kind_closes again more a m v.kind s)

  module _ (next : Verdict → S → Talk) (closes : (v : Verdict) → AllClose true (next v)) where
    -- a command takes one of those that are left
    move_closes : (n : ℕ) (more : S → Option (List ℕ) → Talk) → ((s : S) (last : Option (List ℕ)) → k.commands s + 1 ≤ n → ClosesOpened true (more s last))
        → (old : S) → k.commands old + 1 ≤ suc n → (m : KernelStep) (s : S) → CountsFall k m old s → ClosesOpened true (after_move next more (m, s))
    move_closes n more x old enough (Send command) s falls = λ r. let less = falls.0 in x s (Some r) (omega (arith, enough, less))
    move_closes n more x old enough (Done verdict) s falls = closes verdict s

    runs_close : (n : ℕ) (s : S) (last : Option (List ℕ)) → k.commands s + 1 ≤ n → ClosesOpened true (kernel_runs k next n s last)
    runs_close zero s last enough = absurd (omega (arith, enough))
    runs_close (suc n) s last enough =
        move_closes n (kernel_runs k next n) (runs_close n) s enough (k.step s last).0 (k.step s last).1 (fall.step s last)

    activates_closes : (g : Activation) (s : S) → ClosesOpened true (activates k next g s)
    activates_closes g s = runs_close (k.commands (k.begin s g) + 1) (k.begin s g) None (omega arith)

  selects_closes : (again : S → Talk) → AllClose false again → (cs : List Candidate) → AllClose true (selects k again cs)
  selects_closes again a [] s = refl
  selects_closes again a (c ∷ cs) s = λ r.
      elim (is_9000 r) as (λ (b : Bool). ClosesOpened true (if b then activates k (after_verdict again (selects k again cs)) (given_to c r) s else selects k again cs s)) [
        | true ↦ activates_closes (after_verdict again (selects k again cs)) (verdict_closes again (selects k again cs) a (selects_closes again a cs)) (given_to c r) s
        | false ↦ selects_closes again a cs s
      ]

  presented_closes : (again : S → Talk) → AllClose false again → (ones : List PreparedOne) (s : S) (card : Activated) → ClosesOpened true (presented k again ones s card)
  presented_closes again a ones s card = λ r. selects_closes again a (candidates ones (directory r)) s

  starts_close : (ones : List PreparedOne) (n : ℕ) → AllClose false (starts k ones n)
  starts_close ones zero s = start_closes _ (presented_closes _ (λ s. refl) ones s)
  starts_close ones (suc n) s = start_closes _ (presented_closes _ (starts_close ones n) ones s)

  ready_closes : (n : ℕ) (ones : List PreparedOne) (next : Talk) → ClosesOpened false next → ClosesOpened false (say_ready n ones next)
  ready_closes n [] next x = x
  ready_closes n (one ∷ ones) next x = ready_closes (n + 1) ones next x

  by_allowed : (b : Bool) (first second : Talk) → ClosesOpened false first → ClosesOpened false second → ClosesOpened false (if b then first else second)
  by_allowed true first second x y = x
  by_allowed false first second x y = y

pub transaction_closes_opened_law : {S : Type 0} (k : KernelSteps S) → TransactionClosesOpened k
transaction_closes_opened_law k txn_type amount ones kernel fall =
    ready_closes k fall 1 ones _ (by_allowed k fall (any_allowed ones) _ _ (starts_close k fall ones (k.restarts kernel) kernel) refl)
