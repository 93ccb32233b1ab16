-- A transaction over the perfect channel is its perfect run.
use Rattle.std.proofs.Common.{◌≡◌, ℕ, ◌+◌, ◌≤◌, true, false, List, length, refl}
use Rattle.ep_rules.specs.EntryPoint.PreProcessing.{PreparedOne}
use Rattle.ep_base.specs.Cards.CardAnswer.{Image}
use Rattle.ep_rules.specs.EntryPoint.Kernel.{KernelStep, Send, Done, KernelSteps}
use Rattle.ep_rules.specs.EntryPoint.KernelCounts.{FallingCounts}
use Rattle.ep_rules.specs.EntryPoint.Talk.{IsLegal}
use Rattle.ep_rules.specs.EntryPoint.Transaction.{transaction}
use Rattle.ep_rules.specs.EntryPoint.EventSteps.{EventSteps}
use Rattle.ep_base.specs.Cards.Direct.{Direct}
use Rattle.ep_rules.specs.EntryPoint.Bounds.{log_bound}
use Rattle.law_run.specs.Legality.{Passes, SendsOnly, SelectsPass}
use Rattle.law_run.specs.OverPerfect.{Carries, TransactionOverPerfect}
use Rattle.law_run.proofs.Bounding.{starts_more, few_commands_lem, few_starts_lem}
use Rattle.law_run.proofs.Legal.{legality_lem}
use Rattle.law_run.proofs.Playing.{perfect_lem}

any_sent : (move : KernelStep) → Passes (λ command. true) move
any_sent (Send command) = refl
any_sent (Done verdict) = tt

module _ {S : Type 0} (k : KernelSteps S) where
  -- Each of its commands comes after a card was found, and before it is closed.
  pub transaction_legal : (txn_type amount : ℕ) (ones : List PreparedOne) (s : S) → IsLegal (λ command. true) false (transaction k txn_type amount ones s)
  transaction_legal txn_type amount ones s =
      let sent : SendsOnly (λ command. true) (λ (s : S). Unit {0}) k = record {
        begin_good = λ s g h. tt;
        step_good = λ s last h. tt;
        sends = λ s last h. any_sent (k.step s last).0;
      } in
      let passes : SelectsPass (λ command. true) = record { directory = refl; names = λ name five sixteen. refl } in
      legality_lem k (λ command. true) (λ (s : S). Unit {0}) sent passes txn_type amount ones s tt

  pub transaction_carries : FallingCounts k → (txn_type amount : ℕ) (ones : List PreparedOne) (s : S) (d : Direct) (images : ℕ → Image) (ends : ℕ)
      → length d.log + log_bound (k.restarts s) (length ones) (k.commands s) ≤ d.room → 1 + k.restarts s ≤ ends → images d.image.number ≡ d.image
      → Carries (transaction k txn_type amount ones s) d images ends
  transaction_carries falls txn_type amount ones s d images ends room enough image = record {
    legal = transaction_legal txn_type amount ones s;
    commands = log_bound (k.restarts s) (length ones) (k.commands s);
    most = few_commands_lem k falls txn_type amount ones s;
    room = room;
    enough = starts_more (transaction k txn_type amount ones s) (1 + k.restarts s) ends enough (few_starts_lem k txn_type amount ones s);
    image = image;
  }

  pub transaction_perfect_lem : {E : Type 0} (events : EventSteps E) → TransactionOverPerfect k events
  transaction_perfect_lem events falls txn_type amount ones s d images ends e left room enough image runs =
      perfect_lem events (transaction k txn_type amount ones s) d images ends e left (transaction_carries falls txn_type amount ones s d images ends room enough image) runs
