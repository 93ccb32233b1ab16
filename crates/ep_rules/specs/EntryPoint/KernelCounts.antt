-- Kernels whose counts of commands and restarts fall (this project's own).
use Rattle.std.specs.Prelude.{ℕ, ◌<◌, ◌≤◌, List}
use Rattle.std.specs.declared.option.Option.{Option}
use Rattle.ep_base.specs.declared.outcome.OutcomeKind.{OutcomeKind}
use Rattle.ep_base.specs.declared.outcome.OutcomeKind.TheVariants.{SelectNext, TryAgain, Approved, Declined, OnlineRequest, TryAnother, EndApplication}
use Rattle.ep_rules.specs.EntryPoint.Event.{Activation}
use Rattle.ep_rules.specs.EntryPoint.Kernel.{KernelStep, Send, Done, KernelSteps}

-- What an outcome does to the count of restarts: Try Again takes one at least, and no other raises it.
abbrev pub RestartsFall : OutcomeKind → (old new : ℕ) → Type 0
RestartsFall SelectNext old new = new ≤ old
RestartsFall TryAgain old new = new < old
RestartsFall Approved old new = new ≤ old
RestartsFall Declined old new = new ≤ old
RestartsFall OnlineRequest old new = new ≤ old
RestartsFall TryAnother old new = new ≤ old
RestartsFall EndApplication old new = new ≤ old

-- What a step does to the counts: a command takes one at least of those left, and nothing raises a count.
abbrev pub CountsFall : {S : Type 0} → KernelSteps S → KernelStep → (old new : S) → Type 0
CountsFall k (Send command) old new = (k.commands new < k.commands old) × (k.restarts new ≤ k.restarts old)
CountsFall k (Done verdict) old new = (k.commands new ≤ k.commands old) × RestartsFall verdict.kind (k.restarts old) (k.restarts new)

-- Each step takes from the counts, and the beginning of a kernel raises none.
pub record FallingCounts {S : Type 0} (k : KernelSteps S) : Type 0 where
  pub begin_commands : (s : S) (g : Activation) → k.commands (k.begin s g) ≤ k.commands s
  pub begin_restarts : (s : S) (g : Activation) → k.restarts (k.begin s g) ≤ k.restarts s
  pub step : (s : S) (last : Option (List ℕ)) → CountsFall k (k.step s last).0 s (k.step s last).1
