-- What became of a run over the perfect channel: the events and the commands of the perfect run (this project's own).
use Rattle.std.specs.Prelude.{◌≡◌, ℕ, ◌+◌, ◌≤◌, true, false, List, [], length}
use Rattle.ep_rules.specs.EntryPoint.Talk.{Talk, IsLegal}
use Rattle.ep_base.specs.Cards.CardAnswer.{Image}
use Rattle.ep_rules.specs.EntryPoint.PreProcessing.{PreparedOne}
use Rattle.ep_rules.specs.EntryPoint.Kernel.{KernelSteps}
use Rattle.ep_rules.specs.EntryPoint.KernelCounts.{FallingCounts}
use Rattle.ep_rules.specs.EntryPoint.Transaction.{transaction}
use Rattle.ep_rules.specs.EntryPoint.EventSteps.{EventSteps}
use Rattle.ep_rules.specs.EntryPoint.TransportRun.{RunLeft, Runs}
use Rattle.ep_rules.specs.EntryPoint.Perfect.{channel, perfect, perfect_events}
use Rattle.ep_base.specs.Cards.Direct.{Direct, direct}
use Rattle.ep_rules.specs.EntryPoint.Bounds.{AtMost, AtMostStarts, log_bound}
use Rattle.ep_rules.specs.EntryPoint.OverChannel.{channel_after, PerfectBy, rules_of, found_ends}

-- A talk that the perfect channel can carry: commands go to a card that was found, and the log has room for all of them.
pub record Carries (talk : Talk) (d : Direct) (images : ℕ → Image) (ends : ℕ) : Type 0 where
  pub legal : IsLegal (λ command. true) false talk
  pub commands : ℕ
  pub most : AtMost commands talk
  pub room : length d.log + commands ≤ d.room
  pub enough : AtMostStarts ends talk
  pub image : images d.image.number ≡ d.image

-- What became of a run over the perfect channel, against the perfect run of the talk for these ends.
abbrev pub IsPerfect : {E : Type 0} → EventSteps E → Talk → Direct → (ℕ → Image) → ℕ → E → RunLeft Direct E → Type 0
IsPerfect events talk d images ends e left =
    PerfectBy events
    (perfect_events (rules_of d) talk (found_ends ends d) images)
    (perfect (rules_of d) talk (found_ends ends d) (channel images)).commands
    ((channel_after (rules_of d) talk (found_ends ends d) (channel images)).images d.image.number)
    d e left left.ending

-- Every run over the perfect channel is the perfect run for the one card in each Start B, and no device fails.
abbrev pub OverPerfect : {E : Type 0} → EventSteps E → Type 0
OverPerfect {E} events =
    (talk : Talk) (d : Direct) (images : ℕ → Image) (ends : ℕ) (e : E) (left : RunLeft Direct E)
    → Carries talk d images ends → Runs direct events talk [] d e left → IsPerfect events talk d images ends e left

-- The same of a transaction, where the log has room for its bound, and there is an end for each Start B.
abbrev pub TransactionOverPerfect : {S E : Type 0} → KernelSteps S → EventSteps E → Type 0
TransactionOverPerfect {S} {E} k events =
    FallingCounts k
    → (txn_type amount : ℕ) (ones : List PreparedOne) (s : S) (d : Direct) (images : ℕ → Image) (ends : ℕ) (e : E) (left : RunLeft Direct E)
    → length d.log + log_bound (k.restarts s) (length ones) (k.commands s) ≤ d.room
    → 1 + k.restarts s ≤ ends
    → images d.image.number ≡ d.image
    → Runs direct events (transaction k txn_type amount ones s) [] d e left
    → IsPerfect events (transaction k txn_type amount ones s) d images ends e left
