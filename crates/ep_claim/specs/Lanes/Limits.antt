-- How many exchanges a transaction has at most (this project's own).
use Rattle.std.specs.Prelude.{ℕ, ◌-◌, ◌≤◌, List}
use Rattle.ep_base.specs.Air.Heard.{RoundEnd}
use Rattle.ep_base.specs.declared.limits.TheConstants.{COMMAND_EXCHANGES, ROUND_EXCHANGES}
use Rattle.ep_rules.specs.EntryPoint.Talk.{Talk, Over, Say, Poll, Command, Close}

-- The most exchanges of a poll round (this project's profile).
abbrev pub round_most : ℕ
round_most = ROUND_EXCHANGES

-- The most exchanges of a command (this project's profile).
abbrev pub command_most : ℕ
command_most = COMMAND_EXCHANGES

-- Whatever rounds end with, and whatever responses come, the talk takes at most n exchanges (this project's own).
abbrev pub TakesAtMost : ℕ → Talk → Type 0
TakesAtMost n (Over ending) = Unit {0}
TakesAtMost n (Say what next) = TakesAtMost n next
TakesAtMost n (Poll next) = (round_most ≤ n) × ((e : RoundEnd) → TakesAtMost (n - round_most) (next e))
TakesAtMost n (Command command next) =
    (command_most ≤ n) × ((r : List ℕ) → TakesAtMost (n - command_most) (next r))
TakesAtMost n (Close next) = (1 ≤ n) × TakesAtMost (n - 1) next
