-- How many commands and Start Bs a talk has at most (this project's own).
use Rattle.std.specs.Prelude.{ℕ, ◌+◌, ◌-◌, ◌*◌, ◌<◌, ◌≤◌, List, [], ◌∷◌}
use Rattle.ep_base.specs.declared.limits.TheConstants.{NAMED}
use Rattle.ep_base.specs.Air.Heard.{RoundEnd, Empty, Collision, Unsupported, Broken, Found}
use Rattle.ep_rules.specs.EntryPoint.Event.{Event as EventData, Tells, Apdu, End, EndLink, EndBreach}
use Rattle.ep_rules.specs.EntryPoint.Talk.{Talk, Over, Say, Poll, Command, Close, Result, Wish, Polls, Commands, Closes, Nothing, so_far}

-- Whatever rounds end with, and whatever responses come, it wishes at most n commands.
abbrev pub AtMost : ℕ → Talk → Type 0
AtMost n (Over ending) = Unit {0}
AtMost n (Say what next) = AtMost n next
AtMost n (Poll next) = (e : RoundEnd) → AtMost n (next e)
AtMost n (Command command next) = (0 < n) × ((r : List ℕ) → AtMost (n - 1) (next r))
AtMost n (Close next) = AtMost n next

-- A round that finds a card ends its Start B.
abbrev pub starts_left : ℕ → RoundEnd → ℕ
starts_left n Empty = n
starts_left n Collision = n
starts_left n Unsupported = n
starts_left n Broken = n
starts_left n (Found card) = n - 1

-- Whatever is heard, it polls in at most n Start Bs.
abbrev pub AtMostStarts : ℕ → Talk → Type 0
AtMostStarts n (Over ending) = Unit {0}
AtMostStarts n (Say what next) = AtMostStarts n next
AtMostStarts n (Poll next) = (0 < n) × ((e : RoundEnd) → AtMostStarts (starts_left n e) (next e))
AtMostStarts n (Command command next) = (r : List ℕ) → AtMostStarts n (next r)
AtMostStarts n (Close next) = AtMostStarts n next

-- How many commands were answered, and whether one is wished.
abbrev pub apdus : List EventData → ℕ
apdus [] = 0
apdus ((Tells what) ∷ xs) = apdus xs
apdus ((Apdu command response) ∷ xs) = 1 + apdus xs
apdus ((End ending) ∷ xs) = apdus xs
apdus (EndLink ∷ xs) = apdus xs
apdus (EndBreach ∷ xs) = apdus xs

abbrev pub commands_wished : Wish → ℕ
commands_wished Polls = 0
commands_wished (Commands command) = 1
commands_wished Closes = 0
commands_wished Nothing = 0

-- For all results so far, the commands that were answered and the one that is wished are at most n.
abbrev pub FewApdus : Type 0
FewApdus =
    (talk : Talk) (n : ℕ) (results : List Result) → AtMost n talk
    → apdus (so_far talk results).events + commands_wished (so_far talk results).wish ≤ n

-- The most commands of a transaction with so many restarts, Combinations and commands of kernels: in each Start B one to the directory and one
-- for each candidate.
abbrev pub log_bound : (restarts combinations commands : ℕ) → ℕ
log_bound restarts combinations commands = (1 + restarts) * (1 + NAMED * combinations) + commands
