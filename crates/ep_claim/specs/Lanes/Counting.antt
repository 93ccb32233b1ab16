-- How many exchanges a transaction has at most, whatever is heard (this project's own).
use Rattle.std.specs.Prelude.{◌≡◌, ℕ, ◌+◌, ◌-◌, ◌*◌, ◌<◌, ◌≤◌, false, List, [], ◌∷◌, length, None}
use Rattle.ep_base.specs.declared.limits.TheConstants.{COMMAND_EXCHANGES, ROUNDS, START_EXCHANGES}
use Rattle.ep_base.specs.Air.Heard.{Heard, RoundEnd, Empty, Collision, Unsupported, Broken, Found}
use Rattle.ep_base.specs.Cards.Apdu.{is_command}
use Rattle.ep_rules.specs.EntryPoint.PreProcessing.{PreparedOne}
use Rattle.ep_rules.specs.EntryPoint.Kernel.{KernelSteps}
use Rattle.ep_rules.specs.EntryPoint.KernelCounts.{FallingCounts}
use Rattle.ep_rules.specs.EntryPoint.Transaction.{transaction}
use Rattle.ep_rules.specs.EntryPoint.Talk.{Talk, Over, Say, Poll, Command, Close, IsLegal}
use Rattle.ep_rules.specs.EntryPoint.Bounds.{AtMost, AtMostStarts, log_bound}
use Rattle.ep_rules.specs.EntryPoint.KernelCommands.{SendsCommands}
use Rattle.ep_claim.specs.Lanes.Standing.{Standing, started, asked_by, after_hearing}

-- The rounds that are left of a Start B after one of them; where a card is found the next Start B has all of its own (this project's profile).
abbrev pub rounds_left : (each left : ℕ) → RoundEnd → ℕ
rounds_left each left Empty = left - 1
rounds_left each left Collision = left - 1
rounds_left each left Unsupported = left - 1
rounds_left each left Broken = left - 1
rounds_left each left (Found card) = each

-- Whatever is heard, it polls so many rounds at most in each Start B, and so many more in this one (this project's own).
abbrev pub AtMostRounds : (each left : ℕ) → Talk → Type 0
AtMostRounds each left (Over ending) = Unit {0}
AtMostRounds each left (Say what next) = AtMostRounds each left next
AtMostRounds each left (Poll next) = (0 < left) × ((e : RoundEnd) → AtMostRounds each (rounds_left each left e) (next e))
AtMostRounds each left (Command command next) = (r : List ℕ) → AtMostRounds each left (next r)
AtMostRounds each left (Close next) = AtMostRounds each left next

-- It sends commands alone, so many at most, and polls in so many Start Bs at most, of `ROUNDS` rounds at most (this project's profile).
pub record IsBounded (commands starts : ℕ) (talk : Talk) : Type 0 where
  pub legal : IsLegal is_command false talk
  pub few_commands : AtMost commands talk
  pub few_starts : AtMostStarts starts talk
  pub few_rounds : AtMostRounds ROUNDS ROUNDS talk

-- The transaction after these hearings, of one exchange each (this project's own).
abbrev pub after_hearings : ℕ → Talk → List Heard → Standing → Standing
after_hearings fsdi talk [] s = s
after_hearings fsdi talk (heard ∷ more) s = after_hearings fsdi talk more (after_hearing fsdi talk heard s)

-- Whatever is heard from here on, nothing is asked after so many exchanges (this project's own).
abbrev pub IsOverAfter : ℕ → Talk → ℕ → Standing → Type 0
IsOverAfter fsdi talk n s = (hearings : List Heard) → n ≤ length hearings → asked_by fsdi (after_hearings fsdi talk hearings s).doing ≡ None

-- The most exchanges of so many commands and Start Bs (this project's profile).
abbrev pub exchanges_most : (commands starts : ℕ) → ℕ
exchanges_most commands starts = COMMAND_EXCHANGES * commands + START_EXCHANGES * starts

-- A transaction that is bounded so is over after these exchanges (this project's own).
abbrev pub EveryExchangeCounts : Type 0
EveryExchangeCounts =
    (fsdi : ℕ) (talk : Talk) (commands starts : ℕ) → IsBounded commands starts talk →
    IsOverAfter fsdi talk (exchanges_most commands starts) (started talk)

-- The transaction of Entry Point is bounded by the counts of its kernels, which fall, and which send commands alone (this project's own).
abbrev pub TransactionsAreBounded : {S : Type 0} → KernelSteps S → Type 0
TransactionsAreBounded {S} k =
    (txn_type amount : ℕ) (ones : List PreparedOne) (kernel : S) → FallingCounts k → SendsCommands k kernel →
    IsBounded (log_bound (k.restarts kernel) (length ones) (k.commands kernel)) (1 + k.restarts kernel) (transaction k txn_type amount ones kernel)
