-- The scripts of a load's kernels (this project's own).
use Rattle.std.specs.Prelude.{ℕ, ◌==◌, List, [], ◌∷◌, Some, None, if◌then◌else◌}
use Rattle.ep_base.specs.declared.outcome.OutcomeKind.TheVariants as kinds
use Rattle.ep_base.specs.declared.outcome.Message.TheVariants as messages
use Rattle.ep_rules.specs.EntryPoint.Kernel.{Step, Script, no_verdict}
use Rattle.ep_rules.specs.EntryPoint.Event.{Verdict}
use Rattle.ep_load.specs.Draws.{Draws}
use Rattle.ep_load.specs.Terms.{chosen}

-- The purchase is approved (this project's own).
abbrev pub approved : Verdict
approved = record { kind = kinds.Approved; message = Some messages.Approved }

-- The verdict of a draw below 4 (this project's own).
abbrev pub verdict_drawn : ℕ → Verdict
verdict_drawn n =
    if n == 0 then approved
    else (if n == 1 then record { kind = kinds.Declined; message = Some messages.NotAuthorised }
    else (if n == 2 then record { kind = kinds.OnlineRequest; message = None }
    else record { kind = kinds.TryAgain; message = Some messages.PresentAgain }))

-- The command of every script (this project's own).
abbrev pub step : Step
step = record { send = 0x80 ∷ 0xa8 ∷ 0x00 ∷ 0x00 ∷ 0x02 ∷ 0x83 ∷ 0x00 ∷ 0x00 ∷ []; want = 0x9000; other = no_verdict }

-- The script of this kernel with this verdict (this project's own).
abbrev pub script_of : ℕ → Verdict → Script
script_of kernel verdict = record { kernel = kernel; steps = step ∷ []; verdict = verdict }

-- The scripts of a transaction: where the card is presented once more, a second one approves (this project's own).
abbrev pub scripts_drawn : Draws → List Script
scripts_drawn d =
    script_of (chosen d.choice).kernel (verdict_drawn d.outcome)
    ∷ (if d.outcome == 3 then script_of (chosen d.choice).kernel approved ∷ [] else [])
