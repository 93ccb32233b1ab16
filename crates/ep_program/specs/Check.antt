-- What the program answers to the words of a check, and what it wrote then (this project's own).
use Rattle.std.specs.Prelude.{codes, decimal, ◌≡◌, ◌⊎◌, ℕ, ◌≤◌, All, List, ◌++◌, length, Ok, Err}
use Rattle.std.specs.Option.{ForSome}
use Rattle.std.specs.declared.option.Option.{Option}
use Rattle.std.specs.Io.KnownBytes.{Appends, Keeps}
use Rattle.toml.specs.Data.{Members}
use Rattle.ep_base.specs.declared.limits.TheConstants.{FSDI, TRACE_LINES}
use Rattle.ep_base.specs.Streams.Io.{AppendsPrefix}
use Rattle.ep_claim.specs.Text.TraceLine.{TraceLine}
use Rattle.trace_check.specs.Verdicts.{AreAllowed, HasLane, Names}
use Rattle.trace_check.specs.declared.verdict.Rule.{Rule}
use Rattle.trace_check.specs.declared.verdict.Rule.TheVariants.{Activation, Reader, Card, Wait}
use Rattle.trace_check.specs.declared.verdict.Verdict.{Verdict}
use Rattle.scenario.specs.Plan.{Plan}
use Rattle.scenario.specs.Scenario.{Scenario}
use Rattle.ep_program.specs.Input.{IsInput, Refuses}
use Rattle.ep_program.specs.Replay.{GivesTrace, replay_plan, trace_lines}
use Rattle.ep_program.specs.declared.status.Status.{Status}
use Rattle.ep_program.specs.declared.status.Status.TheVariants.{Done, ReadFault, WriteFault, NoMemory, Usage, TooLong, NotToml, BadDocument, Mismatch}

-- The word of a rule (this project's own).
abbrev pub rule_word : Rule → List ℕ
rule_word Activation = codes "activation"
rule_word Reader = codes "reader"
rule_word Card = codes "card"
rule_word Wait = codes "wait"

-- The line of a trace of so many lines, each of them allowed (this project's own).
abbrev pub good_text : ℕ → List ℕ
good_text count = codes "trace ok lines=" ++ decimal count ++ codes "\n"

-- The line of a trace whose first bad line is this (this project's own).
abbrev pub bad_text : Verdict → List ℕ
bad_text v = codes "trace bad place=" ++ decimal v.place ++ codes " lane=" ++ decimal v.lane ++ codes " rule=" ++ rule_word v.rule ++ codes "\n"

-- The text says of these lines what holds of them: they are allowed, or this is the first bad one (this project's own).
abbrev pub IsCheckText : ℕ → List TraceLine → List ℕ → Type 0
IsCheckText fsdi lines text =
    (AreAllowed fsdi lines × (text ≡ good_text (length lines))) ⊎ ((v : Verdict) × Names fsdi lines v × (text ≡ bad_text v))

-- The whole text of these lines was appended (this project's own).
abbrev pub WritesCheck : ℕ → List TraceLine → (before after : Option (List ℕ)) → Type 0
WritesCheck fsdi lines before after = (text : List ℕ) × IsCheckText fsdi lines text × Appends before after text

-- A first part of it was appended (this project's own).
abbrev pub WritesCheckPart : ℕ → List TraceLine → (before after : Option (List ℕ)) → Type 0
WritesCheckPart fsdi lines before after = (text : List ℕ) × IsCheckText fsdi lines text × AppendsPrefix before after text

-- What a check answers: `Done` with the whole text, whether the trace is allowed or not, `WriteFault` with a first part of it, and every other status
-- with nothing written and with its reason; a document without a trace is refused after all other checks (this project's own).
abbrev pub Checks : Option (List ℕ) → (before after : Option (List ℕ)) → Status → Type 0
Checks input before after Done = (p : Plan) × (lines : List TraceLine) × GivesTrace input p lines × WritesCheck p.fsdi lines before after
Checks input before after WriteFault = (p : Plan) × (lines : List TraceLine) × GivesTrace input p lines × WritesCheckPart p.fsdi lines before after
Checks input before after (BadDocument f) =
    (members : Members) × (replay_plan members ≡ Err f) × IsInput input members × Keeps before after
Checks input before after ReadFault = Refuses input ReadFault × Keeps before after
Checks input before after NoMemory = Refuses input NoMemory × Keeps before after
Checks input before after TooLong = Refuses input TooLong × Keeps before after
Checks input before after NotToml = Refuses input NotToml × Keeps before after
Checks input before after Usage = ⊥
Checks input before after (Mismatch m) = ⊥

-- A scenario whose trace can be checked, where there is one: its frame size code and its lanes are this project's, and its lines are few (this
-- project's own).
pub record IsCheckable (s : Scenario) : Type 0 where
  pub code : s.fsdi ≤ FSDI
  pub few : ForSome s.trace (λ lines. length lines ≤ TRACE_LINES)
  pub lanes : ForSome s.trace (All HasLane)

-- What checking a scenario's trace answers, and what it writes (this project's own).
abbrev pub Judges : Scenario → (before after : Option (List ℕ)) → Status → Type 0
Judges s before after Done = (lines : List TraceLine) × (trace_lines s.trace ≡ Ok lines) × WritesCheck s.fsdi lines before after
Judges s before after WriteFault = (lines : List TraceLine) × (trace_lines s.trace ≡ Ok lines) × WritesCheckPart s.fsdi lines before after
Judges s before after (BadDocument f) = (trace_lines s.trace ≡ Err f) × Keeps before after
Judges s before after NoMemory = ⊥
Judges s before after ReadFault = ⊥
Judges s before after Usage = ⊥
Judges s before after TooLong = ⊥
Judges s before after NotToml = ⊥
Judges s before after (Mismatch m) = ⊥
