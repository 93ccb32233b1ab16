-- What the input gives, or why it gives nothing (this project's own).
use Rattle.std.specs.Prelude.{◌≡◌, ℕ, ◌<◌, ◌≤◌, List, Ok, Err, IfSome, length, ⊤}
use Rattle.std.specs.declared.option.Option.{Option}
use Rattle.toml.specs.Data.{Members}
use Rattle.ep_base.specs.declared.limits.TheConstants.{INPUT}
use Rattle.scenario.specs.Document.{IsDocument, Says}
use Rattle.scenario.specs.Plan.{Plan, plan}
use Rattle.scenario.specs.Scenario.{Scenario}
use Rattle.ep_program.specs.declared.status.Status.{Status}
use Rattle.ep_program.specs.declared.status.Status.TheVariants.{Done, ReadFault, WriteFault, NoMemory, Usage, TooLong, NotToml, BadDocument, Mismatch}

-- The input, where its bytes are told, has at most 1,048,576 bytes, and they are a document with these members (this project's own).
abbrev pub IsInput : Option (List ℕ) → Members → Type 0
IsInput input members = IfSome input (λ bytes. (length bytes ≤ INPUT) × IsDocument bytes members)

-- The input, where its bytes are told, is a document with this plan (this project's own).
abbrev pub Gives : Option (List ℕ) → Plan → Type 0
Gives input p = (members : Members) × (plan members ≡ Ok p) × IsInput input members

-- The input, where its bytes are told, is an accepted document that says this scenario (this project's own).
abbrev pub Opens : Option (List ℕ) → Scenario → Type 0
Opens input s = (members : Members) × Says members s × IsInput input members

-- The answer to an input that gave too much (this project's own).
abbrev pub IsTooLong : Status → Type 0
IsTooLong Done = ⊥
IsTooLong ReadFault = ⊥
IsTooLong WriteFault = ⊥
IsTooLong NoMemory = ⊥
IsTooLong Usage = ⊥
IsTooLong TooLong = ⊤
IsTooLong NotToml = ⊥
IsTooLong (BadDocument f) = ⊥
IsTooLong (Mismatch m) = ⊥

-- The input gives no plan, for this reason (this project's own).
abbrev pub Refuses : Option (List ℕ) → Status → Type 0
Refuses input Done = ⊥
Refuses input ReadFault = ⊤
Refuses input WriteFault = ⊥
Refuses input NoMemory = ⊤
Refuses input Usage = ⊥
Refuses input TooLong = IfSome input (λ bytes. INPUT < length bytes)
Refuses input NotToml = IfSome input (λ bytes. (length bytes ≤ INPUT) × ((members : Members) → IsDocument bytes members → ⊥))
Refuses input (BadDocument f) = (members : Members) × (plan members ≡ Err f) × IsInput input members
Refuses input (Mismatch m) = ⊥
