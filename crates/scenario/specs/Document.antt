-- What a byte string means as a document (this project's own).
use Rattle.std.specs.Prelude.{◌≡◌, ℕ, List, Some, Result, Ok, Err, IsUtf8}
use Rattle.toml.specs.Data.{Members}
use Rattle.toml.specs.Parse.{parse_document}
use Rattle.scenario.specs.Accepted.{IsAccepted}
use Rattle.scenario.specs.declared.scenario.DocEnd.{DocEnd}
use Rattle.scenario.specs.declared.scenario.DocEnd.TheVariants.{NotToml, NoMemory}
use Rattle.scenario.specs.declared.scenario.DocEnd.TheVariants as ends
use Rattle.scenario.specs.Plan.{Plan, plan}
use Rattle.scenario.specs.Scenario.{Scenario, scenario_of}

-- The bytes are a TOML document whose root has these members (this project's own).
abbrev pub IsDocument : List ℕ → Members → Type 0
IsDocument bytes members = IsUtf8 bytes × (parse_document bytes ≡ Some members)

-- The members are accepted, and this is what they say (this project's own).
pub record Says (members : Members) (s : Scenario) : Type 0 where
  pub document : Plan
  pub reads : plan members ≡ Ok document
  pub scene : s ≡ scenario_of document
  pub accepted : IsAccepted document

-- What reading the bytes answers. Memory may run out; every other answer is the one that the bytes have (this project's own).
abbrev pub Answers : List ℕ → Result Scenario DocEnd → Type 0
Answers bytes (Ok s) = (members : Members) × IsDocument bytes members × Says members s
Answers bytes (Err (ends.Fault f)) = (members : Members) × IsDocument bytes members × (plan members ≡ Err f)
Answers bytes (Err NotToml) = (members : Members) → IsDocument bytes members → ⊥
Answers bytes (Err NoMemory) = Unit {0}
