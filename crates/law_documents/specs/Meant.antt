-- The transactions of a document are made of bytes (this project's own).
use Rattle.std.specs.Prelude.{◌≡◌, All, Ok}
use Rattle.toml.specs.Data.{Members}
use Rattle.law_lines.specs.Bytes.{JobOfBytes}
use Rattle.scenario.specs.Jobs.{jobs_in}
use Rattle.scenario.specs.Plan.{Plan, plan}
use Rattle.scenario.specs.Scenario.{scenario_of}

-- Every transaction of every lane of every document that is accepted is made of bytes (this project's own).
abbrev pub DocumentsAreOfBytes : Type 0
DocumentsAreOfBytes = (members : Members) (p : Plan) → plan members ≡ Ok p → All (All JobOfBytes) (jobs_in (scenario_of p))
