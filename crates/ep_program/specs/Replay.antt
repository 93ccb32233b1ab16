-- What the program answers to the words of a replay, and what it wrote then (this project's own).
use Rattle.std.specs.Prelude.{codes, ◌≡◌, ◌≢◌, ℕ, List, [], Some, None, Result, Ok, Err, IfSome}
use Rattle.std.specs.declared.option.Option.{Option}
use Rattle.std.specs.Io.KnownBytes.{Appends, Keeps}
use Rattle.toml.specs.Data.{Members}
use Rattle.doc_table.specs.Fault.{Fault}
use Rattle.doc_table.specs.Path.{key_path}
use Rattle.doc_table.specs.Read.{◌>>=◌, wanted}
use Rattle.ep_base.specs.Streams.Io.{AppendsPrefix}
use Rattle.ep_claim.specs.Lanes.ReplayRun as traces
use Rattle.ep_claim.specs.Text.TraceLine.{TraceLine}
use Rattle.ep_claim.specs.Lanes.WholeReplay.{ReplayEnds}
use Rattle.scenario.specs.Jobs.{talks_in}
use Rattle.scenario.specs.Plan.{Plan, plan}
use Rattle.scenario.specs.Scenario.{Scenario, scenario_of}
use Rattle.ep_program.specs.Input.{IsInput, Refuses}
use Rattle.ep_program.specs.declared.status.Status.{Status}
use Rattle.ep_program.specs.declared.status.Status.TheVariants.{Done, ReadFault, WriteFault, NoMemory, Usage, TooLong, NotToml, BadDocument, Mismatch}

-- The lines of a document's trace, which is required (this project's own).
abbrev pub trace_lines : Option (List TraceLine) → Result (List TraceLine) Fault
trace_lines trace = wanted (key_path [] (codes "trace")) trace

-- What the members of a document's root mean to a replay: the plan, and the lines of its trace, which is looked for after all other checks
-- (this project's own).
abbrev pub replay_plan : Members → Result (Plan × List TraceLine) Fault
replay_plan members = do
  p ← plan members
  lines ← trace_lines p.trace
  Ok (p, lines)

-- The input, where its bytes are told, is a document with this plan and these trace lines (this project's own).
abbrev pub GivesTrace : Option (List ℕ) → Plan → List TraceLine → Type 0
GivesTrace input p lines = (members : Members) × (replay_plan members ≡ Ok (p, lines)) × IsInput input members

-- The replay of a scenario's lanes against these lines ends so, matched or with its first mismatch, of which what is wanted and what was sent differ, and
-- with this text; it has no other end and no other text (this project's own).
pub record IsReplayText (s : Scenario) (lines : List TraceLine) (mismatch : Option traces.Mismatch) (text : List ℕ) : Type 0 where
  pub ends : ReplayEnds s.fsdi s.turns lines (talks_in s) mismatch text
  pub differ : IfSome mismatch (λ (m : traces.Mismatch). m.wanted ≢ m.got)
  pub only : (other : Option traces.Mismatch) (said : List ℕ) → ReplayEnds s.fsdi s.turns lines (talks_in s) other said →
      (other ≡ mismatch) × (said ≡ text)

-- The replay ended so, and its whole text was appended (this project's own).
abbrev pub WritesReplay : Scenario → List TraceLine → (before after : Option (List ℕ)) → Option traces.Mismatch → Type 0
WritesReplay s lines before after mismatch = (text : List ℕ) × IsReplayText s lines mismatch text × Appends before after text

-- A first part of the replay's text was appended (this project's own).
abbrev pub WritesReplayPart : Scenario → List TraceLine → (before after : Option (List ℕ)) → Type 0
WritesReplayPart s lines before after =
    (mismatch : Option traces.Mismatch) × (text : List ℕ) × IsReplayText s lines mismatch text × AppendsPrefix before after text

-- What a replay answers: `Done` exactly where it is matched, and `Mismatch` with the first one, each with its whole text; `WriteFault` with a first
-- part of the text; and every other status with nothing written and with its reason (this project's own).
abbrev pub Replays : Option (List ℕ) → (before after : Option (List ℕ)) → Status → Type 0
Replays input before after Done = (p : Plan) × (lines : List TraceLine) × GivesTrace input p lines × WritesReplay (scenario_of p) lines before after None
Replays input before after (Mismatch m) =
    (p : Plan) × (lines : List TraceLine) × GivesTrace input p lines × WritesReplay (scenario_of p) lines before after (Some m)
Replays input before after WriteFault =
    (p : Plan) × (lines : List TraceLine) × GivesTrace input p lines × WritesReplayPart (scenario_of p) lines before after
Replays input before after (BadDocument f) =
    (members : Members) × (replay_plan members ≡ Err f) × IsInput input members × Keeps before after
Replays input before after ReadFault = Refuses input ReadFault × Keeps before after
Replays input before after NoMemory = Refuses input NoMemory × Keeps before after
Replays input before after TooLong = Refuses input TooLong × Keeps before after
Replays input before after NotToml = Refuses input NotToml × Keeps before after
Replays input before after Usage = ⊥

-- What replaying a scenario answers, and what it writes (this project's own).
abbrev pub Plays : Scenario → (before after : Option (List ℕ)) → Status → Type 0
Plays s before after Done = (lines : List TraceLine) × (trace_lines s.trace ≡ Ok lines) × WritesReplay s lines before after None
Plays s before after (Mismatch m) = (lines : List TraceLine) × (trace_lines s.trace ≡ Ok lines) × WritesReplay s lines before after (Some m)
Plays s before after WriteFault = (lines : List TraceLine) × (trace_lines s.trace ≡ Ok lines) × WritesReplayPart s lines before after
Plays s before after (BadDocument f) = (trace_lines s.trace ≡ Err f) × Keeps before after
Plays s before after NoMemory = Keeps before after
Plays s before after ReadFault = ⊥
Plays s before after Usage = ⊥
Plays s before after TooLong = ⊥
Plays s before after NotToml = ⊥
