-- What the program answers to the words of a replay where the document's trace is that of its own run (this project's own).
use Rattle.std.specs.Prelude.{◌≡◌, ℕ, ◌≤◌, true, false, List, length, map, Ok, Some, IfSome}
use Rattle.std.specs.declared.option.Option.{Option}
use Rattle.std.specs.Io.KnownBytes.{Appends, Keeps}
use Rattle.toml.specs.Data.{Members}
use Rattle.ep_base.specs.declared.limits.TheConstants.{INPUT, TRACE_LINES}
use Rattle.ep_base.specs.Streams.Io.{AppendsPrefix}
use Rattle.ep_claim.specs.Lanes.Ending.{HasEnded}
use Rattle.ep_claim.specs.Lanes.WholeRun.{open_probe}
use Rattle.ep_claim.specs.Text.TraceLine.{TraceLine, trace_text}
use Rattle.law_documents.specs.Traced.{with_trace}
use Rattle.lane_run.specs.OwnTrace.{own_lines, own_run}
use Rattle.lane_run.specs.ReportLines.{without_log}
use Rattle.scenario.specs.Jobs.{jobs_in}
use Rattle.scenario.specs.Document.{IsDocument}
use Rattle.scenario.specs.Plan.{Plan, plan}
use Rattle.scenario.specs.Scenario.{Scenario, scenario_of}
use Rattle.ep_program.specs.Input.{Gives}
use Rattle.ep_program.specs.RunTrace.{exchanges_in}
use Rattle.ep_program.specs.Serve.{IsTextOf}
use Rattle.ep_program.specs.declared.status.Status.{Status}
use Rattle.ep_program.specs.declared.status.Status.TheVariants.{Done, ReadFault, WriteFault, NoMemory, Usage, TooLong, NotToml, BadDocument, Mismatch}

-- These are the trace lines of the scenario's run, all of them: those of its exchanges until it is over, with the probe that gives on what it gets
-- (this project's own).
pub record IsOwnTrace (s : Scenario) (lines : List TraceLine) : Type 0 where
  pub exchanges : ℕ
  pub over : HasEnded (length (jobs_in s)) (own_run true s.fsdi s.turns (jobs_in s) exchanges)
  pub lines_are : lines ≡ own_lines true s.fsdi s.turns (jobs_in s) exchanges

-- What is answered where the run writes this text: `Done` with that text without its log lines, whole, and `WriteFault` with a first part of it; want
-- of memory, or a fault of the input, with nothing written; and nothing else (this project's own).
abbrev pub AnswersOwn : (text : List ℕ) → (before after : Option (List ℕ)) → Status → Type 0
AnswersOwn text before after Done = Appends before after (without_log text)
AnswersOwn text before after WriteFault = AppendsPrefix before after (without_log text)
AnswersOwn text before after NoMemory = Keeps before after
AnswersOwn text before after ReadFault = Keeps before after
AnswersOwn text before after Usage = ⊥
AnswersOwn text before after TooLong = ⊥
AnswersOwn text before after NotToml = ⊥
AnswersOwn text before after (BadDocument f) = ⊥
AnswersOwn text before after (Mismatch m) = ⊥

-- The text of the scenario's run without trace lines and with the probe that gives on what it gets, and what is answered by it (this project's own).
abbrev pub AnswersByRun : Scenario → (before after : Option (List ℕ)) → Status → Type 0
AnswersByRun s before after status = (text : List ℕ) × IsTextOf open_probe false s tt text tt × AnswersOwn text before after status

-- Where the input's bytes are told, and are a document whose trace is that of its own run, the replay is answered by this run (this project's own).
abbrev pub ReplaysOwnTrace : Option (List ℕ) → (before after : Option (List ℕ)) → Status → Type 0
ReplaysOwnTrace input before after status =
    IfSome input (λ bytes.
    (p : Plan) (lines : List TraceLine) → Gives (Some bytes) p → p.trace ≡ Some lines → IsOwnTrace (scenario_of p) lines →
    AnswersByRun (scenario_of p) before after status)

-- Where the input's bytes are told, and are some accepted document with the written lines of its own run, all of them, as its trace, the replay is
-- answered by the run of that document (this project's own).
abbrev pub ReplaysRecorded : Option (List ℕ) → (before after : Option (List ℕ)) → Status → Type 0
ReplaysRecorded input before after status =
    IfSome input (λ bytes.
    (members : Members) (p : Plan) (n : ℕ) → plan members ≡ Ok p →
    HasEnded (length (jobs_in (scenario_of p))) (own_run true p.fsdi p.turns (jobs_in (scenario_of p)) n) →
    length (exchanges_in (scenario_of p) n) ≤ TRACE_LINES → length bytes ≤ INPUT →
    IsDocument bytes (with_trace members (map trace_text (exchanges_in (scenario_of p) n))) →
    AnswersByRun (scenario_of p) before after status)
