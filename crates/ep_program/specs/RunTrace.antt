-- The trace lines of a scenario's run (this project's own).
use Rattle.std.specs.Prelude.{◌≡◌, ℕ, true, false, All, List, length, Some}
use Rattle.std.specs.List.{flat_map}
use Rattle.ep_claim.specs.Lanes.Ending.{HasEnded}
use Rattle.ep_claim.specs.Text.TraceLine.{TraceLine, read_trace_line, trace_line, trace_text}
use Rattle.trace_check.specs.Verdicts.{AreAllowed}
use Rattle.lane_run.specs.OwnTrace.{own_lines, own_run}
use Rattle.lane_run.specs.ReportLines.{trace_in, without_trace}
use Rattle.scenario.specs.Jobs.{jobs_in}
use Rattle.scenario.specs.Scenario.{Scenario}

-- The exchanges of the scenario's run after so many of them (this project's own).
abbrev pub exchanges_in : Scenario → (n : ℕ) → List TraceLine
exchanges_in s n = own_lines true s.fsdi s.turns (jobs_in s) n

-- The text tells the scenario's run, once that is over: its trace lines are those of the exchanges, one for each in their order, and what is left without
-- them is the text of the run that tells no trace. Each line, as it was written, is read as its exchange; and the lines of each lane are such as a
-- check of the trace allows (this project's own).
pub record TellsExchanges (s : Scenario) (text : List ℕ) : Type 0 where
  pub exchanges : ℕ
  pub over : HasEnded (length (jobs_in s)) (own_run true s.fsdi s.turns (jobs_in s) exchanges)
  pub lines : trace_in text ≡ flat_map trace_line (exchanges_in s exchanges)
  pub report : without_trace text ≡ (own_run false s.fsdi s.turns (jobs_in s) exchanges).text
  pub read : All (λ line. read_trace_line (trace_text line) ≡ Some line) (exchanges_in s exchanges)
  pub allowed : AreAllowed s.fsdi (exchanges_in s exchanges)
