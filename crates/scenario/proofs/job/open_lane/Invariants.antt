use Rattle.std.proofs.Common.{◌≡◌, map}
use Rattle.scenario.specs.Scenario.{work_of}
use Rattle.scenario.proofs.job.open_lane.Given as goal

abbrev pub invariant-loop-transaction : goal.invariant-loop-transaction
invariant-loop-transaction l = l.jobs.items ≡ map (work_of l.config) l.yielded
