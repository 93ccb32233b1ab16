use Rattle.std.proofs.Common.{◌≡◌, map}
use Rattle.scenario.specs.Scenario.{work_of}
use Rattle.scenario.proofs.scenario.open_lanes.Given as goal

abbrev pub invariant-loop-lane : goal.invariant-loop-lane
invariant-loop-lane l = map (λ jobs. jobs.items) l.all.items ≡ map (λ lane. map (work_of l.config) lane) (map (λ lane. lane.items) l.yielded)
