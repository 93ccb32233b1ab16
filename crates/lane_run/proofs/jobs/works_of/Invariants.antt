use Rattle.std.proofs.Common.{◌≡◌, map}
use Rattle.lane_run.specs.Works.{new_work}
use Rattle.lane_run.proofs.jobs.works_of.Given as goal

abbrev pub invariant-loop-lane : goal.invariant-loop-lane
invariant-loop-lane l = l.works.items ≡ map (λ lane. new_work lane.items) l.yielded
