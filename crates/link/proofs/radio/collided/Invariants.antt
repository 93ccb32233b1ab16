use Rattle.std.proofs.Common.{◌≡◌, drop}
use Rattle.ep_base.specs.Poll.Radio.{has_collision}
use Rattle.poll_activate.specs.Meaning.{ends_of}
use Rattle.link.proofs.radio.collided.Given as goal

abbrev pub invariant-loop-end : goal.invariant-loop-end
invariant-loop-end l = has_collision (ends_of (drop l.end-index l.rounds)) ≡ has_collision (ends_of l.rounds)
