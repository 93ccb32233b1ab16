use Rattle.std.proofs.Common.{◌≡◌, ◌≤◌, true}
use Rattle.ep_base.specs.Link.ReaderEnd.{Reader, begin}
use Rattle.block_reader.specs.Stands.{held, is_open, left_of, Rests}
use Rattle.link.proofs.Following.{Going}
use Rattle.link.proofs.carrying.carry.Given as goal

abbrev pub invariant-loop-heard : goal.invariant-loop-heard
invariant-loop-heard g l =
    let M = g.M.Medium in
    record {
      going : (r : Reader) → Rests (held l.fn.end) r →
          Going M.steps (held l.fn.end).set (begin (held l.fn.end).set.frames.card l.command r) (M.state l.fn.medium) l.ask (held l.end) (M.state l.medium);
      under_way : is_open (held l.end) ≡ true;
      setting : (held l.end).set ≡ (held l.fn.end).set;
      later : M.faults l.fn.medium ≤ M.faults l.medium;
    }

abbrev pub decreases-loop-heard : goal.decreases-loop-heard
decreases-loop-heard g l = left_of (held l.end)
