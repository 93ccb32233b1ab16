-- What a walk is: the nodes that are left, and no fault before them.
use Rattle.std.specs.Prelude.{◌≡◌, List, None}
use Rattle.ep_base.specs.declared.objects.Node.{Node}
use Rattle.tlv_core.specs.Scan.{nodes_of, fault_of}
use Rattle.tlv_core.specs.CursorState.{IsCursor, left_at}
use Rattle.tlv_core.specs.declared.walk.Walk.TheInside.{Inside}

abbrev pub nodes_left : Inside → List Node
nodes_left w = nodes_of (left_at w.bytes.now w.cursor)

pub record IsWalk (w : Inside) : Type 0 where
  pub cursor : IsCursor w.bytes.now w.cursor
  pub good : fault_of (left_at w.bytes.now w.cursor) ≡ None
