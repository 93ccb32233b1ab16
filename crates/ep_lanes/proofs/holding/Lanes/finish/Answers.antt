use Rattle.std.proofs.Common.{◌≤◌, map, length, is_some, false, sym, ◌∙◌, ap, arith}
use Rattle.std.proofs.lemmas.List.{length-map}
use Rattle.ep_lanes.specs.Lanes.{LaneHeld, lane_held}
use Rattle.ep_lanes.proofs.Numbering.{found, changed, others, past_all, none_at, is_none}
use Rattle.ep_lanes.proofs.holding.Lanes.finish.Goals.{else-lane-ne0-via-then-lane-ne0+else-from-len, else-lane-ne0-via-else-lane-ne0}
use Rattle.ep_lanes.proofs.holding.Lanes.finish.Goals as goal

pub returns-then-from-len-clause-ended : goal.returns-then-from-len-clause-ended
returns-then-from-len-clause-ended g c =
    let there : (1 ≤ c.args.lane) × (c.args.lane ≤ length (map (lane_held g.K.Kernels.state g.K.Kernels.is_open g.K.Kernels.is_fresh) c.args.self.now.lanes.items)) =
    (omega arith, omega (arith, length-map c.args.self.now.lanes.items (lane_held g.K.Kernels.state g.K.Kernels.is_open g.K.Kernels.is_fresh))) in
    let none =
    sym (ap (λ (l : LaneHeld g.K.Kernels.State). is_some l.transaction)
    (found (lane_held g.K.Kernels.state g.K.Kernels.is_open g.K.Kernels.is_fresh) c.args.self.now.lanes.items c.from-then-from-len.result c.args.lane c.from-then-from-len.ensures there
    c.index_mut-held.result.now c.index_mut-held.ensures.value))
    ∙ c.requires in
    changed (lane_held g.K.Kernels.state g.K.Kernels.is_open g.K.Kernels.is_fresh) c.args.self.now.lanes.items c.from-then-from-len.result c.args.lane c.from-then-from-len.ensures there _
    ∙ ap (λ t. record { live = false; transaction = t }) (is_none _ none)

pub returns-then-from-len-clause-others : goal.returns-then-from-len-clause-others
returns-then-from-len-clause-others g c =
    let there : (1 ≤ c.args.lane) × (c.args.lane ≤ length (map (lane_held g.K.Kernels.state g.K.Kernels.is_open g.K.Kernels.is_fresh) c.args.self.now.lanes.items)) =
    (omega arith, omega (arith, length-map c.args.self.now.lanes.items (lane_held g.K.Kernels.state g.K.Kernels.is_open g.K.Kernels.is_fresh))) in
    others (lane_held g.K.Kernels.state g.K.Kernels.is_open g.K.Kernels.is_fresh) c.args.self.now.lanes.items c.from-then-from-len.result c.args.lane c.from-then-from-len.ensures there _

pub returns-else-lane-ne0-clause-ended : goal.returns-else-lane-ne0-clause-ended
returns-else-lane-ne0-clause-ended g c =
    elim c.else-lane-ne0.branch [
      | else-lane-ne0-via-then-lane-ne0+else-from-len w ↦
          past_all (map (lane_held g.K.Kernels.state g.K.Kernels.is_open g.K.Kernels.is_fresh) c.args.self.now.lanes.items) c.args.lane
          (omega (arith, length-map c.args.self.now.lanes.items (lane_held g.K.Kernels.state g.K.Kernels.is_open g.K.Kernels.is_fresh)))
      | else-lane-ne0-via-else-lane-ne0 w ↦
          none_at (map (lane_held g.K.Kernels.state g.K.Kernels.is_open g.K.Kernels.is_fresh) c.args.self.now.lanes.items) c.args.lane w.if-lane-ne0.false
    ]
