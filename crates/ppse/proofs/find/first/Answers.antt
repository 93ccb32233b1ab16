use Rattle.std.proofs.Common.{ap, ◌∙◌, length, arith}
use Rattle.std.specs.Option.{option_map}
use Rattle.ep_base.specs.Objects.Reading.{forest_of}
use Rattle.ppse.specs.Listing.{is_top, value_at}
use Rattle.ppse.proofs.Nodes.{first_read, next_within}
use Rattle.ppse.proofs.find.first.Goals as goal

pub returns-in_err-node : goal.returns-in_err-node
returns-in_err-node c =
    rw c.from_residual.ensures
    (ap (option_map (value_at c.args.bytes.now)) c.in_err-node.ensures.found
    ∙ first_read c.args.constructed c.args.tag c.args.bytes.now c.in-Ok.walk (forest_of c.args.bytes.now) c.in-Ok.ensures.some)

pub overflow_add-result : goal.overflow_add-result
overflow_add-result c =
    let within = next_within (is_top c.args.constructed c.args.tag) c.in-Ok.walk c.in_ok-node.node (length c.args.bytes.now) c.in-Ok.ensures.within c.in_ok-node.ensures.found in
    omega (arith, within.0)

pub slice_bounds-result-end : goal.slice_bounds-result-end
slice_bounds-result-end c =
    let within = next_within (is_top c.args.constructed c.args.tag) c.in-Ok.walk c.in_ok-node.node (length c.args.bytes.now) c.in-Ok.ensures.within c.in_ok-node.ensures.found in
    omega (arith, within.0)

pub returns : goal.returns
returns c =
    ap (option_map (value_at c.args.bytes.now)) c.in_ok-node.ensures.found
    ∙ first_read c.args.constructed c.args.tag c.args.bytes.now c.in-Ok.walk (forest_of c.args.bytes.now) c.in-Ok.ensures.some
