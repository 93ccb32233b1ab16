use Rattle.std.proofs.Common.{arith}
use Rattle.tlv_core.proofs.Pieces.{nested_below, at_pop, at_zero}
use Rattle.tlv_core.specs.CursorState.{ends_of}
use Rattle.tlv_core.proofs.cursor.Cursor.skip_one.Goals as goal

pub returns-then-self-clause-left : goal.returns-then-self-clause-left
returns-then-self-clause-left c =
    let s = c.args.self.now in
    at_pop c.args.bytes.now s.at s.end s.depth s.ends c.if-self.true (omega arith)

pub bounds-bytes-self : goal.bounds-bytes-self
bounds-bytes-self c =
    let s = c.args.self.now in
    omega (arith, nested_below s.end (ends_of s.depth s.ends) _ c.requires.nested.1, c.requires.nested.0)

pub returns-then-bytes-self-eq-PADDING-clause-left : goal.returns-then-bytes-self-eq-PADDING-clause-left
returns-then-bytes-self-eq-PADDING-clause-left c =
    let s = c.args.self.now in
    let below = nested_below s.end (ends_of s.depth s.ends) _ c.requires.nested.1 in
    at_zero c.args.bytes.now s.at s.end (ends_of s.depth s.ends) (omega (arith, c.requires.nested.0)) below c.if-bytes-self-eq-PADDING.true

pub returns-then-bytes-self-eq-PADDING-clause-moved : goal.returns-then-bytes-self-eq-PADDING-clause-moved
returns-then-bytes-self-eq-PADDING-clause-moved c =
    let s = c.args.self.now in
    omega (arith, nested_below s.end (ends_of s.depth s.ends) _ c.requires.nested.1, c.requires.nested.0)
