use Rattle.std.proofs.Common.{◌≡◌, ◌+◌, ◌<◌, [], ◌∷◌, map, length, get_or, Ok, arith}
use mathlib.Core.List.{map-append}
use Rattle.toml.specs.View.{view}
use Rattle.doc_table.specs.Path.{element_path}
use Rattle.doc_table.proofs.Elements.{goes_on}
use Rattle.doc_table.proofs.reader.each.Goals as goal

pub loop-i-preserved : goal.loop-i-preserved
loop-i-preserved g c =
    let reads = g.R.Read.reads c.args.reader.now in
    let seen = g.R.Read.seen in
    let v = c.index-values-i.result in
    let within : c.loop-i.i < length c.args.values.now = omega arith in
    let read : reads (element_path c.args.path.now (c.loop-i.i + 1)) (view (get_or c.args.values.now c.loop-i.i v)) ≡ Ok (seen c.in_ok-read.field-0) = rw (← c.element.ensures.text, ← c.index-values-i.is) c.in_ok-read.ensures in
    record {
      same = rw (c.in_ok-push.ensures.items, map-append seen c.loop-i.list.items (c.in_ok-read.field-0 ∷ [])) (goes_on reads c.args.path.now (map seen c.loop-i.list.items) c.args.values.now c.loop-i.i v (seen c.in_ok-read.field-0) _ within read c.loop-i.invariant.same);
      count = omega (arith, c.loop-i.invariant.count, c.in_ok-push.ensures.len);
    }
