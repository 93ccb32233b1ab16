use Rattle.std.proofs.Common.{◌≤◌, arith, ap, sym}
use Rattle.inventory.specs.Walks.{Walk, known_of}
use Rattle.inventory.proofs.Places.{room}
use Rattle.inventory.proofs.walk.Walk.heard.Goals as goal

pub push-requires : goal.push-requires
push-requires c =
    let known : (known_of c.args.self.now).bits ≤ 31 = omega (arith, c.if-at-known.false, c.if-at-gt31.false, ap (λ k. k.bits) c.known-known.ensures) in
    (omega arith, room c.args.self.now c.self.inside.pending.items c.requires known (sym (ap (λ (w : Walk). w.pending) c.self.view_is)))
