use Rattle.std.proofs.Common.{◌≡◌, ◌∙◌, ◌+◌, ◌-◌, ◌≤◌, ◌<◌, ◌&&◌, ℕ, Bool, length, arith, sym, ap, subst, leb, ltb}
use Rattle.std.proofs.lemmas.Bool.{le-leb, lt-leb}
use Rattle.std.proofs.lemmas.List.{length-map}
use Rattle.ep_base.specs.Objects.Arena.{live_bytes, has_room}
use Rattle.tlv_arena.specs.ArenaState.{contents_of}
use Rattle.tlv_arena.specs.Layout.{Held}
use Rattle.tlv_arena.specs.StoreState.{object_at}
use Rattle.tlv_arena.proofs.Pulls.{used_is}
use Rattle.tlv_arena.proofs.Arena.has_room.Goals as goal

pub returns-then-len-cap : goal.returns-then-len-cap
returns-then-len-cap c =
    let s = c.self.inside.store in let k = contents_of c.self.inside in
    let fits : live_bytes k.objects + c.args.len ≤ k.bytes = omega (arith, used_is s c.self.invariant.store, c.self.invariant.store.fits, c.cap.ensures.cap, c.if-len-cap.true) in
    let count : c.len.result ≡ length k.objects = omega (arith, length-map s.live.items (object_at s.block.bytes), s.live.ok.0, c.len.ensures) in
    subst (λ (h : Held). ltb c.len.result s.slots ≡ has_room c.args.len h.contents) c.self.view_is
    (ap (λ (n : ℕ). ltb n s.slots) count ∙ sym (ap (λ (t : Bool). t && ltb (length k.objects) k.slots) (le-leb _ _ fits)))

pub returns-else-len-cap : goal.returns-else-len-cap
returns-else-len-cap c =
    let s = c.self.inside.store in let k = contents_of c.self.inside in
    let more : k.bytes < live_bytes k.objects + c.args.len = omega (arith, used_is s c.self.invariant.store, c.self.invariant.store.fits, c.cap.ensures.cap, c.if-len-cap.false) in
    let here : c.cap.result - s.used < c.args.len = omega (arith, c.if-len-cap.false) in
    subst (λ (h : Held). leb c.args.len (c.cap.result - s.used) ≡ has_room c.args.len h.contents) c.self.view_is
    (lt-leb _ _ here ∙ sym (ap (λ (t : Bool). t && ltb (length k.objects) k.slots) (lt-leb _ _ more)))
