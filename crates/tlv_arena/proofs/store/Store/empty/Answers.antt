use Rattle.std.proofs.Common.{◌≡◌, ◌<◌, [], length, inl, arith, refl}
use Rattle.ep_base.specs.Objects.RawBytes.{bytes_at}
use Rattle.tlv_arena.specs.declared.slot.Slot.{Slot}
use Rattle.tlv_arena.specs.StoreState.{InBlock, Clear}
use Rattle.tlv_arena.proofs.Lists.{all_set, all_of, apart-set, lens-set, objects-set}
use Rattle.tlv_arena.proofs.store.Store.empty.Goals as goal

pub overflow_sub-self : goal.overflow_sub-self
overflow_sub-self c =
    let s = c.args.self.now in let x = c.index-slot.result.now in
    let y : Slot = record { serial = x.serial; group = x.group; tag = x.tag; place = 0; len = 0 } in
    omega (arith, lens-set s.live.items c.args.i x y (omega (arith, s.live.ok.0)) c.index-slot.ensures, c.requires.store.counted)

pub returns : goal.returns
returns c =
    let s = c.args.self.now in let is = c.requires.store in let b = s.block.bytes in let x = c.index-slot.result.now in
    let y : Slot = record { serial = x.serial; group = x.group; tag = x.tag; place = 0; len = 0 } in
    let inside : c.args.i < length s.live.items = omega (arith, s.live.ok.0) in
    record {
      store = record {
        counted = omega (arith, lens-set s.live.items c.args.i x y inside c.index-slot.ensures, is.counted);
        fits = omega (arith, is.fits);
        filled = is.filled;
        small = is.small;
        slots_are = is.slots_are;
        slots_room = is.slots_room;
        within = all_set (InBlock (length b)) s.live.items c.args.i y (record { ends = omega arith; empty = λ _. refl }) is.within;
        apart = apart-set s.live.items c.args.i y is.apart (all_of (Clear y) s.live.items (λ t. inl (omega arith)));
      };
      objects_are = objects-set b b s.live.items c.args.i x y [] inside c.index-slot.ensures refl refl refl refl (all_of (λ (t : Slot). bytes_at t.place t.len b ≡ bytes_at t.place t.len b) s.live.items (λ t. refl));
      slots = refl;
      cap = refl;
    }
