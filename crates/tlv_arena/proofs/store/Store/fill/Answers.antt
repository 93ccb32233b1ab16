use Rattle.std.proofs.Common.{◌≡◌, ◌<◌, ◌≤◌, ◌+◌, ◌++◌, List, length, get_or, inl, inr, arith, refl, sym, ap, subst, ◌∙◌}
use Rattle.std.specs.Vec.{with_item}
use Rattle.std.proofs.lemmas.List.{length-append, length-map, get_or-map}
use Rattle.ep_base.specs.Objects.Arena.{Object, live_bytes}
use Rattle.ep_base.specs.Objects.RawBytes.{RawBytes as RawBytesData, bytes_at}
use Rattle.tlv_arena.specs.declared.slot.Slot.{Slot}
use Rattle.tlv_arena.specs.StoreState.{object_at, objects_of, with_value, InBlock, Clear, Becomes}
use Rattle.tlv_arena.proofs.Slide.{run_len, run-added, run-tail}
use Rattle.tlv_arena.proofs.Lists.{all_set, all_map, all_at, apart-set, lens-set, objects-set, some_or_none}
use Rattle.tlv_arena.proofs.Pulls.{used_is}
use Rattle.tlv_arena.proofs.store.Store.fill.Goals as goal

pub returns : goal.returns
returns c =
    let s = c.make_room.new.self in let be = c.make_room.ensures.becomes in let is = be.store in let b = s.block.bytes in let i = c.args.i in
    let x = c.index-slot.result.now in let e = c.index-slot.ensures in let v = c.args.value.now in let p = c.tail-place.result in
    let y : Slot = record { serial = x.serial; group = x.group; tag = x.tag; place = p; len = length v } in
    let inside : i < length s.live.items = omega (arith, c.requires.place, c.args.self.now.live.ok.0, length-map s.live.items (object_at b), length-map c.args.self.now.live.items (object_at c.args.self.now.block.bytes), ap length be.objects_are) in
    let x_in : InBlock (length b) x = rw e (all_at (InBlock (length b)) s.live.items i x inside is.within) in
    let there : object_at b x ≡ get_or (objects_of c.args.self.now) i (object_at b x) =
    ap (object_at b) e ∙ sym (get_or-map (object_at b) s.live.items i x (object_at b x) inside) ∙ ap (λ (os : List Object). get_or os i (object_at b x)) be.objects_are in
    let bare : x.len ≡ 0 = sym (run_len x.place x.len b x_in.ends) ∙ ap length (c.requires.empty (object_at b x) there) in
    let sums = lens-set s.live.items i x y inside e in
    let used : s.used ≡ c.args.self.now.used = used_is s is ∙ ap live_bytes be.objects_are ∙ sym (used_is c.args.self.now c.requires.store) in
    let more = length-append b v in
    let y_ends : p + length v ≤ length b + length v = elim (some_or_none (length v)) [ inl none ↦ omega (arith, c.tail-place.ensures.none none) | inr some ↦ omega (arith, c.tail-place.ensures.some some) ] in
    let clear : (t : Slot) → InBlock (length b) t → Clear y t = λ t h. elim (some_or_none (length v)) [ inl none ↦ inl (omega (arith, none, c.tail-place.ensures.none none)) | inr some ↦ inr (omega (arith, h.ends, c.tail-place.ensures.some some)) ] in
    subst (λ (k : RawBytesData). Becomes c.args.self.now (with_value (objects_of c.args.self.now) i v) (record { block = k; live = with_item s.live i y; used = s.used + length v; slots = s.slots })) (sym c.append.ensures)
    (record {
      store = record {
        counted = omega (arith, sums, bare, is.counted);
        fits = omega (arith, used, c.requires.room, be.cap);
        filled = omega (arith, more, c.make_room.ensures.tail);
        small = is.small;
        slots_are = is.slots_are;
        slots_room = is.slots_room;
        within = all_set (InBlock (length (b ++ v))) s.live.items i y (record { ends = omega (arith, y_ends, more); empty = c.tail-place.ensures.none })
            (all_map (InBlock (length b)) (InBlock (length (b ++ v))) s.live.items (λ t h. record { ends = omega (arith, h.ends, more); empty = h.empty }) is.within);
        apart = apart-set s.live.items i y is.apart (all_map (InBlock (length b)) (Clear y) s.live.items clear is.within);
      };
      objects_are = objects-set b (b ++ v) s.live.items i x y v inside e refl refl refl (run-tail b v p c.tail-place.ensures.none c.tail-place.ensures.some)
          (all_map (InBlock (length b)) (λ (t : Slot). bytes_at t.place t.len (b ++ v) ≡ bytes_at t.place t.len b) s.live.items (λ t h. run-added t.place t.len b v h.ends) is.within)
          ∙ ap (λ (os : List Object). with_value os i v) be.objects_are;
      slots = be.slots;
      cap = be.cap;
    })
