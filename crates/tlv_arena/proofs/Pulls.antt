-- A store while it relocates, and its sums.
use Rattle.std.proofs.Common.{◌≡◌, ℕ, ◌+◌, ◌<◌, ◌≤◌, List, ◌∷◌, ◌++◌, length, take, get_or, set, sym, ap, subst, ◌∙◌, arith}
use Rattle.std.specs.List.{AllByRecursion}
use Rattle.std.specs.Vec.{with_item}
use Rattle.std.proofs.lemmas.List.{get_or_at, set_at, length-take-le}
use Rattle.ep_base.specs.Objects.Arena.{live_bytes}
use Rattle.ep_base.specs.Objects.RawBytes.{block, bytes_at, slid}
use Rattle.tlv_arena.specs.declared.slot.Slot.{Slot}
use Rattle.tlv_arena.specs.declared.store.Store.{Store}
use Rattle.tlv_arena.specs.StoreState.{objects_in, objects_of, lens, InBlock, Apart, IsStore, IsPacked, IsLowest, Side, NotBelow, Done, parts_below}
use Rattle.tlv_arena.proofs.Slide.{length-slid, run-cut}
use Rattle.tlv_arena.proofs.Lists.{all_mid, all_map, all_zip, live_bytes-is, parts_all, finished, same_objects, slid-objects, slid-within, slid-apart, slid-sides, slid-packed, slid-lens}

pub used_is : (s : Store) → IsStore s → s.used ≡ live_bytes (objects_of s)
used_is s is = is.counted ∙ sym (live_bytes-is s.block.bytes s.live.items is.within)

module _ (s : Store) (to i : ℕ) (x : Slot) (p : IsPacked to s) (low : IsLowest to i s.live.items) (e : x ≡ get_or s.live.items i x) where
  abbrev y : Slot
  y = record { serial = x.serial; group = x.group; tag = x.tag; place = to; len = x.len }

  abbrev b : List ℕ
  b = s.block.bytes

  abbrev pub new : Store
  new = record { block = block (slid x.place to x.len b) s.block.cap; live = with_item s.live i y; used = s.used; slots = s.slots }

  same : x ≡ low.slot
  same = e ∙ ap (λ (l : List Slot). get_or l i x) low.parts ∙ get_or_at low.front low.slot low.back x i low.place

  abbrev slots : List Slot
  slots = low.front ++ x ∷ low.back

  parts : s.live.items ≡ slots
  parts = low.parts ∙ ap (λ (t : Slot). low.front ++ t ∷ low.back) (sym same)

  items_are : set s.live.items i y ≡ low.front ++ y ∷ low.back
  items_are = ap (λ (l : List Slot). set l i y) parts ∙ set_at low.front x low.back y i low.place

  within : AllByRecursion (InBlock (length b)) slots
  within = subst (λ (l : List Slot). AllByRecursion (InBlock (length b)) l) parts p.store.within

  apart : Apart slots
  apart = subst Apart parts p.store.apart

  sides : AllByRecursion (Side to) slots
  sides = subst (λ (l : List Slot). AllByRecursion (Side to) l) parts p.sides

  least : AllByRecursion (NotBelow to x.place) slots
  least = subst (λ (l : List Slot). AllByRecursion (NotBelow to x.place) l) parts (subst (λ (t : Slot). AllByRecursion (NotBelow to t.place) s.live.items) (sym same) low.least)

  pub high : to ≤ x.place
  high = omega (arith, low.high, ap (λ (t : Slot). t.place) same)

  some : 0 < x.len
  some = omega (arith, low.some, ap (λ (t : Slot). t.len) same)

  pub ends : x.place + x.len ≤ length b
  ends = (all_mid (InBlock (length b)) low.front x low.back within).ends

  long : length (slid x.place to x.len b) ≡ length b
  long = length-slid x.place to x.len b high ends

  pub pulled-objects : objects_of new ≡ objects_of s
  pulled-objects =
      ap (objects_in (slid x.place to x.len b)) items_are ∙ slid-objects b to low.front x low.back within apart sides least high some ∙ ap (objects_in b) (sym parts)

  pub pulled-store : IsStore new
  pulled-store = record {
    counted = p.store.counted ∙ ap lens parts ∙ sym (slid-lens b to low.front x low.back within apart sides least high some) ∙ sym (ap lens items_are);
    fits = p.store.fits;
    filled = omega (arith, long, p.store.filled);
    small = p.store.small;
    slots_are = p.store.slots_are;
    slots_room = p.store.slots_room;
    within = subst (λ (n : ℕ). AllByRecursion (InBlock n) (set s.live.items i y)) (sym long)
        (subst (λ (l : List Slot). AllByRecursion (InBlock (length b)) l) (sym items_are) (slid-within b to low.front x low.back within apart sides least high some));
    apart = subst Apart (sym items_are) (slid-apart b to low.front x low.back within apart sides least high some);
  }

  pub pulled-packed : IsPacked (to + x.len) new
  pulled-packed = record {
    store = pulled-store;
    inside = omega (arith, long, ends, high);
    sides = subst (λ (l : List Slot). AllByRecursion (Side (to + x.len)) l) (sym items_are) (slid-sides b to low.front x low.back within apart sides least high some);
    packed = ap (parts_below (to + x.len)) items_are ∙ slid-packed b to low.front x low.back within apart sides least high some ∙ ap (λ (l : List Slot). parts_below to l + x.len) (sym parts) ∙ ap (λ (n : ℕ). n + x.len) p.packed;
  }

-- all lies below `to`, and the rest is cut off
module _ (s : Store) (to : ℕ) (p : IsPacked to s) (done : AllByRecursion (Done to) s.live.items) where
  abbrev pub cut : Store
  cut = record { block = block (take to s.block.bytes) s.block.cap; live = s.live; used = s.used; slots = s.slots }

  low : AllByRecursion (λ (t : Slot). t.place + t.len ≤ to) s.live.items
  low =
      all_map (λ (t : Slot). InBlock (length s.block.bytes) t × (Side to t × Done to t)) (λ (t : Slot). t.place + t.len ≤ to) s.live.items (λ t h. finished (length s.block.bytes) to t (h.0, h.1.0, h.1.1))
      (all_zip (InBlock (length s.block.bytes)) (λ (t : Slot). Side to t × Done to t) s.live.items p.store.within (all_zip (Side to) (Done to) s.live.items p.sides done))

  top : length (take to s.block.bytes) ≡ to
  top = length-take-le to s.block.bytes p.inside

  pub cut-length : length (take to s.block.bytes) ≡ s.used
  cut-length = top ∙ sym p.packed ∙ parts_all to s.live.items low ∙ sym p.store.counted

  pub cut-objects : objects_of cut ≡ objects_of s
  cut-objects =
      same_objects s.block.bytes (take to s.block.bytes) s.live.items
      (all_map (λ (t : Slot). t.place + t.len ≤ to) (λ (t : Slot). bytes_at t.place t.len (take to s.block.bytes) ≡ bytes_at t.place t.len s.block.bytes) s.live.items (λ t le. run-cut t.place t.len to s.block.bytes le) low)

  pub cut-store : IsStore cut
  cut-store = record {
    counted = p.store.counted;
    fits = p.store.fits;
    filled = omega (arith, top, p.inside, p.store.filled);
    small = p.store.small;
    slots_are = p.store.slots_are;
    slots_room = p.store.slots_room;
    within = all_map (λ (t : Slot). InBlock (length s.block.bytes) t × (t.place + t.len ≤ to)) (InBlock (length (take to s.block.bytes))) s.live.items
        (λ t h. record { ends = omega (arith, h.1, top); empty = h.0.empty }) (all_zip (InBlock (length s.block.bytes)) (λ (t : Slot). t.place + t.len ≤ to) s.live.items p.store.within low);
    apart = p.store.apart;
  }
