use Rattle.std.proofs.Common.{◌≡◌, ◌<◌, ◌+◌, ◌++◌, ◌∷◌, List, inl, inr, ℕ, sym, ap, ◌∙◌, arith, length, take, drop, get_or, ◌≤◌}
use Rattle.std.proofs.lemmas.List.{take-append-drop, drop_more, length-take-le, get_or_default}
use Rattle.tlv_arena.specs.declared.slot.Slot.{Slot}
use Rattle.tlv_arena.specs.StoreState.{IsLowest, NotBelow, Done, InBlock}
use Rattle.tlv_arena.proofs.Lists.{all_by, all_at, some_or_none}
use Rattle.tlv_arena.proofs.lookup.lowest.Goals as goal

lowest_at : (to best least : ℕ) (slots : List Slot) (t : Slot) → best < length slots → t ≡ get_or slots best t → to ≤ t.place → 0 < t.len → least ≡ t.place
    → ((k : ℕ) (u : Slot) → k < length slots → u ≡ get_or slots k u → to ≤ u.place → 0 < u.len → least ≤ u.place) → IsLowest to best slots
lowest_at to best least slots t lt e high some is all = record {
  front = take best slots;
  slot = t;
  back = drop (best + 1) slots;
  parts = sym (take-append-drop best slots) ∙ ap (λ (ys : List Slot). take best slots ++ ys) (drop_more slots best t lt ∙ ap (λ (y : Slot). y ∷ drop (best + 1) slots) (sym e));
  place = length-take-le best slots (omega arith);
  high = high;
  some = some;
  least = all_by (NotBelow to t.place) slots (λ k u below same h has. omega (arith, is, all k u below same h has));
}

pub returns-then-best-slots : goal.returns-then-best-slots
returns-then-best-slots c =
    let slots = c.args.slots.now in let best = c.loop-i.best in let inv = c.loop-i.invariant in
    let none : Slot = record { serial = 0; group = 0; tag = 0; place = 0; len = 0 } in
    let t = get_or slots best none in
    elim inv.best [
      | inl past ↦ absurd (omega (arith, past.0))
      | inr there ↦ let e = get_or_default slots best none t there.0 in let f = there.1 t e in
          lowest_at c.args.to best c.loop-i.least slots t there.0 e f.0 f.1 f.2 (λ k u lt same. inv.least k u (omega arith) same)
    ]

pub returns-else-best-slots : goal.returns-else-best-slots
returns-else-best-slots c =
    let slots = c.args.slots.now in let inv = c.loop-i.invariant in
    elim inv.best [
      | inl past ↦ all_by (Done c.args.to) slots (λ k t lt e high. elim (some_or_none t.len) [
        | inl none ↦ none
        | inr some ↦ let within : InBlock 65536 t = rw e (all_at (InBlock 65536) slots k t lt c.requires) in absurd (omega (arith, past.1, within.ends, inv.least k t (omega arith) e high some))
      ])
      | inr there ↦ absurd (omega (arith, there.0))
    ]
