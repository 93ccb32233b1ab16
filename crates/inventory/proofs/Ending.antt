-- How an inventory begins and ends.
use Rattle.std.proofs.Common.{◌≡◌, ℕ, ◌+◌, ◌≤◌, Bool, true, false, List, [], ◌∷◌, ◌++◌, length, take, Some, None, Ok, Err, refl, sym, ap, ◌∙◌, arith, inl, subst, if◌then◌else◌}
use Rattle.std.proofs.Math.Seq.{take-append_seam}
use Rattle.std.proofs.lemmas.List.{append-nil}
use Rattle.inventory.specs.declared.listing.InventoryEnd.{InventoryEnd}
use Rattle.inventory.specs.declared.listing.InventoryEnd.TheVariants.{Device, Odd, Many}
use Rattle.inventory.specs.Exchanges.{Woken, ComesTo}
use Rattle.inventory.specs.Finds.{Finds}
use Rattle.inventory.specs.Steps.{BitSteps}
use Rattle.inventory.specs.Tags.{Tag, before, spelled, insert, in_order}
use Rattle.inventory.specs.Told.{Stood, Mute, At, Tells, tags_of, is_some_there}
use Rattle.inventory.specs.Walks.{Turned, Walk, begun}
use Rattle.inventory.proofs.Finding.{Partway, FinishesBy, Finishes, waiting}
use Rattle.inventory.proofs.Paths.{path_bits}
use Rattle.inventory.proofs.Making.{Sofar}
use Rattle.inventory.proofs.Members.{In}
use Rattle.inventory.proofs.Ordering.{under}
use Rattle.inventory.proofs.Reading.{Value}
use Rattle.inventory.proofs.Standing.{standing, placed_tags, woken_stand}

pub empty_list : {A : Type 0} → (xs : List A) → length xs ≡ 0 → xs ≡ []
empty_list [] e = refl
empty_list (x ∷ xs) e = cc

insert_length_at : (b : Bool) (t u : Tag) (us : List Tag) → length (insert t us) ≡ length us + 1 → length (if b then t ∷ u ∷ us else u ∷ insert t us) ≡ length us + 2
insert_length_at true t u us e = omega arith
insert_length_at false t u us e = omega (arith, e)

insert_length : (t : Tag) (us : List Tag) → length (insert t us) ≡ length us + 1
insert_length t [] = omega arith
insert_length t (u ∷ us) = omega (arith, insert_length_at (before (spelled t.uid) (spelled u.uid)) t u us (insert_length t us))

-- Cards in order are as many.
pub order_length : (ts : List Tag) → length (in_order ts) ≡ length ts
order_length [] = refl
order_length (t ∷ ts) = omega (arith, insert_length t (in_order ts), order_length ts)

all_under : (ts : List Tag) → under [] ts ≡ ts
all_under [] = refl
all_under (t ∷ ts) = ap (λ us. t ∷ us) (all_under ts)

-- A card that stands in a field.
some_card : (cards : List Stood) → true ≡ is_some_there cards → (t : Tag) × In t (tags_of cards)
some_card [] e = cc
some_card (c ∷ cs) e = (c.tag, inl refl)

none_there : (cards : List Stood) → false ≡ is_some_there cards → tags_of cards ≡ []
none_there [] e = refl
none_there (c ∷ cs) e = cc

-- The inventory begins: the field was reset, and a card was woken.
pub begun_finds : {S : Type 0} (steps : BitSteps S) (shown : S → List Stood) → Tells steps shown → (s m t : S) → steps.resets s true m → steps.wakes m (Some true) t → (found : List Tag)
    → found ≡ [] → Partway (tags_of (shown s)) (shown t) begun found
begun_finds steps shown told s m t reset wake found none =
    let h = told.wakes m t true wake in
    let ts = tags_of (shown s) in
    let kept : tags_of (shown m) ≡ ts = ap tags_of (told.resets s m reset) ∙ placed_tags Mute (shown s) in
    let card = some_card (shown m) h.0 in
    record {
      tags = ap tags_of h.1 ∙ placed_tags (At 1) (shown m) ∙ kept;
      asleep = λ e. refl;
      stands = λ e. h.1 ∙ woken_stand (shown m) ∙ ap (standing 1 []) kept;
      lower = tt;
      chain = record {
        one = Value 0 0 0 0 (omega arith) (omega arith) (omega arith) (omega arith);
        two = Value 0 0 0 0 (omega arith) (omega arith) (omega arith) (omega arith);
        three = Value 0 0 0 0 (omega arith) (omega arith) (omega arith) (omega arith);
        second = inl refl;
        third = inl refl;
      };
      held = record { tag = card.0; there = subst (λ (us : List Tag). In card.0 us) kept card.1; under = refl };
      waits = tt;
      order = ap in_order (sym (all_under ts)) ∙ sym (append-nil (in_order (under [] ts))) ∙ ap (λ us. us ++ (in_order (under [] ts) ++ [])) (sym none);
    }

-- No card was woken.
pub none_finds : {S : Type 0} (steps : BitSteps S) (shown : S → List Stood) → Tells steps shown → (s m t : S) → steps.resets s true m → steps.wakes m (Some false) t → (found : List Tag)
    → found ≡ [] → Finds (tags_of (shown s)) found (Ok 1)
none_finds steps shown told s m t reset wake found none =
    let h = told.wakes m t false wake in
    let empty : tags_of (shown s) ≡ [] = sym (placed_tags Mute (shown s)) ∙ ap tags_of (sym (told.resets s m reset)) ∙ none_there (shown m) h.0 in
    (none ∙ ap in_order (sym empty), omega (arith, ap length empty))

pub device_finds : (ts found : List Tag) → found ≡ [] → Finds ts found (Err Device)
device_finds ts found none = (in_order ts, ap (λ us. us ++ in_order ts) (sym none))

-- The inventory is refused.
pub refused_finds : (ts : List Tag) (cards after : List Stood) (w : Walk) (found : List Tag) (e : InventoryEnd) → Partway ts cards w found → Finishes ts after found (Err e) → Finds ts found (Err e)
refused_finds ts cards after w found Device pw f = (_, pw.order)
refused_finds ts cards after w found (Odd level known) pw f = absurd f
refused_finds ts cards after w found Many pw f =
    let rest = in_order (under (path_bits w.path) ts) ++ waiting w.pending ts in
    (sym (ap (take 16) pw.order ∙ subst (λ (n : ℕ). take n (found ++ rest) ≡ found) f.0 (take-append_seam found rest)), omega (arith, f.1, order_length ts))

-- All cards are found.
pub over_finds : (ts : List Tag) (cards : List Stood) (u : Turned) (n : ℕ) → u.over ≡ true → Finishes ts cards u.found (Ok u) → length u.found ≤ 16 → Finds ts u.found (Ok n)
over_finds ts cards u n over f few =
    let e : u.found ≡ in_order ts = over_by u.over u over f in
    (e, omega (arith, few, ap length e, order_length ts))
  where
    over_by : (b : Bool) (u : Turned) → b ≡ true → FinishesBy b ts cards u → u.found ≡ in_order ts
    over_by true u h f = f
    over_by false u h f = cc

-- The exchanges so far: the first wake.
pub begun_makes : {S : Type 0} (steps : BitSteps S) (m t : S) → steps.wakes m (Some true) t → (found : List Tag) → found ≡ [] → Sofar steps m begun found 1 t
begun_makes steps m t wake found none = record {
  exchanges = Woken (Some true) ∷ [];
  made = record {
    takes = (t, wake, refl);
    fine = (refl, refl, tt);
    lists = none;
    number = refl;
    least = omega arith;
    few = omega (arith, ap length none);
  };
  asleep = λ e. refl;
  uid = λ e. refl;
}

-- No card answered the first wake.
pub none_makes : {S : Type 0} (steps : BitSteps S) (m t : S) → steps.wakes m (Some false) t → (found : List Tag) → found ≡ [] → ComesTo steps m (Ok 1) found t
none_makes steps m t wake found none = (Woken (Some false) ∷ [], (t, wake, refl), refl, none, omega (arith, ap length none), inl refl)

-- The first wake failed.
pub failed_makes : {S : Type 0} (steps : BitSteps S) (m t : S) → steps.wakes m None t → (found : List Tag) → found ≡ [] → ComesTo steps m (Err Device) found t
failed_makes steps m t wake found none = ([], Woken None, (t, wake, refl), tt, none, omega (arith, ap length none), refl)

-- As many are listed as can be.
pub few_listed : {S : Type 0} (steps : BitSteps S) (m : S) (n : ℕ) (found : List Tag) (t : S) → ComesTo steps m (Ok n) found t → length found ≤ 16
few_listed steps m n found t c = c.4
