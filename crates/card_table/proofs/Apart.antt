-- No two cards of a list that is accepted are of one kind with one identifier.
use Rattle.std.proofs.Common.{◌≡◌, ℕ, ◌+◌, ◌≤◌, ◌&&◌, not, nat_lt, List, [], ◌∷◌, ◌++◌, length, map, position, true, false, cond, Some, None, Option, Ok, refl, sym, ltb-false, subst, arith}
use Rattle.std.specs.List.{position_or_len}
use Rattle.std.proofs.lemmas.Slice.Eq.{bytes_eq-Decides}
use Rattle.std.specs.Str.{bytes_eq}
use Rattle.ep_base.specs.declared.air.CardKind.{CardKind}
use Rattle.ep_base.specs.declared.air.CardKind.TheVariants.{A, B}
use Rattle.ep_base.specs.Air.Heard.{same_kind}
use Rattle.ep_base.specs.Cards.Lawful.{kind_of, id_of, IsUnlike, AreApart}
use Rattle.doc_table.proofs.Accepted.{after}
use Rattle.card_table.specs.Cards.{Card, is_same, is_new, all_new}

-- A card's kind and identifier.
abbrev pub card_name : Card → CardKind × List ℕ
card_name c = (kind_of c.outside, id_of c.outside)

same_as_itself : (k : CardKind) → same_kind k k ≡ true
same_as_itself A = refl
same_as_itself B = refl

same_where_equal : (k l : CardKind) (xs ys : List ℕ) → l ≡ k → ys ≡ xs → (same_kind k l && bytes_eq xs ys) ≡ true
same_where_equal k l xs ys kind id =
    let of_kind : same_kind k l ≡ true = subst (λ (m : CardKind). same_kind k m ≡ true) (sym kind) (same_as_itself k) in
    let of_id : bytes_eq xs ys ≡ true = (bytes_eq-Decides xs ys).1 (sym id) in
    rw (of_kind, of_id)

-- Neither is a card's kind and identifier those of the other card.
abbrev IsOtherThan : Card → Card → Type 0
IsOtherThan c b = kind_of b.outside ≡ kind_of c.outside → (id_of b.outside ≡ id_of c.outside → ⊥)

other : (c b : Card) → is_same c b ≡ false → IsOtherThan c b
other c b h kind id =
    let same : is_same c b ≡ true = same_where_equal (kind_of c.outside) (kind_of b.outside) (id_of c.outside) (id_of b.outside) kind id in
    absurd (cc)

-- A card is none of these.
abbrev IsNone : Card → List Card → Type 0
IsNone c [] = Unit {0}
IsNone c (b ∷ bs) = IsOtherThan c b × IsNone c bs

none_fails : (c : Card) (bs : List Card) → length bs ≤ position_or_len (is_same c) bs → IsNone c bs
none_fails c [] le = tt
none_fails c (b ∷ bs) le =
    elim (is_same c b) as (λ t. is_same c b ≡ t → length (b ∷ bs) ≤ cond (not t) (1 + position_or_len (is_same c) bs) 0 → IsNone c (b ∷ bs))
    [ true ↦ λ _ le. absurd (omega arith) | false ↦ λ t le. (other c b t, none_fails c bs (omega arith)) ] refl le

none_same : (c : Card) (bs : List Card) → position (is_same c) bs ≡ None → IsNone c bs
none_same c bs h =
    elim (nat_lt (position_or_len (is_same c) bs) (length bs)) as (λ t. nat_lt (position_or_len (is_same c) bs) (length bs) ≡ t → cond t (Some (position_or_len (is_same c) bs)) None ≡ None → IsNone c bs)
    [ true ↦ λ _ e. absurd (cc) | false ↦ λ t _. none_fails c bs (ltb-false _ _ t) ] refl h

new_none : (path : List ℕ) (n : ℕ) (c : Card) (found : Option ℕ) (u : Unit {0}) → is_new path n c found ≡ Ok u → found ≡ None
new_none path n c None u e = refl
new_none path n c (Some k) u e = cc

-- Each of these is apart from the names that come.
abbrev AllApart : List Card → List (CardKind × List ℕ) → Type 0
AllApart [] ns = Unit {0}
AllApart (b ∷ bs) ns = IsUnlike (card_name b) ns × AllApart bs ns

last_apart : (bs : List Card) (c : Card) (ns : List (CardKind × List ℕ)) → AllApart (bs ++ c ∷ []) ns → AllApart bs ns × IsUnlike (card_name c) ns
last_apart [] c ns h = (tt, h.0)
last_apart (b ∷ bs) c ns h = let rest = last_apart bs c ns h.1 in ((h.0, rest.0), rest.1)

with_first : (bs : List Card) (c : Card) (ns : List (CardKind × List ℕ)) → IsNone c bs → AllApart bs ns → AllApart bs (card_name c ∷ ns)
with_first [] c ns none all = tt
with_first (b ∷ bs) c ns none all = ((none.0, all.0), with_first bs c ns none.1 all.1)

apart_after : (path : List ℕ) (before cs : List Card) (u : Unit {0}) → all_new path before cs ≡ Ok u → AllApart before (map card_name cs) × AreApart (map card_name cs)
apart_after path before [] u e = (alone before, tt) where
  alone : (bs : List Card) → AllApart bs []
  alone [] = tt
  alone (b ∷ bs) = (tt, alone bs)
apart_after path before (c ∷ cs) u e =
    after (is_new path (length before + 1) c (position (is_same c) before)) _ u e (λ new is_new rest.
    let later = apart_after path (before ++ c ∷ []) cs u rest in
    let parts = last_apart before c (map card_name cs) later.0 in
    let none = none_same c before (new_none path (length before + 1) c (position (is_same c) before) new is_new) in
    (with_first before c (map card_name cs) none parts.0, (parts.1, later.1)))

pub accepted_apart : (path : List ℕ) (cards : List Card) (u : Unit {0}) → all_new path [] cards ≡ Ok u → AreApart (map card_name cards)
accepted_apart path cards u e = (apart_after path [] cards u e).1
