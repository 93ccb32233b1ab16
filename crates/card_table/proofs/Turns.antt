-- Cards looked at one after the other, as a loop does.
use Rattle.std.proofs.Common.{◌≡◌, ℕ, ◌+◌, ◌<◌, ◌≤◌, List, [], ◌∷◌, ◌++◌, length, take, drop, get_or, position, pos, Some, None, Option, Result, Ok, refl, sym, ap, ◌∙◌, subst, add-one, drop-cons, arith}
use Rattle.std.proofs.Math.ListN.{drop_of_length-le}
use Rattle.std.proofs.Math.Seq.{take-suc}
use Rattle.std.proofs.lemmas.List.{length-take-le}
use Rattle.doc_table.specs.Fault.{Fault}
use Rattle.doc_table.specs.Path.{key_path, element_path}
use Rattle.doc_table.specs.declared.fault.DocKind.TheVariants.{Conflict}
use Rattle.doc_table.specs.Read.{◌>>=◌, fails}
use Rattle.card_table.specs.Cards.{Card, is_same, id_key, is_new, all_new}

-- The card in this place, and then the others.
abbrev turn : List ℕ → List Card → ℕ → Card → Result (Unit {0}) Fault
turn path cards i c = is_new path (i + 1) c (position (is_same c) (take i cards)) >>= λ _. all_new path (take (i + 1) cards) (drop (i + 1) cards)

one_turn : (path : List ℕ) (cards : List Card) (i : ℕ) (d : Card) → i < length cards → all_new path (take i cards) (drop i cards) ≡ turn path cards i (get_or cards i d)
one_turn path cards i d lt =
    let c : Card = get_or cards i d in
    let rest : drop i cards ≡ c ∷ drop (i + 1) cards = rw add-one (drop-cons cards i d lt) in
    let before : take (i + 1) cards ≡ take i cards ++ c ∷ [] = rw add-one (take-suc cards i d lt) in
    let count : length (take i cards) ≡ i = length-take-le i cards (omega arith) in
    subst (λ (ds : List Card). all_new path (take i cards) ds ≡ turn path cards i c) (sym rest)
    (subst (λ (n : ℕ). (is_new path (n + 1) c (position (is_same c) (take i cards)) >>= λ _. all_new path (take i cards ++ c ∷ []) (drop (i + 1) cards)) ≡ turn path cards i c) (sym count)
    (subst (λ (bs : List Card). (is_new path (i + 1) c (position (is_same c) (take i cards)) >>= λ _. all_new path bs (drop (i + 1) cards)) ≡ turn path cards i c) before refl))

-- No earlier card is the same.
pub goes_on : (path : List ℕ) (cards : List Card) (i : ℕ) (d : Card) (total : Result (Unit {0}) Fault) → i < length cards
    → position (is_same (get_or cards i d)) (take i cards) ≡ None
    → all_new path (take i cards) (drop i cards) ≡ total
    → all_new path (take (i + 1) cards) (drop (i + 1) cards) ≡ total
goes_on path cards i d total lt none so_far =
    let step = one_turn path cards i d lt in
    let found = subst (λ (o : Option ℕ). all_new path (take i cards) (drop i cards) ≡ (is_new path (i + 1) (get_or cards i d) o >>= λ _. all_new path (take (i + 1) cards) (drop (i + 1) cards))) none step in
    sym found ∙ so_far

-- An earlier card is the same.
pub stops : (path : List ℕ) (cards : List Card) (i k : ℕ) (d : Card) (total : Result (Unit {0}) Fault) → i < length cards
    → position (is_same (get_or cards i d)) (take i cards) ≡ Some k
    → all_new path (take i cards) (drop i cards) ≡ total
    → total ≡ fails Conflict (key_path (element_path path (i + 1)) (id_key (get_or cards i d).outside)) (pos (k + 1))
stops path cards i k d total lt same so_far =
    let step = one_turn path cards i d lt in
    let found = subst (λ (o : Option ℕ). all_new path (take i cards) (drop i cards) ≡ (is_new path (i + 1) (get_or cards i d) o >>= λ _. all_new path (take (i + 1) cards) (drop (i + 1) cards))) same step in
    sym so_far ∙ found

-- All cards were looked at.
pub is_done : (path : List ℕ) (cards : List Card) (i : ℕ) (total : Result (Unit {0}) Fault) → length cards ≤ i → all_new path (take i cards) (drop i cards) ≡ total → total ≡ Ok tt
is_done path cards i total le so_far = sym so_far ∙ ap (λ ds. all_new path (take i cards) ds) (drop_of_length-le cards le)
