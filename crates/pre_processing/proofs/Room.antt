-- The room of a list that a filter fills.
use Rattle.std.proofs.Common.{◌≡◌, ℕ, ◌≤◌, ◌<◌, List, ◌∷◌, ◌++◌, Bool, true, length, drop, map, filter, count_by, get_or, arith, ap, suc, length-append, drop-cons}
use Rattle.std.proofs.lemmas.List.Sums.{length-filter}
use Rattle.std.proofs.lemmas.List.{length-map}

passed : {A : Type 0} (p : A → Bool) (x : A) (xs : List A) → p x ≡ true → 0 < length (filter p (x ∷ xs))
passed p x xs e = rw e (omega arith)

-- where the element at i passes and at most n do, fewer than n are listed
pub room_left : {A B : Type 0} (f : A → B) (p : A → Bool) (done : List B) (xs : List A) (i n : ℕ) (x : A)
    → done ++ map f (filter p (drop i xs)) ≡ map f (filter p xs)
    → i < length xs → p (get_or xs i x) ≡ true → count_by p xs ≤ n → length done < n
room_left f p done xs i n x e lt test most =
    let whole : length (done ++ map f (filter p (drop i xs))) ≡ length (map f (filter p xs)) = ap length e in
    let some : 0 < length (filter p (drop i xs)) = rw (drop-cons xs i x lt) (passed p (get_or xs i x) (drop (suc i) xs) test) in
    omega (arith, length-append done (map f (filter p (drop i xs))), length-map (filter p (drop i xs)) f, length-map (filter p xs) f, length-filter p xs)
