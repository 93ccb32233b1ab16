-- Parts of bytes are bytes.
use Rattle.std.proofs.Common.{ℕ, zero, suc, ◌<◌, Bool, true, false, if◌then◌else◌, List, [], ◌∷◌, ◌++◌, take, drop, Option, Some, None, arith}
use Rattle.hex.specs.Hex.{IsBytes}

-- What is there has this property.
abbrev pub IfThere : {A : Type 0} → (A → Type 0) → Option A → Type 0
IfThere P None = Unit {0}
IfThere P (Some x) = P x

-- Either of two, by a test.
pub either : {A : Type 0} (P : A → Type 0) (b : Bool) (x y : A) → P x → P y → P (if b then x else y)
either P true x y h g = h
either P false x y h g = g

pub no_bytes : IsBytes []
no_bytes i = omega arith

pub one_more : (b : ℕ) (rest : List ℕ) → b < 256 → IsBytes rest → IsBytes (b ∷ rest)
one_more b rest h hs zero = h
one_more b rest h hs (suc i) = hs i

pub others : (b : ℕ) (rest : List ℕ) → IsBytes (b ∷ rest) → IsBytes rest
others b rest h i = h (suc i)

pub taken : (n : ℕ) (xs : List ℕ) → IsBytes xs → IsBytes (take n xs)
taken zero xs h = no_bytes
taken (suc n) [] h = no_bytes
taken (suc n) (x ∷ xs) h = one_more x (take n xs) (h 0) (taken n xs (others x xs h))

pub dropped : (n : ℕ) (xs : List ℕ) → IsBytes xs → IsBytes (drop n xs)
dropped zero xs h = h
dropped (suc n) [] h = no_bytes
dropped (suc n) (x ∷ xs) h = dropped n xs (others x xs h)

pub appended : (xs ys : List ℕ) → IsBytes xs → IsBytes ys → IsBytes (xs ++ ys)
appended [] ys h g = g
appended (x ∷ xs) ys h g = one_more x (xs ++ ys) (h 0) (appended xs ys (others x xs h) g)
