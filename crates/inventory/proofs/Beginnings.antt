-- Bits that begin other bits.
use Rattle.std.proofs.Common.{◌≡◌, ◌<◌, ◌≤◌, Bool, true, false, ◌&&◌, not, List, [], ◌∷◌, ◌++◌, length, refl, ap, arith}
use Rattle.inventory.specs.Bits.{begins, shared}

-- Bits of two parts.
pub begins_append : (p q xs ys : List Bool) → length p ≡ length xs → begins (p ++ q) (xs ++ ys) ≡ (begins p xs && begins q ys)
begins_append [] q [] ys e = refl
begins_append [] q (x ∷ xs) ys e = absurd (omega (arith, e))
begins_append (b ∷ p) q [] ys e = absurd (omega (arith, e))
begins_append (false ∷ p) q (false ∷ xs) ys e = begins_append p q xs ys (omega (arith, e))
begins_append (true ∷ p) q (true ∷ xs) ys e = begins_append p q xs ys (omega (arith, e))
begins_append (false ∷ p) q (true ∷ xs) ys e = refl
begins_append (true ∷ p) q (false ∷ xs) ys e = refl

-- Bits that begin the first part alone.
pub begins_short : (p xs ys : List Bool) → length p ≤ length xs → begins p (xs ++ ys) ≡ begins p xs
begins_short [] xs ys le = refl
begins_short (b ∷ p) [] ys le = absurd (omega (arith, le))
begins_short (false ∷ p) (false ∷ xs) ys le = begins_short p xs ys (omega (arith, le))
begins_short (true ∷ p) (true ∷ xs) ys le = begins_short p xs ys (omega (arith, le))
begins_short (false ∷ p) (true ∷ xs) ys le = refl
begins_short (true ∷ p) (false ∷ xs) ys le = refl

-- The first ones of bits that begin others begin them too.
pub begins_front : (p q xs : List Bool) → begins (p ++ q) xs ≡ true → begins p xs ≡ true
begins_front [] q xs h = refl
begins_front (b ∷ p) q [] h = cc
begins_front (false ∷ p) q (false ∷ xs) h = begins_front p q xs h
begins_front (true ∷ p) q (true ∷ xs) h = begins_front p q xs h
begins_front (false ∷ p) q (true ∷ xs) h = cc
begins_front (true ∷ p) q (false ∷ xs) h = cc

pub begins_self : (p : List Bool) → begins p p ≡ true
begins_self [] = refl
begins_self (false ∷ p) = begins_self p
begins_self (true ∷ p) = begins_self p

-- Bits that begin others, and as many of them.
pub begins_whole : (p xs : List Bool) → begins p xs ≡ true → length xs ≤ length p → p ≡ xs
begins_whole [] [] h le = refl
begins_whole [] (x ∷ xs) h le = absurd (omega (arith, le))
begins_whole (b ∷ p) [] h le = cc
begins_whole (false ∷ p) (false ∷ xs) h le = ap (λ ys. false ∷ ys) (begins_whole p xs h (omega (arith, le)))
begins_whole (true ∷ p) (true ∷ xs) h le = ap (λ ys. true ∷ ys) (begins_whole p xs h (omega (arith, le)))
begins_whole (false ∷ p) (true ∷ xs) h le = cc
begins_whole (true ∷ p) (false ∷ xs) h le = cc

pub begins_length : (p xs : List Bool) → begins p xs ≡ true → length p ≤ length xs
begins_length [] xs h = omega arith
begins_length (b ∷ p) [] h = cc
begins_length (false ∷ p) (false ∷ xs) h = omega (arith, begins_length p xs h)
begins_length (true ∷ p) (true ∷ xs) h = omega (arith, begins_length p xs h)
begins_length (false ∷ p) (true ∷ xs) h = cc
begins_length (true ∷ p) (false ∷ xs) h = cc

-- What begins bits, begins what begins with them.
pub begins_chain : (p q r : List Bool) → begins p q ≡ true → begins q r ≡ true → begins p r ≡ true
begins_chain [] q r h k = refl
begins_chain (b ∷ p) [] r h k = cc
begins_chain (b ∷ p) (c ∷ q) [] h k = cc
begins_chain (false ∷ p) (false ∷ q) (false ∷ r) h k = begins_chain p q r h k
begins_chain (true ∷ p) (true ∷ q) (true ∷ r) h k = begins_chain p q r h k
begins_chain (false ∷ p) (true ∷ q) (x ∷ r) h k = cc
begins_chain (true ∷ p) (false ∷ q) (x ∷ r) h k = cc
begins_chain (false ∷ p) (false ∷ q) (true ∷ r) h k = cc
begins_chain (true ∷ p) (true ∷ q) (false ∷ r) h k = cc

-- Two that begin the same bits: the shorter one begins the longer one.
pub begins_both : (p q r : List Bool) → begins p r ≡ true → begins q r ≡ true → length p ≤ length q → begins p q ≡ true
begins_both [] q r h k le = refl
begins_both (b ∷ p) [] r h k le = absurd (omega (arith, le))
begins_both (b ∷ p) (c ∷ q) [] h k le = cc
begins_both (false ∷ p) (false ∷ q) (false ∷ r) h k le = begins_both p q r h k (omega (arith, le))
begins_both (true ∷ p) (true ∷ q) (true ∷ r) h k le = begins_both p q r h k (omega (arith, le))
begins_both (false ∷ p) (true ∷ q) (false ∷ r) h k le = cc
begins_both (false ∷ p) (true ∷ q) (true ∷ r) h k le = cc
begins_both (true ∷ p) (false ∷ q) (false ∷ r) h k le = cc
begins_both (true ∷ p) (false ∷ q) (true ∷ r) h k le = cc
begins_both (false ∷ p) (false ∷ q) (true ∷ r) h k le = cc
begins_both (true ∷ p) (true ∷ q) (false ∷ r) h k le = cc

pub shared_left : (xs ys : List Bool) → begins (shared xs ys) xs ≡ true
shared_left [] ys = refl
shared_left (x ∷ xs) [] = refl
shared_left (false ∷ xs) (false ∷ ys) = shared_left xs ys
shared_left (true ∷ xs) (true ∷ ys) = shared_left xs ys
shared_left (false ∷ xs) (true ∷ ys) = refl
shared_left (true ∷ xs) (false ∷ ys) = refl

pub shared_right : (xs ys : List Bool) → begins (shared xs ys) ys ≡ true
shared_right [] ys = refl
shared_right (x ∷ xs) [] = refl
shared_right (false ∷ xs) (false ∷ ys) = shared_right xs ys
shared_right (true ∷ xs) (true ∷ ys) = shared_right xs ys
shared_right (false ∷ xs) (true ∷ ys) = refl
shared_right (true ∷ xs) (false ∷ ys) = refl

-- What begins both, begins what they share.
pub shared_most : (p xs ys : List Bool) → begins p xs ≡ true → begins p ys ≡ true → begins p (shared xs ys) ≡ true
shared_most [] xs ys h k = refl
shared_most (b ∷ p) [] ys h k = cc
shared_most (b ∷ p) (x ∷ xs) [] h k = cc
shared_most (false ∷ p) (false ∷ xs) (false ∷ ys) h k = shared_most p xs ys h k
shared_most (true ∷ p) (true ∷ xs) (true ∷ ys) h k = shared_most p xs ys h k
shared_most (false ∷ p) (true ∷ xs) (y ∷ ys) h k = cc
shared_most (true ∷ p) (false ∷ xs) (y ∷ ys) h k = cc
shared_most (false ∷ p) (false ∷ xs) (true ∷ ys) h k = cc
shared_most (true ∷ p) (true ∷ xs) (false ∷ ys) h k = cc

-- The first list goes on with one bit after what is shared, and the second with the other.
abbrev pub Differ : List Bool → List Bool → List Bool → Type 0
Differ p xs ys = (b : Bool) × (begins (p ++ b ∷ []) xs ≡ true) × (begins (p ++ not b ∷ []) ys ≡ true)

differ_more : (c : Bool) (p xs ys : List Bool) → Differ p xs ys → Differ (c ∷ p) (c ∷ xs) (c ∷ ys)
differ_more true p xs ys d = d
differ_more false p xs ys d = d

pub shared_differ : (xs ys : List Bool) → length (shared xs ys) < length xs → length (shared xs ys) < length ys → Differ (shared xs ys) xs ys
shared_differ [] ys l k = absurd (omega (arith, l))
shared_differ (x ∷ xs) [] l k = absurd (omega (arith, k))
shared_differ (false ∷ xs) (false ∷ ys) l k = differ_more false (shared xs ys) xs ys (shared_differ xs ys (omega (arith, l)) (omega (arith, k)))
shared_differ (true ∷ xs) (true ∷ ys) l k = differ_more true (shared xs ys) xs ys (shared_differ xs ys (omega (arith, l)) (omega (arith, k)))
shared_differ (false ∷ xs) (true ∷ ys) l k = (false, refl, refl)
shared_differ (true ∷ xs) (false ∷ ys) l k = (true, refl, refl)
