-- Cards of a list.
use Rattle.std.proofs.Common.{◌≡◌, ◌≢◌, ℕ, zero, suc, ◌<◌, ◌≤◌, Bool, true, false, not, List, [], ◌∷◌, ◌++◌, length, map, refl, sym, ap, ◌∙◌, arith, ◌⊎◌, inl, inr, subst, if◌then◌else◌}
use Rattle.std.specs.Prelude.{All}
use Rattle.std.specs.List.{filter}
use Rattle.std.proofs.lemmas.List.Elements.{All-head, All-tail}
use Rattle.inventory.specs.Bits.{bits_of, begins, shared}
use Rattle.inventory.specs.Tags.{Tag, AreApart, spelled}
use Rattle.inventory.specs.Told.{agreed}
use Rattle.inventory.proofs.Beginnings.{Differ, begins_self, begins_chain, begins_length, shared_left, shared_right, shared_most, shared_differ, begins_whole}
use Rattle.inventory.proofs.Ordering.{Agree, same_filter, Longer}

-- A card is one of the list.
abbrev pub In : Tag → List Tag → Type 0
In t [] = ⊥
In t (u ∷ us) = (t ≡ u) ⊎ In t us

pub all_in : (P : Tag → Type 0) (ts : List Tag) → All P ts → (t : Tag) → In t ts → P t
all_in P [] all t i = absurd i
all_in P (u ∷ us) all t (inl e) = subst P (sym e) (All-head P u us all)
all_in P (u ∷ us) all t (inr i) = all_in P us (All-tail P u us all) t i

keep_in : (b : Bool) (t u : Tag) (us : List Tag) → (t ≡ u → b ≡ true) → (t ≡ u) ⊎ In t us → In t (if b then u ∷ us else us)
keep_in true t u us h i = i
keep_in false t u us h (inl e) = let k : false ≡ true = h e in cc
keep_in false t u us h (inr i) = i

in_step : (t u : Tag) (us fs : List Tag) → (In t us → In t fs) → (t ≡ u) ⊎ In t us → (t ≡ u) ⊎ In t fs
in_step t u us fs f (inl e) = inl e
in_step t u us fs f (inr i) = inr (f i)

-- What is in a list and passes a test is in the filtered list.
pub in_filter : (test : Tag → Bool) (ts : List Tag) (t : Tag) → In t ts → test t ≡ true → In t (filter test ts)
in_filter test [] t i h = absurd i
in_filter test (u ∷ us) t i h = keep_in (test u) t u (filter test us) (λ e. ap test (sym e) ∙ h) (in_step t u us (filter test us) (λ j. in_filter test us t j h) i)

-- What is in the filtered list is in the list and passes the test.
filter_in_at : (b : Bool) (test : Tag → Bool) (t u : Tag) (us fs : List Tag) → test u ≡ b → (In t fs → In t us × (test t ≡ true)) → In t (if b then u ∷ fs else fs)
    → ((t ≡ u) ⊎ In t us) × (test t ≡ true)
filter_in_at true test t u us fs h f (inl e) = (inl e, ap test e ∙ h)
filter_in_at true test t u us fs h f (inr i) = let p = f i in (inr p.0, p.1)
filter_in_at false test t u us fs h f i = let p = f i in (inr p.0, p.1)

pub filter_in : (test : Tag → Bool) (ts : List Tag) (t : Tag) → In t (filter test ts) → In t ts × (test t ≡ true)
filter_in test [] t i = absurd i
filter_in test (u ∷ us) t i = filter_in_at (test u) test t u us (filter test us) refl (filter_in test us t) i

agree_of : (test other : Tag → Bool) (ts : List Tag) → ((t : Tag) → In t ts → test t ≡ other t) → Agree test other ts
agree_of test other [] f = tt
agree_of test other (t ∷ ts) f = (f t (inl refl), agree_of test other ts (λ u i. f u (inr i)))

-- Tests that agree on the cards of a list keep the same ones.
pub filter_same : (test other : Tag → Bool) (ts : List Tag) → ((t : Tag) → In t ts → test t ≡ other t) → filter test ts ≡ filter other ts
filter_same test other ts f = same_filter test other ts (agree_of test other ts f)

pub longer_of : (p : List Bool) (ts : List Tag) → ((t : Tag) → In t ts → begins p (spelled t.uid) ≡ true → length p < length (spelled t.uid)) → Longer p ts
longer_of p [] f = tt
longer_of p (t ∷ ts) f = (f t (inl refl), longer_of p ts (λ u i. f u (inr i)))

-- Two truths that follow from each other are one.
pub same_truth : (a b : Bool) → (a ≡ true → b ≡ true) → (b ≡ true → a ≡ true) → a ≡ b
same_truth true b f g = sym (f refl)
same_truth false true f g = g refl
same_truth false false f g = refl

none_left_at : (b : Bool) (test : Tag → Bool) (t : Tag) (fs : List Tag) → test t ≡ b → (test t ≡ true → ⊥) → fs ≡ [] → (if b then t ∷ fs else fs) ≡ []
none_left_at true test t fs h never e = absurd (never h)
none_left_at false test t fs h never e = e

none_left : (test : Tag → Bool) (ts : List Tag) → ((t : Tag) → In t ts → test t ≡ true → ⊥) → filter test ts ≡ []
none_left test [] never = refl
none_left test (t ∷ ts) never = none_left_at (test t) test t (filter test ts) refl (never t (inl refl)) (none_left test ts (λ u i. never u (inr i)))

only_at : (b : Bool) (test : Tag → Bool) (u : Tag) (us : List Tag) (x : List ℕ) (t : Tag) → test u ≡ b → AreApart (u ∷ us)
    → ((v : Tag) → In v (u ∷ us) → test v ≡ true → v.uid ≡ x) → In t (u ∷ us) → test t ≡ true
    → (In t us → filter test us ≡ t ∷ []) → (if b then u ∷ filter test us else filter test us) ≡ t ∷ []
only_at true test u us x t h apart one (inl e) k rest =
    let none : filter test us ≡ [] = none_left test us (λ v i j. all_in (λ w. w.uid ≢ u.uid) us apart.0 v i (one v (inr i) j ∙ sym (one u (inl refl) h))) in
    rw (none, e) refl
only_at true test u us x t h apart one (inr i) k rest = absurd (all_in (λ w. w.uid ≢ u.uid) us apart.0 t i (one t (inr i) k ∙ sym (one u (inl refl) h)))
only_at false test u us x t h apart one (inl e) k rest = let c : test u ≡ true = ap test (sym e) ∙ k in cc
only_at false test u us x t h apart one (inr i) k rest = rest i

-- Of cards that are apart, those that all have one UID are one.
pub only : (test : Tag → Bool) (ts : List Tag) (x : List ℕ) (t : Tag) → AreApart ts → ((v : Tag) → In v ts → test v ≡ true → v.uid ≡ x) → In t ts → test t ≡ true
    → filter test ts ≡ t ∷ []
only test [] x t apart one i k = absurd i
only test (u ∷ us) x t apart one i k = only_at (test u) test u us x t refl apart one i k (λ j. only test us x t apart.1 (λ v m. one v (inr m)) j k)

-- What values agree in begins the first bits.
pub agreed_first : (f : Tag → List ℕ) (common : List Bool) (us : List Tag) → begins (agreed common (map f us)) common ≡ true
agreed_first f common [] = begins_self common
agreed_first f common (u ∷ us) = begins_chain _ (shared common (bits_of (f u))) common (agreed_first f (shared common (bits_of (f u))) us) (shared_left common (bits_of (f u)))

-- What values agree in begins each of them.
pub agreed_each : (f : Tag → List ℕ) (common : List Bool) (us : List Tag) (t : Tag) → In t us → begins (agreed common (map f us)) (bits_of (f t)) ≡ true
agreed_each f common [] t i = absurd i
agreed_each f common (u ∷ us) t (inl e) =
    subst (λ (v : Tag). begins (agreed (shared common (bits_of (f u))) (map f us)) (bits_of (f v)) ≡ true) (sym e)
    (begins_chain _ (shared common (bits_of (f u))) (bits_of (f u)) (agreed_first f (shared common (bits_of (f u))) us) (shared_right common (bits_of (f u))))
agreed_each f common (u ∷ us) t (inr i) = agreed_each f (shared common (bits_of (f u))) us t i

-- What begins each of them begins what they agree in.
pub agreed_most : (p : List Bool) (f : Tag → List ℕ) (common : List Bool) (us : List Tag) → begins p common ≡ true
    → ((t : Tag) → In t us → begins p (bits_of (f t)) ≡ true) → begins p (agreed common (map f us)) ≡ true
agreed_most p f common [] h each = h
agreed_most p f common (u ∷ us) h each = agreed_most p f (shared common (bits_of (f u))) us (shared_most p common (bits_of (f u)) h (each u (inl refl))) (λ t i. each t (inr i))

-- The first bits go on with one bit after what values agree in, and one of them with the other.
pub record Parts (f : Tag → List ℕ) (n common : List Bool) (us : List Tag) : Type 0 where
  pub one : Bool
  pub tag : Tag
  pub there : In tag us
  pub first : begins (n ++ one ∷ []) common ≡ true
  pub second : begins (n ++ not one ∷ []) (bits_of (f tag)) ≡ true

parts_here : (f : Tag → List ℕ) (n common : List Bool) (u : Tag) (us : List Tag) → Differ n common (bits_of (f u)) → Parts f n common (u ∷ us)
parts_here f n common u us d = record { one = d.0; tag = u; there = inl refl; first = d.1; second = d.2 }

parts_later : (f : Tag → List ℕ) (n common : List Bool) (u : Tag) (us : List Tag) → Parts f n (shared common (bits_of (f u))) us → Parts f n common (u ∷ us)
parts_later f n common u us d = record {
  one = d.one;
  tag = d.tag;
  there = inr d.there;
  first = begins_chain _ (shared common (bits_of (f u))) common d.first (shared_left common (bits_of (f u)));
  second = d.second;
}

parts_step : (f : Tag → List ℕ) (n common : List Bool) (u : Tag) (us : List Tag) → length common ≤ 32 → length (bits_of (f u)) ≡ 32
    → (length common ≤ length (shared common (bits_of (f u)))) ⊎ (length (shared common (bits_of (f u))) < length common)
    → (n ≡ shared common (bits_of (f u))) ⊎ Parts f n (shared common (bits_of (f u))) us → (n ≡ common) ⊎ Parts f n common (u ∷ us)
parts_step f n common u us le l c (inr d) = inr (parts_later f n common u us d)
parts_step f n common u us le l (inl c) (inl e) = inl (e ∙ begins_whole (shared common (bits_of (f u))) common (shared_left common (bits_of (f u))) c)
parts_step f n common u us le l (inr c) (inl e) =
    inr (parts_here f n common u us (subst (λ (m : List Bool). Differ m common (bits_of (f u))) (sym e) (shared_differ common (bits_of (f u)) c (omega (arith, c, le, l)))))

le_or_lt : (m n : ℕ) → (m ≤ n) ⊎ (n < m)
le_or_lt zero n = inl (omega arith)
le_or_lt (suc m) zero = inr (omega arith)
le_or_lt (suc m) (suc n) = elim (le_or_lt m n) [
  | inl w ↦ inl (omega (arith, w))
  | inr w ↦ inr (omega (arith, w))
]

-- Values agree in all of the first bits, or two differ after what they agree in.
pub agreed_parts : (f : Tag → List ℕ) (common : List Bool) (us : List Tag) → length common ≤ 32 → ((t : Tag) → In t us → length (bits_of (f t)) ≡ 32)
    → (agreed common (map f us) ≡ common) ⊎ Parts f (agreed common (map f us)) common us
agreed_parts f common [] le each = inl refl
agreed_parts f common (u ∷ us) le each =
    parts_step f (agreed (shared common (bits_of (f u))) (map f us)) common u us le (each u (inl refl)) (le_or_lt (length common) (length (shared common (bits_of (f u)))))
    (agreed_parts f (shared common (bits_of (f u))) us (omega (arith, le, begins_length (shared common (bits_of (f u))) common (shared_left common (bits_of (f u))))) (λ t i. each t (inr i)))
