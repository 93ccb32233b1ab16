-- The way through the templates to the entries.
use Rattle.std.proofs.Common.{◌≡◌, ◌≢◌, ℕ, suc, ◌+◌, ◌≤◌, inl, inr, List, [], ◌++◌, length, Option, Some, None, refl, sym, ap, subst, ◌∙◌, arith, eqb}
use Rattle.std.specs.Prelude.{IfSome}
use Rattle.std.specs.Option.{option_map}
use Rattle.std.proofs.lemmas.Bool.{eq-eqb, ne_eqb, cases_Bool}
use Rattle.std.proofs.lemmas.List.{length-append}
use Rattle.ep_base.specs.Objects.Forest.{Forest, nothing, padding, primitive, constructed, spelling, IsForest, tag_number}
use Rattle.ep_base.specs.Objects.Reading.{forest_of}
use Rattle.ep_base.specs.Cards.Apdu.{data_of, status_of}
use Rattle.ep_base.specs.Objects.Directory.{first_inside, inside, entries_of, entries_read, directory}
use Rattle.ppse.specs.Listing.{listed}
use Rattle.ppse.specs.Room.{entries_cost}
use Rattle.ppse.proofs.Nodes.{Again, shallower}
use Rattle.ppse.proofs.Costs.{entries_within}

-- a list of objects in at most n bytes
abbrev pub Fits : ℕ → Option Forest → Type 0
Fits n None = Unit {0}
Fits n (Some f) = IsForest 0 f × (length (spelling f) ≤ n)

fits_more : (m n : ℕ) (o : Option Forest) → m ≤ n → Fits m o → Fits n o
fits_more m n None le h = tt
fits_more m n (Some f) le h = (h.0, omega (arith, h.1))

first_fits : (tag : ℕ) (f : Forest) → IsForest 0 f → Fits (length (spelling f)) (first_inside tag f)
first_fits tag nothing is = tt
first_fits tag (padding rest) is = fits_more (length (spelling rest)) (suc (length (spelling rest))) (first_inside tag rest) (omega arith) (first_fits tag rest is)
first_fits tag (primitive t len value rest) is =
    let all : length (t ++ (len ++ (value ++ spelling rest))) ≡ length t + (length len + (length value + length (spelling rest))) = simp length-append in
    fits_more (length (spelling rest)) (length (t ++ (len ++ (value ++ spelling rest)))) (first_inside tag rest) (omega (arith, all)) (first_fits tag rest is.3)
first_fits tag (constructed t len inner rest) is =
    let all : length (t ++ (len ++ (spelling inner ++ spelling rest))) ≡ length t + (length len + (length (spelling inner) + length (spelling rest))) = simp length-append in
    elim (cases_Bool (eqb (tag_number t) tag)) [
      | inl e ↦ rw e (shallower inner 1 0 (omega arith) is.3, omega (arith, all))
      | inr e ↦ rw e (fits_more (length (spelling rest)) (length (t ++ (len ++ (spelling inner ++ spelling rest)))) (first_inside tag rest) (omega (arith, all)) (first_fits tag rest is.4))
    ]

inside_fits : (tag n : ℕ) (o : Option Forest) → Fits n o → Fits n (inside tag o)
inside_fits tag n None h = tt
inside_fits tag n (Some f) h = fits_more (length (spelling f)) n (first_inside tag f) h.1 (first_fits tag f h.0)

abbrev pub Only : Type 0
Only = (bytes : List ℕ) (f : Forest) → forest_of bytes ≡ Some f → IsForest 0 f × (bytes ≡ spelling f)

fits_so : Only → (bytes : List ℕ) (o : Option Forest) → forest_of bytes ≡ o → Fits (length bytes) o
fits_so only bytes None e = tt
fits_so only bytes (Some f) e = let so = only bytes f e in (so.0, omega (arith, ap length so.1))

pub data_fit : Only → (bytes : List ℕ) (n : ℕ) → length bytes ≤ n → Fits n (forest_of bytes)
data_fit only bytes n le = fits_more (length bytes) n (forest_of bytes) le (fits_so only bytes (forest_of bytes) refl)

pub all_fit : Only → (bytes : List ℕ) → Fits (length bytes) (forest_of bytes)
all_fit only bytes = fits_so only bytes (forest_of bytes) refl

-- a template's value is read as what stands in it
again_so : Again → (n : ℕ) (o : Option Forest) (v : List ℕ) → Fits n o → Some v ≡ option_map spelling o → forest_of v ≡ o
again_so again n None v h e = absurd cc
again_so again n (Some f) v h e = let same : v ≡ spelling f = cc in ap forest_of same ∙ again f h.0

none_so : (o : Option Forest) → None ≡ option_map spelling o → o ≡ None
none_so None e = refl
none_so (Some f) e = absurd cc

path : (o : Option Forest) → entries_read o ≡ entries_of (inside 0xbf0c (inside 0xa5 (inside 0x6f o)))
path None = refl
path (Some f) = refl

pub no_template : (o : Option Forest) → None ≡ option_map spelling (inside 0x6f o) → entries_read o ≡ []
no_template o e = path o ∙ ap (λ (x : Option Forest). entries_of (inside 0xbf0c (inside 0xa5 x))) (none_so (inside 0x6f o) e)

pub no_proprietary : Again → (n : ℕ) (o : Option Forest) (v : List ℕ) → Fits n o → Some v ≡ option_map spelling (inside 0x6f o)
    → None ≡ option_map spelling (inside 0xa5 (forest_of v)) → entries_read o ≡ []
no_proprietary again n o v h e f =
    let v_is = again_so again n (inside 0x6f o) v (inside_fits 0x6f n o h) e in
    path o ∙ ap (λ (x : Option Forest). entries_of (inside 0xbf0c (inside 0xa5 x))) (sym v_is) ∙ ap (λ (x : Option Forest). entries_of (inside 0xbf0c x)) (none_so (inside 0xa5 (forest_of v)) f)

listed_so : Again → (n : ℕ) (o : Option Forest) → Fits n o → listed (option_map spelling o) ≡ entries_of o
listed_so again n None h = refl
listed_so again n (Some f) h = ap entries_of (again f h.0)

within_so : (n : ℕ) (o : Option Forest) → Fits n o → IfSome (option_map spelling o) (λ v. length v ≤ n)
within_so n None h = tt
within_so n (Some f) h = h.1

pub to_entries : Again → (n : ℕ) (o : Option Forest) (v w : List ℕ) (r : Option (List ℕ)) → Fits n o → Some v ≡ option_map spelling (inside 0x6f o)
    → Some w ≡ option_map spelling (inside 0xa5 (forest_of v)) → r ≡ option_map spelling (inside 0xbf0c (forest_of w)) → (entries_read o ≡ listed r) × IfSome r (λ x. length x ≤ n)
to_entries again n o v w r h e f g =
    let one = inside_fits 0x6f n o h in
    let v_is = again_so again n (inside 0x6f o) v one e in
    let two : Fits n (inside 0xa5 (forest_of v)) = inside_fits 0xa5 n (forest_of v) (subst (Fits n) (sym v_is) one) in
    let w_is = again_so again n (inside 0xa5 (forest_of v)) w two f in
    let three : Fits n (inside 0xbf0c (forest_of w)) = inside_fits 0xbf0c n (forest_of w) (subst (Fits n) (sym w_is) two) in
    let here : entries_read o ≡ entries_of (inside 0xbf0c (forest_of w)) =
    path o ∙ ap (λ (x : Option Forest). entries_of (inside 0xbf0c (inside 0xa5 x))) (sym v_is) ∙ ap (λ (x : Option Forest). entries_of (inside 0xbf0c x)) (sym w_is) in
    (here ∙ sym (listed_so again n (inside 0xbf0c (forest_of w)) three) ∙ ap listed (sym g), subst (λ (x : Option (List ℕ)). IfSome x (λ y. length y ≤ n)) (sym g) (within_so n (inside 0xbf0c (forest_of w)) three))

pub cost_so : (n : ℕ) (o : Option Forest) → Fits n o → entries_cost (entries_of o) ≤ n
cost_so n None h = omega arith
cost_so n (Some f) h = omega (arith, entries_within f 0 h.0, h.1)

-- THE RESPONSE

pub directory_not : (r : List ℕ) → status_of r ≢ 0x9000 → directory r ≡ []
unfolding directory
directory_not r ne = rw (ne_eqb (status_of r) 0x9000 ne) refl

pub directory_is : (r : List ℕ) → status_of r ≡ 0x9000 → directory r ≡ entries_read (forest_of (data_of r))
unfolding directory
directory_is r e = rw (eq-eqb (status_of r) 0x9000 e) refl

pub IfSome-map : {A : Type 0} (f : A → List ℕ) (n : ℕ) (r : Option A) → IfSome (option_map f r) (λ x. length x ≤ n) → IfSome r (λ v. length (f v) ≤ n)
IfSome-map f n None h = tt
IfSome-map f n (Some v) h = h
