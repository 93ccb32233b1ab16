-- What a field knows of its cards by their numbers, through presentations, commands and closings.
use Rattle.std.proofs.Common.{◌≡◌, ◌≢◌, ℕ, zero, suc, Bool, true, List, [], ◌∷◌, ◌++◌, refl, sym, ap, ◌∙◌, subst}
use Rattle.std.proofs.lemmas.Bool.{and_parts}
use Rattle.ep_base.specs.declared.air.CardKind.{CardKind}
use Rattle.ep_base.specs.Air.Heard.{Activated, RoundEnd, Empty, Collision, Unsupported, Broken, Found}
use Rattle.ep_base.specs.Cards.CardAnswer.{Image, deselected}
use Rattle.ep_base.specs.Cards.Images.{stored}
use Rattle.ep_base.specs.Cards.Direct.{image_rules}
use Rattle.ep_rules.specs.EntryPoint.Perfect.{Channel, presents}
use Rattle.ep_base.specs.Cards.Field.{Outside, OfA, OfB, outside_reset, Placed}
use Rattle.ep_base.specs.Cards.Inside.{is_out}
use Rattle.ep_base.specs.Cards.Lawful.{kind_of, id_of, names, Face, faces, reset_faces}
use Rattle.ep_base.specs.Cards.LinkedField.{linked_at, party_at, without}
use Rattle.law_radio.proofs.Stored.{stored_at, stored_other}
use Rattle.ep_base.specs.Cards.Numbers.{numbers, IsOther, AreDistinct, AreNumbered, HaveImages}

-- ---- the first of a list, and the others

abbrev first : {X : Type 0} → X → List X → X
first x [] = x
first x (y ∷ ys) = y

abbrev others : {X : Type 0} → List X → List X
others [] = []
others (y ∷ ys) = ys

same_first : {X : Type 0} (x y : X) (xs ys : List X) → x ∷ xs ≡ y ∷ ys → x ≡ y
same_first x y xs ys e = ap (λ l. first x l) e

same_others : {X : Type 0} (x y : X) (xs ys : List X) → x ∷ xs ≡ y ∷ ys → xs ≡ ys
same_others x y xs ys e = ap (λ l. others l) e

-- ---- names and numbers by faces

abbrev name_in : Outside → CardKind × List ℕ
name_in o = (kind_of o, id_of o)

abbrev face_names : List Face → List (CardKind × List ℕ)
face_names [] = []
face_names (f ∷ fs) = name_in f.plan ∷ face_names fs

abbrev face_numbers : List Face → List ℕ
face_numbers [] = []
face_numbers (f ∷ fs) = f.image.number ∷ face_numbers fs

name_reset : (o : Outside) → name_in o ≡ name_in (outside_reset o)
name_reset (OfA plan state) = refl
name_reset (OfB plan state) = refl

names_reset : (ps : List Placed) → names ps ≡ face_names (reset_faces ps)
names_reset [] = refl
names_reset (p ∷ ps) =
    ap (λ n. n ∷ names ps) (name_reset p.outside) ∙ ap (λ ns. name_in (outside_reset p.outside) ∷ ns) (names_reset ps)

numbers_reset : (ps : List Placed) → numbers ps ≡ face_numbers (reset_faces ps)
numbers_reset [] = refl
numbers_reset (p ∷ ps) = ap (λ ns. p.party.image.number ∷ ns) (numbers_reset ps)

numbers_faces : (ps : List Placed) → numbers ps ≡ face_numbers (faces ps)
numbers_faces [] = refl
numbers_faces (p ∷ ps) = ap (λ ns. p.party.image.number ∷ ns) (numbers_faces ps)

pub names_polled : (s t : List Placed) → reset_faces t ≡ reset_faces s → names t ≡ names s
names_polled s t e = names_reset t ∙ (ap (λ l. face_names l) e ∙ sym (names_reset s))

pub numbers_polled : (s t : List Placed) → reset_faces t ≡ reset_faces s → numbers t ≡ numbers s
numbers_polled s t e = numbers_reset t ∙ (ap (λ l. face_numbers l) e ∙ sym (numbers_reset s))

pub numbers_moved : (kind kind2 : CardKind) (gone gone2 : Bool) (n : ℕ) (ps qs : List Placed) → linked_at kind gone n ps ≡ true → linked_at kind2 gone2 n qs ≡ true
    → faces (without n qs) ≡ faces (without n ps) → (party_at n qs).image.number ≡ (party_at n ps).image.number → numbers qs ≡ numbers ps
numbers_moved kind kind2 gone gone2 n [] qs a b e same = absurd (let g : ⊥ = cc in g)
numbers_moved kind kind2 gone gone2 n (p ∷ ps) [] a b e same = absurd (let g : ⊥ = cc in g)
numbers_moved kind kind2 gone gone2 zero (p ∷ ps) (q ∷ qs) a b e same =
    ap (λ k. k ∷ numbers qs) same ∙ ap (λ ns. p.party.image.number ∷ ns) (numbers_faces qs ∙ (ap (λ l. face_numbers l) e ∙ sym (numbers_faces ps)))
numbers_moved kind kind2 gone gone2 (suc n) (p ∷ ps) (q ∷ qs) a b e same =
    let head : q.party.image.number ≡ p.party.image.number = ap (λ l. first 0 (face_numbers l)) e in
    let rest : faces (without n qs) ≡ faces (without n ps) = ap (λ l. others l) e in
    ap (λ k. k ∷ numbers qs) head
    ∙ ap (λ ns. p.party.image.number ∷ ns) (numbers_moved kind kind2 gone gone2 n ps qs
    (and_parts (is_out p.outside) (linked_at kind gone n ps) a).1 (and_parts (is_out q.outside) (linked_at kind2 gone2 n qs) b).1 rest same)

pub numbered_again : (number_of : Activated → ℕ) (ps qs : List Placed) → names qs ≡ names ps → numbers qs ≡ numbers ps → AreNumbered number_of ps → AreNumbered number_of qs
numbered_again number_of ps [] e f x = tt
numbered_again number_of [] (q ∷ qs) e f x = absurd (let g : ⊥ = cc in g)
numbered_again number_of (p ∷ ps) (q ∷ qs) e f x =
    let name : name_in q.outside ≡ name_in p.outside = same_first (name_in q.outside) (name_in p.outside) (names qs) (names ps) e in
    let kind : kind_of q.outside ≡ kind_of p.outside = ap (λ (n : CardKind × List ℕ). n.0) name in
    let id : id_of q.outside ≡ id_of p.outside = ap (λ (n : CardKind × List ℕ). n.1) name in
    let number : q.party.image.number ≡ p.party.image.number = same_first q.party.image.number p.party.image.number (numbers qs) (numbers ps) f in (
      λ card k i. x.0 card (k ∙ kind) (i ∙ id) ∙ sym number,
      numbered_again number_of ps qs
          (same_others (name_in q.outside) (name_in p.outside) (names qs) (names ps) e)
          (same_others q.party.image.number p.party.image.number (numbers qs) (numbers ps) f) x.1,
    )

-- the number that is found is the one of the card
pub found_number : (number_of : Activated → ℕ) (card : Activated) (before : List Placed) (one : Placed) (after : List Placed) → AreNumbered number_of (before ++ one ∷ after)
    → kind_of one.outside ≡ card.kind → id_of one.outside ≡ card.id → number_of card ≡ one.party.image.number
found_number number_of card [] one after x kind id = x.0 card (sym kind) (sym id)
found_number number_of card (p ∷ before) one after x kind id = found_number number_of card before one after x.1 kind id

-- ---- images, but for the selected applications

abbrev pub AllImages : (ℕ → Image) → List Face → Type 0
AllImages images [] = Unit {0}
AllImages images (f ∷ fs) = (deselected (images f.image.number) ≡ deselected f.image) × AllImages images fs

pub have_all : (images : ℕ → Image) (ps : List Placed) → HaveImages images ps → AllImages images (faces ps)
have_all images [] x = tt
have_all images (p ∷ ps) x = (ap deselected x.0, have_all images ps x.1)

to_reset : (images : ℕ → Image) (ps : List Placed) → AllImages images (faces ps) → AllImages images (reset_faces ps)
to_reset images [] x = tt
to_reset images (p ∷ ps) x = (x.0, to_reset images ps x.1)

from_reset : (images : ℕ → Image) (ps : List Placed) → AllImages images (reset_faces ps) → AllImages images (faces ps)
from_reset images [] x = tt
from_reset images (p ∷ ps) x = (x.0, from_reset images ps x.1)

pub images_polled : (images : ℕ → Image) (s t : List Placed) → reset_faces t ≡ reset_faces s → AllImages images (faces s) → AllImages images (faces t)
images_polled images s t e x = from_reset images t (subst (λ l. AllImages images l) (sym e) (to_reset images s x))

cleared : (images : ℕ → Image) (fs : List Face) → AllImages images fs → AllImages (λ k. deselected (images k)) fs
cleared images [] x = tt
cleared images (f ∷ fs) x = (x.0, cleared images fs x.1)

pub images_presented : (number_of : Activated → ℕ) (ch : Channel Image) (e : RoundEnd) (fs : List Face) → AllImages ch.images fs → AllImages (presents (image_rules number_of) ch e).images fs
images_presented number_of ch Empty fs x = x
images_presented number_of ch Collision fs x = x
images_presented number_of ch Unsupported fs x = x
images_presented number_of ch Broken fs x = x
images_presented number_of ch (Found card) fs x = cleared ch.images fs x

other_images : (k : ℕ) (a : Image) (images : ℕ → Image) (fs : List Face) → IsOther k (face_numbers fs) → AllImages images fs → AllImages (stored k a images) fs
other_images k a images [] d x = tt
other_images k a images (f ∷ fs) d x = (ap deselected (stored_other k a images f.image.number d.0) ∙ x.0, other_images k a images fs d.1 x.1)

-- the card at a place has the number of none of those before it
other_at : (kind : CardKind) (gone : Bool) (n k : ℕ) (ps : List Placed) → linked_at kind gone n ps ≡ true → IsOther k (numbers ps) → (party_at n ps).image.number ≢ k
other_at kind gone n k [] a d = absurd (let g : ⊥ = cc in g)
other_at kind gone zero k (p ∷ ps) a d = d.0
other_at kind gone (suc n) k (p ∷ ps) a d = other_at kind gone n k ps (and_parts (is_out p.outside) (linked_at kind gone n ps) a).1 d.1

stored_here : (k : ℕ) (a i : Image) (images : ℕ → Image) → i ≡ a → a.number ≡ k → deselected (stored k a images i.number) ≡ deselected i
stored_here k a i images e number =
    subst (λ (j : Image). deselected (stored k a images j.number) ≡ deselected j) (sym e)
    (ap deselected (ap (λ j. stored k a images j) number ∙ stored_at k a images))

pub images_moved : (kind kind2 : CardKind) (gone gone2 : Bool) (k : ℕ) (a : Image) (images : ℕ → Image) (n : ℕ) (ps qs : List Placed) → linked_at kind gone n ps ≡ true → linked_at kind2 gone2 n qs ≡ true
    → faces (without n qs) ≡ faces (without n ps) → (party_at n ps).image.number ≡ k → a.number ≡ k → (party_at n qs).image ≡ a → AreDistinct (numbers ps)
    → AllImages images (faces ps) → AllImages (stored k a images) (faces qs)
images_moved kind kind2 gone gone2 k a images n [] qs l m e here number is d x = absurd (let g : ⊥ = cc in g)
images_moved kind kind2 gone gone2 k a images n (p ∷ ps) [] l m e here number is d x = absurd (let g : ⊥ = cc in g)
images_moved kind kind2 gone gone2 k a images zero (p ∷ ps) (q ∷ qs) l m e here number is d x =
    let apart : IsOther k (face_numbers (faces ps)) = subst (λ ns. IsOther k ns) (numbers_faces ps) (subst (λ j. IsOther j (numbers ps)) here d.0) in
    (stored_here k a q.party.image images is number, subst (λ fs. AllImages (stored k a images) fs) (sym e) (other_images k a images (faces ps) apart x.1))
images_moved kind kind2 gone gone2 k a images (suc n) (p ∷ ps) (q ∷ qs) l m e here number is d x =
    let lp = (and_parts (is_out p.outside) (linked_at kind gone n ps) l).1 in
    let lq = (and_parts (is_out q.outside) (linked_at kind2 gone2 n qs) m).1 in
    let other : (party_at n ps).image.number ≢ p.party.image.number = other_at kind gone n p.party.image.number ps lp d.0 in
    let differs : p.party.image.number ≢ k = λ same. other (here ∙ sym same) in
    let face : Face = record { plan = outside_reset p.outside; kind = p.party.kind; image = p.party.image } in
    let image : q.party.image ≡ p.party.image = ap (λ l. (first face l).image) e in
    let rest : faces (without n qs) ≡ faces (without n ps) = ap (λ l. others l) e in
    let head : deselected (stored k a images p.party.image.number) ≡ deselected p.party.image = ap deselected (stored_other k a images p.party.image.number differs) ∙ x.0 in (
      subst (λ (i : Image). deselected (stored k a images i.number) ≡ deselected i) (sym image) head,
      images_moved kind kind2 gone gone2 k a images n ps qs lp lq rest here number is d.1 x.1,
    )

-- nothing moved but the ends of the link
pub images_stay : (images : ℕ → Image) (kind kind2 : CardKind) (gone gone2 : Bool) (n : ℕ) (ps qs : List Placed) → linked_at kind gone n ps ≡ true → linked_at kind2 gone2 n qs ≡ true
    → faces (without n qs) ≡ faces (without n ps) → (party_at n qs).image ≡ (party_at n ps).image → AllImages images (faces ps) → AllImages images (faces qs)
images_stay images kind kind2 gone gone2 n [] qs l m e is x = absurd (let g : ⊥ = cc in g)
images_stay images kind kind2 gone gone2 n (p ∷ ps) [] l m e is x = absurd (let g : ⊥ = cc in g)
images_stay images kind kind2 gone gone2 zero (p ∷ ps) (q ∷ qs) l m e is x =
    (subst (λ (i : Image). deselected (images i.number) ≡ deselected i) (sym is) x.0, subst (λ fs. AllImages images fs) (sym e) x.1)
images_stay images kind kind2 gone gone2 (suc n) (p ∷ ps) (q ∷ qs) l m e is x =
    let face : Face = record { plan = outside_reset p.outside; kind = p.party.kind; image = p.party.image } in
    let image : q.party.image ≡ p.party.image = ap (λ l. (first face l).image) e in
    let rest : faces (without n qs) ≡ faces (without n ps) = ap (λ l. others l) e in (
      subst (λ (i : Image). deselected (images i.number) ≡ deselected i) (sym image) x.0,
      images_stay images kind kind2 gone gone2 n ps qs (and_parts (is_out p.outside) (linked_at kind gone n ps) l).1 (and_parts (is_out q.outside) (linked_at kind2 gone2 n qs) m).1 rest is x.1,
    )

pub image_at : (images : ℕ → Image) (kind : CardKind) (gone : Bool) (n : ℕ) (ps : List Placed) → linked_at kind gone n ps ≡ true → AllImages images (faces ps)
    → deselected (images (party_at n ps).image.number) ≡ deselected (party_at n ps).image
image_at images kind gone n [] l x = absurd (let g : ⊥ = cc in g)
image_at images kind gone zero (p ∷ ps) l x = x.0
image_at images kind gone (suc n) (p ∷ ps) l x = image_at images kind gone n ps (and_parts (is_out p.outside) (linked_at kind gone n ps) l).1 x.1

-- after a reset no application is selected
pub none_selected : (kind : CardKind) (gone : Bool) (n : ℕ) (ps qs : List Placed) → linked_at kind gone n qs ≡ true → faces qs ≡ reset_faces ps
    → deselected (party_at n qs).image ≡ (party_at n qs).image
none_selected kind gone n ps [] l e = absurd (let g : ⊥ = cc in g)
none_selected kind gone n [] (q ∷ qs) l e = absurd (let g : ⊥ = cc in g)
none_selected kind gone zero (p ∷ ps) (q ∷ qs) l e =
    let face : Face = record { plan = outside_reset p.outside; kind = p.party.kind; image = p.party.image } in
    let image : q.party.image ≡ deselected p.party.image = ap (λ l. (first face l).image) e in
    subst (λ (i : Image). deselected i ≡ i) (sym image) refl
none_selected kind gone (suc n) (p ∷ ps) (q ∷ qs) l e =
    none_selected kind gone n ps qs (and_parts (is_out q.outside) (linked_at kind gone n qs) l).1 (ap (λ l. others l) e)
