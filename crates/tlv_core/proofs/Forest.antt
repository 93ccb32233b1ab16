-- The list of objects that bytes spell, as a function, is the grammar.
use Rattle.std.proofs.Common.{◌≡◌, ℕ, zero, suc, ◌+◌, ◌<◌, ◌≤◌, Bool, true, false, not, ◌&&◌, inl, inr, List, [], ◌∷◌, ◌++◌, length, take, drop, Option, Some, None, refl, sym, ap, subst, ◌∙◌, arith, ltb}
use Rattle.std.specs.Prelude.{bit_and, IsSomeAnd}
use Rattle.std.proofs.lemmas.Bool.{eq-eqb, ne_eqb, lt-ltb, le-ltb, lt-leb, le-leb, cases_eq}
use Rattle.std.proofs.lemmas.List.{take_at, drop_at, length-append, length-take-le, take-append-drop}
use Rattle.ep_base.specs.declared.objects.Node.{Node}
use Rattle.ep_base.specs.declared.objects.TlvFault.{TlvFault}
use Rattle.ep_base.specs.declared.objects.TlvFault.TheVariants.{TagCut, TagLong, LengthCut, LengthForm, ValueCut, TooDeep}
use Rattle.ep_base.specs.Objects.Forest.{Forest, nothing, padding, primitive, constructed, spelling, IsForest, IsTag, is_constructed, IsLength, MayStand, IsCutTag, IsLongTag, IsCutLength, IsWrongLength, Fails, nodes, Reads, BreaksAt}
use Rattle.ep_base.specs.Objects.Reading.{tag_of, length_of, with_padding, with_primitive, with_constructed, with_length, with_tag, forest_by, forest_of}
use Rattle.tlv_core.proofs.Heads.{head_cases, Begins}
use Rattle.tlv_core.proofs.Runs.{nonzero_front, tag_long_enough}
use Rattle.tlv_core.proofs.Whole.{not_both}

-- TAGS AND LENGTHS

tag_read : (t more : List ℕ) → IsTag t → tag_of (t ++ more) ≡ Some (record { tag = t; rest = more })
tag_read [] more h = absurd h
tag_read (b ∷ []) more h = rw (ne_eqb (bit_and b 31) 31 h.1) refl
tag_read (b ∷ c ∷ []) more h = rw (eq-eqb (bit_and b 31) 31 h.0, lt-ltb c 128 h.1) refl
tag_read (b ∷ c ∷ d ∷ []) more h = rw (eq-eqb (bit_and b 31) 31 h.0, le-ltb c 128 h.1, lt-ltb d 128 h.2) refl
tag_read (b ∷ c ∷ d ∷ e ∷ rest) more h = absurd h

cut_tag_read : (t : List ℕ) → IsCutTag t → tag_of t ≡ None
cut_tag_read [] h = absurd h
cut_tag_read (b ∷ []) h = rw (eq-eqb (bit_and b 31) 31 h) refl
cut_tag_read (b ∷ c ∷ []) h = rw (eq-eqb (bit_and b 31) 31 h.0, le-ltb c 128 h.1) refl
cut_tag_read (b ∷ c ∷ d ∷ []) h = rw (eq-eqb (bit_and b 31) 31 h.0, le-ltb c 128 h.1, le-ltb d 128 h.2) refl
cut_tag_read (b ∷ c ∷ d ∷ e ∷ more) h = absurd h

long_tag_read : (t : List ℕ) → IsLongTag t → tag_of t ≡ None
long_tag_read [] h = absurd h
long_tag_read (b ∷ []) h = absurd h
long_tag_read (b ∷ c ∷ []) h = absurd h
long_tag_read (b ∷ c ∷ d ∷ []) h = absurd h
long_tag_read (b ∷ c ∷ d ∷ e ∷ more) h = rw (eq-eqb (bit_and b 31) 31 h.0, le-ltb c 128 h.1, le-ltb d 128 h.2) refl

length_read : (l more : List ℕ) (n : ℕ) → IsLength l n → length_of (l ++ more) ≡ Some (record { bytes = l; count = n; rest = more })
length_read [] more n h = absurd h
length_read (l ∷ []) more n h = rw (lt-ltb l 128 h.0, h.1) refl
length_read (l ∷ a ∷ []) more n h = rw (h.0, h.1) refl
length_read (l ∷ a ∷ b ∷ []) more n h = rw (h.0, h.1) refl
length_read (l ∷ a ∷ b ∷ c ∷ rest) more n h = absurd h

cut_length_read : (l : List ℕ) → IsCutLength l → length_of l ≡ None
cut_length_read [] h = refl
cut_length_read (l ∷ []) h = elim h [ inl e ↦ rw e refl | inr e ↦ rw e refl ]
cut_length_read (l ∷ a ∷ []) h = rw h refl
cut_length_read (l ∷ a ∷ b ∷ more) h = absurd h

wrong_length_read : (l : List ℕ) → IsWrongLength l → length_of l ≡ None
wrong_length_read [] h = absurd h
wrong_length_read (l ∷ more) h =
    elim h [
      | inl e ↦ rw e refl
      | inr ge ↦ rw (le-ltb l 128 (omega arith), ne_eqb l 129 (λ e. omega arith), ne_eqb l 130 (λ e. omega arith)) refl
    ]

-- ONE OBJECT

not_too_deep : (c : Bool) (depth : ℕ) → (c ≡ true → depth < 8) → (c && not (ltb depth 8)) ≡ false
not_too_deep true depth h = ap not (lt-ltb depth 8 (h refl))
not_too_deep false depth h = refl

module _ (reads : ℕ → List ℕ → Option Forest) where
  -- what an object's value and the rest give
  abbrev pub parts_read : ℕ → List ℕ → List ℕ → List ℕ → List ℕ → Bool → Option Forest
  parts_read depth tag len value rest true = with_constructed tag len (reads (suc depth) value) (reads depth rest)
  parts_read depth tag len value rest false = with_primitive tag len value (reads depth rest)

  after_tag : (depth : ℕ) (tag more : List ℕ) → MayStand depth tag → with_tag reads depth (tag_of (tag ++ more)) ≡ with_length reads depth tag (length_of more)
  after_tag depth tag more stands = rw (tag_read tag more stands.0, not_too_deep (is_constructed tag) depth stands.1) refl

  chosen : (depth : ℕ) (tag len value rest : List ℕ) (c : Bool) → is_constructed tag ≡ c → (fits : ℕ) → (more : List ℕ) → fits ≤ length more → take fits more ≡ value → drop fits more ≡ rest
      → with_length reads depth tag (Some (record { bytes = len; count = fits; rest = more })) ≡ parts_read depth tag len value rest c
  chosen depth tag len value rest true is fits more le t d = rw (le-leb fits (length more) le, is, t, d) refl
  chosen depth tag len value rest false is fits more le t d = rw (le-leb fits (length more) le, is, t, d) refl

  pub object_read : (depth : ℕ) (tag len more : List ℕ) (n : ℕ) (c : Bool) → MayStand depth tag → is_constructed tag ≡ c → IsLength len n → n ≤ length more
      → with_tag reads depth (tag_of (tag ++ (len ++ more))) ≡ parts_read depth tag len (take n more) (drop n more) c
  object_read depth tag len more n c stands is says fits =
      after_tag depth tag (len ++ more) stands ∙ ap (with_length reads depth tag) (length_read len more n says)
      ∙ chosen depth tag len (take n more) (drop n more) c is n more fits refl refl

  too_deep_read : (depth : ℕ) (tag more : List ℕ) → IsTag tag → is_constructed tag ≡ true → 8 ≤ depth → with_tag reads depth (tag_of (tag ++ more)) ≡ None
  too_deep_read depth tag more is deep ge = rw (tag_read tag more is, deep, le-ltb depth 8 ge) refl

  value_cut_read : (depth : ℕ) (tag len more : List ℕ) (n : ℕ) → MayStand depth tag → IsLength len n → length more < n → with_tag reads depth (tag_of (tag ++ (len ++ more))) ≡ None
  value_cut_read depth tag len more n stands says short = after_tag depth tag (len ++ more) stands ∙ rw (length_read len more n says, lt-leb n (length more) short) refl

  pub fails_read : (depth : ℕ) (bytes : List ℕ) (fault : TlvFault) → Fails depth bytes fault → with_tag reads depth (tag_of bytes) ≡ None
  fails_read depth bytes TagCut h = ap (with_tag reads depth) (cut_tag_read bytes h)
  fails_read depth bytes TagLong h = ap (with_tag reads depth) (long_tag_read bytes h)
  fails_read depth bytes TooDeep h = ap (λ (x : List ℕ). with_tag reads depth (tag_of x)) h.2 ∙ too_deep_read depth h.0 h.1 h.3 h.4 h.5
  fails_read depth bytes LengthCut h = ap (λ (x : List ℕ). with_tag reads depth (tag_of x)) h.2 ∙ after_tag depth h.0 h.1 h.3 ∙ ap (with_length reads depth h.0) (cut_length_read h.1 h.4)
  fails_read depth bytes LengthForm h = ap (λ (x : List ℕ). with_tag reads depth (tag_of x)) h.2 ∙ after_tag depth h.0 h.1 h.3 ∙ ap (with_length reads depth h.0) (wrong_length_read h.1 h.4)
  fails_read depth bytes ValueCut h = ap (λ (x : List ℕ). with_tag reads depth (tag_of x)) h.4 ∙ value_cut_read depth h.0 h.1 h.2 h.3 h.5 h.6 h.7

-- WHAT IS SPELLED IS READ

front_read : (k depth : ℕ) (tag len more : List ℕ) (n : ℕ) (c : Bool) → MayStand depth tag → is_constructed tag ≡ c → IsLength len n → n ≤ length more
    → forest_by (suc k) depth (tag ++ (len ++ more)) ≡ parts_read (forest_by k) depth tag len (take n more) (drop n more) c
unfolding forest_by
front_read k depth [] len more n c stands is says fits = absurd stands.0
front_read k depth (b ∷ tag) len more n c stands is says fits =
    rw (ne_eqb b 0 (nonzero_front b tag stands.0)) (object_read (forest_by k) depth (b ∷ tag) len more n c stands is says fits)

pub forest_again : (f : Forest) (depth k : ℕ) → IsForest depth f → length (spelling f) < k → forest_by k depth (spelling f) ≡ Some f
unfolding forest_by
forest_again f depth zero is lt = absurd (omega arith)
forest_again nothing depth (suc k) is lt = refl
forest_again (padding rest) depth (suc k) is lt = ap with_padding (forest_again rest depth k is (omega arith))
forest_again (primitive tag len value rest) depth (suc k) is lt =
    let all : length (tag ++ (len ++ (value ++ spelling rest))) ≡ length tag + (length len + (length value + length (spelling rest))) = simp length-append in
    let long = tag_long_enough tag is.0.0 in
    let fits : length value ≤ length (value ++ spelling rest) = simp length-append (omega arith) in
    front_read k depth tag len (value ++ spelling rest) (length value) false is.0 is.1 is.2 fits
    ∙ rw (take_at value (spelling rest) (length value) refl, drop_at value (spelling rest) (length value) refl, forest_again rest depth k is.3 (omega arith)) refl
forest_again (constructed tag len inner rest) depth (suc k) is lt =
    let all : length (tag ++ (len ++ (spelling inner ++ spelling rest))) ≡ length tag + (length len + (length (spelling inner) + length (spelling rest))) = simp length-append in
    let long = tag_long_enough tag is.0.0 in
    let fits : length (spelling inner) ≤ length (spelling inner ++ spelling rest) = simp length-append (omega arith) in
    front_read k depth tag len (spelling inner ++ spelling rest) (length (spelling inner)) true is.0 is.1 is.2 fits
    ∙ rw (
      take_at (spelling inner) (spelling rest) (length (spelling inner)) refl,
      drop_at (spelling inner) (spelling rest) (length (spelling inner)) refl,
      forest_again inner (suc depth) k is.3 (omega arith),
      forest_again rest depth k is.4 (omega arith),
    ) refl

-- WHAT IS READ IS SPELLED SO

abbrev pub Spells : ℕ → List ℕ → Forest → Type 0
Spells depth bytes f = IsForest depth f × (bytes ≡ spelling f)

padding_only : (r : Option Forest) (f : Forest) → with_padding r ≡ Some f → (g : Forest) × (r ≡ Some g) × (padding g ≡ f)
padding_only None f e = absurd cc
padding_only (Some g) f e = (g, refl, cc)

primitive_only : (tag len value : List ℕ) (r : Option Forest) (f : Forest) → with_primitive tag len value r ≡ Some f → (g : Forest) × (r ≡ Some g) × (primitive tag len value g ≡ f)
primitive_only tag len value None f e = absurd cc
primitive_only tag len value (Some g) f e = (g, refl, cc)

constructed_only : (tag len : List ℕ) (i r : Option Forest) (f : Forest) → with_constructed tag len i r ≡ Some f
    → (h g : Forest) × (i ≡ Some h) × (r ≡ Some g) × (constructed tag len h g ≡ f)
constructed_only tag len None r f e = absurd cc
constructed_only tag len (Some h) None f e = absurd cc
constructed_only tag len (Some h) (Some g) f e = (h, g, refl, refl, cc)

from_parts : (reads : ℕ → List ℕ → Option Forest) (depth : ℕ) (tag len value rest : List ℕ) (c : Bool) (f : Forest)
    → ((d : ℕ) (part : List ℕ) (g : Forest) → reads d part ≡ Some g → Spells d part g)
    → MayStand depth tag → is_constructed tag ≡ c → IsLength len (length value)
    → parts_read reads depth tag len value rest c ≡ Some f → Spells depth (tag ++ (len ++ (value ++ rest))) f
from_parts reads depth tag len value rest true f parts stands is says e =
    let found = constructed_only tag len (reads (suc depth) value) (reads depth rest) f e in
    let inner = parts (suc depth) value found.0 found.2 in
    let after = parts depth rest found.1 found.3 in
    let whole : Spells depth (tag ++ (len ++ (value ++ rest))) (constructed tag len found.0 found.1) = (
      (stands, is, subst (λ (x : List ℕ). IsLength len (length x)) inner.1 says, inner.0, after.0),
      ap (λ (x : List ℕ). tag ++ (len ++ (x ++ rest))) inner.1 ∙ ap (λ (x : List ℕ). tag ++ (len ++ (spelling found.0 ++ x))) after.1,
    ) in
    subst (λ (g : Forest). Spells depth (tag ++ (len ++ (value ++ rest))) g) found.4 whole
from_parts reads depth tag len value rest false f parts stands is says e =
    let found = primitive_only tag len value (reads depth rest) f e in
    let after = parts depth rest found.0 found.1 in
    let whole : Spells depth (tag ++ (len ++ (value ++ rest))) (primitive tag len value found.0) = (
      (stands, is, says, after.0),
      ap (λ (x : List ℕ). tag ++ (len ++ (value ++ x))) after.1,
    ) in
    subst (λ (g : Forest). Spells depth (tag ++ (len ++ (value ++ rest))) g) found.2 whole

from_begins : (k depth : ℕ) (bytes : List ℕ) (f : Forest) → Begins depth bytes
    → ((d : ℕ) (part : List ℕ) (g : Forest) → forest_by k d part ≡ Some g → Spells d part g)
    → forest_by (suc k) depth bytes ≡ Some f → Spells depth bytes f
from_begins k depth bytes f (tag, len, more, n, is, stands, says, fits) parts e =
    let value = take n more in
    let rest = drop n more in
    let says_value : IsLength len (length value) = rw (length-take-le n more fits) says in
    let read_so : parts_read (forest_by k) depth tag len value rest (is_constructed tag) ≡ Some f =
    sym (front_read k depth tag len more n (is_constructed tag) stands refl says fits) ∙ ap (forest_by (suc k) depth) (sym is) ∙ e in
    let whole : bytes ≡ tag ++ (len ++ (value ++ rest)) = is ∙ ap (λ (x : List ℕ). tag ++ (len ++ x)) (sym (take-append-drop n more)) in
    subst (λ (x : List ℕ). Spells depth x f) (sym whole)
    (from_parts (forest_by k) depth tag len value rest (is_constructed tag) f parts stands refl says_value read_so)

pub forest_only : (k depth : ℕ) (bytes : List ℕ) (f : Forest) → forest_by k depth bytes ≡ Some f → Spells depth bytes f
unfolding forest_by
forest_only zero depth bytes f e = absurd cc
forest_only (suc k) depth [] f e = let same : nothing ≡ f = cc in subst (λ (g : Forest). Spells depth [] g) same (tt, refl)
forest_only (suc k) depth (b ∷ bytes) f e =
    elim (cases_eq b 0) [
      | inl z ↦
          let read_so : with_padding (forest_by k depth bytes) ≡ Some f = rw (eq-eqb b 0 z) at e in
          let found = padding_only (forest_by k depth bytes) f read_so in
          let after = forest_only k depth bytes found.0 found.1 in
          let whole : Spells depth (b ∷ bytes) (padding found.0) = (after.0, ap (λ (x : ℕ). x ∷ bytes) z ∙ ap (λ (x : List ℕ). 0 ∷ x) after.1) in
          subst (λ (g : Forest). Spells depth (b ∷ bytes) g) found.2 whole
      | inr ne ↦ elim (head_cases depth b bytes ne) [
        | inl begins ↦ from_begins k depth (b ∷ bytes) f begins (λ d part g h. forest_only k d part g h) e
        | inr bad ↦
            let read_so : with_tag (forest_by k) depth (tag_of (b ∷ bytes)) ≡ Some f = rw (ne_eqb b 0 ne) at e in
            let none = fails_read (forest_by k) depth (b ∷ bytes) bad.0 bad.1 in
            absurd cc
      ]
    ]

-- THE LAW

pub one_reading_all : (f : Forest) → IsForest 0 f → forest_of (spelling f) ≡ Some f
unfolding forest_of
one_reading_all f is = forest_again f 0 (suc (length (spelling f))) is (omega arith)

pub one_reading_only : (bytes : List ℕ) (f : Forest) → forest_of bytes ≡ Some f → IsForest 0 f × (bytes ≡ spelling f)
unfolding forest_of
one_reading_only bytes f e = forest_only (suc (length bytes)) 0 bytes f e

-- what was read, by that function
pub read_some : (bytes : List ℕ) (xs : List Node) → Reads bytes xs → IsSomeAnd (forest_of bytes) (λ f. IsForest 0 f × (bytes ≡ spelling f) × (xs ≡ nodes 0 0 f))
read_some bytes xs (f, is, so, found) =
    subst (λ (o : Option Forest). IsSomeAnd o (λ g. IsForest 0 g × (bytes ≡ spelling g) × (xs ≡ nodes 0 0 g)))
    (sym (ap forest_of so ∙ one_reading_all f is)) (is, so, found)

none_left : (bytes : List ℕ) (e : TlvFault) (at : ℕ) → BreaksAt bytes e at → (o : Option Forest) → forest_of bytes ≡ o → o ≡ None
none_left bytes e at breaks None so = refl
none_left bytes e at breaks (Some f) so =
    let found = one_reading_only bytes f so in
    absurd (not_both bytes (nodes 0 0 f) e at (f, found.0, found.1, refl) breaks)

pub read_none : (bytes : List ℕ) (e : TlvFault) (at : ℕ) → BreaksAt bytes e at → forest_of bytes ≡ None
read_none bytes e at breaks = none_left bytes e at breaks (forest_of bytes) refl
