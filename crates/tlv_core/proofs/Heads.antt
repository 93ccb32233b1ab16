-- Tags, lengths and heads: which cases there are, and what the functions of specs/Scan give in each.
use Rattle.std.proofs.Common.{◌≡◌, ◌≢◌, ℕ, ◌+◌, ◌-◌, ◌*◌, ◌<◌, ◌≤◌, Bool, true, false, ◌&&◌, ◌⊎◌, inl, inr, List, [], ◌∷◌, ◌++◌, length, Ok, Err, refl, ap, ◌∙◌, arith, leb}
use Rattle.std.specs.Prelude.{bit_and}
use Rattle.std.proofs.lemmas.Bool.{eq-eqb, ne_eqb, lt-ltb, le-ltb, lt-leb, le-leb, cases_eq, cases_lt, cases_Bool, both_ways}
use Rattle.std.proofs.lemmas.List.{drop_at, length-append}
use Rattle.ep_base.specs.declared.objects.TlvFault.{TlvFault}
use Rattle.ep_base.specs.declared.objects.TlvFault.TheVariants.{TagCut, TagLong, LengthCut, LengthForm, ValueCut, TooDeep}
use Rattle.ep_base.specs.Objects.Forest.{IsTag, tag_number, is_constructed, IsLength, MayStand, IsCutTag, IsLongTag, IsCutLength, IsWrongLength, Fails}
use Rattle.tlv_core.specs.declared.head.Head.{Head}
use Rattle.tlv_core.specs.Scan.{tag_at, length_at, head_at, bit_of, with_length}

-- TAGS

pub tag_again : (t more : List ℕ) → IsTag t → tag_at (t ++ more) ≡ Ok (tag_number t, length t)
tag_again [] more h = absurd h
tag_again (b ∷ []) more h = rw (ne_eqb (bit_and b 31) 31 h.1) refl
tag_again (b ∷ c ∷ []) more h = rw (eq-eqb (bit_and b 31) 31 h.0, lt-ltb c 128 h.1) refl
tag_again (b ∷ c ∷ d ∷ []) more h = rw (eq-eqb (bit_and b 31) 31 h.0, le-ltb c 128 h.1, lt-ltb d 128 h.2) refl
tag_again (b ∷ c ∷ d ∷ e ∷ rest) more h = absurd h

pub cut_tag_again : (t : List ℕ) → IsCutTag t → tag_at t ≡ Err TagCut
cut_tag_again [] h = absurd h
cut_tag_again (b ∷ []) h = rw (eq-eqb (bit_and b 31) 31 h) refl
cut_tag_again (b ∷ c ∷ []) h = rw (eq-eqb (bit_and b 31) 31 h.0, le-ltb c 128 h.1) refl
cut_tag_again (b ∷ c ∷ d ∷ []) h = rw (eq-eqb (bit_and b 31) 31 h.0, le-ltb c 128 h.1, le-ltb d 128 h.2) refl
cut_tag_again (b ∷ c ∷ d ∷ e ∷ more) h = absurd h

pub long_tag_again : (t : List ℕ) → IsLongTag t → tag_at t ≡ Err TagLong
long_tag_again [] h = absurd h
long_tag_again (b ∷ []) h = absurd h
long_tag_again (b ∷ c ∷ []) h = absurd h
long_tag_again (b ∷ c ∷ d ∷ []) h = absurd h
long_tag_again (b ∷ c ∷ d ∷ e ∷ more) h = rw (eq-eqb (bit_and b 31) 31 h.0, le-ltb c 128 h.1, le-ltb d 128 h.2) refl

abbrev pub TagCases : List ℕ → Type 0
TagCases bytes = ((tag rest : List ℕ) × (bytes ≡ tag ++ rest) × IsTag tag) ⊎ (IsCutTag bytes ⊎ IsLongTag bytes)

from_fourth : (b c d : ℕ) (more : List ℕ) → bit_and b 31 ≡ 31 → 128 ≤ c → 128 ≤ d → TagCases (b ∷ c ∷ d ∷ more)
from_fourth b c d [] low c_on d_on = inr (inl (low, c_on, d_on))
from_fourth b c d (e ∷ more) low c_on d_on = inr (inr (low, c_on, d_on))

from_third : (b c : ℕ) (more : List ℕ) → bit_and b 31 ≡ 31 → 128 ≤ c → TagCases (b ∷ c ∷ more)
from_third b c [] low c_on = inr (inl (low, c_on))
from_third b c (d ∷ more) low c_on =
    elim (cases_lt d 128) [ inl lt ↦ inl (b ∷ c ∷ d ∷ [], more, refl, (low, c_on, lt)) | inr ge ↦ from_fourth b c d more low c_on ge ]

from_second : (b : ℕ) (more : List ℕ) → bit_and b 31 ≡ 31 → TagCases (b ∷ more)
from_second b [] low = inr (inl low)
from_second b (c ∷ more) low =
    elim (cases_lt c 128) [ inl lt ↦ inl (b ∷ c ∷ [], more, refl, (low, lt)) | inr ge ↦ from_third b c more low ge ]

pub tag_cases : (b : ℕ) (more : List ℕ) → b ≢ 0 → TagCases (b ∷ more)
tag_cases b more nonzero =
    elim (cases_eq (bit_and b 31) 31) [ inl low ↦ from_second b more low | inr ne ↦ inl (b ∷ [], more, refl, (nonzero, ne)) ]

-- LENGTHS

pub length_again : (l more : List ℕ) (n : ℕ) → IsLength l n → length_at (l ++ more) ≡ Ok (n, length l)
length_again [] more n h = absurd h
length_again (l ∷ []) more n h = rw (lt-ltb l 128 h.0, h.1) refl
length_again (l ∷ a ∷ []) more n h = rw (h.0, h.1) refl
length_again (l ∷ a ∷ b ∷ []) more n h = rw (h.0, h.1) refl
length_again (l ∷ a ∷ b ∷ c ∷ rest) more n h = absurd h

pub cut_length_again : (l : List ℕ) → IsCutLength l → length_at l ≡ Err LengthCut
cut_length_again [] h = refl
cut_length_again (l ∷ []) h = elim h [ inl e ↦ rw e refl | inr e ↦ rw e refl ]
cut_length_again (l ∷ a ∷ []) h = rw h refl
cut_length_again (l ∷ a ∷ b ∷ more) h = absurd h

pub wrong_length_again : (l : List ℕ) → IsWrongLength l → length_at l ≡ Err LengthForm
wrong_length_again [] h = absurd h
wrong_length_again (l ∷ more) h =
    elim h [
      | inl e ↦ rw e refl
      | inr ge ↦ rw (le-ltb l 128 (omega arith), ne_eqb l 129 (λ e. omega arith), ne_eqb l 130 (λ e. omega arith)) refl
    ]

abbrev pub LengthCases : List ℕ → Type 0
LengthCases bytes = ((len rest : List ℕ) × (n : ℕ) × (bytes ≡ len ++ rest) × IsLength len n) ⊎ (IsCutLength bytes ⊎ IsWrongLength bytes)

from_one : (l : ℕ) (more : List ℕ) → l ≡ 129 → LengthCases (l ∷ more)
from_one l [] e = inr (inl (inl e))
from_one l (a ∷ more) e = inl (l ∷ a ∷ [], more, a, refl, (e, refl))

from_two : (l : ℕ) (more : List ℕ) → l ≡ 130 → LengthCases (l ∷ more)
from_two l [] e = inr (inl (inr e))
from_two l (a ∷ []) e = inr (inl e)
from_two l (a ∷ b ∷ more) e = inl (l ∷ a ∷ b ∷ [], more, 256 * a + b, refl, (e, refl))

pub length_cases : (bytes : List ℕ) → LengthCases bytes
length_cases [] = inr (inl tt)
length_cases (l ∷ more) =
    elim (cases_lt l 128) [
      | inl lt ↦ inl (l ∷ [], more, l, refl, (lt, refl))
      | inr ge ↦ elim (cases_eq l 129) [
        | inl e ↦ from_one l more e
        | inr ne ↦ elim (cases_eq l 130) [
          | inl e ↦ from_two l more e
          | inr ne2 ↦ elim (cases_eq l 128) [ inl e ↦ inr (inr (inl e)) | inr ne3 ↦ inr (inr (inr (omega arith))) ]
        ]
      ]
    ]

-- HEADS

abbrev pub made_head : List ℕ → List ℕ → ℕ → Head
made_head tag len n = record { tag = tag_number tag; constructed = is_constructed tag; size = length tag + length len; len = n }

bit-append : (tag more : List ℕ) → IsTag tag → bit_of (tag ++ more) ≡ is_constructed tag
bit-append [] more h = absurd h
bit-append (b ∷ tag) more h = refl

not_too_deep : (c : Bool) (depth : ℕ) → (c ≡ true → depth < 8) → (c && leb 8 depth) ≡ false
not_too_deep true depth h = lt-leb 8 depth (h refl)
not_too_deep false depth h = refl

-- a tag that may stand here leaves the length to be read
after_tag : (depth : ℕ) (tag more : List ℕ) → MayStand depth tag → head_at depth (tag ++ more) ≡ with_length (tag_number tag) (is_constructed tag) (length tag) (tag ++ more) (length_at more)
unfolding head_at
after_tag depth tag more stands =
    rw (tag_again tag more stands.0, bit-append tag more stands.0, not_too_deep (is_constructed tag) depth stands.1, drop_at tag more (length tag) refl) refl

pub head_again : (depth : ℕ) (tag len more : List ℕ) (n : ℕ) → MayStand depth tag → IsLength len n → n ≤ length more → head_at depth (tag ++ (len ++ more)) ≡ Ok (made_head tag len n)
head_again depth tag len more n stands says fits =
    let room : n ≤ length (tag ++ (len ++ more)) - (length tag + length len) = simp length-append (omega arith) in
    after_tag depth tag (len ++ more) stands ∙ rw (length_again len more n says, le-ltb (length (tag ++ (len ++ more)) - (length tag + length len)) n room) refl

pub value_cut_again : (depth : ℕ) (tag len more : List ℕ) (n : ℕ) → MayStand depth tag → IsLength len n → length more < n → head_at depth (tag ++ (len ++ more)) ≡ Err ValueCut
value_cut_again depth tag len more n stands says short =
    let room : length (tag ++ (len ++ more)) - (length tag + length len) < n = simp length-append (omega arith) in
    after_tag depth tag (len ++ more) stands ∙ rw (length_again len more n says, lt-ltb (length (tag ++ (len ++ more)) - (length tag + length len)) n room) refl

too_deep_again : (depth : ℕ) (tag more : List ℕ) → IsTag tag → is_constructed tag ≡ true → 8 ≤ depth → head_at depth (tag ++ more) ≡ Err TooDeep
unfolding head_at
too_deep_again depth tag more is deep ge =
    rw (tag_again tag more is, bit-append tag more is, deep, le-leb 8 depth ge) refl

pub fails_again : (depth : ℕ) (bytes : List ℕ) (fault : TlvFault) → Fails depth bytes fault → head_at depth bytes ≡ Err fault
unfolding head_at
fails_again depth bytes TagCut h = rw (cut_tag_again bytes h) refl
fails_again depth bytes TagLong h = rw (long_tag_again bytes h) refl
fails_again depth bytes TooDeep h = ap (head_at depth) h.2 ∙ too_deep_again depth h.0 h.1 h.3 h.4 h.5
fails_again depth bytes LengthCut h = ap (head_at depth) h.2 ∙ after_tag depth h.0 h.1 h.3 ∙ rw (cut_length_again h.1 h.4) refl
fails_again depth bytes LengthForm h = ap (head_at depth) h.2 ∙ after_tag depth h.0 h.1 h.3 ∙ rw (wrong_length_again h.1 h.4) refl
fails_again depth bytes ValueCut h = ap (head_at depth) h.4 ∙ value_cut_again depth h.0 h.1 h.2 h.3 h.5 h.6 h.7

-- an object begins here, or else one fails
abbrev pub Begins : ℕ → List ℕ → Type 0
Begins depth bytes = (tag len more : List ℕ) × (n : ℕ) × (bytes ≡ tag ++ (len ++ more)) × MayStand depth tag × IsLength len n × (n ≤ length more)

from_length : (depth : ℕ) (bytes tag rest : List ℕ) → bytes ≡ tag ++ rest → MayStand depth tag → Begins depth bytes ⊎ ((fault : TlvFault) × Fails depth bytes fault)
from_length depth bytes tag rest is stands =
    elim (length_cases rest) [
      | inl l ↦
          let whole : bytes ≡ tag ++ (l.0 ++ l.1) = is ∙ ap (λ (x : List ℕ). tag ++ x) l.3 in
          elim (cases_lt (length l.1) l.2) [
            | inl short ↦ inr (ValueCut, (tag, l.0, l.1, l.2, whole, stands, l.4, short))
            | inr fits ↦ inl (tag, l.0, l.1, l.2, whole, stands, l.4, fits)
          ]
      | inr bad ↦ elim bad [
        | inl cut ↦ inr (LengthCut, (tag, rest, is, stands, cut))
        | inr wrong ↦ inr (LengthForm, (tag, rest, is, stands, wrong))
      ]
    ]

from_tag : (depth : ℕ) (bytes tag rest : List ℕ) → bytes ≡ tag ++ rest → IsTag tag → Begins depth bytes ⊎ ((fault : TlvFault) × Fails depth bytes fault)
from_tag depth bytes tag rest is tag_is =
    elim (cases_Bool (is_constructed tag)) [
      | inl is_con ↦ elim (cases_lt depth 8) [
        | inl lt ↦ from_length depth bytes tag rest is (tag_is, λ e. lt)
        | inr deep ↦ inr (TooDeep, (tag, rest, is, tag_is, is_con, deep))
      ]
      | inr plain ↦ from_length depth bytes tag rest is (tag_is, λ e. absurd (both_ways (is_constructed tag) plain e))
    ]

pub head_cases : (depth b : ℕ) (more : List ℕ) → b ≢ 0 → Begins depth (b ∷ more) ⊎ ((fault : TlvFault) × Fails depth (b ∷ more) fault)
head_cases depth b more nonzero =
    elim (tag_cases b more nonzero) [
      | inl t ↦ from_tag depth (b ∷ more) t.0 t.1 t.2 t.3
      | inr bad ↦ elim bad [ inl cut ↦ inr (TagCut, cut) | inr long ↦ inr (TagLong, long) ]
    ]
