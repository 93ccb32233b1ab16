-- Values that agree in their first bits.
use Rattle.std.proofs.Common.{◌≡◌, ℕ, ◌≤◌, Bool, true, false, List, [], ◌∷◌, ◌++◌, map, length, take, Option, Some, None, IfSome, refl, sym, ap, ◌∙◌, subst, arith, if◌then◌else◌}
use Rattle.std.specs.List.{filter}
use Rattle.std.proofs.lemmas.List.{length-take-le, take_all}
use Rattle.inventory.specs.declared.field.Prefix.{Prefix}
use Rattle.inventory.specs.declared.field.BitHeard.TheVariants.{Level, Split}
use Rattle.ep_base.specs.Cards.TypeA.{bcc}
use Rattle.inventory.specs.Bits.{bits_of, shared}
use Rattle.inventory.specs.Told.{Stood, agreed, hears, value_at, heard_values, IsHeard}
use Rattle.inventory.specs.Hearing.{AgreeAs, listed, hears_value}
use Rattle.inventory.proofs.Spelling.{length_four}

pub agreed_snoc : (common : List Bool) (vs : List (List ℕ)) (v : List ℕ) → agreed common (vs ++ v ∷ []) ≡ shared (agreed common vs) (bits_of v)
agreed_snoc common [] v = refl
agreed_snoc common (w ∷ ws) v = agreed_snoc (shared common (bits_of w)) ws v

pub agree_most : (values : List (List ℕ)) (heard : Option Prefix) → AgreeAs values heard → IfSome heard (λ p. p.bits ≤ 32)
agree_most [] None a = tt
agree_most [] (Some p) a = cc
agree_most (v ∷ vs) None a = absurd a
agree_most (v ∷ vs) (Some p) a = a.2

pub agree_first : (value : List ℕ) → length value ≡ 4 → (values : List (List ℕ)) → AgreeAs values None → AgreeAs (values ++ value ∷ []) (Some (record { bytes = value; bits = 32 }))
agree_first value l [] a = (refl, l, omega arith, take_all 32 (bits_of value) (omega (arith, length_four value l)))
agree_first value l (v ∷ vs) a = absurd a

pub agree_more : (p : Prefix) (value : List ℕ) (r : ℕ) → r ≤ p.bits → take r (bits_of p.bytes) ≡ shared (take p.bits (bits_of p.bytes)) (bits_of value)
    → (values : List (List ℕ)) → AgreeAs values (Some p) → AgreeAs (values ++ value ∷ []) (Some (record { bytes = p.bytes; bits = r }))
agree_more p value r le e [] a = cc
agree_more p value r le e (v ∷ vs) a = (
  a.0,
  a.1,
  omega (arith, le, a.2),
  ap (λ b. take r (bits_of b)) (sym a.0) ∙ e ∙ ap (λ b. shared (take p.bits (bits_of b)) (bits_of value)) a.0
      ∙ ap (λ s. shared s (bits_of value)) a.3 ∙ sym (agreed_snoc (bits_of v) vs value),
)

length_common : (v : List ℕ) (k : ℕ) (common : List Bool) → length v ≡ 4 → k ≤ 32 → take k (bits_of v) ≡ common → length common ≡ k
length_common v k common l le e = ap length (sym e) ∙ length-take-le k (bits_of v) (omega (arith, length_four v l, le))

pub heard_level : (p : Prefix) (part : List ℕ) → p.bits ≡ 32 → part ≡ p.bytes ++ bcc p.bytes ∷ [] → (values : List (List ℕ)) → AgreeAs values (Some p)
    → IsHeard values (Level part)
heard_level p part e made [] a = cc
heard_level p part e made (v ∷ vs) a =
    (length_common v p.bits (agreed (bits_of v) vs) a.1 a.2 a.3 ∙ e, subst (λ b. part ≡ b ++ bcc b ∷ []) a.0 made)

pub heard_split : (p : Prefix) → (p.bits ≡ 32 → ⊥) → (values : List (List ℕ)) → AgreeAs values (Some p) → IsHeard values (Split p.bytes p.bits)
heard_split p ne [] a = cc
heard_split p ne (v ∷ vs) a =
    let l : length (agreed (bits_of v) vs) ≡ p.bits = length_common v p.bits (agreed (bits_of v) vs) a.1 a.2 a.3 in
    (omega (arith, l, a.2, ne), sym l, ap (λ b. take p.bits (bits_of b)) a.0 ∙ a.3)

one_value : (b : Bool) (level : ℕ) (c : Stood) → map (value_at level) (if b then c ∷ [] else []) ≡ listed (if b then Some (value_at level c) else None)
one_value true level c = refl
one_value false level c = refl

next_value : (b : Bool) (level : ℕ) (d : Stood) (all some : List Stood) (more : List (List ℕ)) → map (value_at level) all ≡ map (value_at level) some ++ more
    → map (value_at level) (if b then d ∷ all else all) ≡ map (value_at level) (if b then d ∷ some else some) ++ more
next_value true level d all some more e = ap (λ vs. value_at level d ∷ vs) e
next_value false level d all some more e = e

pub heard_snoc : (level : ℕ) (known : List Bool) (cards : List Stood) (c : Stood)
    → heard_values level known (cards ++ c ∷ []) ≡ heard_values level known cards ++ listed (hears_value level known c)
heard_snoc level known [] c = one_value (hears level known c) level c
heard_snoc level known (d ∷ ds) c = next_value (hears level known d) level d (filter (hears level known) (ds ++ c ∷ [])) (filter (hears level known) ds) (listed (hears_value level known c)) (heard_snoc level known ds c)
