-- Numbers and images are found in a field whose cards are apart.
use Rattle.std.proofs.Common.{◌≡◌, ◌≢◌, ℕ, true, false, List, [], ◌∷◌, refl, sym, ap, ◌∙◌, ⊎_elim, eq-eqb, if◌then◌else◌}
use Rattle.std.specs.Prelude.{◌==◌}
use Rattle.std.specs.Str.{bytes_eq}
use Rattle.std.proofs.lemmas.Bool.{and_parts}
use Rattle.std.proofs.lemmas.Bool.Decides.{eqb_tells}
use Rattle.std.proofs.lemmas.Slice.Eq.{bytes_eq-Decides}
use Rattle.ep_base.specs.declared.air.CardKind.{CardKind}
use Rattle.ep_base.specs.declared.air.CardKind.TheVariants as kinds
use Rattle.ep_base.specs.Air.Heard.{Activated, same_kind}
use Rattle.ep_base.specs.Cards.CardAnswer.{Image}
use Rattle.ep_base.specs.Cards.Field.{Placed}
use Rattle.ep_base.specs.Cards.Lawful.{kind_of, id_of, names, IsUnlike, AreApart}
use Rattle.law_round.proofs.Lawfulness.{begins_lawful_law}
use Rattle.ep_base.specs.Cards.Numbers.{numbers, IsOther, AreDistinct, AreNumbered, HaveImages}
use Rattle.ep_claim.specs.Promise.Cards.{is_card, number_of_card, image_in, NewFieldIsNew}

kind_is : (a b : CardKind) → same_kind a b ≡ true → a ≡ b
kind_is kinds.A kinds.A e = refl
kind_is kinds.B kinds.B e = refl
kind_is kinds.A kinds.B e = cc
kind_is kinds.B kinds.A e = cc

kind_itself : (a b : CardKind) → a ≡ b → same_kind a b ≡ true
kind_itself kinds.A kinds.A e = refl
kind_itself kinds.B kinds.B e = refl
kind_itself kinds.A kinds.B e = cc
kind_itself kinds.B kinds.A e = cc

is_itself : (card : Activated) (p : Placed) → card.kind ≡ kind_of p.outside → card.id ≡ id_of p.outside → is_card card.kind card.id p ≡ true
is_itself card p kind id =
    let k : same_kind (kind_of p.outside) card.kind ≡ true = kind_itself (kind_of p.outside) card.kind (sym kind) in
    let i : bytes_eq (id_of p.outside) card.id ≡ true = (bytes_eq-Decides (id_of p.outside) card.id).1 (sym id) in
    rw (k, i) refl

is_another : (card : Activated) (p q : Placed) → (kind_of p.outside ≡ kind_of q.outside → id_of p.outside ≢ id_of q.outside) → card.kind ≡ kind_of q.outside → card.id ≡ id_of q.outside
    → is_card card.kind card.id p ≡ false
is_another card p q apart kind id =
    elim (is_card card.kind card.id p) as (λ b. is_card card.kind card.id p ≡ b → b ≡ false) [
      | true ↦ λ e.
          let parts = and_parts (same_kind (kind_of p.outside) card.kind) (bytes_eq (id_of p.outside) card.id) e in
          absurd (apart (kind_is (kind_of p.outside) card.kind parts.0 ∙ kind) ((bytes_eq-Decides (id_of p.outside) card.id).0 parts.1 ∙ id))
      | false ↦ λ e. refl
    ] refl

numbered_more : (p : Placed) (f : Activated → ℕ) (qs : List Placed) → IsUnlike (kind_of p.outside, id_of p.outside) (names qs) → AreNumbered f qs
    → AreNumbered (λ card. if is_card card.kind card.id p then p.party.image.number else f card) qs
numbered_more p f [] d x = tt
numbered_more p f (q ∷ qs) d x = (
  λ card kind id. ap (λ b. if b then p.party.image.number else f card) (is_another card p q d.0 kind id) ∙ x.0 card kind id,
  numbered_more p f qs d.1 x.1,
)

pub numbered_in : (ps : List Placed) → AreApart (names ps) → AreNumbered (number_of_card ps) ps
numbered_in [] d = tt
numbered_in (p ∷ ps) d = (
  λ card kind id. ap (λ b. if b then p.party.image.number else number_of_card ps card) (is_itself card p kind id),
  numbered_more p (number_of_card ps) ps d.0 (numbered_in ps d.1),
)

have_more : (p : Placed) (f : ℕ → Image) (qs : List Placed) → IsOther p.party.image.number (numbers qs) → HaveImages f qs
    → HaveImages (λ n. if p.party.image.number == n then p.party.image else f n) qs
have_more p f [] d x = tt
have_more p f (q ∷ qs) d x =
    let other : (p.party.image.number == q.party.image.number) ≡ false =
    ⊎_elim (λ h. absurd (d.0 (sym h.1))) (λ h. h.0) (eqb_tells p.party.image.number q.party.image.number) in
    (ap (λ b. if b then p.party.image else f q.party.image.number) other ∙ x.0, have_more p f qs d.1 x.1)

pub have_in : (ps : List Placed) → AreDistinct (numbers ps) → HaveImages (image_in ps) ps
have_in [] d = tt
have_in (p ∷ ps) d = (
  ap (λ b. if b then p.party.image else image_in ps p.party.image.number) (eq-eqb p.party.image.number p.party.image.number refl),
  have_more p (image_in ps) ps d.0 (have_in ps d.1),
)

pub new_field_law : NewFieldIsNew
new_field_law cards presence fates room fsdi placed apart distinct exchange_fates = record {
  lawful = begins_lawful_law.2 cards presence fates room placed apart exchange_fates;
  numbered = numbered_in cards apart;
  distinct = distinct;
  have = have_in cards distinct;
  unlinked = refl;
  empty = refl;
}
