-- Cards that are lawful, by their bytes.
use Rattle.std.proofs.Common.{◌≡◌, ◌≢◌, ℕ, zero, suc, ◌<◌, ◌==◌, get_or, Bool, true, false, not, List, [], ◌∷◌, ◌++◌, length, refl, sym, arith, inl, inr, Fits, w8}
use Rattle.std.proofs.Math.Facts.{Fits-lt-pow}
use Rattle.std.specs.Prelude.{All}
use Rattle.std.proofs.lemmas.List.Elements.{All-nil, All-cons, All-append}
use Rattle.ep_base.specs.Cards.Lawful.{IsUid, Four, Seven, Ten}
use Rattle.inventory.specs.Tags.{Tag, IsTag, AreApart, AreTags}
use Rattle.inventory.proofs.Members.{In, all_in}

pub not_true : (b : Bool) → not b ≡ true → b ≡ false
not_true false h = refl
not_true true h = cc

pub four_uid : (uid : List ℕ) → length uid ≡ 4 → (get_or uid 0 0 == 0x88) ≡ false → IsUid uid
four_uid [] l n = cc
four_uid (a ∷ []) l n = cc
four_uid (a ∷ b ∷ []) l n = cc
four_uid (a ∷ b ∷ c ∷ []) l n = cc
four_uid (a ∷ b ∷ c ∷ d ∷ []) l n = Four a b c d n
four_uid (a ∷ b ∷ c ∷ d ∷ z ∷ zs) l n = absurd (omega (arith, l))

pub seven_uid : (uid : List ℕ) → length uid ≡ 7 → (get_or uid 3 0 == 0x88) ≡ false → IsUid uid
seven_uid [] l n = cc
seven_uid (a ∷ []) l n = cc
seven_uid (a ∷ b ∷ []) l n = cc
seven_uid (a ∷ b ∷ c ∷ []) l n = cc
seven_uid (a ∷ b ∷ c ∷ d ∷ []) l n = cc
seven_uid (a ∷ b ∷ c ∷ d ∷ e ∷ []) l n = cc
seven_uid (a ∷ b ∷ c ∷ d ∷ e ∷ f ∷ []) l n = cc
seven_uid (a ∷ b ∷ c ∷ d ∷ e ∷ f ∷ g ∷ []) l n = Seven a b c d e f g n
seven_uid (a ∷ b ∷ c ∷ d ∷ e ∷ f ∷ g ∷ z ∷ zs) l n = absurd (omega (arith, l))

pub ten_uid : (uid : List ℕ) → length uid ≡ 10 → IsUid uid
ten_uid [] l = cc
ten_uid (a ∷ []) l = cc
ten_uid (a ∷ b ∷ []) l = cc
ten_uid (a ∷ b ∷ c ∷ []) l = cc
ten_uid (a ∷ b ∷ c ∷ d ∷ []) l = cc
ten_uid (a ∷ b ∷ c ∷ d ∷ e ∷ []) l = cc
ten_uid (a ∷ b ∷ c ∷ d ∷ e ∷ f ∷ []) l = cc
ten_uid (a ∷ b ∷ c ∷ d ∷ e ∷ f ∷ g ∷ []) l = cc
ten_uid (a ∷ b ∷ c ∷ d ∷ e ∷ f ∷ g ∷ h ∷ []) l = cc
ten_uid (a ∷ b ∷ c ∷ d ∷ e ∷ f ∷ g ∷ h ∷ i ∷ []) l = cc
ten_uid (a ∷ b ∷ c ∷ d ∷ e ∷ f ∷ g ∷ h ∷ i ∷ j ∷ []) l = Ten a b c d e f g h i j
ten_uid (a ∷ b ∷ c ∷ d ∷ e ∷ f ∷ g ∷ h ∷ i ∷ j ∷ z ∷ zs) l = absurd (omega (arith, l))

get_or_any : (xs : List ℕ) (i d e : ℕ) → i < length xs → get_or xs i d ≡ get_or xs i e
get_or_any [] i d e lt = absurd (omega (arith, lt))
get_or_any (x ∷ xs) zero d e lt = refl
get_or_any (x ∷ xs) (suc i) d e lt = get_or_any xs i d e (omega (arith, lt))

byte_small : (n : ℕ) → Fits w8 n → n < 256
byte_small n fits = Fits-lt-pow fits

pub all_bytes : (xs : List ℕ) → ((i : ℕ) → Fits w8 (get_or xs i 0)) → All (λ b. b < 256) xs
all_bytes xs fits = λ i d lt. omega (arith, byte_small (get_or xs i 0) (fits i), get_or_any xs i d 0 lt)

pub one_card : (P : Tag → Type 0) (t : Tag) → P t → All P (t ∷ [])
one_card P t p = All-cons P t [] p (All-nil P)

apart_snoc : (ts : List Tag) (t : Tag) → AreApart ts → ((u : Tag) → In u ts → u.uid ≢ t.uid) → AreApart (ts ++ t ∷ [])
apart_snoc [] t apart other = (All-nil (λ u. u.uid ≢ t.uid), tt)
apart_snoc (u ∷ us) t apart other = (
  All-append (λ v. v.uid ≢ u.uid) us (t ∷ []) apart.0 (one_card (λ v. v.uid ≢ u.uid) t (λ e. other u (inl refl) (sym e))),
  apart_snoc us t apart.1 (λ v i. other v (inr i)),
)

-- One card more.
pub tags_snoc : (ts : List Tag) (t : Tag) → AreTags ts → IsTag t → All (λ u. u.uid ≢ t.uid) ts → AreTags (ts ++ t ∷ [])
tags_snoc ts t are is fresh = record {
  each = All-append IsTag ts (t ∷ []) are.each (one_card IsTag t is);
  apart = apart_snoc ts t are.apart (λ u i. all_in (λ v. v.uid ≢ t.uid) ts fresh u i);
}

pub no_tags : AreTags []
no_tags = record { each = All-nil IsTag; apart = tt }
