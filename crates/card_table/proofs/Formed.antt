-- UIDs and PUPIs by their bytes.
use Rattle.std.proofs.Common.{◌≡◌, ℕ, ◌==◌, ◌||◌, ◌⊎◌, not, List, [], ◌∷◌, length, Bool, true, false, refl, arith}
use Rattle.std.proofs.lemmas.Bool.Decides.{nat_tests}
use Rattle.ep_base.specs.Cards.Lawful.{IsUid, Four, Seven, Ten, IsFour, Bytes}
use Rattle.card_table.specs.Cards.{is_uid}

-- A test that fails, where it passes or nothing else does.
fails_first : (b r : Bool) → (not b || r) ≡ true → r ≡ false → b ≡ false
fails_first true r h e = cc
fails_first false r h e = refl

pub uid_length : (bytes : List ℕ) → is_uid bytes ≡ true → (length bytes ≡ 4) ⊎ (length bytes ≡ 7) ⊎ (length bytes ≡ 10)
uid_length bytes h = grind (arith, nat_tests, h)

pub formed_four : (bytes : List ℕ) → length bytes ≡ 4 → IsFour bytes
formed_four [] e = absurd (omega arith)
formed_four (a ∷ []) e = absurd (omega arith)
formed_four (a ∷ b ∷ []) e = absurd (omega arith)
formed_four (a ∷ b ∷ c ∷ []) e = absurd (omega arith)
formed_four (a ∷ b ∷ c ∷ d ∷ []) e = Bytes a b c d
formed_four (a ∷ b ∷ c ∷ d ∷ x ∷ xs) e = absurd (omega arith)

pub formed_uid : (bytes : List ℕ) → is_uid bytes ≡ true → IsUid bytes
formed_uid [] h = cc
formed_uid (a ∷ []) h = cc
formed_uid (a ∷ b ∷ []) h = cc
formed_uid (a ∷ b ∷ c ∷ []) h = cc
formed_uid (a ∷ b ∷ c ∷ d ∷ []) h = Four a b c d (fails_first (a == 0x88) false h refl)
formed_uid (a ∷ b ∷ c ∷ d ∷ e ∷ []) h = cc
formed_uid (a ∷ b ∷ c ∷ d ∷ e ∷ f ∷ []) h = cc
formed_uid (a ∷ b ∷ c ∷ d ∷ e ∷ f ∷ g ∷ []) h = Seven a b c d e f g (fails_first (d == 0x88) false h refl)
formed_uid (a ∷ b ∷ c ∷ d ∷ e ∷ f ∷ g ∷ x ∷ []) h = cc
formed_uid (a ∷ b ∷ c ∷ d ∷ e ∷ f ∷ g ∷ x ∷ y ∷ []) h = cc
formed_uid (a ∷ b ∷ c ∷ d ∷ e ∷ f ∷ g ∷ x ∷ y ∷ z ∷ []) h = Ten a b c d e f g x y z
formed_uid (a ∷ b ∷ c ∷ d ∷ e ∷ f ∷ g ∷ x ∷ y ∷ z ∷ w ∷ xs) h =
    let long : (length (a ∷ b ∷ c ∷ d ∷ e ∷ f ∷ g ∷ x ∷ y ∷ z ∷ w ∷ xs) ≡ 4) ⊎ (length (a ∷ b ∷ c ∷ d ∷ e ∷ f ∷ g ∷ x ∷ y ∷ z ∷ w ∷ xs) ≡ 7) ⊎ (length (a ∷ b ∷ c ∷ d ∷ e ∷ f ∷ g ∷ x ∷ y ∷ z ∷ w ∷ xs) ≡ 10) = uid_length (a ∷ b ∷ c ∷ d ∷ e ∷ f ∷ g ∷ x ∷ y ∷ z ∷ w ∷ xs) h in
    absurd (omega (arith, long))
