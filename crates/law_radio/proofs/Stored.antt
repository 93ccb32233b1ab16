-- The image of one card is changed, and those of the others stay.
use Rattle.std.proofs.Common.{◌≡◌, ◌≢◌, ℕ, refl, ⊎_elim}
use Rattle.std.proofs.lemmas.Bool.Decides.{eqb_tells}
use Rattle.ep_base.specs.Cards.Images.{stored}

module _ {A : Type 0} (n : ℕ) where
  pub stored_at : (x : A) (f : ℕ → A) → stored n x f n ≡ x
  stored_at x f = ⊎_elim (λ h. rw h.0 refl) (λ h. absurd (h.1 refl)) (eqb_tells n n)

  pub stored_other : (x : A) (f : ℕ → A) (k : ℕ) → k ≢ n → stored n x f k ≡ f k
  stored_other x f k d = ⊎_elim (λ h. absurd (d h.1)) (λ h. rw h.0 refl) (eqb_tells k n)
