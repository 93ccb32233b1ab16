-- What one card says, and what is known of the values so far (this project's own).
use Rattle.std.specs.Prelude.{◌≡◌, ℕ, ◌≤◌, Bool, List, [], ◌∷◌, length, take, Option, Some, None, if◌then◌else◌}
use Rattle.inventory.specs.declared.field.Prefix.{Prefix}
use Rattle.inventory.specs.Bits.{bits_of}
use Rattle.inventory.specs.Told.{Stood, hears, value_at, agreed}

-- A card's value, where it hears the question.
abbrev pub hears_value : ℕ → List Bool → Stood → Option (List ℕ)
hears_value level known c = if hears level known c then Some (value_at level c) else None

-- A value, if there is one, as a list.
abbrev pub listed : Option (List ℕ) → List (List ℕ)
listed None = []
listed (Some v) = v ∷ []

-- Values agree in so many first bits of their first one, and in no more.
abbrev pub AgreeAs : List (List ℕ) → Option Prefix → Type 0
AgreeAs [] heard = heard ≡ None
AgreeAs (v ∷ vs) None = ⊥
AgreeAs (v ∷ vs) (Some p) = (p.bytes ≡ v) × (length v ≡ 4) × (p.bits ≤ 32) × (take p.bits (bits_of v) ≡ agreed (bits_of v) vs)
