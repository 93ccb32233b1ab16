-- What an inventory heard, exchange by exchange, and what it comes to (ISO/IEC 14443-3; the refusals are this project's own).
use Rattle.std.specs.Prelude.{◌≡◌, ℕ, ◌≤◌, ◌==◌, nat_lt, Bool, true, false, not, ◌&&◌, ◌||◌, ◌⊎◌, List, [], ◌∷◌, ◌++◌, length, take, drop, slice_index, Option, Some, None, Result, Ok, Err, if◌then◌else◌}
use Rattle.ep_base.specs.Cards.Activation.{bit}
use Rattle.ep_base.specs.Cards.TypeA.{is_level}
use Rattle.inventory.specs.declared.field.Prefix.{Prefix}
use Rattle.inventory.specs.declared.field.BitHeard.{BitHeard}
use Rattle.inventory.specs.declared.field.BitHeard.TheVariants.{Silence, Level, Split}
use Rattle.inventory.specs.declared.listing.InventoryEnd.{InventoryEnd}
use Rattle.inventory.specs.declared.listing.InventoryEnd.TheVariants.{Device, Odd, Many}
use Rattle.inventory.specs.Bits.{bits_of, known_bits, begins}
use Rattle.inventory.specs.Steps.{BitSteps}
use Rattle.inventory.specs.Tags.{Tag}

-- One exchange, and what was answered, or none where the call failed (this project's own).
pub data Exchange : Type 0 where
  Woken : (heard : Option Bool) → Exchange
  Asked : (level : ℕ) (known : Prefix) (heard : Option BitHeard) → Exchange
  Selected : (level : ℕ) (value : List ℕ) (sak : Option (Option ℕ)) → Exchange

-- A field may go so in this exchange (this project's own).
abbrev pub Takes : {S : Type 0} → BitSteps S → S → Exchange → S → Type 0
Takes steps s (Woken heard) t = steps.wakes s heard t
Takes steps s (Asked level known heard) t = steps.asks s level known heard t
Takes steps s (Selected level value sak) t = steps.selects s level value sak t

-- A field may go so in these exchanges, one after another (this project's own).
abbrev pub TakesAll : {S : Type 0} → BitSteps S → S → List Exchange → S → Type 0
TakesAll {S} steps s [] t = s ≡ t
TakesAll {S} steps s (x ∷ xs) t = (m : S) × Takes steps s x m × TakesAll steps m xs t

-- Whether the call failed (this project's own).
abbrev pub has_failed : Exchange → Bool
has_failed (Woken None) = true
has_failed (Woken (Some heard)) = false
has_failed (Asked level known None) = true
has_failed (Asked level known (Some heard)) = false
has_failed (Selected level value None) = true
has_failed (Selected level value (Some sak)) = false

-- What is known where a level's value is known whole (this project's own).
abbrev pub whole : List ℕ → Prefix
whole value = record { bytes = value; bits = 32 }

-- Whether an answer to a question is none that cards of Type A give (ISO/IEC 14443-3).
abbrev pub is_odd_heard : Prefix → BitHeard → Bool
is_odd_heard known Silence = true
is_odd_heard known (Level part) = not (is_level part && begins (known_bits known) (bits_of (take 4 part)))
is_odd_heard known (Split bytes place) = nat_lt place known.bits || (nat_lt 31 place || not (begins (known_bits known) (bits_of bytes)))

-- Whether a SAK doesn't fit the value that was selected: bit 04h is set just where the value begins with 88h, and never at
-- level 3 (ISO/IEC 14443-3).
abbrev pub is_odd_sak : ℕ → List ℕ → ℕ → Bool
is_odd_sak level value sak = if bit sak 4 == 1 then not (nat_lt level 3 && (slice_index value 0 == 0x88)) else nat_lt level 3 && (slice_index value 0 == 0x88)

-- What a refusal names: a level, and the bits known of its value (this project's own).
pub record Refused : Type 0 where
  pub level : ℕ
  pub known : Prefix

-- What is refused of an exchange after the first one whose answer is odd (ISO/IEC 14443-3; what the refusal names: this
-- project's own).
abbrev pub odd_at : Exchange → Option Refused
odd_at (Woken None) = None
odd_at (Woken (Some true)) = None
odd_at (Woken (Some false)) = Some (record { level = 1; known = record { bytes = 0 ∷ 0 ∷ 0 ∷ 0 ∷ []; bits = 0 } })
odd_at (Asked level known None) = None
odd_at (Asked level known (Some heard)) = if is_odd_heard known heard then Some (record { level = level; known = known }) else None
odd_at (Selected level value None) = None
odd_at (Selected level value (Some None)) = Some (record { level = level; known = whole value })
odd_at (Selected level value (Some (Some sak))) = if is_odd_sak level value sak then Some (record { level = level; known = whole value }) else None

-- The cards that exchanges complete: a wake begins anew, and a SAK without bit 04h completes the UID of the values that were
-- selected since (ISO/IEC 14443-3).
abbrev pub completed_from : List ℕ → List Exchange → List Tag
completed_from uid [] = []
completed_from uid (Woken heard ∷ xs) = completed_from [] xs
completed_from uid (Asked level known heard ∷ xs) = completed_from uid xs
completed_from uid (Selected level value None ∷ xs) = completed_from uid xs
completed_from uid (Selected level value (Some None) ∷ xs) = completed_from uid xs
completed_from uid (Selected level value (Some (Some sak)) ∷ xs) =
    if bit sak 4 == 1 then completed_from (uid ++ drop 1 value) xs else record { uid = uid ++ value; sak = sak } ∷ completed_from [] xs

abbrev pub completed : List Exchange → List Tag
completed xs = completed_from [] xs

-- Exchanges that the inventory goes on after (this project's own).
abbrev pub AreFine : List Exchange → Type 0
AreFine [] = Unit {0}
AreFine (x ∷ xs) = (has_failed x ≡ false) × (odd_at x ≡ None) × AreFine xs

-- How an exchange after others ends an inventory: it fails; its answer is odd, and it isn't the first wake; or a seventeenth
-- card is complete (this project's own).
abbrev pub EndsBy : List Exchange → Exchange → InventoryEnd → Type 0
EndsBy xs x Device = has_failed x ≡ true
EndsBy [] x (Odd level known) = ⊥
EndsBy (y ∷ xs) x (Odd level known) = odd_at x ≡ Some (record { level = level; known = known })
EndsBy xs x Many = (odd_at x ≡ None) × (length (completed (xs ++ x ∷ [])) ≡ 17)

-- All exchanges were fine, or no card answered the first wake (this project's own).
abbrev pub EndsWell : List Exchange → Type 0
EndsWell xs = (xs ≡ Woken (Some false) ∷ []) ⊎ AreFine xs

-- What an inventory comes to after a reset: it ends well, and the cards that were completed are listed; or the last exchange
-- ends it, and those are listed that were complete by then (this project's own).
abbrev pub ComesTo : {S : Type 0} → BitSteps S → S → Result ℕ InventoryEnd → List Tag → S → Type 0
ComesTo steps s (Ok n) found t =
    (xs : List Exchange) × TakesAll steps s xs t × (n ≡ length xs) × (found ≡ completed xs) × (length found ≤ 16) × EndsWell xs
ComesTo steps s (Err e) found t =
    (xs : List Exchange) × (x : Exchange) × TakesAll steps s (xs ++ x ∷ []) t × AreFine xs × (found ≡ completed xs) × (length found ≤ 16) × EndsBy xs x e

-- What an inventory comes to: the field is reset first, and nothing is asked where that fails (this project's own).
abbrev pub Comes : {S : Type 0} → BitSteps S → S → Result ℕ InventoryEnd → List Tag → S → Type 0
Comes {S} steps s r found t =
    ((r ≡ Err Device) × (found ≡ []) × steps.resets s false t) ⊎ ((m : S) × steps.resets s true m × ComesTo steps m r found t)
