-- One turn of an inventory: one exchange, and what follows it (this project's own).
use Rattle.std.specs.Prelude.{◌≡◌, ℕ, ◌+◌, ◌*◌, ◌-◌, nat_lt, Bool, true, false, List, length, Option, Some, None, Result, Ok, Err}
use Rattle.inventory.specs.declared.field.BitHeard.{BitHeard}
use Rattle.inventory.specs.declared.listing.InventoryEnd.{InventoryEnd}
use Rattle.inventory.specs.declared.listing.InventoryEnd.TheVariants.{Device, Odd}
use Rattle.inventory.specs.Steps.{BitSteps}
use Rattle.inventory.specs.Tags.{Tag}
use Rattle.inventory.specs.Walks.{Walk, Turned, nothing, known_of, after_heard, after_selected}

-- After the cards were woken again.
abbrev pub after_wake : Walk → List Tag → Option Bool → Result Turned InventoryEnd
after_wake w found None = Err Device
after_wake w found (Some false) = Err (Odd 1 nothing)
after_wake w found (Some true) = Ok (record { over = false; walk = record w { awake = true }; found = found })

-- An inventory that goes on.
abbrev pub goes : List Tag → Result Walk InventoryEnd → Result Turned InventoryEnd
goes found (Ok w) = Ok (record { over = false; walk = w; found = found })
goes found (Err e) = Err e

-- After a question.
abbrev pub after_ask : Walk → List Tag → Option BitHeard → Result Turned InventoryEnd
after_ask w found None = Err Device
after_ask w found (Some heard) = goes found (after_heard w heard)

-- After a selection.
abbrev pub after_select : Walk → List Tag → Option (Option ℕ) → Result Turned InventoryEnd
after_select w found None = Err Device
after_select w found (Some sak) = after_selected w found sak

-- One exchange: the cards are woken, or asked at their level where bits of its value aren't known, or else selected.
abbrev pub TurnsBy : {S : Type 0} → BitSteps S → Bool → Bool → Walk → List Tag → S → Result Turned InventoryEnd → S → Type 0
TurnsBy steps false asks w found s r t = (heard : Option Bool) × steps.wakes s heard t × (r ≡ after_wake w found heard)
TurnsBy steps true true w found s r t = (heard : Option BitHeard) × steps.asks s w.level (known_of w) heard t × (r ≡ after_ask w found heard)
TurnsBy steps true false w found s r t = (sak : Option (Option ℕ)) × steps.selects s w.level (known_of w).bytes sak t × (r ≡ after_select w found sak)

abbrev pub Turns : {S : Type 0} → BitSteps S → Walk → List Tag → S → Result Turned InventoryEnd → S → Type 0
Turns steps w found s r t = TurnsBy steps w.awake (nat_lt (known_of w).bits 32) w found s r t

-- The exchanges that a pass has taken.
abbrev pub used : Bool → Bool → ℕ → ℕ
used false asks level = 0
used true true level = 2 * level - 1
used true false level = 2 * level

-- A bound on the exchanges made.
abbrev pub spent : Walk → ℕ → ℕ
spent w found = 8 * found + length w.pending + used w.awake (nat_lt (known_of w).bits 32) w.level

-- What a pass has left.
abbrev pub left_by : Bool → ℕ → ℕ → ℕ
left_by false level bits = 400
left_by true level bits = 100 * (4 - level) + (32 - bits)

-- A number that falls with each exchange.
abbrev pub left : Walk → ℕ → ℕ
left w found = 500 * (17 - found) + left_by w.awake w.level (known_of w).bits
