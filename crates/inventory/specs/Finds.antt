-- What an inventory finds (this project's own).
use Rattle.std.specs.Prelude.{◌≡◌, ℕ, ◌<◌, ◌≤◌, List, ◌++◌, length, take, Result, Ok, Err}
use Rattle.inventory.specs.declared.listing.InventoryEnd.{InventoryEnd}
use Rattle.inventory.specs.declared.listing.InventoryEnd.TheVariants.{Device, Odd, Many}
use Rattle.inventory.specs.Tags.{Tag, in_order}

-- The cards of a field are found in order, each once. Of more than sixteen the first sixteen are found; where the field failed,
-- some of the first ones (this project's own).
abbrev pub Finds : List Tag → List Tag → Result ℕ InventoryEnd → Type 0
Finds tags found (Ok n) = (found ≡ in_order tags) × (length tags ≤ 16)
Finds tags found (Err Device) = (rest : List Tag) × (in_order tags ≡ found ++ rest)
Finds tags found (Err (Odd level known)) = ⊥
Finds tags found (Err Many) = (found ≡ take 16 (in_order tags)) × (16 < length tags)
