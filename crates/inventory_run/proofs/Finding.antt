-- All cards of a clean field are found.
use Rattle.std.proofs.Common.{◌≡◌, ℕ, ◌≤◌, List, [], ◌∷◌, length, Result, Ok, Err, refl, arith}
use Rattle.std.specs.Prelude.{IsOk, IsErrOf}
use Rattle.ep_base.specs.Streams.Causes.{HasCause}
use Rattle.inventory.specs.Finds.{Finds}
use Rattle.inventory.specs.Tags.{Tag, in_order}
use Rattle.inventory.specs.declared.listing.InventoryEnd.{InventoryEnd}
use Rattle.inventory.specs.declared.listing.InventoryEnd.TheVariants.{Device, Odd, Many}

pub is_found : (tags found : List Tag) (r : Result ℕ InventoryEnd) → length tags ≤ 16 → HasCause 0 0 (IsErrOf r Device) → Finds tags found r → IsOk r
is_found tags found (Ok n) few cause f = refl
is_found tags found (Err Device) few cause f = absurd (omega (arith, cause.risen refl))
is_found tags found (Err (Odd level known)) few cause f = absurd f
is_found tags found (Err Many) few cause f = absurd (omega (arith, few, f.1))

pub all_found : (tags found : List Tag) (r : Result ℕ InventoryEnd) → length tags ≤ 16 → HasCause 0 0 (IsErrOf r Device) → Finds tags found r → found ≡ in_order tags
all_found tags found (Ok n) few cause f = f.0
all_found tags found (Err Device) few cause f = absurd (omega (arith, cause.risen refl))
all_found tags found (Err (Odd level known)) few cause f = absurd f
all_found tags found (Err Many) few cause f = absurd (omega (arith, few, f.1))
