-- The room that entries take (this project's own). Each value comes with at least two bytes, tag and length, and so does each entry.
use Rattle.std.specs.Prelude.{ℕ, ◌+◌, ◌-◌, ◌*◌, ◌^◌, ◌≤◌, List, [], ◌∷◌, length, Option, Some, None}
use Rattle.ep_base.specs.Objects.Arena.{Contents, live_bytes}
use Rattle.ep_base.specs.Objects.Directory.{Entry}

abbrev pub value_cost : Option (List ℕ) → ℕ
value_cost None = 0
value_cost (Some value) = length value + 2

abbrev pub entry_cost : Entry → ℕ
entry_cost e = value_cost e.name + (value_cost e.label + (value_cost e.priority + (value_cost e.kernel + value_cost e.extension)))

abbrev pub entries_cost : List Entry → ℕ
entries_cost [] = 0
entries_cost (e ∷ es) = entry_cost e + 2 + entries_cost es

-- Values that were spelled in so many bytes fit.
pub record HasSpare (n : ℕ) (c : Contents) : Type 0 where
  pub bytes : live_bytes c.objects + n ≤ c.bytes
  pub slots : 2 * length c.objects + n ≤ 2 * c.slots
  pub serials : 2 * c.next + n ≤ 2 * (2 ^ 64 - 1)
