-- What is left to read at a cursor.
use Rattle.std.specs.Prelude.{◌≡◌, ◌≢◌, ℕ, zero, suc, ◌+◌, ◌<◌, ◌≤◌, List, [], ◌∷◌, length, slice_range, slice_index, ◌-◌, Option, Some, None, Result, Ok, Err, ◌⊎◌}
use Rattle.ep_base.specs.declared.objects.Node.{Node}
use Rattle.ep_base.specs.declared.objects.TlvFault.{TlvFault}
use Rattle.tlv_core.specs.Scan.{Run, ended, broke, found, reading}
use Rattle.tlv_core.specs.declared.cursor.Cursor.{Cursor}

-- The ends of the objects around a place, the innermost first.
abbrev pub ends_of : ℕ → List ℕ → List ℕ
ends_of zero ends = []
ends_of (suc k) ends = slice_index ends k ∷ ends_of k ends

abbrev pub all_ends : Cursor → List ℕ
all_ends c = c.end ∷ ends_of c.depth c.ends

abbrev pub pieces : List ℕ → ℕ → List ℕ → List (List ℕ)
pieces bytes at [] = []
pieces bytes at (e ∷ ends) = slice_range bytes at e ∷ pieces bytes e ends

abbrev pub IsNested : ℕ → List ℕ → ℕ → Type 0
IsNested at [] n = at ≤ n
IsNested at (e ∷ ends) n = (at ≤ e) × IsNested e ends n

pub record IsCursor (bytes : List ℕ) (c : Cursor) : Type 0 where
  pub depth : c.depth ≤ 8
  pub nested : IsNested c.at (all_ends c) (length bytes)

abbrev pub left_at : List ℕ → Cursor → Run
left_at bytes c = reading c.at (pieces bytes c.at (all_ends c))

-- What one call of `advance` takes from the run.
abbrev pub Takes : Result (Option Node) (TlvFault × ℕ) → Run → Run → Type 0
Takes (Ok None) old new = (old ≡ ended) × (new ≡ ended)
Takes (Ok (Some x)) old new = old ≡ found x new
Takes (Err e) old new = old ≡ broke e.0 e.1

-- An object begins at the cursor, or nothing is left at all.
abbrev pub Stands : List ℕ → Cursor → Type 0
Stands bytes c = ((c.at < c.end) × (slice_index bytes c.at ≢ 0)) ⊎ ((c.at ≡ c.end) × (c.depth ≡ 0))

-- How much `skip_one` may still skip.
abbrev pub skips_left : List ℕ → Cursor → ℕ
skips_left bytes c = (length bytes - c.at) + c.depth
