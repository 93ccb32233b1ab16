-- What `next` gives of the nodes that are left.
use Rattle.std.specs.Prelude.{◌≡◌, ℕ, ◌+◌, ◌≤◌, List, [], ◌∷◌, Option, Some, None}
use Rattle.ep_base.specs.declared.objects.Node.{Node}

abbrev pub GivesFirst : Option Node → List Node → List Node → Type 0
GivesFirst None old new = (old ≡ []) × (new ≡ [])
GivesFirst (Some x) old new = old ≡ x ∷ new

-- The value of each node lies in the input.
abbrev pub AllWithin : List Node → ℕ → Type 0
AllWithin [] n = Unit {0}
AllWithin (x ∷ xs) n = (x.at + x.len ≤ n) × AllWithin xs n
