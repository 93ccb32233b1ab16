-- The order in which lanes make their exchanges (this project's own).
use Rattle.std.specs.Prelude.{ℕ, zero, suc, ◌+◌, ◌-◌, Bool, if◌then◌else◌, List, [], ◌∷◌, Option, Some, None}

-- What is left of the turn list, and the lane that was taken last after the list's end, 0 before that (this project's own).
pub record Order : Type 0 where
  pub turns : List ℕ
  pub last : ℕ

-- The first lane of the list that has an exchange left, and the list after it (this project's own).
abbrev pub listed : (ℕ → Bool) → List ℕ → Option (ℕ × List ℕ)
listed live [] = None
listed live (n ∷ ns) = if live n then Some (n, ns) else listed live ns

-- The lowest of so many lanes from this one on that has an exchange left (this project's own).
unfoldable pub lowest : (ℕ → Bool) → (first many : ℕ) → Option ℕ
lowest live first zero = None
lowest live first (suc many) = if live first then Some first else lowest live (first + 1) many

-- The first, or where there is none the second (this project's own).
abbrev pub or_else : Option ℕ → Option ℕ → Option ℕ
or_else (Some n) other = Some n
or_else None other = other

-- In rising order behind the lane that was taken last, and then from the lowest on again (this project's own).
abbrev pub in_round : (ℕ → Bool) → (count last : ℕ) → Option ℕ
in_round live count last = or_else (lowest live (last + 1) (count - last)) (lowest live 1 last)

-- After the list's end (this project's own).
abbrev pub round_turn : Option ℕ → Option (ℕ × Order)
round_turn (Some n) = Some (n, record { turns = []; last = n })
round_turn None = None

-- By the turn list, or where it has no lane with an exchange left in rising order (this project's own).
abbrev pub turn_by : (ℕ → Bool) → ℕ → Order → Option (ℕ × List ℕ) → Option (ℕ × Order)
turn_by live count o (Some (n, ns)) = Some (n, record { turns = ns; last = o.last })
turn_by live count o None = round_turn (in_round live count o.last)

-- Which of so many lanes makes the next exchange, and the order after it; none where no lane has one left (this project's own).
abbrev pub next_turn : (ℕ → Bool) → ℕ → Order → Option (ℕ × Order)
next_turn live count o = turn_by live count o (listed live o.turns)

-- Before the first exchange (this project's own).
abbrev pub first_order : List ℕ → Order
first_order turns = record { turns = turns; last = 0 }
