-- Words of a text that single spaces part (this project's own).
use Rattle.std.specs.Prelude.{ℕ, ◌==◌, nat_lt, Bool, List, length, Some, None, if◌then◌else◌}
use Rattle.std.specs.declared.option.Option.{Option}
use Rattle.std.specs.List.{before_first, after_first, position_or_len}

-- The second step of a reading, if the first gave a value (this project's own).
infixl 10 ◌>>=◌
abbrev pub ◌>>=◌ : {X Y : Type 0} → Option X → (X → Option Y) → Option Y
Some x >>= f = f x
None >>= f = None

-- The byte of a space (this project's own).
abbrev pub is_space : ℕ → Bool
is_space b = b == 32

-- A word, and what stands after the space that ends it (this project's own).
unfoldable pub split_word : List ℕ → Option (List ℕ × List ℕ)
split_word text = if nat_lt (position_or_len is_space text) (length text) then Some (before_first is_space text, after_first is_space text) else None
