-- The key `presence` of a transaction (this project's own).
use Rattle.std.specs.Prelude.{codes, ℕ, ◌≤◌, List, [], length, All, Bool, false, Some, None, Result, if◌then◌else◌}
use Rattle.std.specs.declared.option.Option.{Option}
use Rattle.ep_base.specs.declared.limits.TheConstants.{ROUNDS}
use Rattle.toml.specs.Data.{Data, Items, as_array}
use Rattle.doc_table.specs.Fault.{Fault}
use Rattle.doc_table.specs.declared.list.ElementKind.TheVariants.{Integer}
use Rattle.doc_table.specs.Read.{◌>>=◌, Reader, Place, of_kind, defaulted, integer_in, is_of, all_items, counted, each, list_of}

-- All are integers, if they were found (this project's own).
abbrev pub all_integers : Option Items → Bool
all_integers None = false
all_integers (Some elements) = all_items (is_of Integer) elements

-- A value is an array of integers (this project's own).
abbrev pub is_number_list : Data → Bool
is_number_list d = all_integers (as_array d)

-- The elements, if each is an array of integers (this project's own).
abbrev pub if_number_lists : Items → Option Items
if_number_lists elements = if all_items is_number_list elements then Some elements else None

-- The cards that are present in one round: at most four numbers of cards (this project's own).
abbrev pub present : ℕ → Reader (List ℕ)
present cards = list_of Integer 0 4 (integer_in 1 cards)

-- At most 64 lists of numbers, one for each round; the kinds of all elements come before any length (this project's own).
abbrev pub presence : ℕ → Reader (List (List ℕ))
presence cards path d = do
  elements ← of_kind path (as_array d)
  lists ← of_kind path (if_number_lists elements)
  few ← counted 0 ROUNDS path lists
  each (present cards) path 1 few

-- Which of so many cards are present in each round, no list where the key is absent (this project's own).
abbrev pub presence_at : ℕ → Place → Result (List (List ℕ)) Fault
presence_at cards place = defaulted [] (presence cards) (codes "presence") place

-- At most 64 lists, each of at most four numbers of these cards (this project's profile).
pub record ArePresences (cards : ℕ) (lists : List (List ℕ)) : Type 0 where
  pub few : length lists ≤ ROUNDS
  pub short : All (λ (list : List ℕ). length list ≤ 4) lists
  pub known : All (λ (list : List ℕ). All (λ n. (1 ≤ n) × (n ≤ cards)) list) lists
