-- The forms of words (this project's own).
use Rattle.std.specs.Prelude.{codes, ℕ, ◌≤◌, ◌&&◌, Bool, true, false, if◌then◌else◌, List, [], ◌∷◌, length, String, string_bytes, Option, Some, None, ⊤}
use Rattle.std.specs.Str.{all_ascii_digits}
use Rattle.std.specs.Str.Parse.{digits_value}
use Rattle.std.specs.declared.alloc.Global.{Global}
use Rattle.ep_base.specs.Cards.Apdu.{same_bytes}
use Rattle.doc_table.specs.Read.{is_within}
use Rattle.ep_program.specs.declared.form.Form.{Form}
use Rattle.ep_program.specs.declared.form.Form.TheVariants.{Run, RunTrace, Replay, Check, Inventory, Load}
use Rattle.ep_base.specs.Streams.Words.{◌>>=◌}

-- Whether a word is this one (this project's own).
abbrev pub is_word : String Global → List ℕ → Bool
is_word word text = same_bytes (string_bytes word) text

-- The number that one to nine decimal digits write; leading zeros are digits like others (this project's own).
abbrev pub number_spelled : List ℕ → Option ℕ
number_spelled digits = if is_within 1 9 (length digits) && all_ascii_digits digits then Some (digits_value 10 digits) else None

-- How many transactions a load has: such a number from 1 to 400 (this project's own).
abbrev pub count_spelled : List ℕ → Option ℕ
count_spelled digits = do
  count ← number_spelled digits
  if is_within 1 400 count then Some count else None

-- The load whose seed and whose count of transactions are spelled so (this project's own).
abbrev pub load_of : (seed count : List ℕ) → Option Form
load_of seed count = do
  s ← number_spelled seed
  n ← count_spelled count
  Some (Load s n)

-- The form of words: run, run trace, replay, check, inventory, or load with a seed and a count (this project's own).
abbrev pub form_of : List (String Global) → Option Form
form_of [] = None
form_of (w ∷ []) =
    if is_word w (codes "run") then Some Run
    else (if is_word w (codes "replay") then Some Replay
    else (if is_word w (codes "check") then Some Check
    else (if is_word w (codes "inventory") then Some Inventory else None)))
form_of (w ∷ v ∷ []) = if is_word w (codes "run") && is_word v (codes "trace") then Some RunTrace else None
form_of (w ∷ v ∷ u ∷ []) = if is_word w (codes "load") then load_of (string_bytes v) (string_bytes u) else None
form_of (w ∷ v ∷ u ∷ t ∷ ws) = None

-- A load has 1 to 400 transactions (this project's own).
abbrev pub IsAllowed : Form → Type 0
IsAllowed Run = ⊤
IsAllowed RunTrace = ⊤
IsAllowed Replay = ⊤
IsAllowed Check = ⊤
IsAllowed Inventory = ⊤
IsAllowed (Load seed count) = (1 ≤ count) × (count ≤ 400)

-- Whether the input is read (this project's own).
abbrev pub reads_input : Option Form → Bool
reads_input None = false
reads_input (Some Run) = true
reads_input (Some RunTrace) = true
reads_input (Some Replay) = true
reads_input (Some Check) = true
reads_input (Some Inventory) = true
reads_input (Some (Load seed count)) = false
