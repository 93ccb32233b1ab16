-- What the root of the document says of the configuration (the keys are this project's own).
use Rattle.std.specs.Prelude.{codes, ℕ, zero, suc, ◌+◌, pos, List, [], nat_lt, Option, Some, None, Result, Ok, if◌then◌else◌}
use Rattle.ep_rules.specs.EntryPoint.Configuration.{Combination, Config, count_of}
use Rattle.doc_table.specs.Fault.{Fault}
use Rattle.doc_table.specs.declared.fault.DocKind.TheVariants.{TooMany}
use Rattle.doc_table.specs.declared.list.ElementKind.TheVariants.{Table}
use Rattle.doc_table.specs.Read.{◌>>=◌, Reader, Place, defaulted, integer_in, list_of, fails}
use Rattle.acquirer_config.specs.Combination.{combination}
use Rattle.ep_base.specs.declared.limits.TheConstants.{COMBINATIONS, TYPE_COMBINATIONS}

-- Of the types from t on, how many Combinations the first one has that has more than sixteen.
unfoldable pub crowd_from : ℕ → ℕ → List Combination → Option ℕ
crowd_from t zero list = None
crowd_from t (suc types) list = if nat_lt TYPE_COMBINATIONS (count_of t list) then Some (count_of t list) else crowd_from (t + 1) types list

-- The same of all types.
unfoldable pub crowd : List Combination → Option ℕ
crowd list = crowd_from 0 256 list

abbrev pub uncrowded : List ℕ → List Combination → Option ℕ → Result (List Combination) Fault
uncrowded path list None = Ok list
uncrowded path list (Some n) = fails TooMany path (pos n)

-- An array of Combinations.
abbrev pub combinations : Reader (List Combination)
combinations path d = do
  list ← list_of Table 0 COMBINATIONS combination path d
  uncrowded path list (crowd list)

unfoldable pub config_at : Place → Result Config Fault
config_at root = do
  exponent ← defaulted 2 (integer_in 0 4) (codes "exponent") root
  list ← defaulted [] combinations (codes "combinations") root
  Ok (record { exponent = exponent; list = list })
