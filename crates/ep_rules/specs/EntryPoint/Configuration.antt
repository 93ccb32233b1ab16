-- What an acquirer sets (EMV Book A; the limits are this project's profile).
use Rattle.std.specs.Prelude.{◌≡◌, ℕ, ◌≤◌, ◌==◌, List, length, count_by, All, Bool}
use Rattle.std.specs.Option.{ForSome}
use Rattle.std.specs.declared.option.Option.{Option}
use Rattle.ep_base.specs.declared.limits.TheConstants.{COMBINATIONS, TYPE_COMBINATIONS}

-- A Combination: an application that the acquirer accepts, the kernel that serves it, and its limits in minor units.
pub record Combination : Type 0 where
  pub txn_type : ℕ
  pub aid : List ℕ
  pub kernel : ℕ
  pub status_check : Bool
  pub zero_allowed : Option Bool
  pub limit : Option ℕ
  pub floor : Option ℕ
  pub terminal_floor : Option ℕ
  pub cvm : Option ℕ
  pub extended : Bool
  pub ttq : Option (List ℕ)

-- The exponent of the currency, and the Combinations in their order.
pub record Config : Type 0 where
  pub exponent : ℕ
  pub list : List Combination

-- An amount in minor units has at most twelve digits (this project's profile).
abbrev pub IsAmount : ℕ → Type 0
IsAmount n = n ≤ 999999999999

-- The parts of a Combination are within their limits.
pub record IsCombination (c : Combination) : Type 0 where
  pub txn_type : c.txn_type ≤ 255
  pub aid_least : 5 ≤ length c.aid
  pub aid_most : length c.aid ≤ 16
  pub kernel_least : 1 ≤ c.kernel
  pub kernel_most : c.kernel ≤ 16777215
  pub limit : ForSome c.limit IsAmount
  pub floor : ForSome c.floor IsAmount
  pub terminal_floor : ForSome c.terminal_floor IsAmount
  pub cvm : ForSome c.cvm IsAmount
  pub ttq : ForSome c.ttq (λ bytes. length bytes ≡ 4)

-- How many Combinations are of a transaction type.
abbrev pub count_of : ℕ → List Combination → ℕ
count_of txn_type list = count_by (λ (c : Combination). c.txn_type == txn_type) list

-- At most `COMBINATIONS` Combinations within their limits, and at most `TYPE_COMBINATIONS` of a transaction type.
pub record AreCombinations (list : List Combination) : Type 0 where
  pub each : All IsCombination list
  pub count : length list ≤ COMBINATIONS
  pub of_a_type : (txn_type : ℕ) → count_of txn_type list ≤ TYPE_COMBINATIONS

-- A configuration within its limits (this project's profile).
pub record IsConfig (settings : Config) : Type 0 where
  pub exponent : settings.exponent ≤ 4
  pub list : AreCombinations settings.list
