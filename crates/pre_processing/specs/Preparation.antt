-- What Pre-Processing gives for one transaction, in plain data.
use Rattle.std.specs.Prelude.{ℕ, List}
use Rattle.ep_rules.specs.EntryPoint.PreProcessing.{PreparedOne}

-- The transaction type, the amount in minor units, and each Combination of the type.
pub record Preparation : Type 0 where
  pub txn_type : ℕ
  pub amount : ℕ
  pub list : List PreparedOne
