-- The transactions of a load, on their lanes (this project's own).
use Rattle.std.specs.Prelude.{ℕ, zero, suc, ◌+◌, ◌-◌, ◌%◌, min, List, [], ◌∷◌, ◌++◌, slice_index_or, slice_set, replicate, None}
use Rattle.scenario.specs.Plan.{Transaction, Plan}
use Rattle.ep_load.specs.Cards.{card_drawn}
use Rattle.ep_load.specs.Draws.{Draws, draws}
use Rattle.ep_load.specs.Fates.{fates_drawn}
use Rattle.ep_load.specs.Scripts.{scripts_drawn}
use Rattle.ep_load.specs.Terms.{terms}

-- Transaction i, from 1, with these draws: of type 0, with one card, which is always present (this project's own).
abbrev pub transaction_drawn : ℕ → Draws → Transaction
transaction_drawn i d = record {
  txn_type = 0;
  amount = 100 + d.amount;
  cards = card_drawn i d ∷ [];
  presence = [];
  fates = fates_drawn d;
  scripts = scripts_drawn d;
}

-- The place of transaction i's lane among the lanes, from 0: the lanes take turns, eight of them (this project's own).
abbrev pub lane_of : ℕ → ℕ
lane_of i = (i - 1) % 8

-- The lanes with one more transaction at the end of the lane at this place (this project's own).
abbrev pub lanes_with : ℕ → Transaction → List (List Transaction) → List (List Transaction)
lanes_with place t lanes = slice_set lanes place (slice_index_or lanes place [] ++ t ∷ [])

-- The lanes with so many more transactions, from number i on, drawn from this state on (this project's own).
unfoldable pub filled : ℕ → ℕ → ℕ → List (List Transaction) → List (List Transaction)
filled zero i x lanes = lanes
filled (suc n) i x lanes = filled n (i + 1) (draws x).1 (lanes_with (lane_of i) (transaction_drawn i (draws x).0) lanes)

-- The load of this seed with so many transactions, on at most eight lanes, with no turn list and no trace (this project's own).
abbrev pub generated : ℕ → ℕ → Plan
generated seed count = record {
  config = terms;
  fsdi = 8;
  turns = [];
  lanes = filled count 1 seed (replicate (min count 8) []);
  trace = None;
}
