-- A card of Type B outside the block protocol (this project's own).
use Rattle.std.specs.Prelude.{◌<◌}
use Rattle.ep_base.specs.Cards.TypeB.{BState}
use Rattle.ep_base.specs.Cards.TypeB as rule
use Rattle.type_b.specs.declared.card.BPlan.{BPlan}

-- What it is made of, and where it stands.
pub record CardState : Type 0 where
  pub plan : rule.BPlan
  pub state : BState

-- A plan in plain data (this project's own).
abbrev pub plan_of : BPlan → rule.BPlan
plan_of p = record { pupi = p.pupi; app_data = p.app_data; fsci = p.fsci; fwi = p.fwi; iso4 = p.iso4 }

-- The codes fit into a nibble (ISO/IEC 14443-3).
pub record PlanFits (p : rule.BPlan) : Type 0 where
  pub fsci : p.fsci < 16
  pub fwi : p.fwi < 16
