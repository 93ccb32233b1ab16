-- Which plans of a card there are (this project's own).
use Rattle.std.specs.Prelude.{◌≡◌, ◌≤◌, ◌<◌, ◌⊎◌, length}
use Rattle.ep_base.specs.Cards.TypeA.{APlan}

-- A UID has 4, 7 or 10 bytes, and the codes fit into a nibble (ISO/IEC 14443-3, -4).
pub record PlanFits (p : APlan) : Type 0 where
  pub uid : (length p.uid ≡ 4) ⊎ (length p.uid ≡ 7) ⊎ (length p.uid ≡ 10)
  pub fsci : p.fsci < 16
  pub fwi : p.fwi < 16
  pub historical : length p.historical ≤ 15
