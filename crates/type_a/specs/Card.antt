-- A card of Type A outside the block protocol (this project's own).
use Rattle.ep_base.specs.Cards.TypeA.{APlan, AState}

-- What it is made of, and where it stands.
pub record CardState : Type 0 where
  pub plan : APlan
  pub state : AState
