-- Which cards of a field are in the block protocol (this project's own).
use Rattle.std.specs.Prelude.{nat_le, ◌&&◌, Bool, true, false, List, [], ◌∷◌}
use Rattle.ep_base.specs.Cards.TypeA.{AState, Idle, Ready, Active, Protocol, Halted}
use Rattle.ep_base.specs.Cards.TypeB.{BState, BIdle, BReady, BProtocol}
use Rattle.ep_base.specs.Cards.Field.{Outside, OfA, OfB, Placed}

-- Whether a card of Type A is in the block protocol (ISO/IEC 14443-4).
abbrev pub a_inside : AState → Bool
a_inside Idle = false
a_inside (Ready level) = false
a_inside Active = false
a_inside Protocol = true
a_inside Halted = false

-- Whether a card of Type B is in the block protocol (ISO/IEC 14443-4).
abbrev pub b_inside : BState → Bool
b_inside BIdle = false
b_inside BReady = false
b_inside BProtocol = true

-- Whether a card is in the block protocol (ISO/IEC 14443-4).
abbrev pub is_inside : Outside → Bool
is_inside (OfA plan state) = a_inside state
is_inside (OfB plan state) = b_inside state

-- Whether a card of Type A is outside the block protocol, and Ready at one of the three cascade levels if at all (ISO/IEC 14443-3).
abbrev pub a_out : AState → Bool
a_out Idle = true
a_out (Ready level) = nat_le level 3
a_out Active = true
a_out Protocol = false
a_out Halted = true

-- Whether a card of Type B is outside the block protocol (ISO/IEC 14443-3).
abbrev pub b_out : BState → Bool
b_out BIdle = true
b_out BReady = true
b_out BProtocol = false

-- Whether a card is outside the block protocol (ISO/IEC 14443-3).
abbrev pub is_out : Outside → Bool
is_out (OfA plan state) = a_out state
is_out (OfB plan state) = b_out state

-- Whether all of these cards are (this project's own).
abbrev pub all_out : List Placed → Bool
all_out [] = true
all_out (p ∷ ps) = is_out p.outside && all_out ps
