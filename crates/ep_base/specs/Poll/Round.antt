-- A poll round: each frame, and the end, by the reader's FSDI and the answers heard before (this project's profile, after EMV Contactless Book D).
use Rattle.std.specs.Prelude.{ℕ, Bool, true, false, List, [], ◌∷◌, if◌then◌else◌}
use Rattle.ep_base.specs.declared.air.Wave.TheVariants.{AShort, A, B}
use Rattle.ep_base.specs.Air.Heard.{Ask, asks, Heard, is_silent, RoundTurn, Goes, Ends, Empty, Collision}
use Rattle.ep_base.specs.Cards.TypeA.{wupa, hlta, AStage, Woken, a_asks, a_hears}
use Rattle.ep_base.specs.Cards.TypeB.{wupb, BStage, b_asks, b_found, b_hears}

-- What was sent last: WUPA after the field's reset; HLTA; WUPB, and whether WUPA was heard; or a step with a card of one
-- type (this project's profile, after the EMV contactless level 1 procedure).
pub data Stage : Type 0 where
  Waking : Stage
  Halting : Stage
  WakingB : (woke : Bool) → Stage
  InA : (stage : AStage) → Stage
  InB : (stage : BStage) → Stage

-- The frame of a stage (this project's profile).
abbrev pub round_asks : ℕ → Stage → Ask
round_asks fsdi Waking = record { reset = true; wave = AShort; bytes = wupa; wait = 0 }
round_asks fsdi Halting = asks A hlta
round_asks fsdi (WakingB woke) = asks B wupb
round_asks fsdi (InA stage) = a_asks fsdi stage
round_asks fsdi (InB stage) = b_asks fsdi stage

-- A step with a card of Type A, as one of the round (this project's own).
abbrev pub in_a : RoundTurn AStage → RoundTurn Stage
in_a (Goes stage) = Goes (InA stage)
in_a (Ends e) = Ends e

-- A step with a card of Type B, as one of the round (this project's own).
abbrev pub in_b : RoundTurn BStage → RoundTurn Stage
in_b (Goes stage) = Goes (InB stage)
in_b (Ends e) = Ends e

-- How a round goes on, or ends, by what is heard. All but silence answers WUPA and WUPB; what follows HLTA is ignored;
-- answers to both are a collision, and to neither an empty round (this project's profile).
abbrev pub round_hears : Stage → Heard → RoundTurn Stage
round_hears Waking heard = Goes (if is_silent heard then WakingB false else Halting)
round_hears Halting heard = Goes (WakingB true)
round_hears (WakingB true) heard = if is_silent heard then Goes (InA Woken) else Ends Collision
round_hears (WakingB false) heard = if is_silent heard then Ends Empty else in_b (b_found heard)
round_hears (InA stage) heard = in_a (a_hears stage heard)
round_hears (InB stage) heard = in_b (b_hears stage heard)

-- A round after further answers (this project's own).
abbrev pub round_goes_on : RoundTurn Stage → List Heard → RoundTurn Stage
round_goes_on turn [] = turn
round_goes_on (Goes stage) (heard ∷ more) = round_goes_on (round_hears stage heard) more
round_goes_on (Ends e) (heard ∷ more) = Ends e

-- The round after the answers heard in it (this project's profile).
abbrev pub round_after : List Heard → RoundTurn Stage
round_after answers = round_goes_on (Goes Waking) answers
