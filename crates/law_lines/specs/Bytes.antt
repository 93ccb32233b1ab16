-- All that a transaction's cards and commands are made of are bytes (this project's own).
use Rattle.std.specs.Prelude.{◌≡◌, ℕ, ◌<◌, ◌≤◌, All, List, length}
use Rattle.hex.specs.Hex.{IsBytes}
use Rattle.ep_base.specs.Air.Heard.{RoundEnd}
use Rattle.ep_base.specs.Cards.CardAnswer.{App, Image, Rule}
use Rattle.ep_base.specs.Cards.Field.{Outside, OfA, OfB, Placed}
use Rattle.ep_base.specs.Cards.TypeA.{APlan}
use Rattle.ep_base.specs.Cards.TypeB.{BPlan}
use Rattle.ep_rules.specs.EntryPoint.Talk.{Talk, Over, Say, Poll, Command, Close}
use Rattle.ep_claim.specs.Lanes.LaneText.{Job}

-- Each command that is wished is made of bytes, after whatever responses of bytes and whatever ends of rounds (this project's own).
abbrev pub AsksBytes : Talk → Type 0
AsksBytes (Over ending) = Unit {0}
AsksBytes (Say what next) = AsksBytes next
AsksBytes (Poll next) = (e : RoundEnd) → AsksBytes (next e)
AsksBytes (Command command next) = IsBytes command × ((r : List ℕ) → IsBytes r → AsksBytes (next r))
AsksBytes (Close next) = AsksBytes next

-- The responses of a rule (this project's own).
abbrev pub RuleOfBytes : Rule → Type 0
RuleOfBytes r = All IsBytes r.responses.list

-- The responses of an application (this project's own).
pub record AppOfBytes (a : App) : Type 0 where
  pub selects : All IsBytes a.selects.list
  pub rules : All RuleOfBytes a.rules

-- The responses of an image (this project's own).
pub record ImageOfBytes (i : Image) : Type 0 where
  pub ppse : All IsBytes i.ppse.list
  pub apps : All AppOfBytes i.apps

-- What a Type A card says of itself, and its codes (ISO/IEC 14443-3, -4).
pub record APlanOfBytes (p : APlan) : Type 0 where
  pub uid : IsBytes p.uid
  pub sak : p.sak < 256
  pub historical : IsBytes p.historical
  pub few : length p.historical ≤ 15
  pub fsci : p.fsci < 16
  pub fwi : p.fwi < 16

-- What a Type B card says of itself, and its codes (ISO/IEC 14443-3).
pub record BPlanOfBytes (p : BPlan) : Type 0 where
  pub pupi : IsBytes p.pupi
  pub app_data : IsBytes p.app_data
  pub four : length p.app_data ≡ 4
  pub fsci : p.fsci < 16
  pub fwi : p.fwi < 16

-- A card outside the block protocol (ISO/IEC 14443-3).
abbrev pub OutsideOfBytes : Outside → Type 0
OutsideOfBytes (OfA plan state) = APlanOfBytes plan
OutsideOfBytes (OfB plan state) = BPlanOfBytes plan

-- A card with its image (this project's own).
pub record CardOfBytes (p : Placed) : Type 0 where
  pub outside : OutsideOfBytes p.outside
  pub image : ImageOfBytes p.party.image

-- A transaction over the cards of its field (this project's own).
pub record JobOfBytes (j : Job) : Type 0 where
  pub asks : AsksBytes j.talk
  pub cards : All CardOfBytes j.field.cards
