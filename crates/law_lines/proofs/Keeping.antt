-- A transaction asks and hears what trace lines can hold, exchange by exchange.
use Rattle.std.proofs.Common.{ℕ, zero, suc, ◌^◌, ◌≤◌, List, [], ◌∷◌, ◌++◌, Option, Some, None, arith}
use Rattle.std.specs.Prelude.{if◌then◌else◌}
use Rattle.std.proofs.Math.Nat.{pow-le-pow_right}
use Rattle.hex.specs.Hex.{IsBytes}
use Rattle.ep_base.specs.declared.limits.TheConstants.{FSDI}
use Rattle.ep_base.specs.declared.air.Wave.{Wave}
use Rattle.ep_base.specs.Air.Heard.{Ask, Heard, Silence, Noise, Overlap, Frame, RoundEnd, Empty, Collision, Unsupported, Broken, Found, wave_of_kind}
use Rattle.ep_base.specs.Air.Heard as rounds
use Rattle.ep_base.specs.Cards.CardLimits.{AreLimits, EndsInLimits}
use Rattle.ep_base.specs.Cards.Field.{Field, field_reset, field_send}
use Rattle.ep_base.specs.Cards.TypeA.{AStage, Woken, Level, Select, Complete}
use Rattle.ep_base.specs.Link.Block.{Block, I, RAck, RNak, Deselect, Wtx}
use Rattle.ep_base.specs.Link.LinkFrames.{LinkSetting, wait_of}
use Rattle.ep_base.specs.Link.ReaderEnd.{ReaderTurn, Asks, Gives, Spends, Breaks, asked}
use Rattle.ep_base.specs.Link.Carry.{turn_on}
use Rattle.ep_base.specs.Poll.Radio.{OpenLink}
use Rattle.ep_base.specs.Poll.Round.{Stage, Waking, Halting, WakingB, InA, InB, round_asks, round_hears}
use Rattle.ep_rules.specs.EntryPoint.Talk.{Talk, Over, Say, Poll, Command, Close, Result, Round, Response, Closed, Wish, Polls, Commands, Closes, Nothing, so_far}
use Rattle.ep_claim.specs.Lanes.Standing.{Doing, Rounds, Carries, Closing, Stopped, Astray, Standing, doing_by, standing, asks_block, asked_by, link_by, after_stage, after_turn, hears_by, after_hearing}
use Rattle.ep_claim.specs.Lanes.Exchanges.{field_answers, or_silence, Lane, opened_lane, goes_by, lane_step, lane_after}
use Rattle.ep_claim.specs.Text.TraceForm.{HoldsFrame, HoldsHeard}
use Rattle.law_lines.specs.Bytes.{AsksBytes}
use Rattle.law_lines.proofs.Sending.{Fits, block_holds}
use Rattle.law_lines.proofs.Fielding.{AreMade, AreReady, made_of, reset_ready, field_holds}
use Rattle.law_lines.proofs.Rounding.{GoodStage, HearsBytes, stage_holds, stage_waits, round_good}
use Rattle.law_lines.proofs.Rounding as stages
use Rattle.law_lines.proofs.Carrying.{GoodReader, GoodTurn, asked_fits, begin_good, turn_good}

-- ---- the talk

abbrev GoodResult : Result → Type 0
GoodResult (Round e) = Unit {0}
GoodResult (Response r) = IsBytes r
GoodResult Closed = Unit {0}

-- the responses so far are made of bytes
abbrev GoodResults : List Result → Type 0
GoodResults [] = Unit {0}
GoodResults (x ∷ xs) = GoodResult x × GoodResults xs

one_more : (xs : List Result) (x : Result) → GoodResults xs → GoodResult x → GoodResults (xs ++ x ∷ [])
one_more [] x h good = (good, tt)
one_more (y ∷ ys) x h good = (h.0, one_more ys x h.1 good)

abbrev GoodWish : Wish → Type 0
GoodWish Polls = Unit {0}
GoodWish (Commands command) = IsBytes command
GoodWish Closes = Unit {0}
GoodWish Nothing = Unit {0}

wish_good : (talk : Talk) (results : List Result) → AsksBytes talk → GoodResults results → GoodWish (so_far talk results).wish
wish_good (Over e) results asks h = tt
wish_good (Say what next) results asks h = wish_good next results asks h
wish_good (Poll next) [] asks h = tt
wish_good (Poll next) ((Round e) ∷ rest) asks h = wish_good (next e) rest (asks e) h.1
wish_good (Poll next) ((Response r) ∷ rest) asks h = tt
wish_good (Poll next) (Closed ∷ rest) asks h = tt
wish_good (Command c next) [] asks h = asks.0
wish_good (Command c next) ((Round e) ∷ rest) asks h = asks.0
wish_good (Command c next) ((Response r) ∷ rest) asks h = wish_good (next r) rest (asks.1 r h.0) h.1
wish_good (Command c next) (Closed ∷ rest) asks h = asks.0
wish_good (Close next) [] asks h = tt
wish_good (Close next) ((Round e) ∷ rest) asks h = tt
wish_good (Close next) ((Response r) ∷ rest) asks h = tt
wish_good (Close next) (Closed ∷ rest) asks h = wish_good next rest asks h.1

-- ---- what the next exchange is of

record GoodLink (l : OpenLink) : Type 0 where
  limits : AreLimits l.set.frames.card l.set.fwi
  reader : GoodReader l.set.frames.card l.reader

abbrev GoodIfLink : Option OpenLink → Type 0
GoodIfLink None = Unit {0}
GoodIfLink (Some l) = GoodLink l

abbrev GoodDoing : Doing → Type 0
GoodDoing (Rounds stage) = GoodStage stage
GoodDoing (Carries l) = GoodLink l
GoodDoing (Closing l) = GoodLink l
GoodDoing (Stopped ending) = Unit {0}
GoodDoing Astray = Unit {0}

-- before a reset the cards may stand anywhere
abbrev FieldFor : Doing → Field → Type 0
FieldFor (Rounds Waking) f = AreMade f.cards
FieldFor (Rounds Halting) f = AreReady f.cards
FieldFor (Rounds (WakingB woke)) f = AreReady f.cards
FieldFor (Rounds (InA stage)) f = AreReady f.cards
FieldFor (Rounds (InB stage)) f = AreReady f.cards
FieldFor (Carries l) f = AreReady f.cards
FieldFor (Closing l) f = AreReady f.cards
FieldFor (Stopped ending) f = AreMade f.cards
FieldFor Astray f = AreMade f.cards

field_for : (d : Doing) (f : Field) → AreReady f.cards → FieldFor d f
field_for (Rounds Waking) f h = made_of f.cards h
field_for (Rounds Halting) f h = h
field_for (Rounds (WakingB woke)) f h = h
field_for (Rounds (InA stage)) f h = h
field_for (Rounds (InB stage)) f h = h
field_for (Carries l) f h = h
field_for (Closing l) f h = h
field_for (Stopped ending) f h = made_of f.cards h
field_for Astray f h = made_of f.cards h

-- a first wish has no link, and so asks for a round or for nothing
first_for : (w : Wish) (f : Field) → AreMade f.cards → FieldFor (doing_by w None) f
first_for Polls f h = h
first_for (Commands command) f h = h
first_for Closes f h = h
first_for Nothing f h = h

doing_good : (w : Wish) (o : Option OpenLink) → GoodWish w → GoodIfLink o → GoodDoing (doing_by w o)
doing_good Polls o is good = tt
doing_good (Commands command) (Some l) is good =
    record { limits = good.limits; reader = begin_good l.set.frames.card command l.reader good.limits.least is good.reader }
doing_good (Commands command) None is good = tt
doing_good Closes (Some l) is good = good
doing_good Closes None is good = tt
doing_good Nothing o is good = tt

record GoodStanding (s : Standing) : Type 0 where
  results : GoodResults s.results
  doing : GoodDoing s.doing

module _ (fsdi : ℕ) (talk : Talk) (asks : AsksBytes talk) where
  standing_good : (results : List Result) (o : Option OpenLink) → GoodResults results → GoodIfLink o → GoodStanding (standing talk results o)
  standing_good results o h good = record { results = h; doing = doing_good (so_far talk results).wish o (wish_good talk results asks h) good }

  link_good : (e : RoundEnd) → EndsInLimits e → GoodIfLink (link_by fsdi e)
  link_good Empty h = tt
  link_good Collision h = tt
  link_good Unsupported h = tt
  link_good Broken h = tt
  link_good (Found card) h = record { limits = h; reader = record { phase = tt; since = tt } }

  stage_good : (results : List Result) (turn : rounds.RoundTurn Stage) → GoodResults results → stages.GoodTurn turn → GoodStanding (after_stage fsdi talk results turn)
  stage_good results (rounds.Goes stage) h good = record { results = h; doing = good }
  stage_good results (rounds.Ends e) h good = standing_good (results ++ Round e ∷ []) (link_by fsdi e) (one_more results (Round e) h tt) (link_good e good)

  turned_good : (results : List Result) (set : LinkSetting) (turn : ReaderTurn) → GoodResults results → AreLimits set.frames.card set.fwi → GoodTurn set.frames.card turn
      → GoodStanding (after_turn talk results set turn)
  turned_good results set (Asks r) h limits good = record { results = h; doing = record { limits = limits; reader = good } }
  turned_good results set (Gives response r) h limits good =
      standing_good (results ++ Response response ∷ []) (Some (record { set = set; reader = r })) (one_more results (Response response) h good.0) (record { limits = limits; reader = good.1 })
  turned_good results set (Spends r) h limits good = record { results = h; doing = tt }
  turned_good results set (Breaks r) h limits good = record { results = h; doing = tt }

  heard_good : (results : List Result) (heard : Heard) (d : Doing) → GoodResults results → GoodDoing d → HearsBytes heard → GoodStanding (hears_by fsdi talk results heard d)
  heard_good results heard (Rounds stage) h good is = stage_good results (round_hears stage heard) h (round_good stage heard good is)
  heard_good results heard (Carries l) h good is = turned_good results l.set (turn_on l.set l.reader heard) h good.limits (turn_good l.set l.reader heard good.reader is)
  heard_good results heard (Closing l) h good is = standing_good (results ++ Closed ∷ []) None (one_more results Closed h tt) tt
  heard_good results heard (Stopped ending) h good is = record { results = h; doing = tt }
  heard_good results heard Astray h good is = record { results = h; doing = tt }

-- ---- what is asked

pow_most : (fwi : ℕ) → fwi ≤ 14 → 2 ^ fwi ≤ 16384
pow_most fwi h = pow-le-pow_right {n = 2} (omega arith) {i = fwi} {j = 14} h

waits_most : (fwi : ℕ) (b : Block) → fwi ≤ 14 → wait_of fwi b ≤ 16384
waits_most fwi (I k ch inf) h = pow_most fwi h
waits_most fwi (RAck k) h = pow_most fwi h
waits_most fwi (RNak k) h = pow_most fwi h
waits_most fwi Deselect h = pow_most fwi h
waits_most fwi (Wtx p m) h = omega arith

-- an exchange that a line can hold, of a field whose cards are ready once it was reset where that is asked
pub record GoodAsk (f : Field) (ask : Ask) : Type 0 where
  pub frame : HoldsFrame ask.bytes
  pub wait : ask.wait ≤ 16384
  pub cards : AreReady (if ask.reset then field_reset f else f).cards

abbrev GoodIfAsked : Field → Option Ask → Type 0
GoodIfAsked f None = Unit {0}
GoodIfAsked f (Some ask) = GoodAsk f ask

block_good : (l : OpenLink) (b : Block) (f : Field) → GoodLink l → Fits l.set.frames.card b → AreReady f.cards → GoodAsk f (asks_block l.set b)
block_good l b f good fits cards =
    record { frame = block_holds (wave_of_kind l.set.kind) l.set.frames.card b good.limits.most fits; wait = waits_most l.set.fwi b good.limits.waits; cards = cards }

module _ (fsdi : ℕ) (few : fsdi ≤ FSDI) (f : Field) where
  same_field : (stage : AStage) → AreReady f.cards → AreReady (if (round_asks fsdi (InA stage)).reset then field_reset f else f).cards
  same_field Woken h = h
  same_field (Level n uid) h = h
  same_field (Select n uid part) h = h
  same_field (Complete uid) h = h

  round_asked : (stage : Stage) → GoodStage stage → FieldFor (Rounds stage) f → GoodAsk f (round_asks fsdi stage)
  round_asked Waking good cards = record { frame = stage_holds fsdi Waking few good; wait = stage_waits fsdi Waking; cards = reset_ready f cards }
  round_asked Halting good cards = record { frame = stage_holds fsdi Halting few good; wait = stage_waits fsdi Halting; cards = cards }
  round_asked (WakingB woke) good cards = record { frame = stage_holds fsdi (WakingB woke) few good; wait = stage_waits fsdi (WakingB woke); cards = cards }
  round_asked (InA stage) good cards = record { frame = stage_holds fsdi (InA stage) few good; wait = stage_waits fsdi (InA stage); cards = same_field stage cards }
  round_asked (InB stage) good cards = record { frame = stage_holds fsdi (InB stage) few good; wait = stage_waits fsdi (InB stage); cards = cards }

  asked_good : (d : Doing) → GoodDoing d → FieldFor d f → GoodIfAsked f (asked_by fsdi d)
  asked_good (Rounds stage) good cards = round_asked stage good cards
  asked_good (Carries l) good cards = block_good l (asked l.reader) f good (asked_fits l.set.frames.card l.reader good.reader) cards
  asked_good (Closing l) good cards = block_good l Deselect f good tt cards
  asked_good (Stopped ending) good cards = tt
  asked_good Astray good cards = tt

-- ---- an exchange, and more of them

record GoodLane (l : Lane) : Type 0 where
  standing : GoodStanding l.standing
  cards : FieldFor l.standing.doing l.field

-- what is asked in the next exchange, and what is heard
abbrev pub CanBeHeld : Lane → Option Ask → Type 0
CanBeHeld l None = Unit {0}
CanBeHeld l (Some ask) = HoldsFrame ask.bytes × (ask.wait ≤ 16384) × HoldsHeard ask.wave (or_silence (field_answers ask l.field).0)

heard_bytes : (w : Wave) (heard : Heard) → HoldsHeard w heard → HearsBytes heard
heard_bytes w Silence h = tt
heard_bytes w Noise h = tt
heard_bytes w Overlap h = tt
heard_bytes w (Frame v bytes) h = h.1.0

module _ (fsdi : ℕ) (few : fsdi ≤ FSDI) where
  can_be_held : (l : Lane) (o : Option Ask) → GoodIfAsked l.field o → CanBeHeld l o
  can_be_held l None good = tt
  can_be_held l (Some ask) good = (good.frame, good.wait, (field_holds (if ask.reset then field_reset l.field else l.field) ask.wave ask.bytes good.cards).0)

  lane_held : (l : Lane) → GoodLane l → CanBeHeld l (asked_by fsdi l.standing.doing)
  lane_held l good = can_be_held l (asked_by fsdi l.standing.doing) (asked_good fsdi few l.field l.standing.doing good.standing.doing good.cards)

  module _ (talk : Talk) (asks : AsksBytes talk) where
    goes_good : (l : Lane) (o : Option Ask) → GoodLane l → GoodIfAsked l.field o → GoodLane (goes_by fsdi talk o l)
    goes_good l None good asked = good
    goes_good l (Some ask) good asked =
        let f = if ask.reset then field_reset l.field else l.field in
        let heard = or_silence (field_send f ask.wave ask.bytes).0 in
        let holds = field_holds f ask.wave ask.bytes asked.cards in
        let next = after_hearing fsdi talk heard l.standing in
        record {
          standing = heard_good fsdi talk asks l.standing.results heard l.standing.doing good.standing.results good.standing.doing (heard_bytes ask.wave heard holds.0);
          cards = field_for next.doing (field_send f ask.wave ask.bytes).1 holds.1;
        }

    step_good : (l : Lane) → GoodLane l → GoodLane (lane_step fsdi talk l)
    step_good l good = goes_good l (asked_by fsdi l.standing.doing) good (asked_good fsdi few l.field l.standing.doing good.standing.doing good.cards)

    steps_good : (n : ℕ) (l : Lane) → GoodLane l → GoodLane (lane_after fsdi talk n l)
    steps_good zero l good = good
    steps_good (suc n) l good = steps_good n (lane_step fsdi talk l) (step_good l good)

    opened_good : (f : Field) → AreMade f.cards → GoodLane (opened_lane talk f)
    opened_good f made = record { standing = standing_good fsdi talk asks [] None tt tt; cards = first_for (so_far talk []).wish f made }

    -- after so many exchanges of a transaction made of bytes, over a field whose cards are
    pub held_after : (f : Field) → AreMade f.cards → (n : ℕ)
        → CanBeHeld (lane_after fsdi talk n (opened_lane talk f)) (asked_by fsdi (lane_after fsdi talk n (opened_lane talk f)).standing.doing)
    held_after f made n = lane_held (lane_after fsdi talk n (opened_lane talk f)) (steps_good n (opened_lane talk f) (opened_good f made))
