-- Type B outside the block protocol: a poll round's steps with a card, and the card's states (ISO/IEC 14443-3 Type B, REQB/WUPB command, ATQB
-- response and ATTRIB command).
use Rattle.std.specs.Prelude.{ℕ, ◌+◌, ◌*◌, ◌%◌, ◌==◌, nat_lt, Bool, not, ◌&&◌, List, [], ◌∷◌, ◌++◌, length, slice_index, Option, Some, None, Result, Ok, Err, if◌then◌else◌}
use Rattle.std.specs.Str.{bytes_eq}
use Rattle.ep_base.specs.declared.air.Wave.{Wave}
use Rattle.ep_base.specs.declared.air.Wave.TheVariants.{B}
use Rattle.ep_base.specs.declared.air.CardKind.TheVariants as kinds
use Rattle.ep_base.specs.declared.activation.Atqb.{Atqb}
use Rattle.ep_base.specs.declared.activation.AtqbFault.{AtqbFault}
use Rattle.ep_base.specs.Air.Frame.{opened}
use Rattle.ep_base.specs.Air.FrameSize.{frame_size}
use Rattle.ep_base.specs.Air.Heard.{framed, same_wave, Ask, asks, Heard, awaited, on_answer, RoundTurn, Goes, Ends, Unsupported, Broken, Found, CardHear, Mute, Sends, Opens, Passes}
use Rattle.ep_base.specs.Cards.Activation.{atqb}

-- WUPB for all application families and one slot (ISO/IEC 14443-3).
abbrev pub wupb : List ℕ
wupb = 0x05 ∷ 0 ∷ 0x08 ∷ []

-- ATTRIB to the card with this PUPI: 1Dh, PUPI, 0, FSDI with 0 above, 1, CID 0 (ISO/IEC 14443-3).
abbrev pub attrib_of : List ℕ → ℕ → List ℕ
attrib_of pupi fsdi = 0x1d ∷ (pupi ++ (0 ∷ fsdi ∷ 1 ∷ 0 ∷ []))

-- A card that was found by its ATQB, to which ATTRIB is sent (ISO/IEC 14443-3).
pub record BStage : Type 0 where
  pub pupi : List ℕ
  pub fsc : ℕ
  pub fwi : ℕ

-- The frame of ATTRIB (ISO/IEC 14443-3).
abbrev pub b_asks : ℕ → BStage → Ask
b_asks fsdi stage = asks B (attrib_of stage.pupi fsdi)

-- After ATQB: ATTRIB is sent to a card that follows ISO/IEC 14443-4 (this project's profile).
abbrev pub after_atqb : Result Atqb AtqbFault → RoundTurn BStage
after_atqb (Ok a) = if a.iso4 then Goes (record { pupi = a.pupi; fsc = a.fsc; fwi = a.fwi }) else Ends Unsupported
after_atqb (Err e) = Ends Broken

-- How a round goes on, or ends, by what is heard after WUPB (this project's profile).
abbrev pub b_found : Heard → RoundTurn BStage
b_found heard = on_answer (λ message. after_atqb (atqb message)) (awaited B heard)

-- After ATTRIB: the card is activated by an answer of at least one byte whose low nibble is CID 0 (ISO/IEC 14443-3; that
-- another one breaks the round: this project's profile).
abbrev pub b_says : BStage → List ℕ → RoundTurn BStage
b_says stage message =
    if nat_lt 0 (length message) && (slice_index message 0 % 16 == 0)
    then Ends (Found (record { kind = kinds.B; id = stage.pupi; fsc = stage.fsc; fwi = stage.fwi }))
    else Ends Broken

-- How a round ends by what is heard after ATTRIB (this project's profile).
abbrev pub b_hears : BStage → Heard → RoundTurn BStage
b_hears stage heard = on_answer (b_says stage) (awaited B heard)

-- A card of Type B: its PUPI, its application data, the code of the frames that it takes, its frame waiting time integer,
-- and whether it follows ISO/IEC 14443-4 (ISO/IEC 14443-3).
pub record BPlan : Type 0 where
  pub pupi : List ℕ
  pub app_data : List ℕ
  pub fsci : ℕ
  pub fwi : ℕ
  pub iso4 : Bool

-- Where a card stands outside the block protocol, and that it is in it (this project's profile).
pub data BState : Type 0 where
  BIdle : BState
  BReady : BState
  BProtocol : BState

-- ATQB: 50h, PUPI, application data, and the protocol info of a card without other features (ISO/IEC 14443-3; the bits
-- that are 0: this project's profile).
abbrev pub atqb_of : BPlan → List ℕ
atqb_of plan = 0x50 ∷ (plan.pupi ++ (plan.app_data ++ (0 ∷ (16 * plan.fsci + (if plan.iso4 then 1 else 0)) ∷ (16 * plan.fwi) ∷ [])))

-- Whether this is ATTRIB with this PUPI, for some FSDI (ISO/IEC 14443-3).
abbrev pub is_attrib : List ℕ → List ℕ → Bool
is_attrib pupi message =
    (length message == 9) && (nat_lt (slice_index message 6) 16
    && bytes_eq message (attrib_of pupi (slice_index message 6)))

-- A message after WUPB: ATTRIB opens the block protocol of a card that follows ISO/IEC 14443-4 (this project's profile).
abbrev pub b_ready : BPlan → List ℕ → BState × CardHear
b_ready plan message =
    if is_attrib plan.pupi message && plan.iso4
    then (BProtocol, Opens (framed B (0 ∷ [])) (frame_size (slice_index message 6)))
    else (BReady, Mute)

-- A message other than WUPB, in each state (this project's profile).
abbrev pub b_other : BPlan → BState → List ℕ → BState × CardHear
b_other plan BIdle message = (BIdle, Mute)
b_other plan BReady message = b_ready plan message
b_other plan BProtocol message = (BProtocol, Mute)

-- A good frame's message, outside the block protocol: WUPB wakes the card (this project's profile).
unfoldable pub b_takes : BPlan → BState → Wave → List ℕ → BState × CardHear
b_takes plan state wave message =
    if not (same_wave wave B) then (state, Mute)
    else (if bytes_eq message wupb
    then (BReady, Sends (framed B (atqb_of plan)))
    else b_other plan state message)

-- A frame that isn't good changes nothing (this project's profile).
abbrev pub b_opened : BPlan → BState → Wave → Option (List ℕ) → BState × CardHear
b_opened plan state wave (Some message) = b_takes plan state wave message
b_opened plan state wave None = (state, Mute)

-- What a card does with a frame. In the block protocol it passes on each frame of Type B, good or not (this project's
-- profile).
abbrev pub b_card : BPlan → BState → Wave → List ℕ → BState × CardHear
b_card plan BProtocol wave bytes = (BProtocol, (if same_wave wave B then Passes else Mute))
b_card plan BIdle wave bytes = b_opened plan BIdle wave (opened wave bytes)
b_card plan BReady wave bytes = b_opened plan BReady wave (opened wave bytes)
