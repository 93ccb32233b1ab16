-- Type A outside the block protocol: a poll round's steps with a card, and the card's states (ISO/IEC 14443-3 Type A, command set, select sequence
-- and PICC states; ISO/IEC 14443-4, request for answer to select).
use Rattle.std.specs.Prelude.{ℕ, ◌+◌, ◌-◌, ◌*◌, ◌/◌, ◌%◌, ◌==◌, nat_lt, Bool, ◌&&◌, List, [], ◌∷◌, ◌++◌, length, slice_index, take, drop, bit_xor, Option, Some, None, Result, Ok, Err, if◌then◌else◌}
use Rattle.std.specs.Str.{bytes_eq}
use Rattle.ep_base.specs.declared.air.Wave.{Wave}
use Rattle.ep_base.specs.declared.air.Wave.TheVariants.{AShort, ABare, A}
use Rattle.ep_base.specs.declared.air.CardKind.TheVariants as kinds
use Rattle.ep_base.specs.declared.activation.Ats.{Ats}
use Rattle.ep_base.specs.declared.activation.AtsFault.{AtsFault}
use Rattle.ep_base.specs.Air.Frame.{opened}
use Rattle.ep_base.specs.Air.FrameSize.{frame_size}
use Rattle.ep_base.specs.Air.Heard.{framed, same_wave, Ask, asks, Heard, awaited, on_answer, RoundTurn, Goes, Ends, Unsupported, Broken, Found, CardHear, Mute, Sends, Opens, Passes}
use Rattle.ep_base.specs.Cards.Activation.{ats, bit}

-- WUPA (ISO/IEC 14443-3).
abbrev pub wupa : List ℕ
wupa = 0x52 ∷ []

-- HLTA (ISO/IEC 14443-3).
abbrev pub hlta : List ℕ
hlta = 0x50 ∷ 0 ∷ []

-- SEL of a cascade level: 93h, 95h or 97h (ISO/IEC 14443-3).
abbrev pub sel : ℕ → ℕ
sel level = 0x91 + 2 * level

-- The exclusive or of the first four bytes (ISO/IEC 14443-3).
abbrev pub bcc : List ℕ → ℕ
bcc part = bit_xor (bit_xor (slice_index part 0) (slice_index part 1)) (bit_xor (slice_index part 2) (slice_index part 3))

-- What was sent last to a card, and what is known of it: WUPA; a question for a level, with the UID's bytes of the levels
-- before; its selection, with the level's answer; RATS, with the whole UID (ISO/IEC 14443-3, -4).
pub data AStage : Type 0 where
  Woken : AStage
  Level : (level : ℕ) (uid : List ℕ) → AStage
  Select : (level : ℕ) (uid : List ℕ) (part : List ℕ) → AStage
  Complete : (uid : List ℕ) → AStage

-- The frame of a stage; RATS has the reader's FSDI above and CID 0 (ISO/IEC 14443-3, -4).
abbrev pub a_asks : ℕ → AStage → Ask
a_asks fsdi Woken = asks AShort wupa
a_asks fsdi (Level level uid) = asks ABare (sel level ∷ 0x20 ∷ [])
a_asks fsdi (Select level uid part) = asks A (sel level ∷ 0x70 ∷ part)
a_asks fsdi (Complete uid) = asks A (0xe0 ∷ 16 * fsdi ∷ [])

-- Whether a level's answer is four bytes and their exclusive or (ISO/IEC 14443-3).
abbrev pub is_level : List ℕ → Bool
is_level part = (length part == 5) && (slice_index part 4 == bcc part)

-- Whether a level's answer tells of another level: it begins with 88h, and isn't the third's (ISO/IEC 14443-3).
abbrev pub continues : ℕ → List ℕ → Bool
continues level part = nat_lt level 3 && (slice_index part 0 == 0x88)

-- After RATS: the card is activated, or the round is broken (this project's profile).
abbrev pub after_ats : List ℕ → Result Ats AtsFault → RoundTurn AStage
after_ats uid (Ok a) = Ends (Found (record { kind = kinds.A; id = uid; fsc = a.fsc; fwi = a.fwi }))
after_ats uid (Err e) = Ends Broken

-- After a SAK. Its bit 04h has to be set just where the level tells of another one, for which is asked next; else bit 20h
-- says that the card follows ISO/IEC 14443-4 (ISO/IEC 14443-3; how the round ends otherwise: this project's profile).
abbrev pub after_sak : ℕ → List ℕ → List ℕ → ℕ → RoundTurn AStage
after_sak level uid part sak =
    if bit sak 4 == 1
    then (if continues level part then Goes (Level (level + 1) (uid ++ take 3 (drop 1 part))) else Ends Broken)
    else (if continues level part then Ends Broken
    else (if bit sak 32 == 1 then Goes (Complete (uid ++ take 4 part)) else Ends Unsupported))

-- After an awaited answer, by what it says (ISO/IEC 14443-3, -4).
abbrev pub a_says : AStage → List ℕ → RoundTurn AStage
a_says Woken message = if length message == 2 then Goes (Level 1 []) else Ends Broken
a_says (Level level uid) message = if is_level message then Goes (Select level uid message) else Ends Broken
a_says (Select level uid part) message =
    if length message == 1 then after_sak level uid part (slice_index message 0) else Ends Broken
a_says (Complete uid) message = after_ats uid (ats message)

-- The wave of the awaited answer (ISO/IEC 14443-3).
abbrev pub a_wave : AStage → Wave
a_wave Woken = ABare
a_wave (Level level uid) = ABare
a_wave (Select level uid part) = A
a_wave (Complete uid) = A

-- How a round goes on, or ends, by what is heard (this project's profile).
abbrev pub a_hears : AStage → Heard → RoundTurn AStage
a_hears stage heard = on_answer (a_says stage) (awaited (a_wave stage) heard)

-- A card of Type A: its UID of 4, 7 or 10 bytes, its last SAK, the code of the frames that it takes, its frame waiting
-- time integer, and the historical bytes of its ATS (ISO/IEC 14443-3, -4).
pub record APlan : Type 0 where
  pub uid : List ℕ
  pub sak : ℕ
  pub fsci : ℕ
  pub fwi : ℕ
  pub historical : List ℕ

-- Where a card stands outside the block protocol, and that it is in it (this project's profile).
pub data AState : Type 0 where
  Idle : AState
  Ready : (level : ℕ) → AState
  Active : AState
  Protocol : AState
  Halted : AState

-- How many cascade levels a UID has: 1, 2 or 3 for 4, 7 or 10 bytes (ISO/IEC 14443-3).
abbrev pub levels : List ℕ → ℕ
levels uid = length uid / 3

-- The four bytes of a level: 88h and three of the UID's, or its last four (ISO/IEC 14443-3).
abbrev pub level_bytes : List ℕ → ℕ → List ℕ
level_bytes uid level =
    if level == levels uid then drop (3 * (level - 1)) uid else 0x88 ∷ take 3 (drop (3 * (level - 1)) uid)

-- The answer of a level: its bytes and BCC (ISO/IEC 14443-3).
abbrev pub level_part : List ℕ → ℕ → List ℕ
level_part uid level = level_bytes uid level ++ (bcc (level_bytes uid level) ∷ [])

-- ATQA: 04 00, 44 00 or 84 00 for one, two or three levels (this project's profile).
abbrev pub atqa : List ℕ → List ℕ
atqa uid = (if levels uid == 1 then 0x04 else (if levels uid == 2 then 0x44 else 0x84)) ∷ 0 ∷ []

-- The SAK of a level: 04h while the UID isn't complete (ISO/IEC 14443-3).
abbrev pub sak_of : APlan → ℕ → ℕ
sak_of plan level = if level == levels plan.uid then plan.sak else 0x04

-- ATS: TL, T0 that announces TB alone, TB with FWI, and the historical bytes (this project's profile).
abbrev pub ats_of : APlan → List ℕ
ats_of plan = (3 + length plan.historical) ∷ (0x20 + plan.fsci) ∷ (16 * plan.fwi) ∷ plan.historical

-- The state after a level was selected (ISO/IEC 14443-3).
abbrev pub after_select : APlan → ℕ → AState
after_select plan level = if level == levels plan.uid then Active else Ready (level + 1)

-- A selection of a card's level, by the bytes after SEL and 70h: those of another card make it idle (this project's
-- profile).
abbrev pub a_select : APlan → ℕ → List ℕ → AState × CardHear
a_select plan level part =
    if bytes_eq part (level_part plan.uid level)
    then (after_select plan level, Sends (framed A (sak_of plan level ∷ [])))
    else (Idle, Mute)

-- A message at a level: the question for the level and its selection are answered, and all else is ignored (ISO/IEC
-- 14443-3; that all else changes nothing: this project's profile).
abbrev pub a_ready : APlan → ℕ → Wave → List ℕ → AState × CardHear
a_ready plan level wave message =
    if same_wave wave ABare && bytes_eq message (sel level ∷ 0x20 ∷ [])
    then (Ready level, Sends (framed ABare (level_part plan.uid level)))
    else (if same_wave wave A && bytes_eq (take 2 message) (sel level ∷ 0x70 ∷ [])
    then a_select plan level (drop 2 message)
    else (Ready level, Mute))

-- Whether this is RATS: E0h and a byte with FSDI above and CID 0 (ISO/IEC 14443-4).
abbrev pub is_rats : Wave → List ℕ → Bool
is_rats wave message =
    same_wave wave A && ((length message == 2) && ((slice_index message 0 == 0xe0) && (slice_index message 1 % 16 == 0)))

-- A message after the selection: RATS opens the block protocol of a card whose SAK has 20h (this project's profile).
abbrev pub a_active : APlan → Wave → List ℕ → AState × CardHear
a_active plan wave message =
    if is_rats wave message && (bit plan.sak 32 == 1)
    then (Protocol, Opens (framed A (ats_of plan)) (frame_size (slice_index message 1 / 16)))
    else (Active, Mute)

-- A message other than WUPA and HLTA, in each state (this project's profile).
abbrev pub a_other : APlan → AState → Wave → List ℕ → AState × CardHear
a_other plan Idle wave message = (Idle, Mute)
a_other plan (Ready level) wave message = a_ready plan level wave message
a_other plan Active wave message = a_active plan wave message
a_other plan Protocol wave message = (Protocol, Mute)
a_other plan Halted wave message = (Halted, Mute)

-- A good frame's message, outside the block protocol: WUPA wakes the card, and HLTA halts it (this project's profile).
unfoldable pub a_takes : APlan → AState → Wave → List ℕ → AState × CardHear
a_takes plan state wave message =
    if same_wave wave AShort && bytes_eq message wupa
    then (Ready 1, Sends (framed ABare (atqa plan.uid)))
    else (if same_wave wave A && bytes_eq message hlta
    then (Halted, Mute)
    else a_other plan state wave message)

-- A frame that isn't good changes nothing (this project's profile).
abbrev pub a_opened : APlan → AState → Wave → Option (List ℕ) → AState × CardHear
a_opened plan state wave (Some message) = a_takes plan state wave message
a_opened plan state wave None = (state, Mute)

-- What a card does with a frame. In the block protocol it passes on each frame of Type A with check bytes, good or not
-- (this project's profile).
abbrev pub a_card : APlan → AState → Wave → List ℕ → AState × CardHear
a_card plan Protocol wave bytes = (Protocol, (if same_wave wave A then Passes else Mute))
a_card plan Idle wave bytes = a_opened plan Idle wave (opened wave bytes)
a_card plan (Ready level) wave bytes = a_opened plan (Ready level) wave (opened wave bytes)
a_card plan Active wave bytes = a_opened plan Active wave (opened wave bytes)
a_card plan Halted wave bytes = a_opened plan Halted wave (opened wave bytes)
