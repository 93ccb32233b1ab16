-- What is asked and heard in the air, and how a poll round ends, as plain data (this project's profile, after ISO/IEC 14443-3).
use Rattle.std.specs.Prelude.{ℕ, Bool, true, false, List, Option, Some, None, if◌then◌else◌}
use Rattle.ep_base.specs.declared.air.Wave.{Wave}
use Rattle.ep_base.specs.declared.air.Wave.TheVariants.{AShort, ABare, A, B}
use Rattle.ep_base.specs.declared.air.CardKind.{CardKind}
use Rattle.ep_base.specs.declared.air.CardKind.TheVariants as kinds
use Rattle.ep_base.specs.Air.Frame.{sealed, opened}

-- A frame with its wave (ISO/IEC 14443-3).
pub record Sent : Type 0 where
  pub wave : Wave
  pub bytes : List ℕ

-- A message as a frame of this wave, with its check bytes where the wave has them (ISO/IEC 14443-3).
abbrev pub framed : Wave → List ℕ → Sent
framed wave message = record { wave = wave; bytes = sealed wave message }

-- What is asked in one exchange: whether the field is reset before, the frame, and the waiting number (this project's profile).
pub record Ask : Type 0 where
  pub reset : Bool
  pub wave : Wave
  pub bytes : List ℕ
  pub wait : ℕ

-- A message in a frame of this wave, without a reset and with the waiting number 0 (this project's profile).
abbrev pub asks : Wave → List ℕ → Ask
asks wave message = record { reset = false; wave = wave; bytes = sealed wave message; wait = 0 }

-- What is heard in one exchange (this project's profile).
pub data Heard : Type 0 where
  Silence : Heard
  Noise : Heard
  Overlap : Heard
  Frame : (wave : Wave) (bytes : List ℕ) → Heard

-- Whether nothing was heard (this project's profile).
abbrev pub is_silent : Heard → Bool
is_silent Silence = true
is_silent Noise = false
is_silent Overlap = false
is_silent (Frame wave bytes) = false

-- Whether two waves are the same (this project's own).
abbrev pub same_wave : Wave → Wave → Bool
same_wave AShort AShort = true
same_wave ABare ABare = true
same_wave A A = true
same_wave B B = true
same_wave _ _ = false

-- Whether two kinds are the same (this project's own).
abbrev pub same_kind : CardKind → CardKind → Bool
same_kind kinds.A kinds.A = true
same_kind kinds.B kinds.B = true
same_kind _ _ = false

-- The wave of a kind's frames with check bytes (ISO/IEC 14443-3).
abbrev pub wave_of_kind : CardKind → Wave
wave_of_kind kinds.A = A
wave_of_kind kinds.B = B

-- A card that was activated: its kind, its UID or PUPI, its frame size and its FWI (ISO/IEC 14443-3, -4).
pub record Activated : Type 0 where
  pub kind : CardKind
  pub id : List ℕ
  pub fsc : ℕ
  pub fwi : ℕ

-- How a poll round ends (this project's profile, after the EMV contactless level 1 procedure).
pub data RoundEnd : Type 0 where
  Empty : RoundEnd
  Collision : RoundEnd
  Unsupported : RoundEnd
  Broken : RoundEnd
  Found : (card : Activated) → RoundEnd

-- A poll round goes on in a state, or ends (this project's profile).
pub data RoundTurn (S : Type 0) : Type 0 where
  Goes : (state : S) → RoundTurn S
  Ends : (ending : RoundEnd) → RoundTurn S

-- The state in which a round goes on, if it does (this project's own).
abbrev pub place_of : {S : Type 0} → RoundTurn S → Option S
place_of (Goes s) = Some s
place_of (Ends e) = None

-- The end of a round that doesn't go on (this project's own).
abbrev pub end_of : {S : Type 0} → RoundTurn S → Option RoundEnd
end_of (Goes s) = None
end_of (Ends e) = Some e

-- An awaited answer: what it says, or how it ends the round (this project's profile).
pub data RoundAnswer : Type 0 where
  Says : (message : List ℕ) → RoundAnswer
  Fails : (ending : RoundEnd) → RoundAnswer

-- What a frame of the awaited wave says once it is opened: one that isn't good ends the round (this project's profile).
abbrev pub says_opened : Option (List ℕ) → RoundAnswer
says_opened (Some message) = Says message
says_opened None = Fails Broken

-- An awaited answer of this wave: Overlap is a collision, and all else that isn't a good frame of the wave is broken (this project's profile).
abbrev pub awaited : Wave → Heard → RoundAnswer
awaited wave Silence = Fails Broken
awaited wave Noise = Fails Broken
awaited wave Overlap = Fails Collision
awaited wave (Frame w bytes) = if same_wave w wave then says_opened (opened wave bytes) else Fails Broken

-- How a round goes on after an awaited answer (this project's profile).
abbrev pub on_answer : {S : Type 0} → (List ℕ → RoundTurn S) → RoundAnswer → RoundTurn S
on_answer next (Says message) = next message
on_answer next (Fails e) = Ends e

-- What a card does with a frame: nothing, an answer, the answer that opens the block protocol with the reader's frame
-- size, or it leaves the frame to the block protocol (this project's profile).
pub data CardHear : Type 0 where
  Mute : CardHear
  Sends : (answer : Sent) → CardHear
  Opens : (answer : Sent) (fsd : ℕ) → CardHear
  Passes : CardHear
