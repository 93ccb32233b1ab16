-- The block protocol in frames: what a block looks like in the air, and what a frame says as a block (ISO/IEC 14443-4, block format and frame
-- waiting time).
use Rattle.std.specs.Prelude.{ℕ, ◌*◌, ◌^◌, min, nat_le, false, if◌then◌else◌, List, [], length, Option, Some, None}
use Rattle.ep_base.specs.declared.air.CardKind.{CardKind}
use Rattle.ep_base.specs.declared.blocks.Phase as phases
use Rattle.ep_base.specs.declared.blocks.Phase.TheVariants as phase
use Rattle.ep_base.specs.Air.Frame.{sealed, opened}
use Rattle.ep_base.specs.Air.Heard.{Sent, framed, Ask, Heard, Silence, Noise, Overlap, Frame, same_wave, wave_of_kind}
use Rattle.ep_base.specs.Link.Block.{Block, I, RAck, RNak, Deselect, Wtx, ReadBlock, Bad, Junk, Intact, count, is_wtx}
use Rattle.ep_base.specs.Link.ReaderEnd.{Reader, Phase, Idle, Sending, Receiving}
use Rattle.ep_base.specs.Link.OneLink.{Frames}
use Rattle.ep_base.specs.Link.Spelling.{number_bit, spelled, Read, Reads, Refuses, read_block}

-- A link: its card's kind, the frame sizes of both sides, and the card's FWI (ISO/IEC 14443-4).
pub record LinkSetting : Type 0 where
  pub kind : CardKind
  pub frames : Frames
  pub fwi : ℕ

-- A block in a frame of its link's wave (ISO/IEC 14443-4).
abbrev pub block_frame : CardKind → Block → Sent
block_frame kind b = framed (wave_of_kind kind) (spelled b)

-- The waiting number of a block that the reader sends: longer by its WTXM for an S(WTX) (ISO/IEC 14443-4).
abbrev pub wait_of : ℕ → Block → ℕ
wait_of fwi (I k ch inf) = 2 ^ fwi
wait_of fwi (RAck k) = 2 ^ fwi
wait_of fwi (RNak k) = 2 ^ fwi
wait_of fwi Deselect = 2 ^ fwi
wait_of fwi (Wtx p m) = min 16384 (2 ^ fwi * m)

-- What the reader asks with a block (ISO/IEC 14443-4).
abbrev pub block_ask : CardKind → ℕ → Block → Ask
block_ask kind fwi b = record { reset = false; wave = wave_of_kind kind; bytes = sealed (wave_of_kind kind) (spelled b); wait = wait_of fwi b }

-- An intact frame as a block; one that is no block is outside the rules (ISO/IEC 14443-4).
abbrev pub intact : Read → ReadBlock
intact (Reads b) = Intact b
intact (Refuses fault) = Junk

-- A frame of the link's wave, in so many bytes. One whose check is wrong is bad, before its length counts; one longer than the reader's frames
-- is outside the rules (ISO/IEC 14443-4; this project's profile).
abbrev pub heard_opened : ℕ → ℕ → Option (List ℕ) → ReadBlock
heard_opened fsd len None = Bad
heard_opened fsd len (Some message) = if nat_le len fsd then intact (read_block message) else Junk

-- What the reader makes out of a hearing: silence, noise, overlapping answers and frames of another wave are bad (ISO/IEC 14443-4).
abbrev pub heard_block : CardKind → ℕ → Heard → ReadBlock
heard_block kind fsd Silence = Bad
heard_block kind fsd Noise = Bad
heard_block kind fsd Overlap = Bad
heard_block kind fsd (Frame wave bytes) =
    if same_wave wave (wave_of_kind kind) then heard_opened fsd (length bytes) (opened wave bytes) else Bad

-- An exchange as the reader's end keeps it: all bytes of the frame that it sent, and what was heard (this project's profile).
pub record Kept : Type 0 where
  pub sent : List ℕ
  pub heard : Heard

-- What a breach shows: the frame that was heard with its check bytes, the reader's block number, what it was doing, and how many S(WTX) it
-- accepted since the toggle (this project's profile).
pub record BreachData : Type 0 where
  pub frame : List ℕ
  pub number : ℕ
  pub phase : phases.Phase
  pub wtx : ℕ

-- The bytes of the frame that was heard (this project's own).
abbrev pub frame_heard : Heard → List ℕ
frame_heard Silence = []
frame_heard Noise = []
frame_heard Overlap = []
frame_heard (Frame wave bytes) = bytes

-- What the reader is doing (this project's profile).
abbrev pub phase_shown : Phase → phases.Phase
phase_shown Idle = phase.Sending
phase_shown (Sending part left) = phase.Sending
phase_shown (Receiving got) = phase.Receiving

-- The breach of a reader at this hearing (this project's profile).
abbrev pub breach_of : Reader → Heard → BreachData
breach_of r h = record { frame = frame_heard h; number = number_bit r.number; phase = phase_shown r.phase; wtx = count is_wtx r.since }
