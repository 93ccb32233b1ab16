-- The form of a trace line that is read, and which exchanges a line can hold (this project's own).
use Rattle.std.specs.Prelude.{◌≡◌, ℕ, ◌≤◌, ◌↔◌, List, ◌++◌, length, codes, decimal, Ok, Some, ⊤}
use Rattle.hex.specs.Hex.{decode_of, IsBytes}
use Rattle.ep_base.specs.declared.air.Wave.{Wave}
use Rattle.ep_base.specs.Air.Heard.{Heard, Silence, Noise, Overlap, Frame}
use Rattle.ep_claim.specs.Text.TraceLine.{TraceLine, answer_wave, read_trace_line, trace_text, wave_letter}
use Rattle.ep_base.specs.declared.limits.TheConstants.{FRAME, LANES}

-- A frame of 1 to `FRAME` bytes, in hexadecimal digits of either case (this project's own).
abbrev pub SpellsFrame : List ℕ → List ℕ → Type 0
SpellsFrame digits bytes = (decode_of digits ≡ Ok bytes) × (1 ≤ length bytes) × (length bytes ≤ FRAME)

-- What was heard after a frame of this wave: a sign, or a frame whose wave is the answer's (this project's own).
abbrev pub SpellsHeard : Wave → List ℕ → Heard → Type 0
SpellsHeard sent text Silence = text ≡ codes "-"
SpellsHeard sent text Noise = text ≡ codes "?"
SpellsHeard sent text Overlap = text ≡ codes "*"
SpellsHeard sent text (Frame wave bytes) = (wave ≡ answer_wave sent) × (digits : List ℕ) × (text ≡ codes "=" ++ digits) × SpellsFrame digits bytes

-- A line without its newline spells an exchange: lane 1 to `LANES` and waiting number 0 to 16384 without leading zeros, single spaces (this project's own).
pub record SpellsLine (text : List ℕ) (line : TraceLine) : Type 0 where
  pub digits : List ℕ
  pub answer : List ℕ
  pub parts :
      text
      ≡ codes "x " ++ decimal line.sent.lane ++ codes " " ++ wave_letter line.sent.wave ++ codes " " ++ digits ++ codes " "
      ++ decimal line.sent.wait ++ codes " " ++ answer
  pub lane : (1 ≤ line.sent.lane) × (line.sent.lane ≤ LANES)
  pub wait : line.sent.wait ≤ 16384
  pub frame : SpellsFrame digits line.sent.frame
  pub heard : SpellsHeard line.sent.wave answer line.heard

-- The bytes of a frame that a line can hold (this project's own).
abbrev pub HoldsFrame : List ℕ → Type 0
HoldsFrame bytes = IsBytes bytes × (1 ≤ length bytes) × (length bytes ≤ FRAME)

-- What a line can say was heard after a frame of this wave (this project's own).
abbrev pub HoldsHeard : Wave → Heard → Type 0
HoldsHeard sent Silence = ⊤
HoldsHeard sent Noise = ⊤
HoldsHeard sent Overlap = ⊤
HoldsHeard sent (Frame wave bytes) = (wave ≡ answer_wave sent) × HoldsFrame bytes

-- An exchange that a line can hold: lane, waiting number and frames within their bounds, and an answer in the answer's wave (this project's own).
pub record HoldsLine (line : TraceLine) : Type 0 where
  pub lane : (1 ≤ line.sent.lane) × (line.sent.lane ≤ LANES)
  pub wait : line.sent.wait ≤ 16384
  pub frame : HoldsFrame line.sent.frame
  pub heard : HoldsHeard line.sent.wave line.heard

-- A text is read as an exchange exactly where it spells it (this project's own).
abbrev pub OneReading : Type 0
OneReading = (text : List ℕ) (line : TraceLine) → (read_trace_line text ≡ Some line) ↔ SpellsLine text line

-- What was written of an exchange that a line can hold is read as this exchange (this project's own).
abbrev pub WrittenIsRead : Type 0
WrittenIsRead = (line : TraceLine) → HoldsLine line → read_trace_line (trace_text line) ≡ Some line
