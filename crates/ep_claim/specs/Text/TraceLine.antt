-- The line of an exchange, and how such a line is read (this project's own).
use Rattle.std.specs.Prelude.{ℕ, ◌==◌, ◌&&◌, nat_le, List, [], ◌∷◌, ◌++◌, length, codes, decimal, find, Result, Ok, Err, Some, None, if◌then◌else◌}
use Rattle.std.specs.declared.option.Option.{Option}
use Rattle.std.specs.Str.Parse.{digits_value}
use Rattle.hex.specs.Hex.{decode_of, encode_lower}
use Rattle.hex.specs.declared.error.FromHexError.{FromHexError}
use Rattle.ep_base.specs.declared.air.Wave.{Wave}
use Rattle.ep_base.specs.declared.air.Wave.TheVariants.{AShort, ABare, A, B}
use Rattle.ep_base.specs.Cards.Apdu.{same_bytes}
use Rattle.ep_base.specs.Air.Heard.{Heard, Silence, Noise, Overlap, Frame}
use Rattle.ep_base.specs.declared.limits.TheConstants.{FRAME, LANES}
use Rattle.ep_base.specs.Streams.Words.{◌>>=◌, split_word}

-- What a lane sent in an exchange: the frame with its check bytes, its wave, and its waiting number (this project's own).
pub record Shown : Type 0 where
  pub lane : ℕ
  pub wave : Wave
  pub frame : List ℕ
  pub wait : ℕ

-- An exchange: what was sent, and what was heard (this project's own).
pub record TraceLine : Type 0 where
  pub sent : Shown
  pub heard : Heard

-- The letter of a wave (this project's own).
abbrev pub wave_letter : Wave → List ℕ
wave_letter AShort = codes "S"
wave_letter ABare = codes "N"
wave_letter A = codes "A"
wave_letter B = codes "B"

-- What was heard: a sign, or a frame's bytes as lower-case digits after an equals sign (this project's own).
abbrev pub heard_text : Heard → List ℕ
heard_text Silence = codes "-"
heard_text Noise = codes "?"
heard_text Overlap = codes "*"
heard_text (Frame wave bytes) = codes "=" ++ encode_lower bytes

-- What was sent: lane, wave, frame and waiting number (this project's own).
abbrev pub shown_text : Shown → List ℕ
shown_text sent = decimal sent.lane ++ codes " " ++ wave_letter sent.wave ++ codes " " ++ encode_lower sent.frame ++ codes " " ++ decimal sent.wait

-- The line of an exchange, without its newline (this project's own).
abbrev pub trace_text : TraceLine → List ℕ
trace_text line = codes "x " ++ shown_text line.sent ++ codes " " ++ heard_text line.heard

-- The line of an exchange (this project's own).
unfoldable pub trace_line : TraceLine → List ℕ
trace_line line = trace_text line ++ codes "\n"

-- The wave of the answer to a frame: check bytes are answered by a frame with check bytes (this project's profile).
abbrev pub answer_wave : Wave → Wave
answer_wave AShort = ABare
answer_wave ABare = ABare
answer_wave A = A
answer_wave B = B

-- A number from low to high whose decimal digits are this text (this project's own).
abbrev pub number_that : ℕ → ℕ → List ℕ → ℕ → Option ℕ
number_that low high text n = if same_bytes text (decimal n) && nat_le low n && nat_le n high then Some n else None

-- The number from low to high that decimal digits write, without a leading zero (this project's own).
unfoldable pub number_in : ℕ → ℕ → List ℕ → Option ℕ
number_in low high text = number_that low high text (digits_value 10 text)

-- The wave that has this letter (this project's own).
unfoldable pub wave_named : List ℕ → Option Wave
wave_named word = find (λ wave. same_bytes word (wave_letter wave)) (AShort ∷ ABare ∷ A ∷ B ∷ [])

-- Bytes that were spelled, if a frame can have so many (this project's own).
abbrev pub frame_within : Result (List ℕ) FromHexError → Option (List ℕ)
frame_within (Ok bytes) = if nat_le 1 (length bytes) && nat_le (length bytes) FRAME then Some bytes else None
frame_within (Err e) = None

-- The frame of 1 to `FRAME` bytes that hexadecimal digits of either case spell (this project's own).
unfoldable pub frame_spelled : List ℕ → Option (List ℕ)
frame_spelled digits = frame_within (decode_of digits)

-- What stands after an equals sign (this project's own).
abbrev pub after_equals : List ℕ → Option (List ℕ)
after_equals [] = None
after_equals (c ∷ digits) = if c == 61 then Some digits else None

-- The frame of this wave whose digits stand after an equals sign (this project's own).
abbrev pub framed_spelled : Wave → List ℕ → Option Heard
framed_spelled wave text = do
  digits ← after_equals text
  bytes ← frame_spelled digits
  Some (Frame wave bytes)

-- What a text says was heard after a frame of this wave (this project's own).
unfoldable pub heard_spelled : Wave → List ℕ → Option Heard
heard_spelled wave text =
    if same_bytes text (codes "-") then Some Silence
    else (if same_bytes text (codes "?") then Some Noise
    else (if same_bytes text (codes "*") then Some Overlap
    else framed_spelled (answer_wave wave) text))

-- What a text says was sent, and what stands after it (this project's own).
unfoldable pub read_shown : List ℕ → Option (Shown × List ℕ)
read_shown text = do
  first ← split_word text
  lane ← number_in 1 LANES first.0
  second ← split_word first.1
  wave ← wave_named second.0
  third ← split_word second.1
  frame ← frame_spelled third.0
  fourth ← split_word third.1
  wait ← number_in 0 16384 fourth.0
  Some (record { lane = lane; wave = wave; frame = frame; wait = wait }, fourth.1)

-- What stands after the first word, which marks a trace line (this project's own).
abbrev pub after_mark : List ℕ × List ℕ → Option (List ℕ)
after_mark parts = if same_bytes parts.0 (codes "x") then Some parts.1 else None

-- What was sent, with what the rest says was heard (this project's own).
abbrev pub with_heard : Shown × List ℕ → Option TraceLine
with_heard parts = do
  heard ← heard_spelled parts.0.wave parts.1
  Some (record { sent = parts.0; heard = heard })

-- The exchange that a line without its newline spells (this project's own).
unfoldable pub read_trace_line : List ℕ → Option TraceLine
read_trace_line text = do
  parts ← split_word text
  body ← after_mark parts
  sent ← read_shown body
  with_heard sent
