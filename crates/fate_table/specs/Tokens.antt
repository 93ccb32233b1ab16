-- The texts that say what becomes of the frames of one exchange (this project's own).
use Rattle.std.specs.Prelude.{codes, ℕ, ◌+◌, ◌*◌, ◌==◌, ◌&&◌, nat_le, nat_lt, Bool, List, [], ◌∷◌, length, slice_index, Some, None, option_map, if◌then◌else◌}
use Rattle.std.specs.declared.option.Option.{Option}
use Rattle.std.specs.List.{before_first, after_first, position_or_len}
use Rattle.std.specs.Str.{all_ascii_digits}
use Rattle.std.specs.Str.Parse.{digits_value}
use Rattle.hex.specs.Hex.{decode_of}
use Rattle.ep_base.specs.Air.Fates.{Way, Passes, Loses, Bursts, Leaves, Fate}
use Rattle.ep_base.specs.Cards.Apdu.{same_bytes}
use Rattle.ep_base.specs.Streams.Words.{◌>>=◌, split_word}
use Rattle.ep_base.specs.declared.limits.TheConstants.{LAST_START}
use Rattle.doc_table.specs.Read.{is_within, sized}

-- 1 to 4 decimal digits of a number that is at most 4095 (this project's own).
abbrev pub is_start : List ℕ → Bool
is_start digits = is_within 1 4 (length digits) && (all_ascii_digits digits && nat_le (digits_value 10 digits) LAST_START)

-- The place in a frame at which a burst starts (this project's own).
abbrev pub start_spelled : List ℕ → Option ℕ
start_spelled digits = if is_start digits then Some (digits_value 10 digits) else None

-- The number of two bytes, the first one highest (this project's own).
abbrev pub mask_of : List ℕ → ℕ
mask_of bytes = 256 * slice_index bytes 0 + slice_index bytes 1

-- The bits of a burst, which four hexadecimal digits of either case spell (this project's own).
abbrev pub mask_spelled : List ℕ → Option ℕ
mask_spelled digits = option_map mask_of (sized 2 2 (decode_of digits))

-- The byte of a colon (this project's own).
abbrev pub is_colon : ℕ → Bool
is_colon b = b == 58

-- What stands before the first colon, and what stands after it (this project's own).
abbrev pub cut_at_colon : List ℕ → Option (List ℕ × List ℕ)
cut_at_colon text = if nat_lt (position_or_len is_colon text) (length text) then Some (before_first is_colon text, after_first is_colon text) else None

-- What stands after the letter b (this project's own).
abbrev pub after_letter : List ℕ → Option (List ℕ)
after_letter [] = None
after_letter (c ∷ rest) = if c == 98 then Some rest else None

-- A burst: the letter b, its start, a colon, and its bits (this project's own).
abbrev pub burst_spelled : List ℕ → Option Way
burst_spelled token = do
  text ← after_letter token
  parts ← cut_at_colon text
  start ← start_spelled parts.0
  mask ← mask_spelled parts.1
  Some (Bursts start mask)

-- What becomes of one frame: a dash where it passes, x where it is lost, v where the cards leave, or a burst (this project's own).
abbrev pub way_of_text : List ℕ → Option Way
way_of_text token =
    if same_bytes token (codes "-") then Some Passes
    else (if same_bytes token (codes "x") then Some Loses
    else (if same_bytes token (codes "v") then Some Leaves
    else burst_spelled token))

-- What becomes of the frames of one exchange: that of the reader's frame, one space, and that of the answer (this project's own).
unfoldable pub fate_of_text : List ℕ → Option Fate
fate_of_text text = do
  parts ← split_word text
  down ← way_of_text parts.0
  up ← way_of_text parts.1
  Some (record { down = down; up = up })
