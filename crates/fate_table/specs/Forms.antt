-- The form of the texts that say what becomes of the frames of one exchange (this project's own).
use Rattle.std.specs.Prelude.{◌≡◌, codes, ℕ, ◌+◌, ◌*◌, ◌≤◌, ◌↔◌, List, [], ◌∷◌, ◌++◌, length, Ok, Some}
use Rattle.std.specs.Str.Parse.{AllDigits, digits_value}
use Rattle.hex.specs.Hex.{decode_of}
use Rattle.ep_base.specs.Air.Fates.{Way, Passes, Loses, Bursts, Leaves, Fate}
use Rattle.ep_base.specs.declared.limits.TheConstants.{LAST_START}
use Rattle.fate_table.specs.Tokens.{fate_of_text}

-- The start of a burst: 1 to 4 decimal digits of a number that is at most 4095 (this project's own).
pub record SpellsStart (digits : List ℕ) (start : ℕ) : Type 0 where
  pub some : 1 ≤ length digits
  pub few : length digits ≤ 4
  pub all : AllDigits 10 digits
  pub value : digits_value 10 digits ≡ start
  pub most : start ≤ LAST_START

-- The bits of a burst: four hexadecimal digits of either case, the highest first (this project's own).
pub record SpellsMask (digits : List ℕ) (mask : ℕ) : Type 0 where
  pub high : ℕ
  pub low : ℕ
  pub bytes : decode_of digits ≡ Ok (high ∷ low ∷ [])
  pub value : 256 * high + low ≡ mask

-- A burst: the letter b, its start, a colon, and its bits (this project's own).
pub record SpellsBurst (token : List ℕ) (start mask : ℕ) : Type 0 where
  pub digits : List ℕ
  pub bits : List ℕ
  pub parts : token ≡ codes "b" ++ digits ++ codes ":" ++ bits
  pub starts : SpellsStart digits start
  pub inverts : SpellsMask bits mask

-- What becomes of one frame: a sign, or a burst (this project's own).
abbrev pub SpellsWay : List ℕ → Way → Type 0
SpellsWay token Passes = token ≡ codes "-"
SpellsWay token Loses = token ≡ codes "x"
SpellsWay token (Bursts start mask) = SpellsBurst token start mask
SpellsWay token Leaves = token ≡ codes "v"

-- A text spells what becomes of the frames of one exchange: first the reader's frame, one space, then the answer (this project's own).
pub record SpellsFate (text : List ℕ) (one_fate : Fate) : Type 0 where
  pub down : List ℕ
  pub up : List ℕ
  pub parts : text ≡ down ++ codes " " ++ up
  pub goes_down : SpellsWay down one_fate.down
  pub comes_up : SpellsWay up one_fate.up

-- A text is read exactly where it spells what is read (this project's own).
abbrev pub OneReading : Type 0
OneReading = (text : List ℕ) (one_fate : Fate) → (fate_of_text text ≡ Some one_fate) ↔ SpellsFate text one_fate
