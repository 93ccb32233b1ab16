-- Laws about the spellings of blocks (ISO/IEC 14443-4).
use Rattle.std.specs.Prelude.{ℕ, ◌≡◌, ◌<◌, true, List, All}
use Rattle.ep_base.specs.Link.Block.{Block}
use Rattle.ep_base.specs.Link.Spelling.{is_block, spelled, Reads, read_block}

-- Each block that has a spelling is read again from it.
abbrev pub SpelledIsRead : Type 0
SpelledIsRead = (b : Block) → is_block b ≡ true → read_block (spelled b) ≡ Reads b

-- A number is one of a byte.
abbrev pub IsByte : ℕ → Type 0
IsByte n = n < 256

-- Bytes that are read as a block are its spelling, and the block has one.
abbrev pub ReadIsSpelled : Type 0
ReadIsSpelled = (bytes : List ℕ) (b : Block) → All IsByte bytes → read_block bytes ≡ Reads b → (spelled b ≡ bytes) × (is_block b ≡ true)
