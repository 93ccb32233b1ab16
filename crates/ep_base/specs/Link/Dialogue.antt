-- The reader's end of a link, before its first command and between two (ISO/IEC 14443-4).
use Rattle.std.specs.Prelude.{false, []}
use Rattle.ep_base.specs.Link.Block.{Block, Deselect}
use Rattle.ep_base.specs.Link.ReaderEnd.{Reader, Idle, asked, ReaderTurn, Asks, Gives, Spends, Breaks}

-- The reader's end of a link that was just opened.
abbrev pub opened_reader : Reader
opened_reader = record { number = false; phase = Idle; since = [] }

-- The block that the reader sends next, which is S(DESELECT) where no command is open.
abbrev pub block_of : ReaderTurn → Block
block_of (Asks r) = asked r
block_of (Gives response r) = Deselect
block_of (Spends r) = Deselect
block_of (Breaks r) = Deselect
