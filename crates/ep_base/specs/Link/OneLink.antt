-- One open link between a reader and a card, over a list of fates (this project's own).
use Rattle.std.specs.Prelude.{ℕ, Bool, true, false, List, [], ◌∷◌, Option, Some, None}
use Rattle.ep_base.specs.Link.Block.{Block, ReadBlock, Bad, Intact}
use Rattle.ep_base.specs.Link.ReaderEnd.{Reader, ReaderTurn, Asks, Gives, Spends, Breaks, asked, reader_hears}
use Rattle.ep_base.specs.Link.CardEnd.{CommandRules, Card, Answer, card_hears, mute}

-- The sizes of frames that the card and the reader take.
pub record Frames : Type 0 where
  pub card : ℕ
  pub reader : ℕ

-- Whether the frame comes down to the card, and whether the answer comes up to the reader.
pub record BlockFate : Type 0 where
  pub down : Bool
  pub up : Bool

-- The card hears the frame as it was sent, or not at all.
abbrev pub goes_down : Bool → Frames → CommandRules → Card → Block → Answer
goes_down true frames image card block = card_hears frames.reader image card block
goes_down false frames image card block = mute card

-- The reader hears the answer as it was sent, or the hearing is bad.
abbrev pub comes_up : Bool → Option Block → ReadBlock
comes_up true (Some block) = Intact block
comes_up true None = Bad
comes_up false answer = Bad

-- How a command ends, with both ends as they are then and the fates that are left; or it is open where the fates run out.
pub data End : Type 0 where
  Open : Reader → Card → End
  Done : List ℕ → Reader → Card → List BlockFate → End
  Spent : Reader → Card → End
  Breach : Reader → Card → End

abbrev pub goes_on_by : (Reader → Card → End) → List BlockFate → ReaderTurn → Card → End
goes_on_by next fates (Asks r) card = next r card
goes_on_by next fates (Gives response r) card = Done response r card fates
goes_on_by next fates (Spends r) card = Spent r card
goes_on_by next fates (Breaks r) card = Breach r card

-- The reader's turn after what came up.
abbrev pub hears_answer : Bool → Frames → Reader → Answer → ReaderTurn
hears_answer up frames r a = reader_hears frames.reader r (comes_up up a.block)

-- The exchanges of a command.
abbrev pub run_command : Frames → CommandRules → List BlockFate → Reader → Card → End
run_command frames image [] r card = Open r card
run_command frames image (f ∷ fates) r card =
    goes_on_by (run_command frames image fates) fates
    (hears_answer f.up frames r (goes_down f.down frames image card (asked r))) (goes_down f.down frames image card (asked r)).card
