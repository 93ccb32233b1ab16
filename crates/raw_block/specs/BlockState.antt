-- What a block's fields hold (this project's own).
use Rattle.std.specs.Prelude.{◌≡◌, ◌≤◌, length, take}
use Rattle.ep_base.specs.Objects.RawBytes.{RawBytes as RawBytesData, block}
use Rattle.raw_block.specs.Filling.{filled, IsFilledTo}
use Rattle.raw_block.specs.declared.RawBlock.TheInside.{Inside}

-- the bytes of the filled places, and the room
abbrev pub bytes_of : Inside → RawBytesData
bytes_of b = block (filled (take b.len b.cells.slots)) b.cap

-- the places and the right to free them are those that the pointer points to, and the first len of them hold bytes
pub record IsBlock (b : Inside) : Type 0 where
  pub places_at : b.cells.at ≡ b.pointer.ptr
  pub places_are : length b.cells.slots ≡ b.cap
  pub right_at : b.deed.at ≡ b.pointer.ptr
  pub right_to : b.deed.len ≡ b.cap
  pub right_by : b.deed.alloc ≡ b.alloc
  pub filled_to : IsFilledTo b.len b.cells.slots
  pub within : b.len ≤ b.cap
  pub least : 1 ≤ b.cap
  pub most : b.cap ≤ 65536
