-- What the holder of a `&` to the places has. Assumes `Logic`.
use base.Fml.{Incl-refl}
use denote.RawPtr.{RawPtr}
use denote.Param.Shared.{copy_shared}
use denote.Struct.Laws.{field_copy}
use denote.Struct.Lending.{of_Lends}
use Rattle.std.specs.contracts.marker.PhantomData as marker
use Rattle.raw_block.specs.contracts.cells.Cells as C
use Rattle.raw_block.proofs.cells.Cells.TheLaw.Statement.{statement}
use Rattle.raw_block.proofs.Lending.{cells_laws, cells_lend}

pub shares : statement
shares = of_Lends C.struct (C.the_codes (marker.the_row RawPtr).coded) C.the_heap C.the_lent (λ d p. cells_laws d.at d.slots) (copy_shared (marker.the_field RawPtr) (field_copy (marker.the_type RawPtr) tt), tt) (λ M 𝓤 𝓛 d p. cells_lend 𝓛 C.the_row.lives (Incl-refl _) d.at d.slots)
