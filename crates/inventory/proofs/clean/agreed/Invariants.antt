use Rattle.std.proofs.Common.{take}
use Rattle.inventory.specs.Bits.{known_bits}
use Rattle.inventory.specs.Hearing.{AgreeAs}
use Rattle.inventory.specs.Told.{heard_values}
use Rattle.inventory.proofs.clean.agreed.Given as goal

-- what is known of the cards so far
abbrev pub invariant-loop-card : goal.invariant-loop-card
invariant-loop-card l = AgreeAs (heard_values l.level (known_bits l.known) (take l.card-index l.cards)) l.heard
