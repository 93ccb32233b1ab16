use Rattle.std.proofs.Common.{◌≡◌, ◌++◌, take, drop, map}
use Rattle.std.specs.Option.{option_or}
use Rattle.inventory.specs.Told.{selects_one, answered_sak}
use Rattle.inventory.proofs.clean.select_all.Given as goal

-- the cards that heard the selection, and the others once they have
abbrev pub invariant-loop-card : goal.invariant-loop-card
invariant-loop-card l = record {
  cards : take l.card-index l.cards ++ map (selects_one l.level l.value) (drop l.card-index l.cards) ≡ map (selects_one l.level l.value) l.initial.cards;
  sak : option_or l.sak (answered_sak l.level l.value (drop l.card-index l.cards)) ≡ answered_sak l.level l.value l.initial.cards;
}
