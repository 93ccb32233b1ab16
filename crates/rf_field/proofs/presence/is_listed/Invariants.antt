use Rattle.std.proofs.Common.{◌≡◌, drop}
use Rattle.ep_base.specs.Cards.Field.{has_number}
use Rattle.rf_field.proofs.presence.is_listed.Given as goal

-- the number is in the list just where it is in what is left of it
abbrev pub invariant-loop-listed : goal.invariant-loop-listed
invariant-loop-listed l = has_number l.number (drop l.listed-index l.list) ≡ has_number l.number l.initial.list
