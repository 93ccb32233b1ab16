use Rattle.std.proofs.Common.{◌≡◌, ◌++◌, take, drop}
use Rattle.ep_base.specs.Air.Heard.{Silence}
use Rattle.rf_field.specs.Airs.{aired_of, with_answers}
use Rattle.rf_field.specs.Fields.{hear_all}
use Rattle.rf_field.proofs.crowd.hear_all.Given as goal

-- what the cards did so far, and what the others do
abbrev pub invariant-loop-card : goal.invariant-loop-card
invariant-loop-card l = record {
  room : l.log.1 ≡ l.initial.log.1;
  cards : take l.card-index l.cards ++ (hear_all l.wave l.frame.items l.log (drop l.card-index l.cards)).cards ≡ (hear_all l.wave l.frame.items l.initial.log l.initial.cards).cards;
  logged : (hear_all l.wave l.frame.items l.log (drop l.card-index l.cards)).log ≡ (hear_all l.wave l.frame.items l.initial.log l.initial.cards).log;
  aired : with_answers (aired_of l.aired) (hear_all l.wave l.frame.items l.log (drop l.card-index l.cards)).answers ≡ with_answers Silence (hear_all l.wave l.frame.items l.initial.log l.initial.cards).answers;
}
