use Rattle.card_image.proofs.Kept.{card_answer_keeps, deselects}
use Rattle.card_image.proofs.laws.stays_within_limits.Goals as goal

pub returns-clause-answers : goal.returns-clause-answers
returns-clause-answers c = λ i command h. (card_answer_keeps i command h).0

pub returns-clause-stays : goal.returns-clause-stays
returns-clause-stays c = λ i command h. (card_answer_keeps i command h).1

pub returns-clause-deselects : goal.returns-clause-deselects
returns-clause-deselects c = λ i h. deselects i h
