use Rattle.select_rules.proofs.Held.{first_place}
use Rattle.select_rules.proofs.candidates.Candidates.next.Goals as goal

pub returns-clause-stands : goal.returns-clause-stands
returns-clause-stands c ones entries left stands = first_place ones entries c.args.self.now c.first.result c.first.ensures left stands
