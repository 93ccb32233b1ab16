-- The code's form of a candidate (this project's own).
use Rattle.ep_rules.specs.EntryPoint.Candidates.{Candidate}
use Rattle.select_rules.specs.declared.pair.Pair.{Pair}
use Rattle.select_rules.specs.declared.pair.Ranked.{Ranked}

-- A candidate's numbers with its priority.
abbrev pub ranked_of : Candidate → Ranked
ranked_of c = record { priority = c.key; entry = c.entry; combination = c.combination }

-- The numbers without the priority.
abbrev pub pair_of : Ranked → Pair
pair_of r = record { entry = r.entry; combination = r.combination }
