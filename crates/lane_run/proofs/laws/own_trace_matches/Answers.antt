use Rattle.lane_run.proofs.Matching.{own_trace_law, same_talks_law}
use Rattle.lane_run.proofs.laws.own_trace_matches.Goals as goal

pub returns-clause-matches : goal.returns-clause-matches
returns-clause-matches c = own_trace_law

pub returns-clause-talks : goal.returns-clause-talks
returns-clause-talks c = same_talks_law
