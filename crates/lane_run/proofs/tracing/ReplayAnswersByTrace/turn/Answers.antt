use Rattle.trace_io.specs.Replays.{replaying_of}
use Rattle.lane_run.proofs.ByTrace.{heard_from, well_from, unheard_from, ill_from}
use Rattle.lane_run.proofs.tracing.ReplayAnswersByTrace.turn.Goals as goal

pub returns-in-Ok-clause-turns : goal.returns-in-Ok-clause-turns
returns-in-Ok-clause-turns c = heard_from _ _ _ _ c.at.ensures.state _ _ _ _ _ c.in-Ok.ensures.turns

pub returns-in-Ok-clause-answered : goal.returns-in-Ok-clause-answered
returns-in-Ok-clause-answered c = well_from _ (replaying_of c.args.self.now) _ _ c.at.ensures.state _ _ _ _ c.in-Ok.ensures.turns

pub returns-in-Err-clause-unheard : goal.returns-in-Err-clause-unheard
returns-in-Err-clause-unheard c = unheard_from _ _ _ _ c.at.ensures.state _ _ c.in-Err.ensures.fails

pub returns-in-Err-clause-failed : goal.returns-in-Err-clause-failed
returns-in-Err-clause-failed c = ill_from _ (replaying_of c.args.self.now) _ _ c.at.ensures.state _ _ c.in-Err.ensures.fails
