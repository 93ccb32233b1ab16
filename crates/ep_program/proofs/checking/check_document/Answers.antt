use Rattle.ep_program.proofs.Judging.{checked, judged_not_long, opened_checkable}
use Rattle.ep_program.proofs.Given.{taken_without}
use Rattle.ep_program.proofs.checking.check_document.Goals as goal

pub judge-requires : goal.judge-requires
judge-requires g c = record { checkable = opened_checkable _ _ c.in-Ok.ensures.ok }

pub returns-in-Ok-clause-given : goal.returns-in-Ok-clause-given
returns-in-Ok-clause-given g c =
    taken_without _ _ _ (judged_not_long c.in-Ok.scenario (g.K.Sink.written c.args.output.now) (g.K.Sink.written c.judge.new.output) c.judge.result c.judge.ensures.judges) c.in-Ok.ensures.given

pub returns-in-Ok-clause-checks : goal.returns-in-Ok-clause-checks
returns-in-Ok-clause-checks g c =
    checked (g.S.Source.left c.args.input.now) (g.K.Sink.written c.args.output.now) (g.K.Sink.written c.judge.new.output) c.in-Ok.scenario c.in-Ok.ensures.ok c.judge.result c.judge.ensures.judges
