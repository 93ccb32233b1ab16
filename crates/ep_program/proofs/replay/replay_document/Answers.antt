use Rattle.ep_program.proofs.Given.{play_not_long, taken_without}
use Rattle.ep_program.proofs.OwnReplays.{own_replay, recorded_replay, refused_replay}
use Rattle.ep_program.proofs.Ready.{opened_ready}
use Rattle.ep_program.proofs.Replaying.{replayed}
use Rattle.ep_program.proofs.replay.replay_document.Goals as goal

pub play-requires : goal.play-requires
play-requires g c = record { ready = opened_ready _ _ c.in-Ok.ensures.ok }

pub returns-in-Ok-clause-given : goal.returns-in-Ok-clause-given
returns-in-Ok-clause-given g c =
    taken_without _ _ _ (play_not_long c.in-Ok.scenario (g.K.Sink.written c.args.output.now) (g.K.Sink.written c.play.new.output) c.play.result c.play.ensures.plays) c.in-Ok.ensures.given

pub returns-in-Ok-clause-replays : goal.returns-in-Ok-clause-replays
returns-in-Ok-clause-replays g c =
    replayed (g.S.Source.left c.args.input.now) (g.K.Sink.written c.args.output.now) (g.K.Sink.written c.play.new.output) c.in-Ok.scenario c.in-Ok.ensures.ok c.play.result c.play.ensures.plays

pub returns-in-Ok-clause-own_trace : goal.returns-in-Ok-clause-own_trace
returns-in-Ok-clause-own_trace g c =
    own_replay (g.S.Source.left c.args.input.now) (g.K.Sink.written c.args.output.now) (g.K.Sink.written c.play.new.output) c.play.result
    (replayed (g.S.Source.left c.args.input.now) (g.K.Sink.written c.args.output.now) (g.K.Sink.written c.play.new.output) c.in-Ok.scenario c.in-Ok.ensures.ok c.play.result c.play.ensures.plays)

pub returns-in-Ok-clause-recorded : goal.returns-in-Ok-clause-recorded
returns-in-Ok-clause-recorded g c =
    recorded_replay (g.S.Source.left c.args.input.now) (g.K.Sink.written c.args.output.now) (g.K.Sink.written c.play.new.output) c.play.result
    (replayed (g.S.Source.left c.args.input.now) (g.K.Sink.written c.args.output.now) (g.K.Sink.written c.play.new.output) c.in-Ok.scenario c.in-Ok.ensures.ok c.play.result c.play.ensures.plays)

pub returns-in-Err-clause-own_trace : goal.returns-in-Err-clause-own_trace
returns-in-Err-clause-own_trace g c =
    own_replay (g.S.Source.left c.args.input.now) (g.K.Sink.written c.args.output.now) (g.K.Sink.written c.args.output.now) c.in-Err.status
    (refused_replay (g.S.Source.left c.args.input.now) (g.K.Sink.written c.args.output.now) c.in-Err.status c.in-Err.ensures.err)

pub returns-in-Err-clause-recorded : goal.returns-in-Err-clause-recorded
returns-in-Err-clause-recorded g c =
    recorded_replay (g.S.Source.left c.args.input.now) (g.K.Sink.written c.args.output.now) (g.K.Sink.written c.args.output.now) c.in-Err.status
    (refused_replay (g.S.Source.left c.args.input.now) (g.K.Sink.written c.args.output.now) c.in-Err.status c.in-Err.ensures.err)
