use Rattle.std.proofs.Common.{◌≡◌, ◌∙◌, subst}
use Rattle.std.specs.Io.KnownBytes.{Appends}
use Rattle.ep_base.specs.Streams.Io.{AppendsPrefix}
use Rattle.load_run.specs.Summary.{summary_line_of}
use Rattle.ep_program.proofs.Loading.{is_summary}
use Rattle.ep_program.proofs.load.load.Goals as goal

pub returns-in-Ok-push_all-clause-loads : goal.returns-in-Ok-push_all-clause-loads
returns-in-Ok-push_all-clause-loads g c =
    let is : c.as_bytes.result.now ≡ summary_line_of c.args.seed c.args.count c.run_load-counts.result = cc in (
      summary_line_of c.args.seed c.args.count c.run_load-counts.result,
      is_summary c.args.seed c.args.count _ c.run_load-counts.result (c.scenario.view_is ∙ c.in-Ok.ensures.scene) c.run_load-counts.ensures.total,
      subst (λ text. Appends (g.K.Sink.written c.args.output.now) (g.K.Sink.written c.push_all.new.sink) text) is c.in-Ok-push_all.ensures.ok,
    )

pub returns-clause-loads : goal.returns-clause-loads
returns-clause-loads g c =
    let is : c.as_bytes.result.now ≡ summary_line_of c.args.seed c.args.count c.run_load-counts.result = cc in (
      summary_line_of c.args.seed c.args.count c.run_load-counts.result,
      is_summary c.args.seed c.args.count _ c.run_load-counts.result (c.scenario.view_is ∙ c.in-Ok.ensures.scene) c.run_load-counts.ensures.total,
      subst (λ text. AppendsPrefix (g.K.Sink.written c.args.output.now) (g.K.Sink.written c.push_all.new.sink) text) is c.in-Err.ensures.err,
    )
