use Rattle.std.proofs.Common.{Bool, List, [], refl, ap, sym, subst, ◌∙◌}
use Rattle.std.specs.Prelude.{if◌then◌else◌}
use Rattle.ep_rules.specs.EntryPoint.Event.{Event as EventData, Finished}
use Rattle.ep_rules.specs.EntryPoint.Talk.{Talk, Over}
use Rattle.ep_rules.specs.EntryPoint.Transaction.{starts, transaction}
use Rattle.ep_rules.specs.EntryPoint.TransportRun.{Runs, all_taken}
use Rattle.kernel_port.specs.declared.event.Event.{Event}
use Rattle.kernel_port.specs.declared.event.End.TheVariants as ending
use Rattle.session_phases.specs.Told.{Comes, told_by}
use Rattle.entry_session.specs.Meaning.{left_of, run_end_of, CutsIn}
use Rattle.entry_session.proofs.Coming.{cut_from, runs_from}
use Rattle.entry_session.proofs.Reaching.{opened}
use Rattle.entry_session.proofs.Ending.{says_end}
use Rattle.entry_session.proofs.whole.run_whole.Goals as goal

pub returns-in-Err-clause-runs : goal.returns-in-Err-clause-runs
returns-in-Err-clause-runs g c =
    let K = g.K.Kernels in
    let T = g.T.Transport in
    let E = g.E.Events in
    let ones = c.args.prepared.now.list in
    let s = K.state c.args.kernels in
    let talk : Talk = transaction K.steps c.args.prepared.now.txn_type c.args.prepared.now.amount ones s in
    let first : Talk = starts K.steps ones (K.steps.restarts s) s in
    let told : List EventData = told_by c.open-starts.new.events.items in
    let rest : Talk = if c.open-starts.result then first else Over Finished in
    let goes : Comes talk [] told rest = opened K.steps ones T.steps E.steps talk rest (told_by c.new-list.result.items) told (ap (λ (es : List Event). told_by es) c.new-list.ensures) (λ h. c.open-starts.ensures.goes talk [] [] first h) in
    let cut = subst (λ (es : List Event). CutsIn E.steps (E.state c.args.events.now) (told_by es) c.in-Err.ran (E.state c.say_each.new.events)) c.as_slice.ensures.value c.in-Err.ensures.cut in
    cut_from T.steps E.steps talk rest told (λ more. goes.goes more) [] (T.state c.args.transport.now) (E.state c.args.events.now) (E.state c.say_each.new.events)
    (left_of c.in-Err.ran (T.state c.args.transport.now) (E.state c.say_each.new.events)) cut.1 (ap run_end_of cut.0, refl, refl)

pub returns-then-starts-clause-runs : goal.returns-then-starts-clause-runs
returns-then-starts-clause-runs g c =
    let K = g.K.Kernels in
    let T = g.T.Transport in
    let E = g.E.Events in
    let ones = c.args.prepared.now.list in
    let s = K.state c.args.kernels in
    let talk : Talk = transaction K.steps c.args.prepared.now.txn_type c.args.prepared.now.amount ones s in
    let first : Talk = starts K.steps ones (K.steps.restarts s) s in
    let told : List EventData = told_by c.open-starts.new.events.items in
    let rest : Talk = if c.open-starts.result then first else Over Finished in
    let goes : Comes talk [] told rest = opened K.steps ones T.steps E.steps talk rest (told_by c.new-list.result.items) told (ap (λ (es : List Event). told_by es) c.new-list.ensures) (λ h. c.open-starts.ensures.goes talk [] [] first h) in
    runs_from T.steps E.steps talk rest told (λ more. goes.goes more) [] (T.state c.args.transport.now) (E.state c.args.events.now)
    (left_of c.present_each.result (T.state c.present_each.new.transport) (E.state c.present_each.new.events))
    (subst (λ (f : E.State). Runs T.steps E.steps rest [] (T.state c.args.transport.now) f (left_of c.present_each.result (T.state c.present_each.new.transport) (E.state c.present_each.new.events)))
    (c.in_default.ensures.taken ∙ ap (λ (es : List Event). all_taken E.steps.take (E.state c.args.events.now) (told_by es)) c.as_slice.ensures.value)
    (subst (λ (b : Bool). Runs T.steps E.steps (if b then first else Over Finished) [] (T.state c.args.transport.now) (E.state c.say_each.new.events) (left_of c.present_each.result (T.state c.present_each.new.transport) (E.state c.present_each.new.events))) (sym c.if-starts.true)
    c.present_each.ensures.runs))

pub returns-clause-runs : goal.returns-clause-runs
returns-clause-runs g c =
    let K = g.K.Kernels in
    let T = g.T.Transport in
    let E = g.E.Events in
    let ones = c.args.prepared.now.list in
    let s = K.state c.args.kernels in
    let talk : Talk = transaction K.steps c.args.prepared.now.txn_type c.args.prepared.now.amount ones s in
    let first : Talk = starts K.steps ones (K.steps.restarts s) s in
    let told : List EventData = told_by c.open-starts.new.events.items in
    let rest : Talk = if c.open-starts.result then first else Over Finished in
    let goes : Comes talk [] told rest = opened K.steps ones T.steps E.steps talk rest (told_by c.new-list.result.items) told (ap (λ (es : List Event). told_by es) c.new-list.ensures) (λ h. c.open-starts.ensures.goes talk [] [] first h) in
    runs_from T.steps E.steps talk rest told (λ more. goes.goes more) [] (T.state c.args.transport.now) (E.state c.args.events.now)
    (left_of c.ended.result (T.state c.args.transport.now) (E.state c.ended.new.events))
    (subst (λ (f : E.State). Runs T.steps E.steps rest [] (T.state c.args.transport.now) f (left_of c.ended.result (T.state c.args.transport.now) (E.state c.ended.new.events)))
    (c.in_default.ensures.taken ∙ ap (λ (es : List Event). all_taken E.steps.take (E.state c.args.events.now) (told_by es)) c.as_slice.ensures.value)
    (subst (λ (b : Bool). Runs T.steps E.steps (if b then first else Over Finished) [] (T.state c.args.transport.now) (E.state c.say_each.new.events) (left_of c.ended.result (T.state c.args.transport.now) (E.state c.ended.new.events))) (sym c.if-starts.false)
    (says_end T.steps E.steps ending.Done c.ended.result (T.state c.args.transport.now) (E.state c.say_each.new.events) (E.state c.ended.new.events) c.ended.ensures.says)))
