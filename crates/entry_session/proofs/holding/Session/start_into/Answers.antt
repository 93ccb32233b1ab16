use Rattle.ep_rules.specs.EntryPoint.Transaction.{transaction}
use Rattle.ep_claim.specs.Lanes.Standing.{started}
use Rattle.session_phases.specs.Told.{told_by}
use Rattle.entry_session.proofs.Advancing.{begin_cause}
use Rattle.entry_session.proofs.holding.Session.start_into.Goals as goal

pub returns-in-Ended-clause-cause : goal.returns-in-Ended-clause-cause
returns-in-Ended-clause-cause g c =
    let talk = transaction g.K.Kernels.steps c.args.prepared.now.txn_type c.args.prepared.now.amount c.args.prepared.now.list (g.K.Kernels.state c.args.kernels) in
    begin_cause c.in-Ended.end talk (started talk) (told_by c.begin.new.events.items) c.in-Ended.ensures.done c.in-Ended.ensures.turned
