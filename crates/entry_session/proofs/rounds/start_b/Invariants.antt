use Rattle.std.proofs.Common.{◌≡◌, ◌≤◌, ◌∷◌, []}
use Rattle.std.specs.Prelude.{is_some}
use Rattle.ep_base.specs.Air.Heard.{Activated}
use Rattle.ep_rules.specs.EntryPoint.Talk.{Talk}
use Rattle.ep_rules.specs.EntryPoint.Transaction.{start_b}
use Rattle.ep_rules.specs.EntryPoint.TransportRun.{RunLeft, Runs}
use Rattle.session_phases.specs.Rounds.{polls}
use Rattle.entry_session.specs.Pending.{end_shown, ends_shown}
use Rattle.entry_session.proofs.rounds.start_b.Given as goal

-- What runs so from the next round on, with the ends that are still to be shown, runs so from the start
abbrev pub invariant-rounds : goal.invariant-rounds
invariant-rounds g l =
    let T = g.T.Transport in
    let E = g.E.Events in
    record {
      goes : (next : Activated → Talk) (left : RunLeft T.State E.State)
          → Runs T.steps E.steps (polls l.left l.collided next) (end_shown l.pending.collision l.pending.card ∷ ends_shown l.pending.collision l.pending.card l.left) (T.state l.transport) (E.state l.events) left
          → Runs T.steps E.steps (start_b next) [] (T.state l.fn.transport) (E.state l.fn.events) left;
      presented : T.presented l.transport ≡ is_some l.pending.card;
      anchored : E.anchor l.events ≡ E.anchor l.fn.events;
      t_later : T.faults l.fn.transport ≤ T.faults l.transport;
      e_later : E.faults l.fn.events ≤ E.faults l.events;
    }

abbrev pub decreases-rounds : goal.decreases-rounds
decreases-rounds g l = l.left
