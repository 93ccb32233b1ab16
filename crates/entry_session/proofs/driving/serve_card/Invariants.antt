use Rattle.std.proofs.Common.{◌≡◌, ◌+◌, ◌≤◌, [], true}
use Rattle.ep_rules.specs.EntryPoint.Talk.{Talk}
use Rattle.session_phases.specs.Plain.{Directory, wish_of}
use Rattle.session_phases.specs.Room.{HasRoom}
use Rattle.session_phases.specs.Wishes.{RestartsAt, Serves, selects_left, serves_wish}
use Rattle.entry_session.specs.Driven.{Reaches}
use Rattle.entry_session.proofs.driving.serve_card.Given as goal

-- Some rest of the talk goes on with the wish, and what runs so from there, runs so from the start.
abbrev pub invariant-each : goal.invariant-each
invariant-each g l =
    let K = g.K.Kernels in
    let T = g.T.Transport in
    let E = g.E.Events in
    record {
      goes : (talk : Talk) → Serves K.steps l.fn.prepared.list (K.state l.fn.kernels) l.fn.arena.objects talk [] [] l.fn.selection.command Directory
          → Reaches K.steps l.fn.prepared.list T.steps E.steps talk (T.state l.fn.transport) (E.state l.fn.events)
          (K.state l.kernels) l.arena.objects (wish_of l.wish l.selection) (T.state l.transport) (E.state l.events);
      served : serves_wish (K.is_open l.kernels) (K.is_fresh l.kernels) (wish_of l.wish l.selection) ≡ true;
      restarts : RestartsAt (wish_of l.wish l.selection) (K.steps.restarts (K.state l.fn.kernels)) (K.steps.restarts (K.state l.kernels));
      presented : T.presented l.transport ≡ true;
      room : HasRoom l.arena.contents;
      anchored : E.anchor l.events ≡ E.anchor l.fn.events;
      t_later : T.faults l.fn.transport ≤ T.faults l.transport;
      e_later : E.faults l.fn.events ≤ E.faults l.events;
    }

-- The kernels' commands and the final SELECTs that may still follow.
abbrev pub decreases-each : goal.decreases-each
decreases-each g l = g.K.Kernels.steps.commands (g.K.Kernels.state l.kernels) + selects_left (wish_of l.wish l.selection)
