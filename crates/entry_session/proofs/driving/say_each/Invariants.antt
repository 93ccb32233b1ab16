use Rattle.std.proofs.Common.{◌≡◌, ◌≤◌, length}
use Rattle.ep_rules.specs.EntryPoint.TransportRun.{all_taken}
use Rattle.session_phases.specs.Told.{told_by}
use Rattle.entry_session.specs.declared.ran.Ran.{Ran}
use Rattle.entry_session.specs.Meaning.{CutsIn}
use Rattle.entry_session.proofs.driving.say_each.Given as goal

-- What the rest makes of the state from here, the whole makes of it from the start.
abbrev pub invariant-each : goal.invariant-each
invariant-each g l =
    let E = g.E.Events in
    record {
      taken : all_taken E.steps.take (E.state l.events) (told_by l.rest) ≡ all_taken E.steps.take (E.state l.fn.events) (told_by l.fn.list);
      cut : (r : Ran) (f : E.State) → CutsIn E.steps (E.state l.events) (told_by l.rest) r f → CutsIn E.steps (E.state l.fn.events) (told_by l.fn.list) r f;
      anchored : E.anchor l.events ≡ E.anchor l.fn.events;
      later : E.faults l.fn.events ≤ E.faults l.events;
    }

abbrev pub decreases-each : goal.decreases-each
decreases-each g l = length l.rest
