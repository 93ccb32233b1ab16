use Rattle.std.proofs.Common.{◌-◌, Bool, false, List, [], None, refl, ap, sym, subst, arith}
use Rattle.std.specs.Prelude.{if◌then◌else◌}
use Rattle.ep_base.specs.declared.limits.TheConstants.{ROUNDS}
use Rattle.ep_rules.specs.EntryPoint.Transaction.{transaction, starts, presented}
use Rattle.ep_rules.specs.EntryPoint.Event.{Finished}
use Rattle.ep_rules.specs.EntryPoint.Talk.{Talk, Over}
use Rattle.ep_claim.specs.Lanes.Standing.{started}
use Rattle.poll_activate.specs.Meaning.{ends_of}
use Rattle.rf_frame.specs.declared.cards.RoundEnd.{RoundEnd}
use Rattle.session_phases.specs.Opening.{OpenDecided}
use Rattle.session_phases.specs.Rounds.{polls}
use Rattle.session_phases.specs.Shown.{DoneThen, FitsThen}
use Rattle.session_phases.specs.Stands.{Turned}
use Rattle.session_phases.specs.Told.{Comes, told_by}
use Rattle.session_phases.specs.Wishes.{next_start}
use Rattle.session_phases.specs.Plain.{onward_of}
use Rattle.session_phases.specs.declared.steps.Onward.{Onward}
use Rattle.session_phases.proofs.Failing.{polls_done, polls_fit}
use Rattle.session_phases.proofs.Coming.{begins, same_said, same_rest}
use Rattle.session_phases.proofs.Turning.{none_told, rolled, starting, after_ppse}
use Rattle.session_phases.proofs.opening.begin.Goals as goal

pub returns-then-open-clause-turned : goal.returns-then-open-clause-turned
returns-then-open-clause-turned g c =
    let K = g.K.Kernels in
    let s = K.state c.args.kernels.now in
    let ones = c.args.prepared.now.list in
    let talk : Talk = transaction K.steps c.args.prepared.now.txn_type c.args.prepared.now.amount ones s in
    let first : Talk = starts K.steps ones (K.steps.restarts s) s in
    let here : Comes talk [] (told_by c.args.events.now.items) talk = same_said talk [] [] (told_by c.args.events.now.items) (sym (none_told c.args.events.now.items c.requires.empty)) talk (begins talk) in
    let goes : Comes talk [] (told_by c.open.new.events.items) first =
    subst (λ (b : Bool). Comes talk [] (told_by c.open.new.events.items) (if b then first else Over Finished)) c.if-open.true (c.open.ensures.goes talk [] [] first here) in
    rolled K.steps ones s c.args.presentation.now.arena.objects c.args.fsdi None (onward_of c.start_b.result c.start_b.new.ask c.start_b.new.round c.args.presentation.now.selection) talk (started talk) (told_by c.open.new.events.items) (K.steps.restarts s) (omega arith)
    (c.start_b.ensures.turned talk [] (told_by c.open.new.events.items) (after_ppse K.steps ones s (K.steps.restarts s)) None None c.args.presentation.now.selection
    (same_rest talk [] (told_by c.open.new.events.items) first (polls (ROUNDS - 1) false (presented K.steps (next_start K.steps ones (K.steps.restarts s)) ones s)) (starting K.steps ones s (K.steps.restarts s)) goes))

pub returns-clause-turned : goal.returns-clause-turned
returns-clause-turned g c =
    let K = g.K.Kernels in
    let s = K.state c.args.kernels.now in
    let ones = c.args.prepared.now.list in
    let talk : Talk = transaction K.steps c.args.prepared.now.txn_type c.args.prepared.now.amount ones s in
    let first : Talk = starts K.steps ones (K.steps.restarts s) s in
    let here : Comes talk [] (told_by c.args.events.now.items) talk = same_said talk [] [] (told_by c.args.events.now.items) (sym (none_told c.args.events.now.items c.requires.empty)) talk (begins talk) in
    let goes : Comes talk [] (told_by c.open.new.events.items) (Over Finished) =
    subst (λ (b : Bool). Comes talk [] (told_by c.open.new.events.items) (if b then first else Over Finished)) c.if-open.false (c.open.ensures.goes talk [] [] first here) in
    subst (λ (o : Onward). Turned K.steps ones s c.args.presentation.now.arena.objects c.args.fsdi None (onward_of o c.args.ask.now c.args.presentation.now.round c.args.presentation.now.selection) talk (started talk) (told_by c.finish.new.events.items)) (sym c.finish.ensures.word)
    (c.finish.ensures.ended talk [] [] None Finished refl
    (subst (λ (b : Bool). OpenDecided b (told_by c.open.new.events.items)) c.if-open.false c.open.ensures.decided) goes)

pub returns-then-open-clause-fits : goal.returns-then-open-clause-fits
returns-then-open-clause-fits g c =
    polls_fit (onward_of c.start_b.result c.start_b.new.ask c.start_b.new.round c.args.presentation.now.selection) (ends_of c.start_b.new.rounds.items)
    (ap (λ (es : List RoundEnd). ends_of es) c.start_b.ensures.rounds) (c.start_b.ensures.left c.args.presentation.now.selection)

pub returns-clause-fits : goal.returns-clause-fits
returns-clause-fits g c =
    subst (λ (o : Onward). FitsThen (onward_of o c.args.ask.now c.args.presentation.now.round c.args.presentation.now.selection) (ends_of c.clear.new.self.items)) (sym c.finish.ensures.word) tt

pub returns-then-open-clause-done : goal.returns-then-open-clause-done
returns-then-open-clause-done g c =
    polls_done (onward_of c.start_b.result c.start_b.new.ask c.start_b.new.round c.args.presentation.now.selection) (ROUNDS - 1) (c.start_b.ensures.left c.args.presentation.now.selection)

pub returns-clause-done : goal.returns-clause-done
returns-clause-done g c =
    subst (λ (o : Onward). DoneThen (onward_of o c.args.ask.now c.args.presentation.now.round c.args.presentation.now.selection)) (sym c.finish.ensures.word) tt
