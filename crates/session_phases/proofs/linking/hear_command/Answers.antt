use Rattle.std.proofs.Common.{◌≡◌, List, [], ◌∷◌, ◌++◌, refl, ap, sym, subst, ◌∙◌, append_assoc}
use Rattle.block_reader.specs.Stands.{held}
use Rattle.block_reader.specs.declared.ends.LinkEnd.TheVariants as failures
use Rattle.block_reader.specs.Follows.{breach_in}
use Rattle.ep_base.specs.Link.Carry.{turn_on}
use Rattle.ep_base.specs.Link.LinkEvents.{exchange_of}
use Rattle.ep_rules.specs.EntryPoint.Event.{Event as EventData}
use Rattle.ep_rules.specs.EntryPoint.Talk.{Response}
use Rattle.rf_frame.specs.Meaning.{heard_of}
use Rattle.kernel_port.specs.Event.{said_of_end}
use Rattle.kernel_port.specs.declared.event.End.TheVariants as ending
use Rattle.session_phases.specs.declared.steps.Selection.{Selection}
use Rattle.session_phases.specs.Told.{told_by}
use Rattle.session_phases.specs.Plain as plain
use Rattle.session_phases.specs.Plain.{Command, purpose_of, wish_of}
use Rattle.session_phases.specs.Wishes.{Serves, Wished}
use Rattle.session_phases.proofs.Failing.{fails_so}
use Rattle.session_phases.proofs.Showing.{gives_kept}
use Rattle.session_phases.proofs.Turning.{asks_more, gives, fails, same_purpose}
use Rattle.session_phases.proofs.linking.hear_command.Goals as goal

pub returns-in-Ask-clause-turned : goal.returns-in-Ask-clause-turned
returns-in-Ask-clause-turned g c = λ fsdi talk results before reader round asking served.
    let shows = c.in-Ask.ensures.by_rules reader asking in
    asks_more g.K.Kernels.steps c.args.prepared.now.list (g.K.Kernels.state c.args.kernels.now) c.args.arena.now.objects talk results (before ++ told_by c.args.events.now.items)
    (turn_on (held c.args.end.now).set reader (heard_of c.args.heard.now)) (held c.args.end.now) (held c.hear_into.new.self) (heard_of c.args.heard.now) fsdi c.args.selection.now.command (purpose_of c.args.purpose c.args.selection.now) c.hear_into.new.ask shows.says shows.stands c.hear_into.ensures.setting served

pub returns-in-Done-clause-turned : goal.returns-in-Done-clause-turned
returns-in-Done-clause-turned g c = λ fsdi talk results before reader round asking served.
    let K = g.K.Kernels in
    let ones = c.args.prepared.now.list in
    let old : Selection = c.args.selection.now in
    let answered : Selection = record { command = old.command; response = c.put_response.new.response; given = old.given; rest = old.rest } in
    let shows = c.in-Done.ensures.by_rules reader asking in
    let here : Serves K.steps ones (K.state c.args.kernels.now) c.args.arena.now.objects talk results (before ++ told_by c.args.events.now.items) old.command (purpose_of c.args.purpose answered) =
    subst (λ (p : plain.Purpose). Serves K.steps ones (K.state c.args.kernels.now) c.args.arena.now.objects talk results (before ++ told_by c.args.events.now.items) old.command p)
    (same_purpose c.args.purpose old answered refl refl) served in
    let wished : Wished K.steps ones (K.state c.respond-wish.new.kernels) c.respond-wish.new.arena.objects talk (results ++ Response (held c.hear_into.new.self).course.got ∷ []) (before ++ told_by c.respond-wish.new.events.items) (wish_of c.respond-wish.result c.respond-wish.new.selection) =
    subst (λ (r : List _). Wished K.steps ones (K.state c.respond-wish.new.kernels) c.respond-wish.new.arena.objects talk (results ++ Response r ∷ []) (before ++ told_by c.respond-wish.new.events.items) (wish_of c.respond-wish.result c.respond-wish.new.selection))
    c.put_response.ensures.value (c.respond-wish.ensures.wishes talk results before here) in
    gives K.steps ones (K.state c.respond-wish.new.kernels) c.respond-wish.new.arena.objects talk results (before ++ told_by c.respond-wish.new.events.items)
    (turn_on (held c.args.end.now).set reader (heard_of c.args.heard.now)) (held c.args.end.now) (held c.hear_into.new.self) (held c.begin_wish.new.end) (heard_of c.args.heard.now) fsdi (held c.hear_into.new.self).course.got (wish_of c.respond-wish.result c.respond-wish.new.selection) c.begin_wish.new.ask shows.says shows.stands c.hear_into.ensures.setting
    wished c.begin_wish.ensures.does c.begin_wish.ensures.asks

pub returns-in-Spent-clause-turned : goal.returns-in-Spent-clause-turned
returns-in-Spent-clause-turned g c = λ fsdi talk results before reader round asking served.
    let shows = c.in-Spent.ensures.by_rules reader asking in
    let old : List EventData = told_by c.args.events.now.items in
    let new : List EventData = told_by c.note.new.events.items in
    let told : before ++ new ≡ (before ++ old) ++ said_of_end ending.Link ∷ [] =
    ap (λ (es : List EventData). before ++ es) c.note.ensures.told ∙ sym (append_assoc before old (said_of_end ending.Link ∷ [])) in
    fails g.K.Kernels.steps c.args.prepared.now.list (g.K.Kernels.state c.args.kernels.now) c.args.arena.now.objects talk results (before ++ old)
    (turn_on (held c.args.end.now).set reader (heard_of c.args.heard.now)) (held c.args.end.now) (held c.hear_into.new.self) (heard_of c.args.heard.now) (failures.Spent 3) (Command c.args.selection.now.command (purpose_of c.args.purpose c.args.selection.now)) (before ++ new) shows.says served told

pub returns-in-Breach-clause-turned : goal.returns-in-Breach-clause-turned
returns-in-Breach-clause-turned g c = λ fsdi talk results before reader round asking served.
    let shows = c.in-Breach.ensures.by_rules reader asking in
    let old : List EventData = told_by c.args.events.now.items in
    let new : List EventData = told_by c.note-in-Breach.new.events.items in
    let told : before ++ new ≡ (before ++ old) ++ said_of_end ending.Breach ∷ [] =
    ap (λ (es : List EventData). before ++ es) c.note-in-Breach.ensures.told ∙ sym (append_assoc before old (said_of_end ending.Breach ∷ [])) in
    fails g.K.Kernels.steps c.args.prepared.now.list (g.K.Kernels.state c.args.kernels.now) c.args.arena.now.objects talk results (before ++ old)
    (turn_on (held c.args.end.now).set reader (heard_of c.args.heard.now)) (held c.args.end.now) (held c.hear_into.new.self) (heard_of c.args.heard.now)
    (failures.Breach (breach_in c.in-Breach.field-0 (held c.hear_into.new.self) (heard_of c.args.heard.now))) (Command c.args.selection.now.command (purpose_of c.args.purpose c.args.selection.now)) (before ++ new) shows.says served told

pub returns-in-Done-clause-kept : goal.returns-in-Done-clause-kept
returns-in-Done-clause-kept g c = λ reader asking.
    let shows = c.in-Done.ensures.by_rules reader asking in
    gives_kept (turn_on (held c.args.end.now).set reader (heard_of c.args.heard.now)) (held c.hear_into.new.self).set (heard_of c.args.heard.now) (held c.hear_into.new.self).course.got (held c.hear_into.new.self)
    (held c.args.end.now).since (held c.begin_wish.new.end).since reader (exchange_of (held c.args.end.now).set reader (heard_of c.args.heard.now)) shows.says shows.stands c.begin_wish.ensures.kept

pub returns-in-Spent-clause-fails : goal.returns-in-Spent-clause-fails
returns-in-Spent-clause-fails g c = λ reader round asking.
    let shows = c.in-Spent.ensures.by_rules reader asking in
    let heard = heard_of c.args.heard.now in
    let set = (held c.args.end.now).set in
    fails_so set reader heard (held c.hear_into.new.self) (held c.args.end.now).since (failures.Spent 3) (held c.args.end.now).course.bad (turn_on set reader heard) refl
    shows.says shows.last c.hear_into.ensures.setting (c.hear_into.ensures.kept reader asking) c.in-Spent.ensures.spent

pub returns-in-Breach-clause-fails : goal.returns-in-Breach-clause-fails
returns-in-Breach-clause-fails g c = λ reader round asking.
    let shows = c.in-Breach.ensures.by_rules reader asking in
    let heard = heard_of c.args.heard.now in
    let set = (held c.args.end.now).set in
    fails_so set reader heard (held c.hear_into.new.self) (held c.args.end.now).since (failures.Breach (breach_in c.in-Breach.field-0 (held c.hear_into.new.self) heard)) (held c.args.end.now).course.bad (turn_on set reader heard) refl
    shows.says shows.last c.hear_into.ensures.setting (c.hear_into.ensures.kept reader asking) c.in-Breach.ensures.spent
