use Rattle.std.proofs.Common.{◌≡◌, ℕ, List, [], ◌∷◌, ◌++◌, ap, ◌∙◌}
use Rattle.ep_rules.specs.EntryPoint.Event.{Event as EventData, Apdu}
use Rattle.ep_rules.specs.EntryPoint.Talk.{Response}
use Rattle.session_phases.specs.Told.{told_by}
use Rattle.session_phases.proofs.Wishing.{looked, selected, heard}
use Rattle.session_phases.proofs.answering.respond.Goals as goal

-- What is noted, of the copies.
abbrev noted : (old new : List EventData) (command answer command_copy answer_copy : List ℕ) → new ≡ old ++ Apdu command_copy answer_copy ∷ [] → command_copy ≡ command → answer_copy ≡ answer
    → new ≡ old ++ Apdu command answer ∷ []
noted old new command answer command_copy answer_copy told same same_answer =
    told ∙ ap (λ (x : List ℕ). old ++ Apdu x answer_copy ∷ []) same ∙ ap (λ (x : List ℕ). old ++ Apdu command x ∷ []) same_answer

pub returns-in-Directory-clause-wishes : goal.returns-in-Directory-clause-wishes
returns-in-Directory-clause-wishes g c = λ talk results before h.
    let old = told_by c.args.events.now.items in
    let new = told_by c.note.new.events.items in
    let told = noted old new c.args.selection.now.command c.args.selection.now.response c.copy-command.result c.copy-response.result c.note.ensures.told c.copy-command.ensures c.copy-response.ensures in
    c.after_directory.ensures.wishes talk (results ++ Response c.args.selection.now.response ∷ []) before
    (looked g.K.Kernels.steps c.args.prepared.now.list c.args.arena.now.objects talk results before old (g.K.Kernels.state c.args.kernels.now)
    c.args.selection.now.command c.args.selection.now.response new told (rw c.in-Directory.is at h))

pub returns-in-Final-clause-wishes : goal.returns-in-Final-clause-wishes
returns-in-Final-clause-wishes g c = λ talk results before h.
    let old = told_by c.args.events.now.items in
    let new = told_by c.note.new.events.items in
    let told = noted old new c.args.selection.now.command c.args.selection.now.response c.copy-command.result c.copy-response.result c.note.ensures.told c.copy-command.ensures c.copy-response.ensures in
    c.after_select.ensures.wishes talk (results ++ Response c.args.selection.now.response ∷ []) before
    (selected g.K.Kernels.steps c.args.prepared.now.list c.args.arena.now.objects talk results before old (g.K.Kernels.state c.args.kernels.now)
    c.args.selection.now.rest c.args.selection.now.given c.args.selection.now.command c.args.selection.now.response new told (rw c.in-Final.is at h))

pub returns-in-Kernel-clause-wishes : goal.returns-in-Kernel-clause-wishes
returns-in-Kernel-clause-wishes g c = λ talk results before h.
    let old = told_by c.args.events.now.items in
    let new = told_by c.note.new.events.items in
    let told = noted old new c.args.selection.now.command c.args.selection.now.response c.copy-command.result c.copy-response.result c.note.ensures.told c.copy-command.ensures c.copy-response.ensures in
    c.after_command.ensures.wishes talk (results ++ Response c.args.selection.now.response ∷ []) before
    (heard g.K.Kernels.steps c.args.prepared.now.list c.args.arena.now.objects talk results before old (g.K.Kernels.state c.args.kernels.now)
    c.args.selection.now.rest c.args.selection.now.command c.args.selection.now.response new told (rw c.in-Kernel.is at h))
