use Rattle.std.proofs.Common.{sym, subst, refl}
use Rattle.ep_base.specs.Objects.Arena.{Contents}
use Rattle.ep_rules.specs.EntryPoint.Candidates.{candidates}
use Rattle.ep_base.specs.Objects.Directory.{directory, entries_held}
use Rattle.session_phases.specs.Room.{HasRoom}
use Rattle.session_phases.specs.Told.{told_by}
use Rattle.session_phases.proofs.Room.{entries_room}
use Rattle.session_phases.proofs.Wishing.{listed}
use Rattle.session_phases.proofs.directory.after_directory.Goals as goal

pub returns-clause-wishes : goal.returns-clause-wishes
returns-clause-wishes g c = λ talk results before h.
    let n = c.read_directory-directory.result.entries in
    let es = entries_held n c.read_directory-directory.new.arena.objects in
    c.select_left.ensures.wishes talk results before
    (listed g.K.Kernels.steps c.args.prepared.now.list c.read_directory-directory.new.arena.objects talk results before (told_by c.args.events.now.items) (g.K.Kernels.state c.args.kernels.now)
    c.build-selection.result c.args.selection.now.response n c.count_of.result es (told_by c.note.new.events.items)
    refl c.read_directory-directory.ensures.held c.build-selection.ensures.stands
    (c.count_of.ensures.counts c.args.prepared.now.list es (candidates c.args.prepared.now.list es) c.build-selection.ensures.stands) c.note.ensures.told h)

pub returns-clause-room : goal.returns-clause-room
returns-clause-room g c =
    subst (λ (a : Contents). HasRoom a) (sym c.read_directory-directory.ensures.contents)
    (entries_room 1 (directory c.args.selection.now.response) c.clear.new.self.contents (subst (λ (a : Contents). HasRoom a) (sym c.clear.ensures) c.requires.room))
