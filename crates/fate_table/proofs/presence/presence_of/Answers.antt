use Rattle.rf_field.specs.Presences.{lists_of}
use Rattle.doc_table.specs.Section.{place}
use Rattle.fate_table.specs.Presence.{ArePresences, presence_at}
use Rattle.fate_table.proofs.Accepted.{if_given, accepted_presence}
use Rattle.fate_table.proofs.presence.presence_of.Goals as goal

pub returns-clause-limits : goal.returns-clause-limits
returns-clause-limits c =
    let given = rw c.new.ensures.items at c.defaulted.ensures in
    if_given (λ v. lists_of v.items) (ArePresences c.args.cards) c.defaulted.result (presence_at c.args.cards (place c.args.section.now)) given (accepted_presence c.args.cards (place c.args.section.now))
