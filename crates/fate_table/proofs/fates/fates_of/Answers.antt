use Rattle.rf_field.specs.Meaning.{exchange_fates}
use Rattle.ep_base.specs.Air.Fates.{AreFates}
use Rattle.doc_table.specs.Section.{place}
use Rattle.fate_table.specs.Fates.{fates_at}
use Rattle.fate_table.proofs.Accepted.{if_given, fates_given, runs_given, accepted_fates}
use Rattle.fate_table.proofs.fates.fates_of.Goals as goal

pub returns-clause-value : goal.returns-clause-value
returns-clause-value c =
    let given = rw c.new.ensures.items at c.defaulted.ensures in
    fates_given (λ v. v.items) (place c.args.section.now) c.defaulted.result given

pub returns-clause-runs : goal.returns-clause-runs
returns-clause-runs c =
    let given = rw c.new.ensures.items at c.defaulted.ensures in
    runs_given (λ v. v.items) (place c.args.section.now) c.defaulted.result given

pub returns-clause-bursts : goal.returns-clause-bursts
returns-clause-bursts c =
    let given = rw c.new.ensures.items at c.defaulted.ensures in
    let read = fates_given (λ v. v.items) (place c.args.section.now) c.defaulted.result given in
    if_given (λ v. exchange_fates v.items) AreFates c.defaulted.result (fates_at (place c.args.section.now)) read (accepted_fates (place c.args.section.now))
