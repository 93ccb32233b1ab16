use Rattle.std.proofs.Common.{ap, ◌∙◌}
use Rattle.link.specs.Radio.{link_of, radio_at}
use Rattle.rf_field.specs.Fields.{field_of}
use Rattle.link_tests.specs.OneCommand.{radio_of}
use Rattle.link_tests.proofs.Fielding.{new_usable}
use Rattle.link_tests.proofs.field_reader.FieldReader.open.Goals as goal

pub returns-clause-state : goal.returns-clause-state
returns-clause-state c =
    let t = c.open.result in
    ap (λ f. radio_at (field_of f) t.fsdi t.link) c.open.ensures.medium
    ∙ (ap (λ n. radio_at (field_of c.args.field) n t.link) c.open.ensures.fsdi ∙ ap (λ l. radio_at (field_of c.args.field) c.args.fsdi l) c.open.ensures.link)

pub returns-clause-usable : goal.returns-clause-usable
returns-clause-usable c = new_usable (radio_of c.open.result) (field_of c.args.field) (ap field_of c.open.ensures.medium) (ap link_of c.open.ensures.link) c.requires.lawful
