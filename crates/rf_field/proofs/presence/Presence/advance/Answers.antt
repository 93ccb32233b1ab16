use Rattle.std.proofs.Common.{◌+◌, ◌<◌, length, ap, ◌∙◌, rules}
use Rattle.ep_base.specs.Cards.Field.{next_presence}
use Rattle.rf_field.proofs.Rounds.{goes_on}
use Rattle.rf_field.proofs.presence.Presence.advance.Goals as goal

pub returns-then-len-self-gt1 : goal.returns-then-len-self-gt1
returns-then-len-self-gt1 c =
    let more : c.self.inside.at + 1 < length c.self.inside.lists.items = search rules in
    goes_on c.self.inside.lists.items c.self.inside.at more ∙ ap next_presence c.self.view_is
