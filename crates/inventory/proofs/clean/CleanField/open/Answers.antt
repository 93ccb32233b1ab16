use Rattle.inventory.proofs.Places.{tags_fit}
use Rattle.inventory.proofs.clean.CleanField.open.Goals as goal

pub all_mute-requires : goal.all_mute-requires
all_mute-requires c = tags_fit c.args.tags.items c.requires.tags.each
