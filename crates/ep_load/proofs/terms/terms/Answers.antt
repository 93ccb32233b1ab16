use Rattle.ep_load.proofs.Settings.{are_terms}
use Rattle.ep_load.proofs.terms.terms.Goals as goal

pub of_list-requires : goal.of_list-requires
of_list-requires c = rw (c.in-Ok.ensures.items, c.first.ensures, c.second.ensures, c.third.ensures) are_terms
