use Rattle.std.proofs.Common.{ap, ◌∙◌}
use Rattle.ep_base.specs.Air.Heard.{place_of, end_of}
use Rattle.poll_activate.proofs.Along.{stands-more}
use Rattle.poll_activate.proofs.reader.Poll.heard.Goals as goal

pub returns-clause-stands : goal.returns-clause-stands
returns-clause-stands c = λ answers e. c.takes.ensures.stage ∙ ap place_of (stands-more _ answers _ c.requires e)

pub returns-clause-listed : goal.returns-clause-listed
returns-clause-listed c = λ answers e. c.takes.ensures.end ∙ ap end_of (stands-more _ answers _ c.requires e)
