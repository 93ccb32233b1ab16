-- What a direct transport shows in plain data (this project's own).
use Rattle.std.specs.Prelude.{ℕ, Bool}
use Rattle.ep_base.specs.Cards.Direct as plain
use Rattle.link.specs.declared.direct.Direct.{Direct}

abbrev pub direct_of : Direct → plain.Direct
direct_of d = record { card = d.card; image = d.image; log = d.log.0; room = d.log.1 }

-- Whether its card is presented.
abbrev pub is_presented : Direct → Bool
is_presented d = d.presented

-- How often it found its log full.
abbrev pub faults_of : Direct → ℕ
faults_of d = d.faults
