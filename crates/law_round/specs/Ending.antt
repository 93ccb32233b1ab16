-- How long a poll round is (this project's own).
use Rattle.std.specs.Prelude.{◌≡◌, ℕ, ◌≤◌, List, length, Option}
use Rattle.ep_base.specs.declared.limits.TheConstants.{ROUND_EXCHANGES}
use Rattle.ep_base.specs.Air.Heard.{Heard, RoundEnd, Ends}
use Rattle.ep_base.specs.Poll.Round.{round_after}
use Rattle.ep_base.specs.Air.Medium.{told}
use Rattle.ep_base.specs.Poll.Polling.{PlaysRound}
use Rattle.ep_base.specs.Cards.Field.{Field, field}

-- Whatever is heard, a round is over after `ROUND_EXCHANGES` answers at most (this project's profile).
abbrev pub EndsInEleven : Type 0
EndsInEleven = (answers : List Heard) → ROUND_EXCHANGES ≤ length answers → (e : RoundEnd) × (round_after answers ≡ Ends e)

-- Over every field there is a round (this project's own).
abbrev pub AlwaysPlays : Type 0
AlwaysPlays = (fsdi : ℕ) (s : Field) → (ending : Option RoundEnd) × (t : Field) × PlaysRound (told field) fsdi s ending t
