-- What polling leaves of a field (this project's own).
use Rattle.std.specs.Prelude.{◌≡◌, ◌≢◌, ℕ, ◌+◌, ◌≤◌, List, length, Some}
use Rattle.ep_base.specs.Air.Heard.{Activated, RoundEnd, Found}
use Rattle.ep_base.specs.Link.LinkFrames.{LinkSetting}
use Rattle.ep_base.specs.Air.Medium.{told}
use Rattle.ep_base.specs.Poll.Polling.{Polled, Came, NoCard, Device, PlaysRound, PlaysRounds}
use Rattle.ep_base.specs.Cards.Field.{Field, field}
use Rattle.ep_base.specs.Cards.Lawful.{Lawful, faces, reset_faces}
use Rattle.law_round.specs.Acting.{OpensTo, IsSet}
use Rattle.ep_base.specs.Cards.LinkedField.{SameCards}

-- Polling that ends with a card ends with a round that does, over a lawful field of the same cards (this project's own).
abbrev pub EndsWithRound : ℕ → Field → Field → Polled → Type 0
EndsWithRound fsdi s t (Came card) = (u : Field) × Lawful u × SameCards s u × PlaysRound (told field) fsdi u (Some (Found card)) t
EndsWithRound fsdi s t NoCard = Unit {0}
EndsWithRound fsdi s t Device = Unit {0}

-- Polling never fails over a field, and executes nothing; where it ends with a card, its last round does (this project's own).
abbrev pub PollsQuietly : Type 0
PollsQuietly = (fsdi rounds : ℕ) (s t : Field) (ends : List RoundEnd) (polled : Polled) →
    Lawful s → PlaysRounds (told field) fsdi rounds s ends polled t →
    (polled ≢ Device) × Lawful t × SameCards s t × EndsWithRound fsdi s t polled

-- Polling that ends with a card leaves its link ready for a command, where the log has two free records, and in no image an application that is
-- selected (this project's own).
abbrev pub PollsReady : Type 0
PollsReady = (fsdi rounds : ℕ) (s t : Field) (ends : List RoundEnd) (card : Activated) (set : LinkSetting) →
    Lawful s → PlaysRounds (told field) fsdi rounds s ends (Came card) t → IsSet fsdi card set → length s.log + 2 ≤ s.room →
    OpensTo fsdi card set t × (faces t.cards ≡ reset_faces s.cards)
