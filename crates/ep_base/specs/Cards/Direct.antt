-- The perfect channel with one card, as a transport (this project's own).
use Rattle.std.specs.Prelude.{◌≡◌, ℕ, true, false, nat_lt, List, [], ◌∷◌, ◌++◌, length, if◌then◌else◌}
use Rattle.ep_base.specs.Air.Heard.{Activated}
use Rattle.ep_base.specs.Cards.Apdu.{is_command}
use Rattle.ep_base.specs.Cards.CardAnswer.{Image, card_answer, deselected}
use Rattle.ep_base.specs.Poll.Transport.{TransportSteps, Here, Reply, Answered, Lost}
use Rattle.ep_base.specs.Cards.Images.{Rules}

-- A card at the end of the perfect channel: what it is, its image, what it executed, and how many records its log has room for.
pub record Direct : Type 0 where
  pub card : Activated
  pub image : Image
  pub log : List (ℕ × List ℕ)
  pub room : ℕ

-- The answer to a command, where the log has a free record.
abbrev pub direct_reply : Direct → List ℕ → Reply × Direct
direct_reply d command =
    if nat_lt (length d.log) d.room
    then (
      Answered (card_answer d.image command).0.response,
      record {
        card = d.card;
        image = (card_answer d.image command).1;
        log = d.log ++ (d.image.number, command) ∷ [];
        room = d.room;
      },
    )
    else (Lost, d)

abbrev pub presented_anew : Direct → Direct
presented_anew d = record { card = d.card; image = deselected d.image; log = d.log; room = d.room }

-- Its steps, each with one answer.
abbrev pub direct : TransportSteps Direct
direct = record {
  presents = λ d a e. (a ≡ Here false d.card) × (e ≡ presented_anew d);
  transacts = λ d c r e. direct_reply d c ≡ (r, e);
  closes = λ d well e. (well ≡ true) × (e ≡ d);
}

-- Card images as rules: the card with each number has its own image, and every card that is found is the one with this number.
abbrev pub image_rules : (Activated → ℕ) → Rules Image
image_rules number_of = record {
  is_command = is_command;
  answers = λ n i command. card_answer i command;
  deselected = deselected;
  number_of = number_of;
}
