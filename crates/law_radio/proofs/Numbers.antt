-- A card's image keeps its number.
use Rattle.std.proofs.Common.{◌≡◌, ℕ, cond, true, false, List, refl, Option, Some, None, slice_get, position}
use Rattle.ep_base.specs.Cards.Apdu.{same_bytes, command_data, ppse_name}
use Rattle.ep_base.specs.Cards.CardAnswer.{Answered, App, Image, by_app, by_place, select_answer, ppse_answer, in_app, other_answer, is_select, card_answer}

abbrev Same : Image → Answered × Image → Type 0
Same i a = a.1.number ≡ i.number

app_same : (i : Image) (n : ℕ) (o : Option App) → Same i (by_app i n o)
app_same i n None = refl
app_same i n (Some a) = refl

place_same : (i : Image) (o : Option ℕ) → Same i (by_place i o)
place_same i None = refl
place_same i (Some n) = app_same i n (slice_get i.apps n)

in_same : (i : Image) (command : List ℕ) (n : ℕ) (o : Option App) → Same i (in_app i command n o)
in_same i command n None = refl
in_same i command n (Some a) = refl

other_same : (i : Image) (command : List ℕ) (o : Option ℕ) → Same i (other_answer i command o)
other_same i command None = refl
other_same i command (Some n) = in_same i command n (slice_get i.apps n)

pub number_stays : (i : Image) (command : List ℕ) → Same i (card_answer i command)
unfolding card_answer
number_stays i command =
    elim (is_select command) as (λ b. Same i (cond b (cond (same_bytes (command_data command) ppse_name) (ppse_answer i) (select_answer i (command_data command))) (other_answer i command i.selected))) [
      | true ↦ elim (same_bytes (command_data command) ppse_name) as (λ b. Same i (cond b (ppse_answer i) (select_answer i (command_data command)))) [
        | true ↦ refl
        | false ↦ place_same i (position (λ (a : App). same_bytes a.name (command_data command)) i.apps)
      ]
      | false ↦ other_same i command i.selected
    ]
