-- A card whose image moves on with each command, against one whose list of commands grows.
use Rattle.std.proofs.Common.{◌≡◌, ℕ, zero, suc, Bool, true, false, List, [], ◌∷◌, ◌++◌, length, Option, Some, None, refl, sym, ap, ◌∙◌, subst, append-nil}
use Rattle.std.specs.Prelude.{nat_le, ◌-◌, if◌then◌else◌, slice_get, position}
use Rattle.ep_base.specs.declared.limits.TheConstants.{COMMAND}
use Rattle.ep_base.specs.Air.Heard.{Activated}
use Rattle.ep_base.specs.Cards.Apdu.{same_bytes, is_command, command_data, ppse_name}
use Rattle.ep_base.specs.Link.Block.{Block, I, RAck, RNak, Deselect, Wtx, other, same}
use Rattle.ep_base.specs.Link.Parts.{Cut, cut}
use Rattle.ep_base.specs.Cards.CardAnswer.{Answered, App, Image, is_select, by_app, by_place, select_answer, ppse_answer, in_app, other_answer, card_answer}
use Rattle.ep_base.specs.Link.CardEnd.{Card, Answer, Unsent, Parts, Waits, is_halted, sends_first, sends_part, sends, again, answers, executes, on_part, card_on_ack, card_on_wtx, mute, dropped, card_hears, records, unlogged}
use Rattle.ep_base.proofs.Images.{card_number}
use Rattle.ep_base.specs.Cards.Images.{unasked, last_answer}
use Rattle.ep_base.specs.Cards.Direct.{image_rules}
use Rattle.ep_base.specs.Link.Wire.{by_commands, image_after}
use Rattle.law_wire.proofs.Reading.{Sent}

-- ---- images

answered_append : (f : Activated → ℕ) (n : ℕ) (a : Answered × Image) (xs ys : List (List ℕ)) → last_answer (image_rules f) n a (xs ++ ys) ≡ last_answer (image_rules f) n (last_answer (image_rules f) n a xs) ys
answered_append f n a [] ys = refl
answered_append f n a (x ∷ xs) ys = answered_append f n (card_answer a.1 x) xs ys

-- images don't ask for the card's number
answered_any : (f g : Activated → ℕ) (n k : ℕ) (a : Answered × Image) (xs : List (List ℕ)) → last_answer (image_rules f) n a xs ≡ last_answer (image_rules g) k a xs
answered_any f g n k a [] = refl
answered_any f g n k a (x ∷ xs) = answered_any f g n k (card_answer a.1 x) xs

-- nor for the answer before
answered_anew : (f : Activated → ℕ) (n : ℕ) (a : Answered × Image) (xs : List (List ℕ)) → (last_answer (image_rules f) n (unasked, a.1) xs).1 ≡ (last_answer (image_rules f) n a xs).1
answered_anew f n a [] = refl
answered_anew f n a (x ∷ xs) = refl

-- the image after some commands, and more of them
pub after_after : (i : Image) (xs ys : List (List ℕ)) → image_after (image_after i xs) ys ≡ image_after i (xs ++ ys)
after_after i xs ys =
    ap (λ (a : Answered × Image). a.1) (answered_any (λ card. (image_after i xs).number) (λ card. i.number) (image_after i xs).number i.number (unasked, image_after i xs) ys)
    ∙ answered_anew (λ card. i.number) i.number (last_answer (image_rules (λ card. i.number)) i.number (unasked, i) xs) ys
    ∙ sym (ap (λ (a : Answered × Image). a.1) (answered_append (λ card. i.number) i.number (unasked, i) xs ys))

-- the next answer
pub next_answered : (i : Image) (xs : List (List ℕ)) (x : List ℕ) → (by_commands (image_after i xs)).answer (x ∷ []) ≡ (by_commands i).answer (xs ++ x ∷ [])
next_answered i xs x = sym (ap (λ (a : Answered × Image). a.0) (answered_append (λ card. i.number) i.number (unasked, i) xs (x ∷ [])))

-- ---- a card keeps its number

answered_number : (f : Activated → ℕ) (n : ℕ) (a : Answered × Image) (xs : List (List ℕ)) → (last_answer (image_rules f) n a xs).1.number ≡ a.1.number
answered_number f n a [] = refl
answered_number f n a (x ∷ xs) = answered_number f n (card_answer a.1 x) xs ∙ card_number a.1 x

pub number_after : (i : Image) (xs : List (List ℕ)) → (image_after i xs).number ≡ i.number
number_after i xs = answered_number (λ card. i.number) i.number (unasked, i) xs

pub records_append : (n : ℕ) (xs ys : List (List ℕ)) → records n (xs ++ ys) ≡ records n xs ++ records n ys
records_append n [] ys = refl
records_append n (x ∷ xs) ys = ap (λ (l : List (ℕ × List ℕ)). (n, x) ∷ l) (records_append n xs ys)

-- ---- both cards

-- from the card c, the one whose list grows answers a, and the one whose image moves on answers b; no card is halted by this
pub record Shifted (c : Card) (a b : Answer) : Type 0 where
  pub block : b.block ≡ a.block
  pub card : unlogged b.card ≡ unlogged a.card
  pub log : a.card.log ≡ c.log ++ b.card.log
  pub unhalted : is_halted c ≡ false → is_halted a.card ≡ false

module _ (fsd : ℕ) (i : Image) (c : Card) where
  abbrev moved_on : Image
  moved_on = image_after i c.log

  first_shifted : (number : Bool) (k wtxm : ℕ) (parts : Cut) (log : List (List ℕ)) → Shifted c (sends_first number k wtxm parts (c.log ++ log)) (sends_first number k wtxm parts log)
  first_shifted number zero wtxm parts log = record { block = refl; card = refl; log = refl; unhalted = λ h. refl }
  first_shifted number (suc k) wtxm parts log = record { block = refl; card = refl; log = refl; unhalted = λ h. refl }

  part_shifted : (number : Bool) (part : List ℕ) (others : List (List ℕ)) → Shifted c (sends_part number part others c.log) (sends_part number part others [])
  part_shifted number part others = record { block = refl; card = refl; log = sym (append-nil c.log); unhalted = λ h. refl }

  again_shifted : Shifted c (again c) (again (unlogged c))
  again_shifted = record { block = refl; card = refl; log = sym (append-nil c.log); unhalted = λ h. h }

  mute_shifted : Shifted c (mute c) (mute (unlogged c))
  mute_shifted = record { block = refl; card = refl; log = sym (append-nil c.log); unhalted = λ h. h }

  executed_shifted : (number : Bool) (bytes : List ℕ) → Shifted c (executes fsd (by_commands i) number bytes c.log) (executes fsd (by_commands moved_on) number bytes [])
  executed_shifted number bytes =
      let a : Answered = (by_commands i).answer (c.log ++ bytes ∷ []) in
      let same_answer : Shifted c (answers fsd number a (c.log ++ bytes ∷ [])) (answers fsd number ((by_commands moved_on).answer (bytes ∷ [])) (bytes ∷ [])) =
      subst (λ (x : Answered). Shifted c (answers fsd number a (c.log ++ bytes ∷ [])) (answers fsd number x (bytes ∷ []))) (sym (next_answered i c.log bytes))
      (first_shifted number a.wtx a.wtxm (cut (fsd - 3) a.response) (bytes ∷ [])) in
      elim (is_command bytes) as (λ (b : Bool). Shifted c
      (if b then answers fsd number ((by_commands i).answer (c.log ++ bytes ∷ [])) (c.log ++ bytes ∷ []) else sends_part number (0x67 ∷ 0x00 ∷ []) [] c.log)
      (if b then answers fsd number ((by_commands moved_on).answer (bytes ∷ [])) (bytes ∷ []) else sends_part number (0x67 ∷ 0x00 ∷ []) [] []))
      [ true ↦ same_answer | false ↦ part_shifted number (0x67 ∷ 0x00 ∷ []) [] ]

  part_came : (ch : Bool) (bytes : List ℕ) → Shifted c (on_part fsd (by_commands i) c ch bytes) (on_part fsd (by_commands moved_on) (unlogged c) ch bytes)
  part_came true bytes = record { block = refl; card = refl; log = sym (append-nil c.log); unhalted = λ h. refl }
  part_came false bytes = executed_shifted (other c.number) bytes

  ack_shifted : (left : Unsent) → Shifted c (card_on_ack left c) (card_on_ack left (unlogged c))
  ack_shifted (Parts []) = mute_shifted
  ack_shifted (Parts (part ∷ others)) = part_shifted (other c.number) part others
  ack_shifted (Waits wtx wtxm first others) = mute_shifted

  wtx_shifted : (left : Unsent) → Shifted c (card_on_wtx left c) (card_on_wtx left (unlogged c))
  wtx_shifted (Parts parts) = mute_shifted
  wtx_shifted (Waits zero wtxm first others) = part_shifted c.number first others
  wtx_shifted (Waits (suc wtx) wtxm first others) = record { block = refl; card = refl; log = sym (append-nil c.log); unhalted = λ h. refl }

  pub shifted : (b : Block) → Sent b → Shifted c (card_hears fsd (by_commands i) c b) (card_hears fsd (by_commands moved_on) (unlogged c) b)
  shifted (I k ch inf) s =
      elim (nat_le (length (c.taken ++ inf)) COMMAND) as (λ (x : Bool). Shifted c
      (if x then on_part fsd (by_commands i) c ch (c.taken ++ inf) else mute (dropped c))
      (if x then on_part fsd (by_commands moved_on) (unlogged c) ch (c.taken ++ inf) else mute (dropped (unlogged c))))
      [ true ↦ part_came ch (c.taken ++ inf) | false ↦ record { block = refl; card = refl; log = sym (append-nil c.log); unhalted = λ h. h } ]
  shifted (RAck k) s =
      elim (same k c.number) as (λ (x : Bool). Shifted c (if x then again c else card_on_ack c.left c) (if x then again (unlogged c) else card_on_ack c.left (unlogged c)))
      [ true ↦ again_shifted | false ↦ ack_shifted c.left ]
  shifted (RNak k) s =
      elim (same k c.number) as (λ (x : Bool). Shifted c
      (if x then again c else sends (RAck c.number) c.number c.taken c.left c.log)
      (if x then again (unlogged c) else sends (RAck c.number) c.number c.taken c.left []))
      [ true ↦ again_shifted | false ↦ record { block = refl; card = refl; log = sym (append-nil c.log); unhalted = λ h. refl } ]
  shifted Deselect s = absurd s
  shifted (Wtx p m) s = wtx_shifted c.left
