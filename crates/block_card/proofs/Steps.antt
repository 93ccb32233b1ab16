-- The steps of a card's end.
use Rattle.std.proofs.Common.{◌≡◌, ℕ, suc, ◌+◌, ◌-◌, ◌<◌, ◌≤◌, min, Bool, true, false, if◌then◌else◌, not, List, [], ◌∷◌, ◌++◌, length, take, drop, Some, refl, sym, ap, ◌∙◌, subst, ⊎_elim, arith, length-drop}
use mathlib.Core.Bool.{beq}
use Rattle.std.specs.Prelude.{nat_lt}
use Rattle.std.proofs.lemmas.List.{append-nil, take-append-drop}
use Rattle.std.proofs.Math.ListN.{drop_of_length-le}
use Rattle.std.proofs.lemmas.Bool.Decides.{leb_tells}
use Rattle.ep_base.specs.Link.Block.{Block, I, RAck, RNak, Wtx, other, same}
use Rattle.arrayvec.specs.ArrayVec.{ArrayVec}
use Rattle.ep_base.specs.Cards.Apdu.{is_command}
use Rattle.ep_base.specs.Link.Wire.{maybe_frame}
use Rattle.ep_base.specs.Link.Parts.{Cut, cut, more}
use Rattle.ep_base.specs.Link.CardEnd as Rules
use Rattle.block_card.specs.declared.held.Last as L
use Rattle.block_card.specs.declared.held.Step as N
use Rattle.block_card.specs.declared.held.CardNext.TheVariants.{Send}
use Rattle.block_card.specs.Held.{HeldCard, parts_from, left_by, last_shown, IsCard}
use Rattle.block_card.specs.Shows.{Says, Answers, Shows, Replies, StepAnswers, StepShows}
use Rattle.block_pcb.proofs.Cuts.{cut_last, cut_at_last, cut_at_more}

other_not : (a : Bool) → other a ≡ not a
other_not true = refl
other_not false = refl

take_whole : (n : ℕ) (l : List ℕ) → length l ≤ n → take n l ≡ l
take_whole n l le = sym (append-nil (take n l)) ∙ ap (λ x. take n l ++ x) (sym (drop_of_length-le l le)) ∙ take-append-drop n l

-- the block of the part at a place
part_block : (n : Bool) (size place : ℕ) (bytes : List ℕ) → 0 < size → I n (more (cut size (drop place bytes)).others) (cut size (drop place bytes)).first ≡ I n (nat_lt (place + size) (length bytes)) (take size (drop place bytes))
part_block n size place bytes pos =
    ⊎_elim
    (λ h. rw (h.0, cut_at_more size place bytes pos h.1))
    (λ h. let whole : take size (drop place bytes) ≡ drop place bytes = take_whole size (drop place bytes) (omega (arith, h.1, length-drop place bytes)) in rw (h.0, whole, cut_at_last size place bytes (omega (arith, h.1))))
    (leb_tells (suc (place + size)) (length bytes))

-- the parts after the one that is sent
parts_after : (size place n : ℕ) (bytes : List ℕ) → 0 < size → n ≡ min (length bytes - place) size → parts_from size bytes (place + n) ≡ (cut size (drop place bytes)).others
parts_after size place n bytes pos e =
    ⊎_elim
    (λ h. let same_place : place + n ≡ place + size = omega (arith, h.1) in rw (same_place, h.0, cut_at_more size place bytes pos h.1) refl)
    (λ h. let past : nat_lt (place + n) (length bytes) ≡ false = ⊎_elim (λ k. absurd (omega (arith, k.1, h.1))) (λ k. k.0) (leb_tells (suc (place + n)) (length bytes)) in
    rw (past, cut_at_last size place bytes (omega (arith, h.1))) refl)
    (leb_tells (suc (place + size)) (length bytes))

pub part_sent : (e : HeldCard) (n : ℕ) (taken : List ℕ) (log : List (List ℕ)) → 16 ≤ e.fsd → n ≡ min (length e.response - e.place) (e.fsd - 3) → taken ≡ [] → Replies N.TheVariants.Send (record e { last = L.TheVariants.Part e.place; taken = taken; waiting = false; place = e.place + n }) (Rules.sends_part e.number (cut (e.fsd - 3) (drop e.place e.response)).first (cut (e.fsd - 3) (drop e.place e.response)).others log)
part_sent e n taken log wide is none =
    let block : I e.number (more (cut (e.fsd - 3) (drop e.place e.response)).others) (cut (e.fsd - 3) (drop e.place e.response)).first ≡ I e.number (nat_lt (e.place + (e.fsd - 3)) (length e.response)) (take (e.fsd - 3) (drop e.place e.response)) = part_block e.number (e.fsd - 3) e.place e.response (omega arith) in (
      record {
        number = refl;
        last = ap Some block;
        taken = sym none;
        left = ap Rules.Parts (sym (parts_after (e.fsd - 3) e.place n e.response (omega arith) is));
      },
      ap Some block,
    )

pub beq_by : (a b : Bool) → not (beq a b) ≡ false → beq a b ≡ true
beq_by true true e = refl
beq_by true false e = cc
beq_by false true e = cc
beq_by false false e = refl

beq_same : (a b : Bool) → beq a b ≡ true → same a b ≡ true
beq_same true true e = refl
beq_same true false e = cc
beq_same false true e = cc
beq_same false false e = refl

beq_other : (a b : Bool) → beq a b ≡ false → same a b ≡ false
beq_other true true e = cc
beq_other true false e = refl
beq_other false true e = refl
beq_other false false e = cc

shows_again : (next : N.Step) (new : HeldCard) (c : Rules.Card) (block : Block) → ((image : Rules.CommandRules) → Rules.card_hears new.fsd image c block ≡ Rules.again c) → Replies next new (Rules.again c) → StepShows next new c block
shows_again N.TheVariants.Mute new c block is r = λ image. rw (is image) (r, refl)
shows_again N.TheVariants.Send new c block is r = λ image. rw (is image) (r, refl)
shows_again N.TheVariants.Execute new c block is r = absurd r

-- an R-block with the card's number
pub again_nak : (e : HeldCard) (next : N.Step) (new : HeldCard) (number : Bool) → beq number e.number ≡ true → ((c : Rules.Card) → IsCard e c → Replies next new (Rules.again c)) → (c : Rules.Card) → IsCard e c → StepShows next new c (RNak number)
again_nak e next new number eq does c is =
    let alike : same number c.number ≡ true = rw is.number (beq_same number e.number eq) in
    shows_again next new c (RNak number) (λ image. rw alike refl) (does c is)

pub again_ack : (e : HeldCard) (next : N.Step) (new : HeldCard) (number : Bool) → beq number e.number ≡ true → ((c : Rules.Card) → IsCard e c → Replies next new (Rules.again c)) → (c : Rules.Card) → IsCard e c → StepShows next new c (RAck number)
again_ack e next new number eq does c is =
    let alike : same number c.number ≡ true = rw is.number (beq_same number e.number eq) in
    shows_again next new c (RAck number) (λ image. rw alike refl) (does c is)

-- R(ACK) with another number, and parts are left
pub chain_next : (e new : HeldCard) (number : Bool) → beq number e.number ≡ false → e.waiting ≡ false → e.place < length e.response → ((log : List (List ℕ)) → Replies N.TheVariants.Send new (Rules.sends_part (not e.number) (cut (e.fsd - 3) (drop e.place e.response)).first (cut (e.fsd - 3) (drop e.place e.response)).others log)) → (c : Rules.Card) → IsCard e c → StepShows N.TheVariants.Send new c (RAck number)
chain_next e new number ne quiet lt does c is =
    let p : List ℕ = (cut (e.fsd - 3) (drop e.place e.response)).first in
    let ps : List (List ℕ) = (cut (e.fsd - 3) (drop e.place e.response)).others in
    let differ : same number c.number ≡ false = rw is.number (beq_other number e.number ne) in
    let some : nat_lt e.place (length e.response) ≡ true = ⊎_elim (λ k. k.0) (λ k. absurd (omega (arith, k.1))) (leb_tells (suc e.place) (length e.response)) in
    let parts : parts_from (e.fsd - 3) e.response e.place ≡ p ∷ ps = rw some refl in
    let left : c.left ≡ Rules.Parts (p ∷ ps) = is.left ∙ ap (λ (w : Bool). left_by w (e.fsd - 3) e.response e.place e.wtx e.wtxm) quiet ∙ ap Rules.Parts parts in
    let number' : other c.number ≡ not e.number = ap other is.number ∙ other_not e.number in
    λ image. rw differ (subst (λ (l : Rules.Unsent). StepAnswers N.TheVariants.Send new c (Rules.card_on_ack l c)) (sym left) (subst (λ (b : Bool). StepAnswers N.TheVariants.Send new c (Rules.sends_part b p ps c.log)) (sym number') (does c.log, refl)))

-- S(WTX) after the last of its own
pub wait_over : (e new : HeldCard) (power wtxm : ℕ) → e.waiting ≡ true → e.wtx ≡ 0 → ((log : List (List ℕ)) → Replies N.TheVariants.Send new (Rules.sends_part e.number (cut (e.fsd - 3) e.response).first (cut (e.fsd - 3) e.response).others log)) → (c : Rules.Card) → IsCard e c → StepShows N.TheVariants.Send new c (Wtx power wtxm)
wait_over e new power wtxm waits none does c is =
    let p : List ℕ = (cut (e.fsd - 3) e.response).first in
    let ps : List (List ℕ) = (cut (e.fsd - 3) e.response).others in
    let left : c.left ≡ Rules.Waits 0 e.wtxm p ps = is.left ∙ ap (λ (w : Bool). left_by w (e.fsd - 3) e.response e.place e.wtx e.wtxm) waits ∙ ap (λ (n : ℕ). Rules.Waits n e.wtxm p ps) none in
    λ image. subst (λ (l : Rules.Unsent). StepAnswers N.TheVariants.Send new c (Rules.card_on_wtx l c)) (sym left) (subst (λ (b : Bool). StepAnswers N.TheVariants.Send new c (Rules.sends_part b p ps c.log)) (sym is.number) (does c.log, refl))

-- a response without S(WTX)
pub answered : (frame : ℕ) (number : Bool) (response held : List ℕ) (wtx wtxm : ℕ) (new : HeldCard) → wtx ≡ 0 → held ≡ response → ((log : List (List ℕ)) → Replies N.TheVariants.Send new (Rules.sends_part number (cut (frame - 3) held).first (cut (frame - 3) held).others log)) → (log : List (List ℕ)) → Replies N.TheVariants.Send new (Rules.answers frame number (record { response = response; wtx = wtx; wtxm = wtxm }) log)
answered frame number response held wtx wtxm new none same_bytes does log =
    rw none (subst (λ (l : List ℕ). Replies N.TheVariants.Send new (Rules.sends_part number (cut (frame - 3) l).first (cut (frame - 3) l).others log)) same_bytes (does log))

-- bytes that are no command
pub refused : (e new : HeldCard) (frame : ArrayVec ℕ) (response : List ℕ) (c : Rules.Card) (block : Block) → 16 ≤ e.fsd → new.fsd ≡ e.fsd → is_command e.taken ≡ false → response ≡ 0x67 ∷ 0x00 ∷ [] → ((log : List (List ℕ)) → Replies N.TheVariants.Send new (Rules.answers e.fsd e.number (record { response = response; wtx = 0; wtxm = 1 }) log)) → Says (Send frame) new.kind (last_shown new) → StepShows N.TheVariants.Execute e c block → Shows (Send frame) new c block
refused e new frame response c block wide kept none word begins says hears =
    let short : length response ≤ e.fsd - 3 = rw word (omega arith) in
    let cuts : cut (e.fsd - 3) response ≡ record { first = 0x67 ∷ 0x00 ∷ []; others = [] } = cut_last (e.fsd - 3) response short ∙ ap (λ (l : List ℕ). record { first = l; others = [] }) word in
    let r : Replies N.TheVariants.Send new (Rules.sends_part e.number (0x67 ∷ 0x00 ∷ []) [] c.log) = subst (λ (x : Cut). Replies N.TheVariants.Send new (Rules.sends_part e.number x.first x.others c.log)) cuts (begins c.log) in
    λ image takes.
    let is : Rules.card_hears new.fsd image c block ≡ Rules.sends_part e.number (0x67 ∷ 0x00 ∷ []) [] c.log =
    ap (λ (n : ℕ). Rules.card_hears n image c block) kept
    ∙ hears image
    ∙ ap (λ (b : Bool). if b then Rules.answers e.fsd e.number (image.answer (c.log ++ e.taken ∷ [])) (c.log ++ e.taken ∷ []) else Rules.sends_part e.number (0x67 ∷ 0x00 ∷ []) [] c.log) (takes e.taken ∙ none) in
    subst (λ (a : Rules.Answer). Answers (Send frame) new c.log a) (sym is) (r.0, ap (maybe_frame new.kind) r.1 ∙ says, refl)
