-- The steps of a reader's end.
use Rattle.std.proofs.Common.{◌≡◌, ◌≢◌, ℕ, suc, ◌+◌, ◌-◌, ◌<◌, ◌≤◌, Bool, true, false, not, List, [], ◌∷◌, ◌++◌, length, take, drop, refl, sym, ap, ◌∙◌, subst, ⊎_elim, arith, length-drop}
use mathlib.Core.Bool.{beq}
use Rattle.std.specs.Prelude.{nat_lt}
use Rattle.std.proofs.lemmas.List.{append-nil, take-append-drop}
use Rattle.std.proofs.Math.ListN.{drop_of_length-le}
use Rattle.std.proofs.lemmas.Bool.Decides.{leb_tells}
use Rattle.ep_base.specs.Link.Block.{I, RAck, RNak, Deselect, Wtx, ReadBlock, Bad, Junk, Intact, other, same}
use Rattle.ep_base.specs.Link.Parts.{Cut, cut, more}
use Rattle.ep_base.specs.Link.ReaderEnd as Rules
use Rattle.ep_base.specs.Link.ReaderEnd.{Idle, Sending, Receiving, question, asked, on_ack, on_i, takes, reader_hears}
use Rattle.block_reader.specs.declared.stages.Stage.TheVariants as stage
use Rattle.block_reader.specs.declared.stages.Stage.{Stage}
use Rattle.block_reader.specs.declared.stages.Question.TheVariants as ask
use Rattle.block_reader.specs.declared.stages.Question.{Question}
use Rattle.block_reader.specs.declared.stages.Step.TheVariants as step
use Rattle.block_reader.specs.declared.stages.Step.{Step}
use Rattle.block_reader.specs.Progress.{Course, phase_by, block_by, Sends, StepShows, NoneGot}
use Rattle.block_pcb.proofs.Cuts.{cut_at_last, cut_at_more}

pub same_true : (a b : Bool) → a ≡ b → same a b ≡ true
same_true true true e = refl
same_true false false e = refl
same_true true false e = cc
same_true false true e = cc

pub same_false : (a b : Bool) → a ≢ b → same a b ≡ false
same_false true false e = refl
same_false false true e = refl
same_false true true e = absurd (e refl)
same_false false false e = absurd (e refl)

pub unlike : (a b : Bool) → not (beq a b) ≡ true → a ≢ b
unlike true true e = cc
unlike true false e = λ h. cc
unlike false true e = λ h. cc
unlike false false e = cc

pub alike_by : (a b : Bool) → not (beq a b) ≡ false → a ≡ b
alike_by true true e = refl
alike_by true false e = cc
alike_by false true e = cc
alike_by false false e = refl

pub other_not : (a : Bool) → other a ≡ not a
other_not true = refl
other_not false = refl

take_whole : (n : ℕ) (l : List ℕ) → length l ≤ n → take n l ≡ l
take_whole n l le = sym (append-nil (take n l)) ∙ ap (λ x. take n l ++ x) (sym (drop_of_length-le l le)) ∙ take-append-drop n l

-- the block of the part at a place
pub part_block : (n : Bool) (size place : ℕ) (command : List ℕ) → 0 < size → I n (more (cut size (drop place command)).others) (cut size (drop place command)).first ≡ I n (nat_lt (place + size) (length command)) (take size (drop place command))
part_block n size place command pos =
    ⊎_elim
    (λ h. rw (h.0, cut_at_more size place command pos h.1))
    (λ h. let whole : take size (drop place command) ≡ drop place command = take_whole size (drop place command) (omega (arith, h.1, length-drop place command)) in rw (h.0, whole, cut_at_last size place command (omega (arith, h.1))))
    (leb_tells (suc (place + size)) (length command))

abbrev IsSending : Rules.Phase → Type 0
IsSending Idle = ⊥
IsSending (Sending part left) = Unit {0}
IsSending (Receiving got) = ⊥

-- an R(NAK) is sent in a command alone
nak_sends : (n : Bool) (phase : Rules.Phase) (s : List ReadBlock) → question n phase s ≡ RNak n → IsSending phase
nak_sends n Idle s e = cc
nak_sends n (Sending part left) s e = tt
nak_sends n (Receiving got) [] e = cc
nak_sends n (Receiving got) (Bad ∷ s) e = cc
nak_sends n (Receiving got) (Junk ∷ s) e = cc
nak_sends n (Receiving got) (Intact (I k ch inf) ∷ s) e = cc
nak_sends n (Receiving got) (Intact (RAck k) ∷ s) e = cc
nak_sends n (Receiving got) (Intact (RNak k) ∷ s) e = cc
nak_sends n (Receiving got) (Intact Deselect ∷ s) e = cc
nak_sends n (Receiving got) (Intact (Wtx p m) ∷ s) e = cc

-- the parts of the command from a place on
abbrev sending_at : Course → Rules.Phase
sending_at e = Sending (cut (e.card_frame - 3) (drop e.place e.command)).first (cut (e.card_frame - 3) (drop e.place e.command)).others

sends_by : (e : Course) (s : Stage) → IsSending (phase_by s (e.card_frame - 3) e.command e.place e.got) → phase_by s (e.card_frame - 3) e.command e.place e.got ≡ sending_at e
sends_by e stage.Resting h = absurd h
sends_by e stage.Sending h = refl
sends_by e stage.Receiving h = absurd h
sends_by e stage.Failed h = absurd h
sends_by e stage.Closed h = absurd h

-- R(ACK) with the other number after an R(NAK)
pub again : (e : Course) (number : Bool) (frame : ℕ) → 16 ≤ e.card_frame → not (beq number e.number) ≡ true → e.question ≡ ask.Nak → (r : Rules.Reader) → Sends e r → StepShows step.Again (record e { question = ask.Part }) (Intact (RAck number)) r (reader_hears frame r (Intact (RAck number)))
again e number frame wide ne nak r a =
    let asks : asked r ≡ RNak e.number = a.block ∙ ap (λ (k : Question). block_by k e.number (e.card_frame - 3) e.command e.place) nak in
    let asks' : question r.number r.phase r.since ≡ RNak r.number = asks ∙ ap RNak (sym a.state.number) in
    let differ : same number r.number ≡ false = rw a.state.number (same_false number e.number (unlike number e.number ne)) in
    let sends : IsSending r.phase = nak_sends r.number r.phase r.since asks' in
    let phase : r.phase ≡ sending_at e = a.state.phase ∙ sends_by e e.stage (subst IsSending a.state.phase sends) in
    rw (differ, asks) (record {
      sends = record {
        state = record { number = a.state.number; phase = a.state.phase; bad = a.state.bad; wtx = a.state.wtx; fresh = a.state.fresh };
        block = rw (phase, a.state.number) (part_block e.number (e.card_frame - 3) e.place e.command (omega arith));
        few = a.few;
      };
      same = refl;
    })

-- R(ACK) with the current number, with no part left
pub no_part : (e : Course) (number : Bool) (frame : ℕ) → not (beq number e.number) ≡ false → length e.command ≤ e.place + (e.card_frame - 3) → e.stage ≡ stage.Sending → (r : Rules.Reader) → Sends e r → StepShows step.Breach e (Intact (RAck number)) r (reader_hears frame r (Intact (RAck number)))
no_part e number frame eq le sends r a =
    let alike : same number r.number ≡ true = rw a.state.number (same_true number e.number (alike_by number e.number eq)) in
    let phase : r.phase ≡ Sending (drop e.place e.command) [] = a.state.phase ∙ ap (λ (p : Stage). phase_by p (e.card_frame - 3) e.command e.place e.got) sends ∙ ap (λ (c : Cut). Sending c.first c.others) (cut_at_last (e.card_frame - 3) e.place e.command le) in
    rw alike (subst (λ (p : Rules.Phase). StepShows step.Breach e (Intact (RAck number)) r (on_ack p r)) (sym phase) (record { same = refl; state = a.state }))

-- R(ACK) with the current number, and the next part
pub next_part : (e : Course) (number : Bool) (frame at : ℕ) → at ≡ e.place + (e.card_frame - 3) → 16 ≤ e.card_frame → not (beq number e.number) ≡ false → e.place + (e.card_frame - 3) < length e.command → e.stage ≡ stage.Sending → (r : Rules.Reader) → Sends e r → StepShows step.Toggled (record e { number = not e.number; bad = 0; wtx = 0; question = ask.Part; place = at }) (Intact (RAck number)) r (reader_hears frame r (Intact (RAck number)))
next_part e number frame at is wide eq lt sends r a =
    let size = e.card_frame - 3 in
    let alike : same number r.number ≡ true = rw a.state.number (same_true number e.number (alike_by number e.number eq)) in
    let c : Cut = cut size (drop (e.place + size) e.command) in
    let phase : r.phase ≡ Sending (take size (drop e.place e.command)) (c.first ∷ c.others) = a.state.phase ∙ ap (λ (p : Stage). phase_by p size e.command e.place e.got) sends ∙ ap (λ (c : Cut). Sending c.first c.others) (cut_at_more size e.place e.command (omega arith) lt) in
    let number' : other r.number ≡ not e.number = ap other a.state.number ∙ other_not e.number in
    subst (λ (n : ℕ). StepShows step.Toggled (record e { number = not e.number; bad = 0; wtx = 0; question = ask.Part; place = n }) (Intact (RAck number)) r (reader_hears frame r (Intact (RAck number)))) (sym is) (rw alike (subst (λ (p : Rules.Phase). StepShows step.Toggled (record e { number = not e.number; bad = 0; wtx = 0; question = ask.Part; place = e.place + (e.card_frame - 3) }) (Intact (RAck number)) r (on_ack p r)) (sym phase) (record {
      sends = record {
        state = record { number = number'; phase = rw sends refl; bad = refl; wtx = refl; fresh = a.state.fresh };
        block = rw number' (part_block (not e.number) size (e.place + size) e.command (omega arith));
        few = (omega arith, omega arith);
      };
      number = refl;
      fresh = refl;
    })))

-- an I-block with the current number, with parts of the command left
pub early_part : (e : Course) (number ch : Bool) (inf : List ℕ) (frame : ℕ) → 16 ≤ e.card_frame → not (beq number e.number) ≡ false → e.place + (e.card_frame - 3) < length e.command → e.stage ≡ stage.Sending → (r : Rules.Reader) → Sends e r → StepShows step.Breach e (Intact (I number ch inf)) r (reader_hears frame r (Intact (I number ch inf)))
early_part e number ch inf frame wide eq lt sends r a =
    let size = e.card_frame - 3 in
    let alike : same number r.number ≡ true = rw a.state.number (same_true number e.number (alike_by number e.number eq)) in
    let c : Cut = cut size (drop (e.place + size) e.command) in
    let phase : r.phase ≡ Sending (take size (drop e.place e.command)) (c.first ∷ c.others) = a.state.phase ∙ ap (λ (p : Stage). phase_by p size e.command e.place e.got) sends ∙ ap (λ (c : Cut). Sending c.first c.others) (cut_at_more size e.place e.command (omega arith) lt) in
    rw alike (subst (λ (p : Rules.Phase). StepShows step.Breach e (Intact (I number ch inf)) r (on_i frame p ch inf r)) (sym phase) (record { same = refl; state = a.state }))

-- the same, with no part left
pub first_part : (e new : Course) (next : Step) (number ch : Bool) (inf : List ℕ) (frame : ℕ) → not (beq number e.number) ≡ false → length e.command ≤ e.place + (e.card_frame - 3) → e.stage ≡ stage.Sending → ((r : Rules.Reader) → Sends e r → StepShows next new (Intact (I number ch inf)) r (takes frame e.got ch inf r)) → (r : Rules.Reader) → Sends e r → StepShows next new (Intact (I number ch inf)) r (reader_hears frame r (Intact (I number ch inf)))
first_part e new next number ch inf frame eq le sends took r a =
    let heard : ReadBlock = Intact (I number ch inf) in
    let alike : same number r.number ≡ true = rw a.state.number (same_true number e.number (alike_by number e.number eq)) in
    let phase : r.phase ≡ Sending (drop e.place e.command) [] = a.state.phase ∙ ap (λ (p : Stage). phase_by p (e.card_frame - 3) e.command e.place e.got) sends ∙ ap (λ (c : Cut). Sending c.first c.others) (cut_at_last (e.card_frame - 3) e.place e.command le) in
    let none : e.got ≡ [] = subst (λ (p : Stage). NoneGot p e.got) sends a.state.fresh in
    let here : StepShows next new heard r (takes frame [] ch inf r) = subst (λ (l : List ℕ). StepShows next new heard r (takes frame l ch inf r)) none (took r a) in
    rw alike (subst (λ (p : Rules.Phase). StepShows next new heard r (on_i frame p ch inf r)) (sym phase) here)
