-- What a reader hears of a field of cards made of bytes, which it stays.
use Rattle.std.proofs.Common.{◌≡◌, ℕ, ◌+◌, ◌&&◌, nat_lt, Bool, true, false, List, [], ◌∷◌, ◌++◌, length, Option, Some, None, refl, sym, ap, ◌∙◌}
use Rattle.std.specs.Prelude.{All, not}
use Rattle.std.proofs.lemmas.Bool.{and_parts}
use Rattle.std.proofs.lemmas.List.Elements.{All-head, All-tail}
use Rattle.ep_base.specs.declared.air.CardKind.{CardKind}
use Rattle.ep_base.specs.declared.air.CardKind.TheVariants as kinds
use Rattle.ep_base.specs.declared.air.Wave.{Wave}
use Rattle.ep_base.specs.Air.Frame.{opened, is_bare, hits, after_burst}
use Rattle.ep_base.specs.Air.Heard.{Sent, Heard, Silence, Noise, Overlap, Frame, same_wave, wave_of_kind, CardHear, Mute, Sends, Opens, Passes}
use Rattle.ep_base.specs.Air.Fates as ways
use Rattle.ep_base.specs.Air.Fates.{Way, next_fate}
use Rattle.ep_base.proofs.Sizes.{IsSize}
use Rattle.ep_base.specs.Link.Block.{Block}
use Rattle.ep_base.specs.Link.CardEnd.{Answer, card_hears, is_halted, unlogged, fresh_card}
use Rattle.ep_base.specs.Link.Spelling.{Read, Reads, Refuses, read_block}
use Rattle.ep_base.specs.Link.Wire.{Party, Heeded, unmoved, by_commands, maybe_frame, takes_block, takes_read, takes_opened, takes_frame, comes_down, comes_back}
use Rattle.ep_base.specs.Cards.Field.{Outside, OfA, OfB, outside_after, outside_reply, outside_reset, outside_halted, Placed, CardAfter, untouched, by_reply, hears_frame, one_hears, maybe_answer, all_hear, all_same, joined, left_by, away, is_present, placed_reset, all_reset, Field, field_reset, all_take, field_hears, field_send}
use Rattle.ep_base.specs.Cards.Inside.{is_inside}
use Rattle.ep_base.specs.Cards.Lawful.{IsPlaced, ArePlaced}
use Rattle.ep_claim.specs.Text.TraceLine.{answer_wave}
use Rattle.ep_claim.specs.Text.TraceForm.{HoldsHeard}
use Rattle.ep_claim.specs.Lanes.Exchanges.{or_silence}
use Rattle.law_round.proofs.Presenting.{either, when}
use Rattle.law_lines.specs.Bytes.{CardOfBytes}
use Rattle.law_lines.proofs.Octets.{burst_holds}
use Rattle.law_lines.proofs.Imaging.{IsGood, good_deselected, good_after, good_answers}
use Rattle.law_lines.proofs.Sending.{block_holds, LastFits, EndFits, AnswerFits, card_fits}
use Rattle.law_lines.proofs.Answering.{Answers, Replies, GoodOutside, wave_is, outside_good, outside_comes, outside_stays}

-- ---- cards

-- a card outside the block protocol, which may be anywhere in it
pub record Made (p : Placed) : Type 0 where
  pub outside : GoodOutside p.outside
  pub image : IsGood p.party.image

-- an end of a link that sends blocks of bytes alone, in frames of its reader's size
pub record LinkFits (p : Party) : Type 0 where
  pub size : IsSize p.fsd
  pub sends : EndFits p.fsd p.card

-- a card whose end of the link is so, where it is in the block protocol
pub record Ready (p : Placed) : Type 0 where
  pub made : Made p
  pub link : is_inside p.outside ≡ true → LinkFits p.party

abbrev pub AreMade : List Placed → Type 0
AreMade [] = Unit {0}
AreMade (p ∷ ps) = Made p × AreMade ps

abbrev pub AreReady : List Placed → Type 0
AreReady [] = Unit {0}
AreReady (p ∷ ps) = Ready p × AreReady ps

pub made_of : (ps : List Placed) → AreReady ps → AreMade ps
made_of [] h = tt
made_of (p ∷ ps) h = (h.0.made, made_of ps h.1)

pub cards_made : (ps : List Placed) → ArePlaced ps → All CardOfBytes ps → AreMade ps
cards_made [] placed all = tt
cards_made (p ∷ ps) placed all =
    let is : IsPlaced p = placed.0 in
    let card : CardOfBytes p = All-head CardOfBytes p ps all in (
      record { outside = outside_good p.outside card.outside is.formed; image = record { bytes = card.image; limits = is.image } },
      cards_made ps placed.1 (All-tail CardOfBytes p ps all),
    )

-- ---- a reset

reset_outside : (o : Outside) → GoodOutside o → GoodOutside (outside_reset o)
reset_outside (OfA plan state) h = h
reset_outside (OfB plan state) h = h

reset_out : (o : Outside) → is_inside (outside_reset o) ≡ false
reset_out (OfA plan state) = refl
reset_out (OfB plan state) = refl

out_fits : (o : Outside) (p : Party) → is_inside o ≡ false → is_inside o ≡ true → LinkFits p
out_fits o p f t = absurd (let clash : ⊥ = cc in clash)

all_reset_ready : (gone : Bool) (presence : List (List ℕ)) (n : ℕ) (ps : List Placed) → AreMade ps → AreReady (all_reset gone presence n ps)
all_reset_ready gone presence n [] h = tt
all_reset_ready gone presence n (p ∷ ps) h =
    let q = placed_reset (is_present gone presence n) p in (
      record {
        made = record { outside = reset_outside p.outside h.0.outside; image = good_deselected p.party.image h.0.image };
        link = out_fits (outside_reset p.outside) q.party (reset_out p.outside);
      },
      all_reset_ready gone presence (n + 1) ps h.1,
    )

pub reset_ready : (f : Field) → AreMade f.cards → AreReady (field_reset f).cards
reset_ready f h = all_reset_ready f.air.gone f.presence 1 f.cards h

-- ---- a frame

abbrev AnswersIf : Wave → Option Sent → Type 0
AnswersIf w None = Unit {0}
AnswersIf w (Some f) = Answers w f

-- a card in the block protocol after a frame
record Heeds (w : Wave) (h : Heeded) : Type 0 where
  link : LinkFits h.party
  image : IsGood h.party.image
  answer : AnswersIf w h.answer

own_answer : (kind : CardKind) → answer_wave (wave_of_kind kind) ≡ wave_of_kind kind
own_answer kinds.A = refl
own_answer kinds.B = refl

module _ (w : Wave) where
  frame_answers : (kind : CardKind) (size : ℕ) (o : Option Block) → same_wave w (wave_of_kind kind) ≡ true → IsSize size → LastFits size o → AnswersIf w (maybe_frame kind o)
  frame_answers kind size None e is fits = tt
  frame_answers kind size (Some b) e is fits = (
    sym (ap answer_wave (wave_is w (wave_of_kind kind) e) ∙ own_answer kind),
    block_holds (wave_of_kind kind) size b is.1 fits,
  )

  module _ (p : Party) (fits : LinkFits p) (good : IsGood p.image) where
    unmoved_heeds : Heeds w (unmoved p)
    unmoved_heeds = record { link = fits; image = good; answer = tt }

    block_heeds : (b : Block) → same_wave w (wave_of_kind p.kind) ≡ true → Heeds w (takes_block p b)
    block_heeds b e =
        let a : Answer = card_hears p.fsd (by_commands p.image) (unlogged p.card) b in
        let end : EndFits p.fsd (unlogged p.card) = record { last = fits.sends.last; left = fits.sends.left } in
        let sent : AnswerFits p.fsd a = card_fits p.fsd fits.size.0 (by_commands p.image) (good_answers p.image good) (unlogged p.card) b end in
        record {
          link = record { size = fits.size; sends = record { last = sent.card.last; left = sent.card.left } };
          image = good_after p.image a.card.log good;
          answer = frame_answers p.kind p.fsd a.block e fits.size sent.block;
        }

    read_heeds : (r : Read) → same_wave w (wave_of_kind p.kind) ≡ true → Heeds w (takes_read p r)
    read_heeds (Reads b) e = block_heeds b e
    read_heeds (Refuses fault) e = unmoved_heeds

    opened_heeds : (o : Option (List ℕ)) → same_wave w (wave_of_kind p.kind) ≡ true → Heeds w (takes_opened p o)
    opened_heeds None e = unmoved_heeds
    opened_heeds (Some m) e = read_heeds (read_block m) e

    frame_heeds : (bytes : List ℕ) → Heeds w (takes_frame p w bytes)
    frame_heeds bytes =
        when (Heeds w) (same_wave w (wave_of_kind p.kind) && not (is_halted p.card)) (takes_opened p (opened w bytes)) (unmoved p)
        (λ e. opened_heeds (opened w bytes) (and_parts _ _ e).0) (λ d. unmoved_heeds)

  record Does (t : CardAfter) : Type 0 where
    card : Ready t.card
    answer : AnswersIf w t.answer

  halted_outside : (o : Outside) → GoodOutside o → GoodOutside (outside_halted o)
  halted_outside (OfA plan state) h = h
  halted_outside (OfB plan state) h = h

  fresh_fits : (size : ℕ) → EndFits size fresh_card
  fresh_fits size = record { last = tt; left = tt }

  module _ (p : Placed) (bytes : List ℕ) (ready : Ready p) where
    reply_does : (o : Outside) (r : CardHear) → GoodOutside o → Replies w (is_inside p.outside) (is_inside o) r → Does (by_reply p o w bytes r)
    reply_does o Mute good is = record { card = record { made = record { outside = good; image = ready.made.image }; link = λ e. ready.link (is e) }; answer = tt }
    reply_does o (Sends f) good is = record { card = record { made = record { outside = good; image = ready.made.image }; link = λ e. ready.link (is.1 e) }; answer = is.0 }
    reply_does o (Opens f fsd) good is = record {
      card = record { made = record { outside = good; image = ready.made.image }; link = λ e. record { size = is.1; sends = fresh_fits fsd } };
      answer = is.0;
    }
    reply_does o Passes good is =
        let h : Heeds w (takes_frame p.party w bytes) = frame_heeds p.party (ready.link is) ready.made.image bytes in
        record {
          card = record {
            made = record {
              outside = either GoodOutside (is_halted (takes_frame p.party w bytes).party.card) (outside_halted p.outside) p.outside (halted_outside p.outside ready.made.outside) ready.made.outside;
              image = h.image;
            };
            link = λ e. h.link;
          };
          answer = h.answer;
        }

    frame_does : Does (hears_frame p w bytes)
    frame_does =
        reply_does (outside_after w bytes p.outside) (outside_reply w bytes p.outside) (outside_stays w bytes p.outside ready.made.outside)
        (outside_comes w bytes p.outside ready.made.outside)

    one_does : (room : ℕ) (log : List (ℕ × List ℕ)) → Does (one_hears room w bytes log p)
    one_does room log = either Does (p.present && nat_lt (length log) room) (hears_frame p w bytes) (untouched p) frame_does (record { card = ready; answer = tt })

  -- ---- all cards

  abbrev AllAnswer : List Sent → Type 0
  AllAnswer [] = Unit {0}
  AllAnswer (f ∷ fs) = Answers w f × AllAnswer fs

  more_answer : (o : Option Sent) (fs : List Sent) → AnswersIf w o → AllAnswer fs → AllAnswer (maybe_answer o fs)
  more_answer None fs h hs = hs
  more_answer (Some f) fs h hs = (h, hs)

  all_do : (room : ℕ) (bytes : List ℕ) (log : List (ℕ × List ℕ)) (ps : List Placed) → AreReady ps → AreReady (all_hear room w bytes log ps).cards × AllAnswer (all_hear room w bytes log ps).answers
  all_do room bytes log [] h = (tt, tt)
  all_do room bytes log (p ∷ ps) h =
      let t = one_hears room w bytes log p in
      let one : Does t = one_does p bytes h.0 room log in
      let rest = all_hear room w bytes (log ++ t.executed) ps in
      let others = all_do room bytes (log ++ t.executed) ps h.1 in
      ((one.card, others.0), more_answer t.answer rest.answers one.answer others.1)

  taken_do : (f : Field) (o : Option (List ℕ)) → AreReady f.cards → AreReady (all_take f w o).cards × AllAnswer (all_take f w o).answers
  taken_do f None h = (h, tt)
  taken_do f (Some bytes) h = all_do f.room bytes f.log f.cards h

  -- ---- what is heard

  joined_holds : (fs : List Sent) → AllAnswer fs → HoldsHeard w (joined fs)
  joined_holds [] h = tt
  joined_holds (f ∷ fs) h = either (HoldsHeard w) (all_same f fs) (Frame f.wave f.bytes) Overlap h.0 tt

  burst_hears : (start mask : ℕ) (heard : Heard) → HoldsHeard w heard → HoldsHeard w (comes_back (ways.Bursts start mask) heard)
  burst_hears start mask Silence h = tt
  burst_hears start mask Noise h = tt
  burst_hears start mask Overlap h = tt
  burst_hears start mask (Frame v bytes) h =
      either (HoldsHeard w) (is_bare v && hits v start mask bytes) Noise (Frame v (after_burst v start mask bytes)) tt (h.0, burst_holds v start mask bytes h.1)

  back_holds : (way : Way) (heard : Heard) → HoldsHeard w heard → HoldsHeard w (comes_back way heard)
  back_holds ways.Passes heard h = h
  back_holds ways.Loses heard h = tt
  back_holds (ways.Bursts start mask) heard h = burst_hears start mask heard h
  back_holds ways.Leaves heard h = tt

left_ready : (ps : List Placed) → AreReady ps → AreReady (left_by ps)
left_ready [] h = tt
left_ready (p ∷ ps) h = (record { made = record { outside = h.0.made.outside; image = h.0.made.image }; link = h.0.link }, left_ready ps h.1)

-- in an exchange of whatever frame, such a field gives what a line can hold, and stays so
pub field_holds : (f : Field) (w : Wave) (bytes : List ℕ) → AreReady f.cards → HoldsHeard w (or_silence (field_send f w bytes).0) × AreReady (field_send f w bytes).1.cards
field_holds f w bytes h =
    let fate = next_fate f.air.fates in
    let heard = field_hears f w bytes in
    let done = taken_do w f (comes_down fate.down w bytes) h in (
      back_holds w fate.up (joined heard.answers) (joined_holds w heard.answers done.1),
      either AreReady (away fate) (left_by heard.cards) heard.cards (left_ready heard.cards done.0) done.0,
    )
