-- A round with one card of Type B alone.
use Rattle.std.proofs.Common.{◌≡◌, ℕ, zero, suc, ◌+◌, ◌*◌, ◌/◌, ◌<◌, ◌==◌, ◌&&◌, Bool, true, false, List, [], ◌∷◌, Ok, ap, ◌∙◌, refl, arith, le-leb, if◌then◌else◌}
use Rattle.std.specs.Str.{bytes_eq}
use Rattle.ep_base.specs.declared.limits.TheConstants.{ROUND_EXCHANGES}
use Rattle.ep_base.specs.declared.air.Wave.TheVariants.{B}
use Rattle.ep_base.specs.Air.Heard.{framed, Goes, Ends, says_opened, on_answer, RoundEnd, Found, CardHear, Mute, Sends, Opens}
use Rattle.ep_base.specs.Cards.Activation.{atqb, bit, waiting}
use Rattle.ep_base.specs.Air.FrameSize.{frame_size}
use Rattle.ep_base.specs.Cards.TypeB.{BStage, attrib_of, b_says, after_atqb, BPlan, BState, BIdle, BReady, BProtocol, atqb_of, b_takes, b_opened, b_card}
use Rattle.ep_base.specs.Poll.Round.{Stage, Waking, WakingB, InB, round_asks, round_hears, in_b}
use Rattle.ep_base.specs.Cards.Field.{Outside, OfB, joined}
use Rattle.ep_base.specs.Cards.Lawful.{IsFour, Bytes}
use Rattle.law_round.specs.Alone.{found_b}
use Rattle.rf_frame.proofs.Opening.{same_bytes, opened_sealed}
use Rattle.law_round.proofs.Lone.{sent, solo}

by_message : (n fsdi : ℕ) (p : BPlan) (s : BState) (stage : Stage) (x : BState × CardHear)
    → b_card p s (round_asks fsdi stage).wave (round_asks fsdi stage).bytes ≡ x
    → solo (suc n) fsdi (OfB p s) (Goes stage) ≡ solo n fsdi (OfB p x.0) (round_hears stage (joined (sent x.1)))
unfolding solo
by_message n fsdi p s stage x e = ap (λ (y : BState × CardHear). solo n fsdi (OfB p y.0) (round_hears stage (joined (sent y.1)))) e

over : (n fsdi : ℕ) (card : Outside) (e : RoundEnd) → solo n fsdi card (Ends e) ≡ Ends e
unfolding solo
over zero fsdi card e = refl
over (suc n) fsdi card e = refl

-- what a card's ATQB says
atqb_read : (a b c d e f g h fsci fwi : ℕ)
    → atqb (0x50 ∷ a ∷ b ∷ c ∷ d ∷ e ∷ f ∷ g ∷ h ∷ 0 ∷ (16 * fsci + 1) ∷ (16 * fwi) ∷ [])
    ≡ Ok (record { pupi = a ∷ b ∷ c ∷ d ∷ []; fsc = frame_size fsci; fwi = waiting fwi; iso4 = true })
unfolding atqb
atqb_read a b c d e f g h fsci fwi =
    let one : bit (16 * fsci + 1) 1 ≡ 1 = omega arith in
    let size : (16 * fsci + 1) / 16 ≡ fsci = omega arith in
    let wait : 16 * fwi / 16 ≡ fwi = omega arith in
    let pupi : List ℕ = a ∷ b ∷ c ∷ d ∷ [] in
    ap (λ n. Ok (record { pupi = pupi; fsc = frame_size n; fwi = waiting (16 * fwi / 16); iso4 = (bit (16 * fsci + 1) 1 == 1) })) size
    ∙ ap (λ n. Ok (record { pupi = pupi; fsc = frame_size fsci; fwi = waiting n; iso4 = (bit (16 * fsci + 1) 1 == 1) })) wait
    ∙ ap (λ n. Ok (record { pupi = pupi; fsc = frame_size fsci; fwi = waiting fwi; iso4 = (n == 1) })) one

pub by_pupi : (fsdi : ℕ) (pupi app : List ℕ) → IsFour pupi → IsFour app → (fsci fwi : ℕ) (iso4 : Bool) → fsdi < 16 → iso4 ≡ true
    → solo ROUND_EXCHANGES fsdi (OfB (record { pupi = pupi; app_data = app; fsci = fsci; fwi = fwi; iso4 = iso4 }) BIdle) (Goes Waking)
    ≡ Ends (Found (found_b (record { pupi = pupi; app_data = app; fsci = fsci; fwi = fwi; iso4 = iso4 })))
unfolding b_takes
by_pupi fsdi _ _ (Bytes a b c d) (Bytes e f g h) fsci fwi false low i = cc
by_pupi fsdi _ _ (Bytes a b c d) (Bytes e f g h) fsci fwi true low i =
    let pupi : List ℕ = a ∷ b ∷ c ∷ d ∷ [] in
    let p : BPlan = record { pupi = pupi; app_data = e ∷ f ∷ g ∷ h ∷ []; fsci = fsci; fwi = fwi; iso4 = true } in
    let stage : BStage = record { pupi = pupi; fsc = frame_size fsci; fwi = waiting fwi } in
    let opened_card : BState × CardHear = (BProtocol, Opens (framed B (0 ∷ [])) (frame_size fsdi)) in
    by_message 10 fsdi p BIdle Waking (BIdle, Mute) refl
    ∙ by_message 9 fsdi p BIdle (WakingB false) (BReady, Sends (framed B (atqb_of p))) (ap (λ o. b_opened p BIdle B o) (opened_sealed B (0x05 ∷ 0 ∷ 0x08 ∷ []) (omega arith)))
    ∙ ap (λ o. solo 9 fsdi (OfB p BReady) (in_b (on_answer (λ m. after_atqb (atqb m)) (says_opened o)))) (opened_sealed B (atqb_of p) (omega arith))
    ∙ ap (λ r. solo 9 fsdi (OfB p BReady) (in_b (after_atqb r))) (atqb_read a b c d e f g h fsci fwi)
    ∙ by_message 8 fsdi p BReady (InB stage) opened_card
    (ap (λ o. b_opened p BReady B o) (opened_sealed B (attrib_of pupi fsdi) (omega arith))
    ∙ ap (λ x. if (x && bytes_eq (attrib_of pupi fsdi) (attrib_of pupi fsdi)) && true then opened_card else (BReady, Mute)) (le-leb _ _ (omega arith))
    ∙ ap (λ x. if x && true then opened_card else (BReady, Mute)) (same_bytes (attrib_of pupi fsdi)))
    ∙ ap (λ o. solo 8 fsdi (OfB p BProtocol) (in_b (on_answer (b_says stage) (says_opened o)))) (opened_sealed B (0 ∷ []) (omega arith))
    ∙ over 8 fsdi (OfB p BProtocol) _
