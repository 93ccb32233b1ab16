-- A round leaves no other card of Type B in Protocol.
use Rattle.std.proofs.Common.{◌≡◌, ℕ, ◌==◌, ◌%◌, nat_eq, nat_lt, ◌&&◌, true, false, List, [], ◌∷◌, ◌++◌, length, take, drop, Option, Some, None, sym, ap, ◌∙◌, subst, refl, arith, length-append}
use Rattle.std.specs.Prelude.{slice_index}
use Rattle.std.specs.Str.{bytes_eq}
use Rattle.std.proofs.Math.Seq.{take-append_seam}
use Rattle.std.proofs.lemmas.Bool.{and_parts}
use Rattle.ep_base.specs.declared.air.Wave.{Wave}
use Rattle.ep_base.specs.declared.air.Wave.TheVariants.{AShort, ABare, A, B}
use Rattle.ep_base.specs.Air.Frame.{sealed, opened}
use Rattle.ep_base.specs.Air.Heard.{RoundEnd, Empty, Collision, Unsupported, Broken, Found, CardHear, Mute, Sends, Opens, same_wave, Heard, RoundTurn, Goes, Ends, framed}
use Rattle.ep_base.specs.Air.FrameSize.{frame_size}
use Rattle.ep_base.specs.Cards.TypeA.{Woken, Level, Select, Complete}
use Rattle.ep_base.specs.Cards.TypeB.{BStage, attrib_of, b_says, BPlan, BState, BIdle, BReady, BProtocol, atqb_of, is_attrib, b_takes, b_opened, b_card}
use Rattle.ep_base.specs.Poll.Round.{Stage, Waking, Halting, WakingB, InA, InB, round_asks, round_hears, in_b}
use Rattle.law_round.proofs.Fitting.{NotOpenB, NextB, EndsB}
use Rattle.rf_frame.proofs.Opening.{opened_sealed}
use Rattle.law_round.proofs.Presenting.{same_part, answered, either, when}

quiet_end : (e : RoundEnd) (pupi : List ℕ) (s : BState) → NotOpenB s → EndsB e pupi s
quiet_end Empty pupi s o = tt
quiet_end Collision pupi s o = tt
quiet_end Unsupported pupi s o = tt
quiet_end Broken pupi s o = tt
quiet_end (Found found) pupi BIdle o = λ e. absurd cc
quiet_end (Found found) pupi BReady o = λ e. absurd cc
quiet_end (Found found) pupi BProtocol o = absurd o

pub quiet : (t : RoundTurn Stage) (pupi : List ℕ) (s : BState) → NotOpenB s → NextB t pupi s
quiet (Goes stage) pupi s o = o
quiet (Ends e) pupi s o = quiet_end e pupi s o

pub other_wave : (p : BPlan) (s : BState) (wave : Wave) (m : List ℕ) → same_wave wave B ≡ false → b_takes p s wave m ≡ (s, Mute)
unfolding b_takes
other_wave p s AShort m h = refl
other_wave p s ABare m h = refl
other_wave p s A m h = refl
other_wave p s B m h = cc

other_opened : (p : BPlan) (s : BState) (wave : Wave) (o : Option (List ℕ)) → same_wave wave B ≡ false → (b_opened p s wave o).0 ≡ s
other_opened p s wave None h = refl
other_opened p s wave (Some m) h = ap (λ (x : BState × CardHear). x.0) (other_wave p s wave m h)

-- frames of Type A leave it as it is
stays : (p : BPlan) (s : BState) (wave : Wave) (bytes : List ℕ) → same_wave wave B ≡ false → NotOpenB s → (b_card p s wave bytes).0 ≡ s
stays p BIdle wave bytes h o = other_opened p BIdle wave (opened wave bytes) h
stays p BReady wave bytes h o = other_opened p BReady wave (opened wave bytes) h
stays p BProtocol wave bytes h o = absurd o

elsewhere : (p : BPlan) (s : BState) (t : RoundTurn Stage) (wave : Wave) (bytes : List ℕ) → same_wave wave B ≡ false → NotOpenB s → NextB t p.pupi (b_card p s wave bytes).0
elsewhere p s t wave bytes h o = subst (λ x. NextB t p.pupi x) (sym (stays p s wave bytes h o)) (quiet t p.pupi s o)

pub woken : (p : BPlan) (s : BState) → NotOpenB s → (b_card p s B (sealed B (0x05 ∷ 0 ∷ 0x08 ∷ []))).0 ≡ BReady
unfolding b_takes
woken p BIdle o = ap (λ x. (b_opened p BIdle B x).0) (opened_sealed B (0x05 ∷ 0 ∷ 0x08 ∷ []) (omega arith))
woken p BReady o = ap (λ x. (b_opened p BReady B x).0) (opened_sealed B (0x05 ∷ 0 ∷ 0x08 ∷ []) (omega arith))
woken p BProtocol o = absurd o

fronts : (a b x y : List ℕ) → length a ≡ length b → a ++ x ≡ b ++ y → a ≡ b
fronts a b x y l e = sym (take-append_seam a x) ∙ ap (λ n. take n (a ++ x)) l ∙ ap (λ z. take (length b) z) e ∙ take-append_seam b y

-- ATTRIB for it has its PUPI
pub its_own : (p : BPlan) (pupi : List ℕ) (fsdi : ℕ) → length p.pupi ≡ 4 → is_attrib p.pupi (attrib_of pupi fsdi) ≡ true → pupi ≡ p.pupi
its_own p pupi fsdi l h =
    let m = attrib_of pupi fsdi in
    let parts = and_parts (nat_eq (length m) 9) _ h in
    let more = and_parts (nat_lt (slice_index m 6) 16) _ parts.1 in
    let same : m ≡ attrib_of p.pupi (slice_index m 6) = same_part m (attrib_of p.pupi (slice_index m 6)) more.1 in
    let long : length pupi ≡ length p.pupi = omega (arith, length-append pupi (0 ∷ fsdi ∷ 1 ∷ 0 ∷ []), length-append p.pupi (0 ∷ slice_index m 6 ∷ 1 ∷ 0 ∷ []), ap length same) in
    fronts pupi p.pupi (0 ∷ fsdi ∷ 1 ∷ 0 ∷ []) (0 ∷ slice_index m 6 ∷ 1 ∷ 0 ∷ []) long (ap (λ z. drop 1 z) same)

attrib_idle : (p : BPlan) (m : List ℕ) (t : RoundTurn Stage) → NextB t p.pupi (b_takes p BIdle B m).0
unfolding b_takes
attrib_idle p m t = either (λ (x : BState × CardHear). NextB t p.pupi x.0) (bytes_eq m (0x05 ∷ 0 ∷ 0x08 ∷ [])) (BReady, Sends (framed B (atqb_of p))) (BIdle, Mute) (quiet t p.pupi BReady tt) (quiet t p.pupi BIdle tt)

attrib_ready : (fsdi : ℕ) (p : BPlan) (stage : BStage) (heard : Heard) → length p.pupi ≡ 4
    → NextB (round_hears (InB stage) heard) p.pupi (b_takes p BReady B (attrib_of stage.pupi fsdi)).0
unfolding b_takes
attrib_ready fsdi p stage heard l =
    let t = round_hears (InB stage) heard in
    let m = attrib_of stage.pupi fsdi in
    let P : BState × CardHear → Type 0 = λ x. NextB t p.pupi x.0 in
    when P (is_attrib p.pupi m && p.iso4) (BProtocol, Opens (framed B (0 ∷ [])) (frame_size (slice_index m 6))) (BReady, Mute)
    (λ e. let own : stage.pupi ≡ p.pupi = its_own p stage.pupi fsdi l (and_parts (is_attrib p.pupi m) p.iso4 e).0 in
    answered (λ t. NextB (in_b t) p.pupi BProtocol) (b_says stage) B heard tt tt
    (λ x. either (λ t. NextB (in_b t) p.pupi BProtocol) (nat_lt 0 (length x) && (slice_index x 0 % 16 == 0)) _ _ (λ _. (refl, own)) tt))
    (λ e. quiet t p.pupi BReady tt)

pub step_b : (fsdi : ℕ) (p : BPlan) (l : length p.pupi ≡ 4) (stage : Stage) (s : BState) (heard : Heard) → NotOpenB s
    → NextB (round_hears stage heard) p.pupi (b_card p s (round_asks fsdi stage).wave (round_asks fsdi stage).bytes).0
step_b fsdi p l Waking s heard o = elsewhere p s (round_hears Waking heard) AShort _ refl o
step_b fsdi p l Halting s heard o = elsewhere p s (round_hears Halting heard) A _ refl o
step_b fsdi p l (WakingB woke) s heard o = subst (λ x. NextB (round_hears (WakingB woke) heard) p.pupi x) (sym (woken p s o)) (quiet (round_hears (WakingB woke) heard) p.pupi BReady tt)
step_b fsdi p l (InA Woken) s heard o = elsewhere p s (round_hears (InA Woken) heard) AShort _ refl o
step_b fsdi p l (InA (Level n before)) s heard o = elsewhere p s (round_hears (InA (Level n before)) heard) ABare _ refl o
step_b fsdi p l (InA (Select n before part)) s heard o = elsewhere p s (round_hears (InA (Select n before part)) heard) A _ refl o
step_b fsdi p l (InA (Complete read)) s heard o = elsewhere p s (round_hears (InA (Complete read)) heard) A _ refl o
step_b fsdi p l (InB stage) BIdle heard o =
    subst (λ x. NextB (round_hears (InB stage) heard) p.pupi (b_opened p BIdle B x).0) (sym (opened_sealed B (attrib_of stage.pupi fsdi) (omega arith))) (attrib_idle p (attrib_of stage.pupi fsdi) (round_hears (InB stage) heard))
step_b fsdi p l (InB stage) BReady heard o =
    subst (λ x. NextB (round_hears (InB stage) heard) p.pupi (b_opened p BReady B x).0) (sym (opened_sealed B (attrib_of stage.pupi fsdi) (omega arith))) (attrib_ready fsdi p stage heard l)
step_b fsdi p l (InB stage) BProtocol heard o = absurd o
