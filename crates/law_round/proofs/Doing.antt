-- What a card does with the reader's frames in a round.
use Rattle.std.proofs.Common.{◌≡◌, ℕ, ◌+◌, ◌*◌, ◌/◌, ◌%◌, nat_eq, ◌&&◌, Bool, true, false, List, [], ◌∷◌, length, Option, Some, None, sym, ap, subst, refl, arith}
use Rattle.std.specs.Prelude.{slice_index}
use Rattle.std.specs.Str.{bytes_eq}
use Rattle.std.proofs.lemmas.Bool.{and_parts}
use Rattle.ep_base.specs.declared.air.Wave.{Wave}
use Rattle.ep_base.specs.declared.air.Wave.TheVariants.{AShort, ABare, A, B}
use Rattle.ep_base.specs.Air.Frame.{sealed, opened}
use Rattle.ep_base.specs.Air.FrameSize.{frame_size}
use Rattle.ep_base.specs.Air.Heard.{framed, same_wave, Goes, CardHear, Mute, Sends, Opens, Passes}
use Rattle.ep_base.specs.Cards.Activation.{bit}
use Rattle.ep_base.specs.Cards.TypeA.{hlta, Woken, Level, Select, Complete, sel, APlan, AState, Idle, Ready, Active, Protocol, Halted, levels, level_part, sak_of, ats_of, atqa, after_select, a_takes, a_opened, a_card}
use Rattle.ep_base.specs.Cards.TypeB.{attrib_of, wupb, BStage, BPlan, BState, BIdle, BReady, BProtocol, is_attrib, atqb_of, b_takes, b_opened, b_card}
use Rattle.ep_base.specs.Poll.Round.{Stage, Waking, Halting, WakingB, InA, InB, round_asks}
use Rattle.ep_base.specs.Cards.Field.{Outside, OfA, OfB, outside_after, outside_reply}
use Rattle.rf_frame.proofs.Opening.{opened_sealed}
use Rattle.ep_base.specs.Cards.Inside.{a_inside, b_inside, is_inside}
use Rattle.ep_base.specs.Cards.Lawful.{IsFour, Bytes, IsFormed}
use Rattle.law_round.proofs.Fitting.{Early, AtLevel, Chosen, NotOpen, NotOpenB, FitsA, Next}
use Rattle.law_round.proofs.Presenting.{takes, keeps_b, selected, either, when, early_closed}
use Rattle.law_round.proofs.PresentingB.{other_wave, its_own}

-- RATS or ATTRIB was sent
abbrev pub is_last : Stage → Bool
is_last Waking = false
is_last Halting = false
is_last (WakingB woke) = false
is_last (InA Woken) = false
is_last (InA (Level n before)) = false
is_last (InA (Select n before part)) = false
is_last (InA (Complete read)) = true
is_last (InB stage) = true

-- a card is in the block protocol then just where its answer opens it, with the reader's frame size; RATS and ATTRIB have no other answer
abbrev pub Does : ℕ → Bool → Bool → CardHear → Type 0
Does fsdi last inside Mute = inside ≡ false
Does fsdi last inside (Sends f) = (inside ≡ false) × (last ≡ false)
Does fsdi last inside (Opens f fsd) = (inside ≡ true) × (fsd ≡ frame_size fsdi)
Does fsdi last inside Passes = ⊥

abbrev DoesA : ℕ → Stage → AState × CardHear → Type 0
DoesA fsdi stage x = Does fsdi (is_last stage) (a_inside x.0) x.1

abbrev DoesB : ℕ → Stage → BState × CardHear → Type 0
DoesB fsdi stage x = Does fsdi (is_last stage) (b_inside x.0) x.1

pub not_inside : (s : AState) → NotOpen s → a_inside s ≡ false
not_inside Idle o = refl
not_inside (Ready level) o = refl
not_inside Active o = refl
not_inside Protocol o = absurd o
not_inside Halted o = refl

pub not_inside_b : (s : BState) → NotOpenB s → b_inside s ≡ false
not_inside_b BIdle o = refl
not_inside_b BReady o = refl
not_inside_b BProtocol o = absurd o

wakes_up : (p : APlan) (s : AState) → Early s → a_card p s AShort (0x52 ∷ []) ≡ (Ready 1, Sends (framed ABare (atqa p.uid)))
unfolding a_takes
wakes_up p Idle e = refl
wakes_up p (Ready level) e = refl
wakes_up p Active e = absurd e
wakes_up p Protocol e = absurd e
wakes_up p Halted e = refl

halts_mute : (p : APlan) (s : AState) → Early s → a_card p s A (sealed A hlta) ≡ (Halted, Mute)
unfolding a_takes
halts_mute p s e = takes p s A (sealed A hlta) hlta (early_closed s e) (opened_sealed A hlta (omega arith))

keeps_mute : (p : APlan) (s : AState) (o : Option (List ℕ)) → NotOpen s → a_opened p s B o ≡ (s, Mute)
keeps_mute p s None h = refl
keeps_mute p s (Some m) h = keeps_b p s m h

pub stays_mute : (p : APlan) (s : AState) (bytes : List ℕ) → NotOpen s → a_card p s B bytes ≡ (s, Mute)
stays_mute p Idle bytes h = keeps_mute p Idle (opened B bytes) h
stays_mute p Halted bytes h = keeps_mute p Halted (opened B bytes) h
stays_mute p Protocol bytes h = absurd h
stays_mute p (Ready level) bytes h = keeps_mute p (Ready level) (opened B bytes) h
stays_mute p Active bytes h = keeps_mute p Active (opened B bytes) h

does_stay : (fsdi : ℕ) (last : Bool) (s : AState) → NotOpen s → Does fsdi last (a_inside s) Mute
does_stay fsdi last s o = not_inside s o

does_level : (fsdi : ℕ) (p : APlan) (s : AState) (n : ℕ) (before : List ℕ) → AtLevel p.uid n before s → DoesA fsdi (InA (Level n before)) (a_card p s ABare (sel n ∷ 0x20 ∷ []))
unfolding a_takes
does_level fsdi p Idle n before h = refl
does_level fsdi p Halted n before h = refl
does_level fsdi p Protocol n before h = absurd h
does_level fsdi p Active n before h = absurd h
does_level fsdi p (Ready level) n before h =
    either (DoesA fsdi (InA (Level n before))) (bytes_eq (sel n ∷ 0x20 ∷ []) (sel level ∷ 0x20 ∷ [])) (Ready level, Sends (framed ABare (level_part p.uid level))) (Ready level, Mute) (refl, refl) refl

after_outside : (p : APlan) (n : ℕ) → a_inside (after_select p n) ≡ false
after_outside p n = either (λ s. a_inside s ≡ false) (nat_eq n (levels p.uid)) Active (Ready (n + 1)) refl refl

does_select_ready : (fsdi : ℕ) (p : APlan) (n : ℕ) (before part : List ℕ) → DoesA fsdi (InA (Select n before part)) (a_card p (Ready n) A (sealed A (sel n ∷ 0x70 ∷ part)))
does_select_ready fsdi p n before part =
    subst (λ x. DoesA fsdi (InA (Select n before part)) x) (sym (selected p n part))
    (either (DoesA fsdi (InA (Select n before part))) (bytes_eq part (level_part p.uid n)) (after_select p n, Sends (framed A (sak_of p n ∷ []))) (Idle, Mute) (after_outside p n, refl) refl)

does_select : (fsdi : ℕ) (p : APlan) (s : AState) (n : ℕ) (before part : List ℕ) → AtLevel p.uid n before s → DoesA fsdi (InA (Select n before part)) (a_card p s A (sealed A (sel n ∷ 0x70 ∷ part)))
unfolding a_takes
does_select fsdi p Idle n before part h =
    subst (λ x. DoesA fsdi (InA (Select n before part)) x) (sym (takes p Idle A (sealed A (sel n ∷ 0x70 ∷ part)) (sel n ∷ 0x70 ∷ part) tt (opened_sealed A (sel n ∷ 0x70 ∷ part) (omega arith))))
    (either (DoesA fsdi (InA (Select n before part))) (nat_eq (sel n) 0x50 && false) (Halted, Mute) (Idle, Mute) refl refl)
does_select fsdi p Halted n before part h =
    subst (λ x. DoesA fsdi (InA (Select n before part)) x) (sym (takes p Halted A (sealed A (sel n ∷ 0x70 ∷ part)) (sel n ∷ 0x70 ∷ part) tt (opened_sealed A (sel n ∷ 0x70 ∷ part) (omega arith))))
    (either (DoesA fsdi (InA (Select n before part))) (nat_eq (sel n) 0x50 && false) (Halted, Mute) (Halted, Mute) refl refl)
does_select fsdi p Protocol n before part h = absurd h
does_select fsdi p Active n before part h = absurd h
does_select fsdi p (Ready level) n before part h =
    subst (λ k. DoesA fsdi (InA (Select n before part)) (a_card p (Ready k) A (sealed A (sel n ∷ 0x70 ∷ part)))) (sym h.same) (does_select_ready fsdi p n before part)

rats_size : (fsdi : ℕ) → frame_size (16 * fsdi / 16) ≡ frame_size fsdi
rats_size fsdi = let e : 16 * fsdi / 16 ≡ fsdi = omega arith in ap frame_size e

does_complete : (fsdi : ℕ) (p : APlan) (s : AState) (read : List ℕ) → Chosen p.uid read s → DoesA fsdi (InA (Complete read)) (a_card p s A (sealed A (0xe0 ∷ 16 * fsdi ∷ [])))
unfolding a_takes
does_complete fsdi p Idle read h =
    subst (λ x. DoesA fsdi (InA (Complete read)) x) (sym (takes p Idle A (sealed A (0xe0 ∷ 16 * fsdi ∷ [])) (0xe0 ∷ 16 * fsdi ∷ []) tt (opened_sealed A (0xe0 ∷ 16 * fsdi ∷ []) (omega arith)))) refl
does_complete fsdi p Halted read h =
    subst (λ x. DoesA fsdi (InA (Complete read)) x) (sym (takes p Halted A (sealed A (0xe0 ∷ 16 * fsdi ∷ [])) (0xe0 ∷ 16 * fsdi ∷ []) tt (opened_sealed A (0xe0 ∷ 16 * fsdi ∷ []) (omega arith)))) refl
does_complete fsdi p (Ready level) read h = absurd h
does_complete fsdi p Protocol read h = absurd h
does_complete fsdi p Active read h =
    let m : List ℕ = 0xe0 ∷ 16 * fsdi ∷ [] in
    subst (λ x. DoesA fsdi (InA (Complete read)) x) (sym (takes p Active A (sealed A m) m tt (opened_sealed A m (omega arith))))
    (either (DoesA fsdi (InA (Complete read))) (nat_eq (16 * fsdi % 16) 0 && nat_eq (bit p.sak 32) 1) (Protocol, Opens (framed A (ats_of p)) (frame_size (16 * fsdi / 16))) (Active, Mute)
    (refl, rats_size fsdi) refl)

does_a : (fsdi : ℕ) (p : APlan) (stage : Stage) (s : AState) → FitsA stage p.uid s → DoesA fsdi stage (a_card p s (round_asks fsdi stage).wave (round_asks fsdi stage).bytes)
does_a fsdi p Waking s h = subst (λ x. DoesA fsdi Waking x) (sym (wakes_up p s h)) (refl, refl)
does_a fsdi p Halting s h = subst (λ x. DoesA fsdi Halting x) (sym (halts_mute p s h)) refl
does_a fsdi p (WakingB woke) s h = subst (λ x. DoesA fsdi (WakingB woke) x) (sym (stays_mute p s _ (early_closed s h))) (does_stay fsdi false s (early_closed s h))
does_a fsdi p (InA Woken) s h = subst (λ x. DoesA fsdi (InA Woken) x) (sym (wakes_up p s h)) (refl, refl)
does_a fsdi p (InA (Level n before)) s h = does_level fsdi p s n before h
does_a fsdi p (InA (Select n before part)) s h = does_select fsdi p s n before part h
does_a fsdi p (InA (Complete read)) s h = does_complete fsdi p s read h
does_a fsdi p (InB stage) s h = subst (λ x. DoesA fsdi (InB stage) x) (sym (stays_mute p s _ h)) (does_stay fsdi true s h)

-- ---- Type B

other_mute : (p : BPlan) (s : BState) (wave : Wave) (o : Option (List ℕ)) → same_wave wave B ≡ false → b_opened p s wave o ≡ (s, Mute)
other_mute p s wave None h = refl
other_mute p s wave (Some m) h = other_wave p s wave m h

pub away_mute : (p : BPlan) (s : BState) (wave : Wave) (bytes : List ℕ) → same_wave wave B ≡ false → NotOpenB s → b_card p s wave bytes ≡ (s, Mute)
away_mute p BIdle wave bytes h o = other_mute p BIdle wave (opened wave bytes) h
away_mute p BReady wave bytes h o = other_mute p BReady wave (opened wave bytes) h
away_mute p BProtocol wave bytes h o = absurd o

does_away : (fsdi : ℕ) (stage : Stage) (p : BPlan) (s : BState) (wave : Wave) (bytes : List ℕ) → same_wave wave B ≡ false → NotOpenB s → DoesB fsdi stage (b_card p s wave bytes)
does_away fsdi stage p s wave bytes h o = subst (λ x. DoesB fsdi stage x) (sym (away_mute p s wave bytes h o)) (not_inside_b s o)

pub wakes_up_b : (p : BPlan) (s : BState) → NotOpenB s → b_card p s B (sealed B wupb) ≡ (BReady, Sends (framed B (atqb_of p)))
unfolding b_takes
wakes_up_b p BIdle o = ap (λ x. b_opened p BIdle B x) (opened_sealed B wupb (omega arith))
wakes_up_b p BReady o = ap (λ x. b_opened p BReady B x) (opened_sealed B wupb (omega arith))
wakes_up_b p BProtocol o = absurd o

pub four_long : (bytes : List ℕ) → IsFour bytes → length bytes ≡ 4
four_long _ (Bytes a b c d) = refl

sixth : (pupi : List ℕ) (fsdi : ℕ) → IsFour pupi → slice_index (attrib_of pupi fsdi) 6 ≡ fsdi
sixth _ fsdi (Bytes a b c d) = refl

does_attrib_idle : (fsdi : ℕ) (p : BPlan) (stage : BStage) → DoesB fsdi (InB stage) (b_takes p BIdle B (attrib_of stage.pupi fsdi))
unfolding b_takes
does_attrib_idle fsdi p stage = refl

does_attrib : (fsdi : ℕ) (p : BPlan) (stage : BStage) → IsFour p.pupi → DoesB fsdi (InB stage) (b_takes p BReady B (attrib_of stage.pupi fsdi))
unfolding b_takes
does_attrib fsdi p stage four =
    let m = attrib_of stage.pupi fsdi in
    when (DoesB fsdi (InB stage)) (is_attrib p.pupi m && p.iso4) (BProtocol, Opens (framed B (0 ∷ [])) (frame_size (slice_index m 6))) (BReady, Mute)
    (λ e. let own : stage.pupi ≡ p.pupi = its_own p stage.pupi fsdi (four_long p.pupi four) (and_parts (is_attrib p.pupi m) p.iso4 e).0 in
    (refl, ap frame_size (sixth stage.pupi fsdi (subst (λ l. IsFour l) (sym own) four))))
    (λ e. refl)

does_b : (fsdi : ℕ) (p : BPlan) (stage : Stage) (s : BState) → IsFour p.pupi → NotOpenB s → DoesB fsdi stage (b_card p s (round_asks fsdi stage).wave (round_asks fsdi stage).bytes)
does_b fsdi p Waking s f o = does_away fsdi Waking p s AShort _ refl o
does_b fsdi p Halting s f o = does_away fsdi Halting p s A _ refl o
does_b fsdi p (WakingB woke) s f o = subst (λ x. DoesB fsdi (WakingB woke) x) (sym (wakes_up_b p s o)) (refl, refl)
does_b fsdi p (InA Woken) s f o = does_away fsdi (InA Woken) p s AShort _ refl o
does_b fsdi p (InA (Level n before)) s f o = does_away fsdi (InA (Level n before)) p s ABare _ refl o
does_b fsdi p (InA (Select n before part)) s f o = does_away fsdi (InA (Select n before part)) p s A _ refl o
does_b fsdi p (InA (Complete read)) s f o = does_away fsdi (InA (Complete read)) p s A _ refl o
does_b fsdi p (InB stage) BIdle f o =
    subst (λ x. DoesB fsdi (InB stage) (b_opened p BIdle B x)) (sym (opened_sealed B (attrib_of stage.pupi fsdi) (omega arith))) (does_attrib_idle fsdi p stage)
does_b fsdi p (InB stage) BReady f o =
    subst (λ x. DoesB fsdi (InB stage) (b_opened p BReady B x)) (sym (opened_sealed B (attrib_of stage.pupi fsdi) (omega arith))) (does_attrib fsdi p stage f)
does_b fsdi p (InB stage) BProtocol f o = absurd o

pub does : (fsdi : ℕ) (stage : Stage) (o : Outside) → IsFormed o → Next (Goes stage) o
    → Does fsdi (is_last stage) (is_inside (outside_after (round_asks fsdi stage).wave (round_asks fsdi stage).bytes o)) (outside_reply (round_asks fsdi stage).wave (round_asks fsdi stage).bytes o)
does fsdi stage (OfA p s) f h = does_a fsdi p stage s h
does fsdi stage (OfB p s) f h = does_b fsdi p stage s f h
