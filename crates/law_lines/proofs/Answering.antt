-- What a card outside the block protocol answers, and where it stands then.
use Rattle.std.proofs.Common.{◌≡◌, ℕ, ◌+◌, ◌-◌, ◌*◌, ◌/◌, ◌<◌, ◌≤◌, ◌==◌, ◌&&◌, Bool, true, false, List, [], ◌∷◌, ◌++◌, length, take, drop, Option, Some, None, refl, sym, ap, ◌∙◌, arith, length-append, length-drop, length-take, bit_xor}
use Rattle.std.specs.Prelude.{slice_index, not, if◌then◌else◌}
use Rattle.std.specs.Str.{bytes_eq}
use Rattle.std.proofs.lemmas.Bool.{and_parts}
use Rattle.hex.specs.Hex.{IsBytes}
use Rattle.ep_base.specs.declared.air.Wave.{Wave}
use Rattle.ep_base.specs.declared.air.Wave.TheVariants.{AShort, ABare, A, B}
use Rattle.ep_base.specs.Air.Frame.{opened}
use Rattle.ep_base.specs.Air.FrameSize.{frame_size}
use Rattle.ep_base.proofs.Sizes.{IsSize, frame_sized}
use Rattle.ep_base.specs.Air.Heard.{Sent, framed, same_wave, CardHear, Mute, Sends, Opens, Passes}
use Rattle.ep_base.specs.Cards.Activation.{bit}
use Rattle.ep_base.specs.Cards.TypeA.{APlan, AState, Idle, Ready, Active, Protocol, Halted, wupa, hlta, sel, bcc, levels, level_bytes, level_part, atqa, sak_of, ats_of, after_select, a_select, a_ready, is_rats, a_active, a_other, a_takes, a_opened, a_card}
use Rattle.ep_base.specs.Cards.TypeB.{BPlan, BState, BIdle, BReady, BProtocol, wupb, atqb_of, is_attrib, b_other, b_takes, b_opened, b_card}
use Rattle.ep_base.specs.Cards.Field.{Outside, OfA, OfB, outside_after, outside_reply}
use Rattle.ep_base.specs.Cards.Inside.{a_inside, b_inside, is_inside}
use Rattle.ep_base.specs.Cards.Lawful.{IsUid, Four, Seven, Ten, IsFour, Bytes, IsFormed}
use Rattle.ep_claim.specs.Text.TraceLine.{answer_wave}
use Rattle.ep_claim.specs.Text.TraceForm.{HoldsFrame}
use Rattle.law_round.proofs.Presenting.{either, when}
use Rattle.law_lines.specs.Bytes.{APlanOfBytes, BPlanOfBytes, OutsideOfBytes}
use Rattle.law_lines.proofs.Octets.{bytes_cons, bytes_append, bytes_take, bytes_drop, bytes_one, bytes_two, byte_xor, sealed_holds}

pub wave_is : (w v : Wave) → same_wave w v ≡ true → w ≡ v
wave_is AShort AShort e = refl
wave_is ABare ABare e = refl
wave_is A A e = refl
wave_is B B e = refl
wave_is AShort ABare e = absurd (let b : ⊥ = cc in b)
wave_is AShort A e = absurd (let b : ⊥ = cc in b)
wave_is AShort B e = absurd (let b : ⊥ = cc in b)
wave_is ABare AShort e = absurd (let b : ⊥ = cc in b)
wave_is ABare A e = absurd (let b : ⊥ = cc in b)
wave_is ABare B e = absurd (let b : ⊥ = cc in b)
wave_is A AShort e = absurd (let b : ⊥ = cc in b)
wave_is A ABare e = absurd (let b : ⊥ = cc in b)
wave_is A B e = absurd (let b : ⊥ = cc in b)
wave_is B AShort e = absurd (let b : ⊥ = cc in b)
wave_is B ABare e = absurd (let b : ⊥ = cc in b)
wave_is B A e = absurd (let b : ⊥ = cc in b)

-- a frame that can be heard after one of this wave
abbrev pub Answers : Wave → Sent → Type 0
Answers w f = (f.wave ≡ answer_wave w) × HoldsFrame f.bytes

-- after a frame of wave v an answer of wave u is well
answer_in : (w v u : Wave) (m : List ℕ) → same_wave w v ≡ true → u ≡ answer_wave v → HoldsFrame (framed u m).bytes → Answers w (framed u m)
answer_in w v u m e is holds = (is ∙ sym (ap answer_wave (wave_is w v e)), holds)

-- what comes of a frame: a card is in the block protocol only if it was before, or has just opened it
abbrev pub Replies : Wave → (before after : Bool) → CardHear → Type 0
Replies w before after Mute = after ≡ true → before ≡ true
Replies w before after (Sends f) = Answers w f × (after ≡ true → before ≡ true)
Replies w before after (Opens f fsd) = Answers w f × IsSize fsd
Replies w before after Passes = before ≡ true

never : (b c : Bool) → b ≡ false → b ≡ true → c ≡ true
never b c f t = absurd (let clash : ⊥ = cc in clash)

-- ---- Type A

pub record GoodA (p : APlan) : Type 0 where
  pub plan : APlanOfBytes p
  pub short : length p.uid ≤ 10

uid_short : (uid : List ℕ) → IsUid uid → length uid ≤ 10
uid_short _ (Four a b c d first) = omega arith
uid_short _ (Seven a b c d e f g fourth) = omega arith
uid_short _ (Ten a b c d e f g h i j) = omega arith

module _ (p : APlan) (good : GoodA p) where
  level_is : (n : ℕ) → IsBytes (level_bytes p.uid n) × (length (level_bytes p.uid n) ≤ 10)
  level_is n =
      let k = 3 * (n - 1) in
      let short = good.short in
      either (λ bytes. IsBytes bytes × (length bytes ≤ 10)) (n == levels p.uid) (drop k p.uid) (0x88 ∷ take 3 (drop k p.uid))
      (bytes_drop k p.uid good.plan.uid, omega (arith, short, length-drop k p.uid))
      (bytes_cons 0x88 (take 3 (drop k p.uid)) (omega arith) (bytes_take 3 (drop k p.uid) (bytes_drop k p.uid good.plan.uid)), omega (arith, length-take 3 (drop k p.uid)))

  bcc_is : (part : List ℕ) → IsBytes part → bcc part < 256
  bcc_is part h =
      byte_xor (bit_xor (slice_index part 0) (slice_index part 1)) (bit_xor (slice_index part 2) (slice_index part 3))
      (byte_xor (slice_index part 0) (slice_index part 1) (h 0) (h 1)) (byte_xor (slice_index part 2) (slice_index part 3) (h 2) (h 3))

  part_holds : (n : ℕ) → HoldsFrame (framed ABare (level_part p.uid n)).bytes
  part_holds n =
      let bytes = level_bytes p.uid n in
      let is = level_is n in
      let short = is.1 in
      let size = length-append bytes (bcc bytes ∷ []) in
      (bytes_append bytes (bcc bytes ∷ []) is.0 (bytes_one (bcc bytes) (bcc_is bytes is.0)), omega (arith, size), omega (arith, short, size))

  atqa_holds : HoldsFrame (framed ABare (atqa p.uid)).bytes
  atqa_holds = (
    bytes_two (if levels p.uid == 1 then 0x04 else (if levels p.uid == 2 then 0x44 else 0x84)) 0
        (either (λ b. b < 256) (levels p.uid == 1) 0x04 _ (omega arith) (either (λ b. b < 256) (levels p.uid == 2) 0x44 0x84 (omega arith) (omega arith))) (omega arith),
    omega arith,
    omega arith,
  )

  sak_holds : (n : ℕ) → HoldsFrame (framed A (sak_of p n ∷ [])).bytes
  sak_holds n =
      sealed_holds A (sak_of p n ∷ []) (bytes_one (sak_of p n) (either (λ b. b < 256) (n == levels p.uid) p.sak 0x04 good.plan.sak (omega arith))) (omega arith) (omega arith)

  ats_holds : HoldsFrame (framed A (ats_of p)).bytes
  ats_holds =
      let few = good.plan.few in
      let fsci = good.plan.fsci in
      let fwi = good.plan.fwi in
      sealed_holds A (ats_of p)
      (bytes_cons (3 + length p.historical) ((0x20 + p.fsci) ∷ (16 * p.fwi) ∷ p.historical) (omega (arith, few))
      (bytes_cons (0x20 + p.fsci) ((16 * p.fwi) ∷ p.historical) (omega (arith, fsci)) (bytes_cons (16 * p.fwi) p.historical (omega (arith, fwi)) good.plan.historical)))
      (omega arith) (omega (arith, few))

  module _ (w : Wave) where
    abbrev ComesA : AState → AState × CardHear → Type 0
    ComesA s x = Replies w (a_inside s) (a_inside x.0) x.1

    select_out : (n : ℕ) → a_inside (after_select p n) ≡ false
    select_out n = either (λ s. a_inside s ≡ false) (n == levels p.uid) Active (Ready (n + 1)) refl refl

    select_comes : (s : AState) (n : ℕ) (part : List ℕ) → same_wave w A ≡ true → ComesA s (a_select p n part)
    select_comes s n part e =
        either (ComesA s) (bytes_eq part (level_part p.uid n)) (after_select p n, Sends (framed A (sak_of p n ∷ []))) (Idle, Mute)
        (answer_in w A A (sak_of p n ∷ []) e refl (sak_holds n), never (a_inside (after_select p n)) (a_inside s) (select_out n)) (never false (a_inside s) refl)

    ready_comes : (n : ℕ) (m : List ℕ) → ComesA (Ready n) (a_ready p n w m)
    ready_comes n m =
        when (ComesA (Ready n)) (same_wave w ABare && bytes_eq m (sel n ∷ 0x20 ∷ [])) (Ready n, Sends (framed ABare (level_part p.uid n))) _
        (λ e. (answer_in w ABare ABare (level_part p.uid n) (and_parts _ _ e).0 refl (part_holds n), λ i. i))
        (λ d. when (ComesA (Ready n)) (same_wave w A && bytes_eq (take 2 m) (sel n ∷ 0x70 ∷ [])) (a_select p n (drop 2 m)) (Ready n, Mute)
        (λ e. select_comes (Ready n) n (drop 2 m) (and_parts _ _ e).0) (λ x. λ i. i))

    active_comes : (m : List ℕ) → ComesA Active (a_active p w m)
    active_comes m =
        when (ComesA Active) (is_rats w m && (bit p.sak 32 == 1)) (Protocol, Opens (framed A (ats_of p)) (frame_size (slice_index m 1 / 16))) (Active, Mute)
        (λ e. (answer_in w A A (ats_of p) (and_parts _ _ (and_parts _ _ e).0).0 refl ats_holds, frame_sized (slice_index m 1 / 16))) (λ d. λ i. i)

    other_comes : (s : AState) (m : List ℕ) → ComesA s (a_other p s w m)
    other_comes Idle m = λ i. i
    other_comes (Ready n) m = ready_comes n m
    other_comes Active m = active_comes m
    other_comes Protocol m = λ i. i
    other_comes Halted m = λ i. i

    takes_comes : (s : AState) (m : List ℕ) → ComesA s (a_takes p s w m)
    unfolding a_takes
    takes_comes s m =
        when (ComesA s) (same_wave w AShort && bytes_eq m wupa) (Ready 1, Sends (framed ABare (atqa p.uid))) _
        (λ e. (answer_in w AShort ABare (atqa p.uid) (and_parts _ _ e).0 refl atqa_holds, never false (a_inside s) refl))
        (λ d. either (ComesA s) (same_wave w A && bytes_eq m hlta) (Halted, Mute) (a_other p s w m) (never false (a_inside s) refl) (other_comes s m))

    opened_comes : (s : AState) (o : Option (List ℕ)) → ComesA s (a_opened p s w o)
    opened_comes s None = λ i. i
    opened_comes s (Some m) = takes_comes s m

    card_comes : (s : AState) (bytes : List ℕ) → ComesA s (a_card p s w bytes)
    card_comes Protocol bytes = either (λ r. Replies w true true r) (same_wave w A) Passes Mute refl (λ i. i)
    card_comes Idle bytes = opened_comes Idle (opened w bytes)
    card_comes (Ready n) bytes = opened_comes (Ready n) (opened w bytes)
    card_comes Active bytes = opened_comes Active (opened w bytes)
    card_comes Halted bytes = opened_comes Halted (opened w bytes)

-- ---- Type B

pub record GoodB (p : BPlan) : Type 0 where
  pub plan : BPlanOfBytes p
  pub four : length p.pupi ≡ 4

pupi_four : (pupi : List ℕ) → IsFour pupi → length pupi ≡ 4
pupi_four _ (Bytes a b c d) = refl

module _ (p : BPlan) (good : GoodB p) where
  atqb_holds : HoldsFrame (framed B (atqb_of p)).bytes
  atqb_holds =
      let info = 16 * p.fsci + (if p.iso4 then 1 else 0) in
      let last = 0 ∷ info ∷ (16 * p.fwi) ∷ [] in
      let fsci = good.plan.fsci in
      let fwi = good.plan.fwi in
      let four = good.four in
      let data_four = good.plan.four in
      let is_info : info < 256 = either (λ n. 16 * p.fsci + n < 256) p.iso4 1 0 (omega (arith, fsci)) (omega (arith, fsci)) in
      let inner = length-append p.app_data last in
      let outer = length-append p.pupi (p.app_data ++ last) in
      sealed_holds B (atqb_of p)
      (bytes_cons 0x50 (p.pupi ++ (p.app_data ++ last)) (omega arith) (bytes_append p.pupi (p.app_data ++ last) good.plan.pupi
      (bytes_append p.app_data last good.plan.app_data (bytes_cons 0 (info ∷ (16 * p.fwi) ∷ []) (omega arith) (bytes_two info (16 * p.fwi) is_info (omega (arith, fwi)))))))
      (omega arith) (omega (arith, inner, outer, four, data_four))

  attrib_holds : HoldsFrame (framed B (0 ∷ [])).bytes
  attrib_holds = sealed_holds B (0 ∷ []) (bytes_one 0 (omega arith)) (omega arith) (omega arith)

  module _ (w : Wave) where
    abbrev ComesB : BState → BState × CardHear → Type 0
    ComesB s x = Replies w (b_inside s) (b_inside x.0) x.1

    other_comes_b : (e : same_wave w B ≡ true) (s : BState) (m : List ℕ) → ComesB s (b_other p s m)
    other_comes_b e BIdle m = λ i. i
    other_comes_b e BProtocol m = λ i. i
    other_comes_b e BReady m =
        either (ComesB BReady) (is_attrib p.pupi m && p.iso4) (BProtocol, Opens (framed B (0 ∷ [])) (frame_size (slice_index m 6))) (BReady, Mute)
        (answer_in w B B (0 ∷ []) e refl attrib_holds, frame_sized (slice_index m 6)) (λ i. i)

    own_comes_b : (e : same_wave w B ≡ true) (s : BState) (m : List ℕ) → ComesB s (if bytes_eq m wupb then (BReady, Sends (framed B (atqb_of p))) else b_other p s m)
    own_comes_b e s m =
        either (ComesB s) (bytes_eq m wupb) (BReady, Sends (framed B (atqb_of p))) (b_other p s m)
        (answer_in w B B (atqb_of p) e refl atqb_holds, never false (b_inside s) refl) (other_comes_b e s m)

    by_own : (same : Bool) → same_wave w B ≡ same → (s : BState) (m : List ℕ)
        → ComesB s (if not same then (s, Mute) else (if bytes_eq m wupb then (BReady, Sends (framed B (atqb_of p))) else b_other p s m))
    by_own true e s m = own_comes_b e s m
    by_own false e s m = λ i. i

    takes_comes_b : (s : BState) (m : List ℕ) → ComesB s (b_takes p s w m)
    unfolding b_takes
    takes_comes_b s m = by_own (same_wave w B) refl s m

    opened_comes_b : (s : BState) (o : Option (List ℕ)) → ComesB s (b_opened p s w o)
    opened_comes_b s None = λ i. i
    opened_comes_b s (Some m) = takes_comes_b s m

    card_comes_b : (s : BState) (bytes : List ℕ) → ComesB s (b_card p s w bytes)
    card_comes_b BProtocol bytes = either (λ r. Replies w true true r) (same_wave w B) Passes Mute refl (λ i. i)
    card_comes_b BIdle bytes = opened_comes_b BIdle (opened w bytes)
    card_comes_b BReady bytes = opened_comes_b BReady (opened w bytes)

-- ---- a card

abbrev pub GoodOutside : Outside → Type 0
GoodOutside (OfA plan state) = GoodA plan
GoodOutside (OfB plan state) = GoodB plan

pub outside_good : (o : Outside) → OutsideOfBytes o → IsFormed o → GoodOutside o
outside_good (OfA plan state) h formed = record { plan = h; short = uid_short plan.uid formed }
outside_good (OfB plan state) h formed = record { plan = h; four = pupi_four plan.pupi formed }

pub outside_comes : (w : Wave) (bytes : List ℕ) (o : Outside) → GoodOutside o → Replies w (is_inside o) (is_inside (outside_after w bytes o)) (outside_reply w bytes o)
outside_comes w bytes (OfA plan state) good = card_comes plan good w state bytes
outside_comes w bytes (OfB plan state) good = card_comes_b plan good w state bytes

pub outside_stays : (w : Wave) (bytes : List ℕ) (o : Outside) → GoodOutside o → GoodOutside (outside_after w bytes o)
outside_stays w bytes (OfA plan state) good = good
outside_stays w bytes (OfB plan state) good = good
