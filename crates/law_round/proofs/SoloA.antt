-- A round with one card of Type A alone.
use Rattle.std.proofs.Common.{◌≡◌, ℕ, zero, suc, ◌+◌, ◌*◌, ◌/◌, ◌%◌, ◌<◌, ◌==◌, nat_eq, nat_lt, ◌&&◌, Bool, true, false, List, [], ◌∷◌, ◌++◌, length, take, drop, Option, None, Ok, sym, ap, ◌∙◌, refl, arith, eq-eqb, ne_eqb, if◌then◌else◌}
use Rattle.std.proofs.lemmas.Bool.{lt-leb}
use Rattle.std.specs.Prelude.{slice_index, not, Result}
use Rattle.std.specs.Str.{bytes_eq}
use Rattle.ep_base.specs.declared.limits.TheConstants.{ROUND_EXCHANGES}
use Rattle.ep_base.specs.declared.air.Wave.TheVariants.{ABare, A, B}
use Rattle.ep_base.specs.Air.Heard.{framed, Goes, Ends, says_opened, on_answer, RoundEnd, Broken, Unsupported, Found, CardHear, Mute, Sends, Opens}
use Rattle.ep_base.specs.Cards.Activation.{ats, ats_fwi, bit, waiting, interface_bytes}
use Rattle.ep_base.specs.declared.activation.Ats.{Ats}
use Rattle.ep_base.specs.declared.activation.AtsFault.{AtsFault}
use Rattle.ep_base.specs.Air.FrameSize.{frame_size}
use Rattle.ep_base.specs.Cards.TypeA.{Woken, Level, Select, Complete, sel, bcc, is_level, continues, a_says, after_sak, after_ats, APlan, AState, Idle, Ready, Active, Protocol, Halted, atqa, level_part, sak_of, ats_of, after_select, a_takes, a_opened, a_card}
use Rattle.ep_base.specs.Poll.Round.{Stage, Waking, Halting, WakingB, InA, round_asks, round_hears, in_a}
use Rattle.ep_base.specs.Cards.Field.{Outside, OfA, joined}
use Rattle.ep_base.specs.Cards.Lawful.{IsUid, Four, Seven, Ten}
use Rattle.law_round.specs.Alone.{FollowsA, found_a}
use Rattle.rf_frame.proofs.Opening.{same_bytes, opened_sealed}
use Rattle.law_round.proofs.Lone.{sent, solo}

-- one exchange in which the card does `x` with the message that its frame opens to
pub by_message : (n fsdi : ℕ) (p : APlan) (s : AState) (stage : Stage) (o : Option (List ℕ)) (x : AState × CardHear)
    → (a_card p s (round_asks fsdi stage).wave (round_asks fsdi stage).bytes) ≡ x
    → solo (suc n) fsdi (OfA p s) (Goes stage) ≡ solo n fsdi (OfA p x.0) (round_hears stage (joined (sent x.1)))
unfolding solo
by_message n fsdi p s stage o x e = ap (λ (y : AState × CardHear). solo n fsdi (OfA p y.0) (round_hears stage (joined (sent y.1)))) e

-- WUPA after the reset, HLTA, WUPB, WUPA
pub wakes : (n fsdi : ℕ) (p : APlan)
    → solo (suc (suc (suc (suc n)))) fsdi (OfA p Idle) (Goes Waking) ≡ solo n fsdi (OfA p (Ready 1)) (Goes (InA (Level 1 [])))
unfolding a_takes
wakes n fsdi p =
    by_message (suc (suc (suc n))) fsdi p Idle Waking None (Ready 1, Sends (framed ABare (atqa p.uid))) refl
    ∙ by_message (suc (suc n)) fsdi p (Ready 1) Halting None (Halted, Mute) (ap (λ o. a_opened p (Ready 1) A o) (opened_sealed A (0x50 ∷ 0 ∷ []) (omega arith)))
    ∙ by_message (suc n) fsdi p Halted (WakingB true) None (Halted, Mute) (ap (λ o. a_opened p Halted B o) (opened_sealed B (0x05 ∷ 0 ∷ 0x08 ∷ []) (omega arith)))
    ∙ by_message n fsdi p Halted (InA Woken) None (Ready 1, Sends (framed ABare (atqa p.uid))) refl

chooses : (a b c : Bool) (x y z v : AState × CardHear) → a ≡ false → b ≡ true → c ≡ true
    → (if a && false then x else (if b && true then (if c then y else z) else v)) ≡ y
chooses false true true x y z v ha hb hc = refl
chooses true b c x y z v ha hb hc = cc
chooses false false c x y z v ha hb hc = cc
chooses false true false x y z v ha hb hc = cc

-- a level is asked for and selected
pub selects : (n fsdi : ℕ) (p : APlan) (level : ℕ) (uid part : List ℕ)
    → level_part p.uid level ≡ part → is_level part ≡ true → nat_eq (sel level) 0x50 ≡ false
    → solo (suc (suc n)) fsdi (OfA p (Ready level)) (Goes (InA (Level level uid)))
    ≡ solo n fsdi (OfA p (after_select p level)) (in_a (after_sak level uid part (sak_of p level)))
unfolding a_takes
selects n fsdi p level uid part e l s =
    by_message (suc n) fsdi p (Ready level) (InA (Level level uid)) None (Ready level, Sends (framed ABare part))
    (ap (λ b. if b then (Ready level, Sends (framed ABare (level_part p.uid level))) else (Ready level, Mute)) (same_bytes (sel level ∷ 0x20 ∷ []))
    ∙ ap (λ l. (Ready level, Sends (framed ABare l))) e)
    ∙ ap (λ b. solo (suc n) fsdi (OfA p (Ready level)) (in_a (if b then Goes (Select level uid part) else Ends Broken))) l
    ∙ by_message n fsdi p (Ready level) (InA (Select level uid part)) None (after_select p level, Sends (framed A (sak_of p level ∷ [])))
    (ap (λ o. a_opened p (Ready level) A o) (opened_sealed A (sel level ∷ 0x70 ∷ part) (omega arith))
    ∙ chooses (nat_eq (sel level) 0x50) (nat_eq (sel level) (sel level)) (bytes_eq part (level_part p.uid level)) _ _ _ _ s (eq-eqb _ _ refl) (ap (λ l. bytes_eq part l) e ∙ same_bytes part))
    ∙ ap (λ o. solo n fsdi (OfA p (after_select p level)) (in_a (on_answer (a_says (Select level uid part)) (says_opened o)))) (opened_sealed A (sak_of p level ∷ []) (omega arith))

over : (n fsdi : ℕ) (card : Outside) (e : RoundEnd) → solo n fsdi card (Ends e) ≡ Ends e
unfolding solo
over zero fsdi card e = refl
over (suc n) fsdi card e = refl

reads : {X : Type 0} (a b c d : Bool) (v w x y z : X) → a ≡ false → b ≡ true → c ≡ false → d ≡ false
    → (if a then v else (if not b then w else (if c then x else (if d then y else z)))) ≡ z
reads false true false false v w x y z ha hb hc hd = refl
reads true b c d v w x y z ha hb hc hd = cc
reads false false c d v w x y z ha hb hc hd = cc
reads false true true d v w x y z ha hb hc hd = cc
reads false true false true v w x y z ha hb hc hd = cc

-- an ATS that is long enough for what its T0 announces
ats_ok : (bytes : List ℕ) → nat_eq (length bytes) 0 ≡ false → nat_eq (slice_index bytes 0) (length bytes) ≡ true → nat_eq (length bytes) 1 ≡ false
    → nat_lt (length bytes) (2 + interface_bytes (slice_index bytes 1)) ≡ false
    → ats bytes ≡ Ok (record { fsc = frame_size (slice_index bytes 1 % 16); fwi = ats_fwi bytes (slice_index bytes 1) })
unfolding ats
ats_ok bytes a b c d = reads (nat_eq (length bytes) 0) (nat_eq (slice_index bytes 0) (length bytes)) (nat_eq (length bytes) 1) (nat_lt (length bytes) (2 + interface_bytes (slice_index bytes 1))) _ _ _ _ _ a b c d

fwi_read : (bytes : List ℕ) (t0 : ℕ) → bit t0 16 ≡ 0 → bit t0 32 ≡ 1 → ats_fwi bytes t0 ≡ waiting (slice_index bytes 2 / 16)
fwi_read bytes t0 ta tb = ap (λ n. if n == 1 then waiting (slice_index bytes (2 + bit t0 16) / 16) else 4) tb ∙ ap (λ n. waiting (slice_index bytes (2 + n) / 16)) ta

ok_by : (r : Result Ats AtsFault) (a b c d : ℕ) → r ≡ Ok (record { fsc = a; fwi = b }) → a ≡ c → b ≡ d → r ≡ Ok (record { fsc = c; fwi = d })
ok_by r a b c d e f g = e ∙ ap (λ n. Ok (record { fsc = n; fwi = b })) f ∙ ap (λ n. Ok (record { fsc = c; fwi = n })) g

-- what a card's ATS says
pub ats_read : (len fsci fwi : ℕ) (historical : List ℕ) → length historical ≡ len → fsci < 16
    → ats ((3 + len) ∷ (0x20 + fsci) ∷ (16 * fwi) ∷ historical) ≡ Ok (record { fsc = frame_size fsci; fwi = waiting fwi })
ats_read len fsci fwi historical e h =
    let bytes : List ℕ = (3 + len) ∷ (0x20 + fsci) ∷ (16 * fwi) ∷ historical in
    let t0 : ℕ = 0x20 + fsci in
    let long : length bytes ≡ 3 + len = omega (arith, e) in
    let ta : bit t0 16 ≡ 0 = omega arith in
    let tb : bit t0 32 ≡ 1 = omega arith in
    let tc : bit t0 64 ≡ 0 = omega arith in
    let low : t0 % 16 ≡ fsci = omega arith in
    let high : 16 * fwi / 16 ≡ fwi = omega arith in
    ok_by (ats bytes) (frame_size (t0 % 16)) (ats_fwi bytes t0) (frame_size fsci) (waiting fwi)
    (ats_ok bytes (ne_eqb _ _ (λ x. absurd (omega arith))) (eq-eqb _ _ (sym long)) (ne_eqb _ _ (λ x. absurd (omega arith))) (lt-leb _ _ (omega arith)))
    (ap frame_size low) (fwi_read bytes t0 ta tb ∙ ap waiting high)

-- RATS
pub opens : (n fsdi : ℕ) (p : APlan) → fsdi < 16 → FollowsA p
    → solo (suc n) fsdi (OfA p Active) (Goes (InA (Complete p.uid))) ≡ Ends (Found (found_a p))
unfolding a_takes
opens n fsdi p h follows =
    by_message n fsdi p Active (InA (Complete p.uid)) None (Protocol, Opens (framed A (ats_of p)) (frame_size (16 * fsdi / 16)))
    (ap (λ o. a_opened p Active A o) (opened_sealed A (0xe0 ∷ 16 * fsdi ∷ []) (omega arith))
    ∙ ap (λ b. if b && (bit p.sak 32 == 1) then (Protocol, Opens (framed A (ats_of p)) (frame_size (16 * fsdi / 16))) else (Active, Mute)) (let e : 16 * fsdi % 16 ≡ 0 = omega arith in ap (λ x. nat_eq x 0) e)
    ∙ ap (λ b. if b then (Protocol, Opens (framed A (ats_of p)) (frame_size (16 * fsdi / 16))) else (Active, Mute)) follows.iso4)
    ∙ ap (λ o. solo n fsdi (OfA p Protocol) (in_a (on_answer (a_says (Complete p.uid)) (says_opened o)))) (opened_sealed A (ats_of p) (omega arith))
    ∙ ap (λ r. solo n fsdi (OfA p Protocol) (in_a (after_ats p.uid r))) (ats_read (length p.historical) p.fsci p.fwi p.historical refl follows.fsci)
    ∙ over n fsdi (OfA p Protocol) _

-- a SAK that ends the anticollision
after_last : (level : ℕ) (uid part : List ℕ) (sak : ℕ) → (bit sak 4 == 1) ≡ false → (bit sak 32 == 1) ≡ true → continues level part ≡ false
    → after_sak level uid part sak ≡ Goes (Complete (uid ++ take 4 part))
after_last level uid part sak a b c =
    ap (λ x. if x then (if continues level part then Goes (Level (level + 1) (uid ++ take 3 (drop 1 part))) else Ends Broken) else (if continues level part then Ends Broken else (if bit sak 32 == 1 then Goes (Complete (uid ++ take 4 part)) else Ends Unsupported))) a
    ∙ ap (λ x. if x then Ends Broken else (if bit sak 32 == 1 then Goes (Complete (uid ++ take 4 part)) else Ends Unsupported)) c
    ∙ ap (λ x. if x then Goes (Complete (uid ++ take 4 part)) else Ends Unsupported) b

-- the whole round, by the UID's length
pub by_uid : (fsdi : ℕ) (uid : List ℕ) → IsUid uid → (sak fsci fwi : ℕ) (historical : List ℕ) → fsdi < 16
    → FollowsA (record { uid = uid; sak = sak; fsci = fsci; fwi = fwi; historical = historical })
    → solo ROUND_EXCHANGES fsdi (OfA (record { uid = uid; sak = sak; fsci = fsci; fwi = fwi; historical = historical }) Idle) (Goes Waking)
    ≡ Ends (Found (found_a (record { uid = uid; sak = sak; fsci = fsci; fwi = fwi; historical = historical })))
by_uid fsdi _ (Four a b c d first) sak fsci fwi historical h follows =
    let uid : List ℕ = a ∷ b ∷ c ∷ d ∷ [] in
    let p : APlan = record { uid = uid; sak = sak; fsci = fsci; fwi = fwi; historical = historical } in
    wakes 7 fsdi p
    ∙ selects 5 fsdi p 1 [] (level_part uid 1) refl (eq-eqb (bcc uid) (bcc uid) refl) refl
    ∙ ap (λ t. solo 5 fsdi (OfA p Active) (in_a t)) (after_last 1 [] (level_part uid 1) sak follows.complete follows.iso4 first)
    ∙ opens 4 fsdi p h follows
by_uid fsdi _ (Seven a b c d e f g fourth) sak fsci fwi historical h follows =
    let uid : List ℕ = a ∷ b ∷ c ∷ d ∷ e ∷ f ∷ g ∷ [] in
    let p : APlan = record { uid = uid; sak = sak; fsci = fsci; fwi = fwi; historical = historical } in
    let part : List ℕ = d ∷ e ∷ f ∷ g ∷ [] in
    wakes 7 fsdi p
    ∙ selects 5 fsdi p 1 [] (level_part uid 1) refl (eq-eqb (bcc (0x88 ∷ uid)) _ refl) refl
    ∙ selects 3 fsdi p 2 (a ∷ b ∷ c ∷ []) (level_part uid 2) refl (eq-eqb (bcc part) _ refl) refl
    ∙ ap (λ t. solo 3 fsdi (OfA p Active) (in_a t)) (after_last 2 (a ∷ b ∷ c ∷ []) (level_part uid 2) sak follows.complete follows.iso4 fourth)
    ∙ opens 2 fsdi p h follows
by_uid fsdi _ (Ten a b c d e f g i j k) sak fsci fwi historical h follows =
    let uid : List ℕ = a ∷ b ∷ c ∷ d ∷ e ∷ f ∷ g ∷ i ∷ j ∷ k ∷ [] in
    let p : APlan = record { uid = uid; sak = sak; fsci = fsci; fwi = fwi; historical = historical } in
    wakes 7 fsdi p
    ∙ selects 5 fsdi p 1 [] (level_part uid 1) refl (eq-eqb (bcc (0x88 ∷ uid)) _ refl) refl
    ∙ selects 3 fsdi p 2 (a ∷ b ∷ c ∷ []) (level_part uid 2) refl (eq-eqb (bcc (0x88 ∷ d ∷ e ∷ f ∷ [])) _ refl) refl
    ∙ selects 1 fsdi p 3 (a ∷ b ∷ c ∷ d ∷ e ∷ f ∷ []) (level_part uid 3) refl (eq-eqb (bcc (g ∷ i ∷ j ∷ k ∷ [])) _ refl) refl
    ∙ ap (λ t. solo 1 fsdi (OfA p Active) (in_a t)) (after_last 3 (a ∷ b ∷ c ∷ d ∷ e ∷ f ∷ []) (level_part uid 3) sak follows.complete follows.iso4 refl)
    ∙ opens 0 fsdi p h follows
