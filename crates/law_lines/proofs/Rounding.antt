-- The frames of a poll round, and what a round keeps of what it heard.
use Rattle.std.proofs.Common.{◌≡◌, ℕ, ◌+◌, ◌*◌, ◌/◌, ◌%◌, ◌<◌, ◌≤◌, ◌==◌, nat_lt, leb-true, ◌&&◌, Bool, true, false, List, [], ◌∷◌, ◌++◌, length, take, drop, Option, Some, None, arith, length-append, length-take}
use Rattle.std.specs.Prelude.{slice_index, Result, Ok, not, if◌then◌else◌}
use Rattle.std.proofs.lemmas.Bool.{and_parts, eqb-true}
use Rattle.std.proofs.lemmas.Bool.Decides.{nat_tests}
use Rattle.hex.specs.Hex.{IsBytes}
use Rattle.ep_base.specs.declared.limits.TheConstants.{FRAME, FSDI}
use Rattle.ep_base.specs.declared.air.Wave.{Wave}
use Rattle.ep_base.specs.declared.air.Wave.TheVariants.{ABare, A, B}
use Rattle.ep_base.specs.declared.activation.Ats.{Ats}
use Rattle.ep_base.specs.declared.activation.AtsFault.{AtsFault}
use Rattle.ep_base.specs.declared.activation.Atqb.{Atqb}
use Rattle.ep_base.specs.declared.activation.AtqbFault.{AtqbFault}
use Rattle.ep_base.specs.Air.Frame.{opened}
use Rattle.ep_base.specs.Air.FrameSize.{frame_size}
use Rattle.ep_base.proofs.Sizes.{frame_sized}
use Rattle.ep_base.specs.Air.Heard.{Heard, Silence, Noise, Overlap, Frame, Collision, Unsupported, Broken, RoundTurn, Goes, Ends, Fails, is_silent, same_wave, says_opened, awaited, on_answer}
use Rattle.ep_base.specs.Cards.Activation.{ats, atqb, bit, waiting, interface_bytes, ats_fwi}
use Rattle.ep_base.specs.Cards.CardLimits.{AreLimits, EndsInLimits}
use Rattle.ep_base.specs.Cards.TypeA.{AStage, Woken, Level, Select, Complete, hlta, sel, is_level, bcc, continues, a_says, after_sak, after_ats}
use Rattle.ep_base.specs.Cards.TypeB.{BStage, wupb, attrib_of, b_says, after_atqb}
use Rattle.ep_base.specs.Poll.Round.{Stage, Waking, Halting, WakingB, InA, InB, round_asks, round_hears, in_a, in_b}
use Rattle.ep_claim.specs.Text.TraceForm.{HoldsFrame}
use Rattle.law_round.proofs.Presenting.{either, when}
use Rattle.law_lines.proofs.Octets.{bytes_cons, bytes_append, bytes_take, bytes_drop, bytes_one, bytes_two, sealed_holds, Says, opened_says}

-- what a stage keeps is made of bytes, and fits the frames that are sent then
abbrev pub GoodStage : Stage → Type 0
GoodStage Waking = Unit {0}
GoodStage Halting = Unit {0}
GoodStage (WakingB woke) = Unit {0}
GoodStage (InA Woken) = Unit {0}
GoodStage (InA (Level n uid)) = n ≤ 3
GoodStage (InA (Select n uid part)) = (n ≤ 3) × IsBytes part × (length part ≡ 5)
GoodStage (InA (Complete uid)) = Unit {0}
GoodStage (InB stage) = IsBytes stage.pupi × (length stage.pupi ≤ 4) × AreLimits stage.fsc stage.fwi

-- ---- what is asked

short_holds : (byte : ℕ) → byte < 256 → HoldsFrame (byte ∷ [])
short_holds byte h = (bytes_one byte h, omega arith, omega arith)

attrib_holds : (pupi : List ℕ) (fsdi : ℕ) → fsdi ≤ FSDI → IsBytes pupi → length pupi ≤ 4 → IsBytes (attrib_of pupi fsdi) × (length (attrib_of pupi fsdi) + 2 ≤ FRAME)
attrib_holds pupi fsdi few h short =
    let last = 0 ∷ fsdi ∷ 1 ∷ 0 ∷ [] in
    let size = length-append pupi last in
    let byte : fsdi < 256 = omega (arith, few) in (
      bytes_cons 0x1d (pupi ++ last) (omega arith)
          (bytes_append pupi last h (bytes_cons 0 (fsdi ∷ 1 ∷ 0 ∷ []) (omega arith) (bytes_cons fsdi (1 ∷ 0 ∷ []) byte (bytes_two 1 0 (omega arith) (omega arith))))),
      omega (arith, size, short),
    )

pub stage_holds : (fsdi : ℕ) (stage : Stage) → fsdi ≤ FSDI → GoodStage stage → HoldsFrame (round_asks fsdi stage).bytes
stage_holds fsdi Waking few good = short_holds 0x52 (omega arith)
stage_holds fsdi Halting few good = sealed_holds A hlta (bytes_two 0x50 0 (omega arith) (omega arith)) (omega arith) (omega arith)
stage_holds fsdi (WakingB woke) few good = sealed_holds B wupb (bytes_cons 0x05 (0 ∷ 0x08 ∷ []) (omega arith) (bytes_two 0 0x08 (omega arith) (omega arith))) (omega arith) (omega arith)
stage_holds fsdi (InA Woken) few good = short_holds 0x52 (omega arith)
stage_holds fsdi (InA (Level n uid)) few good = (bytes_two (sel n) 0x20 (omega (arith, good)) (omega arith), omega arith, omega arith)
stage_holds fsdi (InA (Select n uid part)) few (low, is, five) =
    sealed_holds A (sel n ∷ 0x70 ∷ part) (bytes_cons (sel n) (0x70 ∷ part) (omega (arith, low)) (bytes_cons 0x70 part (omega arith) is)) (omega arith) (omega (arith, five))
stage_holds fsdi (InA (Complete uid)) few good = sealed_holds A (0xe0 ∷ 16 * fsdi ∷ []) (bytes_two 0xe0 (16 * fsdi) (omega arith) (omega (arith, few))) (omega arith) (omega arith)
stage_holds fsdi (InB stage) few (is, short, limits) =
    let attrib = attrib_holds stage.pupi fsdi few is short in
    let room = attrib.1 in
    sealed_holds B (attrib_of stage.pupi fsdi) attrib.0 (omega arith) (omega (arith, room))

pub stage_waits : (fsdi : ℕ) (stage : Stage) → (round_asks fsdi stage).wait ≤ 16384
stage_waits fsdi Waking = omega arith
stage_waits fsdi Halting = omega arith
stage_waits fsdi (WakingB woke) = omega arith
stage_waits fsdi (InA Woken) = omega arith
stage_waits fsdi (InA (Level n uid)) = omega arith
stage_waits fsdi (InA (Select n uid part)) = omega arith
stage_waits fsdi (InA (Complete uid)) = omega arith
stage_waits fsdi (InB stage) = omega arith

-- ---- what is heard

-- a frame that was heard is made of bytes
abbrev pub HearsBytes : Heard → Type 0
HearsBytes Silence = Unit {0}
HearsBytes Noise = Unit {0}
HearsBytes Overlap = Unit {0}
HearsBytes (Frame wave bytes) = IsBytes bytes

abbrev pub GoodTurn : RoundTurn Stage → Type 0
GoodTurn (Goes stage) = GoodStage stage
GoodTurn (Ends e) = EndsInLimits e

by_opened : {S : Type 0} (P : RoundTurn S → Type 0) (next : List ℕ → RoundTurn S) (same : Bool) (o : Option (List ℕ)) → Says o
    → P (Ends Broken) → ((m : List ℕ) → IsBytes m → P (next m)) → P (on_answer next (if same then says_opened o else Fails Broken))
by_opened P next true (Some m) is b f = f m is
by_opened P next true None is b f = b
by_opened P next false o is b f = b

-- what holds after each way to hear an awaited answer of bytes
answered : {S : Type 0} (P : RoundTurn S → Type 0) (next : List ℕ → RoundTurn S) (wave : Wave) (heard : Heard) → HearsBytes heard
    → P (Ends Broken) → P (Ends Collision) → ((m : List ℕ) → IsBytes m → P (next m)) → P (on_answer next (awaited wave heard))
answered P next wave Silence is b c f = b
answered P next wave Noise is b c f = b
answered P next wave Overlap is b c f = c
answered P next wave (Frame w bytes) is b c f = by_opened P next (same_wave w wave) (opened wave bytes) (opened_says wave bytes is) b f

sized_limits : (code fwi : ℕ) → fwi ≤ 14 → AreLimits (frame_size code) fwi
sized_limits code fwi h = record { least = (frame_sized code).0; most = (frame_sized code).1; waits = h }

fifteen : (n : ℕ) → (n == 15) ≡ false → n ≤ 15 → n ≤ 14
fifteen n e h = grind (arith, nat_tests)

waiting_is : (n : ℕ) → n ≤ 15 → waiting n ≤ 14
waiting_is n h = when (λ k. k ≤ 14) (n == 15) 4 n (λ e. omega arith) (λ e. fifteen n e h)

high_nibble : (byte : ℕ) → byte < 256 → byte / 16 ≤ 15
high_nibble byte h = omega arith

ats_waits : (bytes : List ℕ) (t0 : ℕ) → IsBytes bytes → ats_fwi bytes t0 ≤ 14
ats_waits bytes t0 is =
    let byte = slice_index bytes (2 + bit t0 16) in
    either (λ k. k ≤ 14) (bit t0 32 == 1) (waiting (byte / 16)) 4 (waiting_is (byte / 16) (high_nibble byte (is (2 + bit t0 16)))) (omega arith)

abbrev InTurnA : RoundTurn AStage → Type 0
InTurnA t = GoodTurn (in_a t)

abbrev InTurnB : RoundTurn BStage → Type 0
InTurnB t = GoodTurn (in_b t)

ats_good : (read bytes : List ℕ) → IsBytes bytes → InTurnA (after_ats read (ats bytes))
unfolding ats
ats_good read bytes is =
    let P : Result Ats AtsFault → Type 0 = λ r. InTurnA (after_ats read r) in
    let t0 = slice_index bytes 1 in
    either P (length bytes == 0) _ _ tt
    (either P (not (slice_index bytes 0 == length bytes)) _ _ tt
    (either P (length bytes == 1) (Ok (record { fsc = frame_size 2; fwi = 4 })) _ (sized_limits 2 4 (omega arith))
    (either P (nat_lt (length bytes) (2 + interface_bytes t0)) _ (Ok (record { fsc = frame_size (t0 % 16); fwi = ats_fwi bytes t0 })) tt
    (sized_limits (t0 % 16) (ats_fwi bytes t0) (ats_waits bytes t0 is)))))

found_good : (a : Atqb) → IsBytes a.pupi → length a.pupi ≤ 4 → AreLimits a.fsc a.fwi → InTurnB (after_atqb (Ok a))
found_good a is short limits = either InTurnB a.iso4 (Goes (record { pupi = a.pupi; fsc = a.fsc; fwi = a.fwi })) (Ends Unsupported) (is, short, limits) tt

atqb_good : (bytes : List ℕ) → IsBytes bytes → InTurnB (after_atqb (atqb bytes))
unfolding atqb
atqb_good bytes is =
    let P : Result Atqb AtqbFault → Type 0 = λ r. InTurnB (after_atqb r) in
    let pupi = take 4 (drop 1 bytes) in
    let wait = slice_index bytes 11 / 16 in
    either P (not (length bytes == 12)) _ _ tt
    (either P (not (slice_index bytes 0 == 0x50)) _ _ tt
    (found_good (record { pupi = pupi; fsc = frame_size (slice_index bytes 10 / 16); fwi = waiting wait; iso4 = (bit (slice_index bytes 10) 1 == 1) })
    (bytes_take 4 (drop 1 bytes) (bytes_drop 1 bytes is)) (omega (arith, length-take 4 (drop 1 bytes)))
    (sized_limits (slice_index bytes 10 / 16) (waiting wait) (waiting_is wait (high_nibble (slice_index bytes 11) (is 11))))))

next_level : (n : ℕ) (part : List ℕ) → continues n part ≡ true → n + 1 ≤ 3
next_level n part e =
    let low : n < 3 = leb-true _ _ (and_parts (nat_lt n 3) (slice_index part 0 == 0x88) e).0 in
    omega (arith, low)

sak_good : (n : ℕ) (before part : List ℕ) (sak : ℕ) → InTurnA (after_sak n before part sak)
sak_good n before part sak =
    either InTurnA (bit sak 4 == 1) _ _
    (when InTurnA (continues n part) (Goes (Level (n + 1) (before ++ take 3 (drop 1 part)))) (Ends Broken) (λ e. next_level n part e) (λ d. tt))
    (either InTurnA (continues n part) _ _ tt (either InTurnA (bit sak 32 == 1) _ _ tt tt))

five_bytes : (part : List ℕ) → is_level part ≡ true → length part ≡ 5
five_bytes part e = eqb-true (length part) 5 (and_parts (length part == 5) (slice_index part 4 == bcc part) e).0

pub round_good : (stage : Stage) (heard : Heard) → GoodStage stage → HearsBytes heard → GoodTurn (round_hears stage heard)
round_good Waking heard good is = either (λ s. GoodTurn (Goes s)) (is_silent heard) (WakingB false) Halting tt tt
round_good Halting heard good is = tt
round_good (WakingB true) heard good is = either GoodTurn (is_silent heard) _ _ tt tt
round_good (WakingB false) heard good is =
    either GoodTurn (is_silent heard) _ _ tt (answered InTurnB (λ m. after_atqb (atqb m)) B heard is tt tt (λ m b. atqb_good m b))
round_good (InA Woken) heard good is =
    answered InTurnA (a_says Woken) ABare heard is tt tt (λ m b. either InTurnA (length m == 2) (Goes (Level 1 [])) (Ends Broken) (omega arith) tt)
round_good (InA (Level n before)) heard good is =
    answered InTurnA (a_says (Level n before)) ABare heard is tt tt
    (λ m b. when InTurnA (is_level m) (Goes (Select n before m)) (Ends Broken) (λ e. (good, b, five_bytes m e)) (λ d. tt))
round_good (InA (Select n before part)) heard good is =
    answered InTurnA (a_says (Select n before part)) A heard is tt tt
    (λ m b. either InTurnA (length m == 1) _ _ (sak_good n before part (slice_index m 0)) tt)
round_good (InA (Complete read)) heard good is = answered InTurnA (a_says (Complete read)) A heard is tt tt (λ m b. ats_good read m b)
round_good (InB stage) heard good is =
    answered InTurnB (b_says stage) B heard is tt tt
    (λ m b. either InTurnB (nat_lt 0 (length m) && (slice_index m 0 % 16 == 0)) _ _ good.2 tt)
