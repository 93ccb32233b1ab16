-- A text that spells an exchange is read as it.
use Rattle.std.proofs.Common.{◌≡◌, ℕ, ◌<◌, ◌≤◌, ◌^◌, ◌&&◌, nat_le, List, [], ◌∷◌, ◌++◌, length, codes, true, Some, refl, ◌∙◌, arith, decimal, append_assoc}
use Rattle.std.proofs.lemmas.Bool.Decides.{nat_tests}
use Rattle.std.proofs.lemmas.Fmt.{decimal_is_IsNumeral}
use Rattle.hex.specs.Hex.{encode_lower}
use Rattle.hex.proofs.HexLemmas.{decode_of-encode_lower}
use Rattle.ep_base.specs.declared.air.Wave.{Wave}
use Rattle.ep_base.specs.declared.air.Wave.TheVariants.{AShort, ABare, A, B}
use Rattle.ep_base.specs.Air.Heard.{Heard, Silence, Noise, Overlap, Frame}
use Rattle.ep_base.specs.declared.limits.TheConstants.{FRAME}
use Rattle.ep_claim.specs.Text.TraceForm.{SpellsFrame, SpellsHeard, SpellsLine, HoldsFrame, HoldsHeard, HoldsLine}
use Rattle.ep_claim.specs.Text.TraceLine.{Shown, TraceLine, number_that, number_in, wave_letter, wave_named, frame_spelled, heard_spelled, heard_text, read_shown, read_trace_line, trace_text}
use Rattle.rf_frame.proofs.Opening.{same_bytes as same_as_itself}
use Rattle.trace_io.proofs.Words.{NoSpace, cut_word, decimal_has_none, hex_has_none}

that_number : (low high n : ℕ) → low ≤ n → n ≤ high → number_that low high (decimal n) n ≡ Some n
that_number low high n least most =
    let below : nat_le low n ≡ true = grind (arith, nat_tests, least) in
    let above : nat_le n high ≡ true = grind (arith, nat_tests, most) in
    rw (same_as_itself (decimal n), below, above) refl

number_read : (low high n : ℕ) → low ≤ n → n ≤ high → n < 2 ^ 64 → number_in low high (decimal n) ≡ Some n
unfolding number_in
number_read low high n least most small = rw ((decimal_is_IsNumeral n small).1) (that_number low high n least most)

wave_read : (w : Wave) → wave_named (wave_letter w) ≡ Some w
unfolding wave_named
wave_read AShort = refl
wave_read ABare = refl
wave_read A = refl
wave_read B = refl

letter_has_none : (w : Wave) → NoSpace (wave_letter w)
letter_has_none AShort = refl
letter_has_none ABare = refl
letter_has_none A = refl
letter_has_none B = refl

frame_read : (digits bytes : List ℕ) → SpellsFrame digits bytes → frame_spelled digits ≡ Some bytes
unfolding frame_spelled
frame_read digits bytes s =
    let within : (nat_le 1 (length bytes) && nat_le (length bytes) FRAME) ≡ true = grind (arith, nat_tests, s.1, s.2) in
    rw s.0 (rw within refl)

heard_read : (sent : Wave) (text : List ℕ) (h : Heard) → SpellsHeard sent text h → heard_spelled sent text ≡ Some h
unfolding heard_spelled
heard_read sent text Silence s = rw s refl
heard_read sent text Noise s = rw s refl
heard_read sent text Overlap s = rw s refl
heard_read sent text (Frame wave bytes) s = rw (s.2, frame_read s.1 bytes s.3, s.0) refl

shown_read : (sent : Shown) (digits answer : List ℕ) → (1 ≤ sent.lane) × (sent.lane ≤ 8) → sent.wait ≤ 16384 → SpellsFrame digits sent.frame
    → read_shown (decimal sent.lane ++ 32 ∷ (wave_letter sent.wave ++ 32 ∷ (digits ++ 32 ∷ (decimal sent.wait ++ 32 ∷ answer)))) ≡ Some (sent, answer)
unfolding read_shown
shown_read sent digits answer lane wait frame =
    let lane_fits : sent.lane < 2 ^ 64 = omega (arith, lane.1) in
    let wait_fits : sent.wait < 2 ^ 64 = omega (arith, wait) in
    let least : 0 ≤ sent.wait = omega arith in
    rw (
      cut_word (decimal sent.lane) (wave_letter sent.wave ++ 32 ∷ (digits ++ 32 ∷ (decimal sent.wait ++ 32 ∷ answer))) (decimal_has_none sent.lane lane_fits),
      number_read 1 8 sent.lane lane.0 lane.1 lane_fits,
      cut_word (wave_letter sent.wave) (digits ++ 32 ∷ (decimal sent.wait ++ 32 ∷ answer)) (letter_has_none sent.wave),
      wave_read sent.wave,
      cut_word digits (decimal sent.wait ++ 32 ∷ answer) (hex_has_none digits sent.frame frame.0),
      frame_read digits sent.frame frame,
      cut_word (decimal sent.wait) answer (decimal_has_none sent.wait wait_fits),
      number_read 0 16384 sent.wait least wait wait_fits,
      read_shown,
    ) refl

-- the words of a line, with the appends leaning to the right
pub leaning : (lane letter digits wait answer : List ℕ)
    → codes "x " ++ lane ++ codes " " ++ letter ++ codes " " ++ digits ++ codes " " ++ wait ++ codes " " ++ answer
    ≡ (120 ∷ []) ++ 32 ∷ (lane ++ 32 ∷ (letter ++ 32 ∷ (digits ++ 32 ∷ (wait ++ 32 ∷ answer))))
leaning lane letter digits wait answer = simp append_assoc refl

pub spelt_is_read : (text : List ℕ) (line : TraceLine) → SpellsLine text line → read_trace_line text ≡ Some line
unfolding read_trace_line
spelt_is_read text line s =
    let body = decimal line.sent.lane ++ 32 ∷ (wave_letter line.sent.wave ++ 32 ∷ (s.digits ++ 32 ∷ (decimal line.sent.wait ++ 32 ∷ s.answer))) in
    let text_is : text ≡ (120 ∷ []) ++ 32 ∷ body = s.parts ∙ leaning (decimal line.sent.lane) (wave_letter line.sent.wave) s.digits (decimal line.sent.wait) s.answer in
    rw (text_is, cut_word (120 ∷ []) body refl, shown_read line.sent s.digits s.answer s.lane s.wait s.frame, heard_read line.sent.wave s.answer line.heard s.heard, read_trace_line) refl

frame_held : (bytes : List ℕ) → HoldsFrame bytes → SpellsFrame (encode_lower bytes) bytes
frame_held bytes h = (decode_of-encode_lower bytes h.0, h.1, h.2)

heard_held : (sent : Wave) (h : Heard) → HoldsHeard sent h → SpellsHeard sent (heard_text h) h
heard_held sent Silence holds = refl
heard_held sent Noise holds = refl
heard_held sent Overlap holds = refl
heard_held sent (Frame wave bytes) holds = (holds.0, encode_lower bytes, refl, frame_held bytes holds.1)

-- what is written of an exchange spells it
pub written_spells : (line : TraceLine) → HoldsLine line → SpellsLine (trace_text line) line
written_spells line h = record {
  digits = encode_lower line.sent.frame;
  answer = heard_text line.heard;
  parts = simp append_assoc refl;
  lane = h.lane;
  wait = h.wait;
  frame = frame_held line.sent.frame h.frame;
  heard = heard_held line.sent.wave line.heard h.heard;
}
