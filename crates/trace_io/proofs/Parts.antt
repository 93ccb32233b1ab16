-- A text that is read spells what is read.
use Rattle.std.proofs.Common.{◌≡◌, ℕ, ◌<◌, ◌≤◌, ◌==◌, ◌&&◌, nat_le, nat_lt, List, [], ◌∷◌, ◌++◌, length, codes, Bool, true, false, cond, find, Option, Some, None, Result, Ok, Err, if◌then◌else◌, refl, ap, subst, sym, ◌∙◌, arith, decimal}
use Rattle.std.specs.List.{position_or_len, before_first, after_first}
use Rattle.std.specs.Str.Parse.{digits_value}
use Rattle.std.specs.Cmp.Lexicographic.{same_text}
use Rattle.std.proofs.lemmas.Bool.{and_parts, eqb-true}
use Rattle.std.proofs.lemmas.Bool.Decides.{nat_tests}
use Rattle.std.proofs.lemmas.List.Sums.{split_at_first, passes_at_first}
use Rattle.std.proofs.Math.ListN.{get_or}
use Rattle.hex.specs.Hex.{decode_of}
use Rattle.hex.specs.declared.error.FromHexError.{FromHexError}
use Rattle.ep_base.specs.declared.air.Wave.{Wave}
use Rattle.ep_base.specs.declared.air.Wave.TheVariants.{AShort, ABare, A, B}
use Rattle.ep_base.specs.Cards.Apdu.{same_bytes}
use Rattle.ep_base.specs.Air.Heard.{Heard, Silence, Noise, Overlap, Frame}
use Rattle.ep_claim.specs.Text.TraceForm.{SpellsFrame, SpellsHeard, SpellsLine}
use Rattle.ep_claim.specs.Text.TraceLine.{Shown, TraceLine, number_in, wave_letter, wave_named, frame_within, frame_spelled, after_equals, framed_spelled, heard_spelled, answer_wave, after_mark, read_shown, read_trace_line}
use Rattle.ep_base.specs.Streams.Words.{◌>>=◌, split_word, is_space}
use Rattle.ep_base.specs.declared.limits.TheConstants.{FRAME}
use Rattle.trace_io.proofs.Spelt.{leaning}
use Rattle.trace_io.proofs.Taken.{is_that, that_is}

-- a reading that gave a value went on from one
bound : {X Y : Type 0} (o : Option X) (f : X → Option Y) (y : Y) → (o >>= f) ≡ Some y → (x : X) × (o ≡ Some x) × (f x ≡ Some y)
bound None f y h = cc h
bound (Some x) f y h = (x, refl, h)

abbrev some_of : {X : Type 0} → X → Option X → X
some_of d (Some x) = x
some_of d None = d

pair_is : {X Y : Type 0} (x a : X) (y b : Y) → ◌≡◌ {A = Option (X × Y)} (Some (x, y)) (Some (a, b)) → (x ≡ a) × (y ≡ b)
pair_is {X = X} {Y = Y} x a y b h = (ap (λ (o : Option (X × Y)). (some_of {X = X × Y} (x, y) o).0) h, ap (λ (o : Option (X × Y)). (some_of {X = X × Y} (x, y) o).1) h)

value_is : {X : Type 0} (x a : X) → Some x ≡ Some a → x ≡ a
value_is x a h = ap (λ o. some_of x o) h

cut_is : (text w rest : List ℕ) → split_word text ≡ Some (w, rest) → text ≡ w ++ 32 ∷ rest
unfolding split_word
cut_is text w rest h = by_test (nat_lt (position_or_len is_space text) (length text)) refl h where
  by_test : (b : Bool) → nat_lt (position_or_len is_space text) (length text) ≡ b
      → if◌then◌else◌ {A = Option (List ℕ × List ℕ)} b (Some (before_first is_space text, after_first is_space text)) None ≡ Some (w, rest) → text ≡ w ++ 32 ∷ rest
  by_test false is got = cc got
  by_test true is got =
      let within : position_or_len is_space text < length text = grind (arith, nat_tests, is) in
      let split = split_at_first is_space text 0 within in
      let space : get_or text (position_or_len is_space text) 0 ≡ 32 = eqb-true (get_or text (position_or_len is_space text) 0) 32 (passes_at_first is_space text 0 within) in
      let pair = pair_is (before_first is_space text) w (after_first is_space text) rest got in
      split ∙ rw (pair.0, space, pair.1) refl

number_is : (low high : ℕ) (text : List ℕ) (n : ℕ) → number_in low high text ≡ Some n → (text ≡ decimal n) × (low ≤ n) × (n ≤ high)
unfolding number_in
number_is low high text n h = by_test (is_that low high text (digits_value 10 text)) refl h where
  by_test : (b : Bool) → is_that low high text (digits_value 10 text) ≡ b → (if b then Some (digits_value 10 text) else None) ≡ Some n → (text ≡ decimal n) × (low ≤ n) × (n ≤ high)
  by_test false is got = cc got
  by_test true is got =
      let value : digits_value 10 text ≡ n = cc got in
      that_is low high text n (rw value at is)

find_passes : {X : Type 0} (p : X → Bool) (xs : List X) (x : X) → find p xs ≡ Some x → p x ≡ true
find_passes p [] x h = cc h
find_passes p (y ∷ ys) x h = by_test (find_passes p ys x) (p y) refl h where
  by_test : (find p ys ≡ Some x → p x ≡ true) → (b : Bool) → p y ≡ b → cond b (Some y) (find p ys) ≡ Some x → p x ≡ true
  by_test more true is got =
      let same : y ≡ x = cc got in
      rw same at is
  by_test more false is got = more got

wave_is : (word : List ℕ) (w : Wave) → wave_named word ≡ Some w → word ≡ wave_letter w
unfolding wave_named
wave_is word w h = same_text word (wave_letter w) (sym (find_passes (λ wave. same_bytes word (wave_letter wave)) (AShort ∷ ABare ∷ A ∷ B ∷ []) w h))

frame_by : (r : Result (List ℕ) FromHexError) (bytes : List ℕ) → frame_within r ≡ Some bytes → (r ≡ Ok bytes) × (1 ≤ length bytes) × (length bytes ≤ FRAME)
frame_by (Err e) bytes h = cc h
frame_by (Ok found) bytes h = by_test (nat_le 1 (length found) && nat_le (length found) FRAME) refl h where
  by_test : (b : Bool) → (nat_le 1 (length found) && nat_le (length found) FRAME) ≡ b → (if b then Some found else None) ≡ Some bytes → (◌≡◌ {A = Result (List ℕ) FromHexError} (Ok found) (Ok bytes)) × (1 ≤ length bytes) × (length bytes ≤ FRAME)
  by_test false is got = cc got
  by_test true is got =
      let same : found ≡ bytes = cc got in
      let parts = and_parts (nat_le 1 (length found)) (nat_le (length found) FRAME) is in
      let some : 1 ≤ length found = grind (arith, nat_tests, parts.0) in
      let few : length found ≤ FRAME = grind (arith, nat_tests, parts.1) in
      let least : 1 ≤ length bytes = rw same at some in
      let most : length bytes ≤ FRAME = rw same at few in
      (rw same refl, least, most)

frame_is : (digits bytes : List ℕ) → frame_spelled digits ≡ Some bytes → SpellsFrame digits bytes
unfolding frame_spelled
frame_is digits bytes h = frame_by (decode_of digits) bytes h

equals_is : (text digits : List ℕ) → after_equals text ≡ Some digits → text ≡ 61 ∷ digits
equals_is [] digits h = cc h
equals_is (c ∷ cs) digits h = by_test (c == 61) refl h where
  by_test : (b : Bool) → (c == 61) ≡ b → (if b then Some cs else None) ≡ Some digits → c ∷ cs ≡ 61 ∷ digits
  by_test false is got = cc got
  by_test true is got =
      let first : c ≡ 61 = eqb-true c 61 is in
      let rest : cs ≡ digits = cc got in
      rw (first, rest) refl

framed_is : (sent : Wave) (text : List ℕ) (h : Heard) → framed_spelled (answer_wave sent) text ≡ Some h → SpellsHeard sent text h
framed_is sent text h got =
    let a = bound (after_equals text) _ h got in
    let b = bound (frame_spelled a.0) _ h a.2 in
    let is : Frame (answer_wave sent) b.0 ≡ h = value_is (Frame (answer_wave sent) b.0) h b.2 in
    let spelt : SpellsHeard sent text (Frame (answer_wave sent) b.0) = (refl, a.0, equals_is text a.0 a.1, frame_is a.0 b.0 b.1) in
    subst (λ x. SpellsHeard sent text x) is spelt

heard_is : (sent : Wave) (text : List ℕ) (h : Heard) → heard_spelled sent text ≡ Some h → SpellsHeard sent text h
unfolding heard_spelled
heard_is sent text h got = silence (same_bytes text (codes "-")) refl got where
  sign : (heard : Heard) → SpellsHeard sent text heard → Some heard ≡ Some h → SpellsHeard sent text h
  sign heard spelt e =
      let is : heard ≡ h = cc e in
      subst (λ x. SpellsHeard sent text x) is spelt

  overlap : (b : Bool) → same_bytes text (codes "*") ≡ b → (if b then Some Overlap else framed_spelled (answer_wave sent) text) ≡ Some h → SpellsHeard sent text h
  overlap true is e = sign Overlap (same_text text (codes "*") (sym is)) e
  overlap false is e = framed_is sent text h e

  noise : (b : Bool) → same_bytes text (codes "?") ≡ b
      → (if b then Some Noise else (if same_bytes text (codes "*") then Some Overlap else framed_spelled (answer_wave sent) text)) ≡ Some h → SpellsHeard sent text h
  noise true is e = sign Noise (same_text text (codes "?") (sym is)) e
  noise false is e = overlap (same_bytes text (codes "*")) refl e

  silence : (b : Bool) → same_bytes text (codes "-") ≡ b
      → (if b then Some Silence else (if same_bytes text (codes "?") then Some Noise
      else (if same_bytes text (codes "*") then Some Overlap else framed_spelled (answer_wave sent) text))) ≡ Some h → SpellsHeard sent text h
  silence true is e = sign Silence (same_text text (codes "-") (sym is)) e
  silence false is e = noise (same_bytes text (codes "?")) refl e

-- What a text says was sent, and what stands after it.
record SpellsShown (text : List ℕ) (sent : Shown) (answer : List ℕ) : Type 0 where
  pub digits : List ℕ
  pub parts : text ≡ decimal sent.lane ++ 32 ∷ (wave_letter sent.wave ++ 32 ∷ (digits ++ 32 ∷ (decimal sent.wait ++ 32 ∷ answer)))
  pub lane : (1 ≤ sent.lane) × (sent.lane ≤ 8)
  pub wait : sent.wait ≤ 16384
  pub frame : SpellsFrame digits sent.frame

joins : (text a0 a1 b0 b1 c0 c1 d0 d1 lane letter wait : List ℕ) → text ≡ a0 ++ 32 ∷ a1 → a1 ≡ b0 ++ 32 ∷ b1 → b1 ≡ c0 ++ 32 ∷ c1 → c1 ≡ d0 ++ 32 ∷ d1
    → a0 ≡ lane → b0 ≡ letter → d0 ≡ wait → text ≡ lane ++ 32 ∷ (letter ++ 32 ∷ (c0 ++ 32 ∷ (wait ++ 32 ∷ d1)))
joins text a0 a1 b0 b1 c0 c1 d0 d1 lane letter wait first second third fourth is_lane is_letter is_wait =
    rw (first, second, third, fourth, is_lane, is_letter, is_wait) refl

marked : (text a0 a1 body rest : List ℕ) → text ≡ a0 ++ 32 ∷ a1 → a0 ≡ 120 ∷ [] → a1 ≡ body → body ≡ rest → text ≡ (120 ∷ []) ++ 32 ∷ rest
marked text a0 a1 body rest first mark is_body is_rest = rw (first, mark, is_body, is_rest) refl

shown_is : (text : List ℕ) (sent : Shown) (answer : List ℕ) → read_shown text ≡ Some (sent, answer) → SpellsShown text sent answer
unfolding read_shown
shown_is text sent answer got =
    let a = bound (split_word text) _ (sent, answer) got in
    let lane = bound (number_in 1 8 a.0.0) _ (sent, answer) a.2 in
    let b = bound (split_word a.0.1) _ (sent, answer) lane.2 in
    let wave = bound (wave_named b.0.0) _ (sent, answer) b.2 in
    let c = bound (split_word b.0.1) _ (sent, answer) wave.2 in
    let frame = bound (frame_spelled c.0.0) _ (sent, answer) c.2 in
    let d = bound (split_word c.0.1) _ (sent, answer) frame.2 in
    let wait = bound (number_in 0 16384 d.0.0) _ (sent, answer) d.2 in
    let lane_is = number_is 1 8 a.0.0 lane.0 lane.1 in
    let wait_is = number_is 0 16384 d.0.0 wait.0 wait.1 in
    let found : Shown = record { lane = lane.0; wave = wave.0; frame = frame.0; wait = wait.0 } in
    let pair = pair_is found sent d.0.1 answer wait.2 in
    let same : found ≡ sent = pair.0 in
    let rest : d.0.1 ≡ answer = pair.1 in
    let first : text ≡ a.0.0 ++ 32 ∷ a.0.1 = cut_is text a.0.0 a.0.1 a.1 in
    let second : a.0.1 ≡ b.0.0 ++ 32 ∷ b.0.1 = cut_is a.0.1 b.0.0 b.0.1 b.1 in
    let third : b.0.1 ≡ c.0.0 ++ 32 ∷ c.0.1 = cut_is b.0.1 c.0.0 c.0.1 c.1 in
    let fourth : c.0.1 ≡ d.0.0 ++ 32 ∷ d.0.1 = cut_is c.0.1 d.0.0 d.0.1 d.1 in
    let spelt : SpellsShown text found d.0.1 = record {
      digits = c.0.0;
      parts = joins text a.0.0 a.0.1 b.0.0 b.0.1 c.0.0 c.0.1 d.0.0 d.0.1 (decimal lane.0) (wave_letter wave.0) (decimal wait.0) first second third fourth lane_is.0
          (wave_is b.0.0 wave.0 wave.1) wait_is.0;
      lane = (lane_is.1, lane_is.2);
      wait = wait_is.2;
      frame = frame_is c.0.0 frame.0 frame.1;
    } in
    subst (λ (s : Shown). SpellsShown text s answer) same (subst (λ (r : List ℕ). SpellsShown text found r) rest spelt)

mark_is : (parts : List ℕ × List ℕ) (body : List ℕ) → after_mark parts ≡ Some body → (parts.0 ≡ 120 ∷ []) × (parts.1 ≡ body)
mark_is parts body h = by_test (same_bytes parts.0 (codes "x")) refl h where
  by_test : (b : Bool) → same_bytes parts.0 (codes "x") ≡ b → (if b then Some parts.1 else None) ≡ Some body → (parts.0 ≡ 120 ∷ []) × (parts.1 ≡ body)
  by_test false is got = cc got
  by_test true is got =
      let rest : parts.1 ≡ body = cc got in
      (same_text parts.0 (codes "x") (sym is), rest)

pub read_spells : (text : List ℕ) (line : TraceLine) → read_trace_line text ≡ Some line → SpellsLine text line
unfolding read_trace_line
read_spells text line got =
    let a = bound (split_word text) _ line got in
    let body = bound (after_mark a.0) _ line a.2 in
    let shown = bound (read_shown body.0) _ line body.2 in
    let mark = mark_is a.0 body.0 body.1 in
    let sent = shown_is body.0 shown.0.0 shown.0.1 shown.1 in
    let heard = bound (heard_spelled shown.0.0.wave shown.0.1) _ line shown.2 in
    let found : TraceLine = record { sent = shown.0.0; heard = heard.0 } in
    let same : found ≡ line = value_is found line heard.2 in
    let first : text ≡ a.0.0 ++ 32 ∷ a.0.1 = cut_is text a.0.0 a.0.1 a.1 in
    let spelt : SpellsLine text found = record {
      digits = sent.digits;
      answer = shown.0.1;
      parts = marked text a.0.0 a.0.1 body.0 (decimal shown.0.0.lane ++ 32 ∷ (wave_letter shown.0.0.wave ++ 32 ∷ (sent.digits ++ 32 ∷ (decimal shown.0.0.wait ++ 32 ∷ shown.0.1)))) first mark.0 mark.1 sent.parts
          ∙ (sym (leaning (decimal shown.0.0.lane) (wave_letter shown.0.0.wave) sent.digits (decimal shown.0.0.wait) shown.0.1));
      lane = sent.lane;
      wait = sent.wait;
      frame = sent.frame;
      heard = heard_is shown.0.0.wave shown.0.1 heard.0 heard.1;
    } in
    subst (λ (l : TraceLine). SpellsLine text l) same spelt
