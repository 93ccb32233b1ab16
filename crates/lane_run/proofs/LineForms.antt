-- Each line that a run writes ends with its only newline, and its first words tell of which kind it is.
use Rattle.std.proofs.Common.{◌≡◌, ℕ, zero, suc, ◌<◌, ◌≤◌, ◌+◌, ◌/◌, ◌%◌, ◌==◌, ◌&&◌, not, nat_lt, nat_eq, Bool, true, false, List, [], ◌∷◌, ◌++◌, codes, decimal, refl, sym, ap, subst, ◌∙◌, append_assoc, arith, Option, Some, None, slice_index}
use Rattle.std.specs.Prelude.{if◌then◌else◌}
use Rattle.std.specs.Fmt.{digit_glyph, digits, digits_onto}
use Rattle.std.specs.List.{starts_with}
use Rattle.std.proofs.lemmas.Bool.{and_parts}
use Rattle.std.proofs.lemmas.Bool.Decides.{nat_tests}
use Rattle.hex.specs.Hex.{encode_with, lower_digits}
use Rattle.ep_base.specs.declared.air.CardKind.{CardKind}
use Rattle.ep_base.specs.declared.air.CardKind.TheVariants as cards
use Rattle.ep_base.specs.declared.air.Wave.{Wave}
use Rattle.ep_base.specs.declared.air.Wave.TheVariants.{AShort, ABare, A, B}
use Rattle.ep_base.specs.Air.Heard.{Heard, Silence, Noise, Overlap, Frame}
use Rattle.ep_base.specs.declared.outcome.OutcomeKind.{OutcomeKind}
use Rattle.ep_base.specs.declared.outcome.OutcomeKind.TheVariants as outcomes
use Rattle.ep_base.specs.declared.outcome.Message.{Message}
use Rattle.ep_base.specs.declared.outcome.Message.TheVariants as messages
use Rattle.ep_rules.specs.EntryPoint.PreProcessing.{PreparedOne}
use Rattle.ep_rules.specs.EntryPoint.Event.{Activation, OwnEvent, Start, Pre, Notice, Card, Candidates, Activate, Outcome, Finished, NoCard, Event as EventData, Tells, Apdu, End, EndLink, EndBreach}
use Rattle.ep_claim.specs.Text.ReportLine.{activate_text, card_word, hex, kind_word, line_of, log_line, message_row, pre_text, prefix, said_text, told_text, truth, ttq_text}
use Rattle.ep_claim.specs.Text.TraceLine.{Shown, TraceLine, heard_text, shown_text, trace_line, trace_text, wave_letter}
use Rattle.lane_run.specs.ReportLines.{after_space, is_log_line, is_trace_line, lines_in, onto_line}

-- ---- texts without a newline

-- whether no byte is a newline
abbrev pub is_inline : List ℕ → Bool
is_inline [] = true
is_inline (b ∷ bytes) = not (b == 10) && is_inline bytes

inline_append : (xs ys : List ℕ) → is_inline (xs ++ ys) ≡ (is_inline xs && is_inline ys)
inline_append [] ys = refl
inline_append (b ∷ xs) ys =
    elim (not (b == 10)) as (λ (t : Bool). (t && is_inline (xs ++ ys)) ≡ ((t && is_inline xs) && is_inline ys)) [
      | true ↦ inline_append xs ys
      | false ↦ refl
    ]

and_both : (a b : Bool) → a ≡ true → b ≡ true → (a && b) ≡ true
and_both a b ha hb = subst (λ (t : Bool). (t && b) ≡ true) (sym ha) hb

not_true : (t : Bool) → not t ≡ true → t ≡ false
not_true true h = sym h
not_true false h = refl

inline_more : (xs ys : List ℕ) → is_inline xs ≡ true → is_inline ys ≡ true → is_inline (xs ++ ys) ≡ true
inline_more xs ys hx hy = inline_append xs ys ∙ and_both (is_inline xs) (is_inline ys) hx hy

-- a line comes off the text that it begins
pub line_first : (line rest : List ℕ) → is_inline line ≡ true → lines_in ((line ++ 10 ∷ []) ++ rest) ≡ (line ++ 10 ∷ []) ∷ lines_in rest
line_first [] rest h = refl
line_first (b ∷ line) rest h =
    let parts = and_parts (not (b == 10)) (is_inline line) h in
    let more = (line ++ 10 ∷ []) ++ rest in
    subst (λ (t : Bool). (if t then (b ∷ []) ∷ lines_in more else onto_line b (lines_in more)) ≡ (b ∷ (line ++ 10 ∷ [])) ∷ lines_in rest)
    (sym (not_true (b == 10) parts.0)) (ap (onto_line b) (line_first line rest parts.1))

-- ---- decimal digits

abbrev AreDigits : List ℕ → Type 0
AreDigits [] = Unit {0}
AreDigits (b ∷ bytes) = ((48 ≤ b) × (b ≤ 57)) × AreDigits bytes

glyph_range : (d : ℕ) → d < 10 → (48 ≤ digit_glyph false d) × (digit_glyph false d ≤ 57)
glyph_range d h =
    let small : nat_lt d 10 ≡ true = grind (arith, nat_tests, h) in
    subst (λ (t : Bool). (48 ≤ (if t then 48 + d else 87 + d)) × ((if t then 48 + d else 87 + d) ≤ 57)) (sym small) (omega (arith, h), omega (arith, h))

digits_on : (k n : ℕ) (after : List ℕ) → AreDigits after → AreDigits (digits_onto k 10 false n after)
digits_on zero n after h = h
digits_on (suc k) n after h =
    let small : n % 10 < 10 = omega arith in
    let more : List ℕ = digit_glyph false (n % 10) ∷ after in
    let all : AreDigits more = (glyph_range (n % 10) small, h) in
    elim (n / 10 == 0) as (λ (t : Bool). AreDigits (if t then more else digits_onto k 10 false (n / 10) more)) [
      | true ↦ all
      | false ↦ digits_on k (n / 10) more all
    ]

decimal_digits : (n : ℕ) → AreDigits (decimal n)
unfolding digits
decimal_digits n = digits_on 64 n [] tt

digits_inline : (ds : List ℕ) → AreDigits ds → is_inline ds ≡ true
digits_inline [] h = refl
digits_inline (b ∷ bytes) h =
    let other : (b == 10) ≡ false = grind (arith, nat_tests, h.0) in
    subst (λ (t : Bool). (not t && is_inline bytes) ≡ true) (sym other) (digits_inline bytes h.1)

after_digits : (ds rest : List ℕ) → AreDigits ds → after_space (ds ++ rest) ≡ after_space rest
after_digits [] rest h = refl
after_digits (b ∷ bytes) rest h =
    let other : (b == 32) ≡ false = grind (arith, nat_tests, h.0) in
    subst (λ (t : Bool). (if t then bytes ++ rest else after_space (bytes ++ rest)) ≡ after_space rest) (sym other) (after_digits bytes rest h.1)

-- a line that begins with a number and a point is none of a trace
digits_first : (ds rest : List ℕ) → AreDigits ds → is_trace_line (ds ++ 46 ∷ rest) ≡ false
digits_first [] rest h = refl
digits_first (b ∷ bytes) rest h =
    let other : nat_eq 120 b ≡ false = grind (arith, nat_tests, h.0) in
    subst (λ (t : Bool). (t && is_trace_line (120 ∷ (bytes ++ 46 ∷ rest))) ≡ false) (sym other) refl

-- ---- what lines are made of

decimal_inline : (n : ℕ) → is_inline (decimal n) ≡ true
decimal_inline n = digits_inline (decimal n) (decimal_digits n)

at_inline : (t : List ℕ) → is_inline t ≡ true → (i : ℕ) → not (slice_index t i == 10) ≡ true
at_inline [] h i = refl
at_inline (b ∷ t) h zero = (and_parts (not (b == 10)) (is_inline t) h).0
at_inline (b ∷ t) h (suc i) = at_inline t (and_parts (not (b == 10)) (is_inline t) h).1 i

spelt_inline : (t : List ℕ) → is_inline t ≡ true → (bytes : List ℕ) → is_inline (encode_with t bytes) ≡ true
unfolding encode_with
spelt_inline t h [] = refl
spelt_inline t h (b ∷ rest) =
    and_both (not (slice_index t (b / 16) == 10)) (not (slice_index t (b % 16) == 10) && is_inline (encode_with t rest)) (at_inline t h (b / 16))
    (and_both (not (slice_index t (b % 16) == 10)) (is_inline (encode_with t rest)) (at_inline t h (b % 16)) (spelt_inline t h rest))

hex_inline : (bytes : List ℕ) → is_inline (hex bytes) ≡ true
hex_inline bytes = spelt_inline lower_digits refl bytes

truth_inline : (t : Bool) → is_inline (truth t) ≡ true
truth_inline true = refl
truth_inline false = refl

ttq_inline : (ttq : Option (List ℕ)) → is_inline (ttq_text ttq) ≡ true
ttq_inline None = refl
ttq_inline (Some ttq) = hex_inline ttq

kind_inline : (kind : OutcomeKind) → is_inline (kind_word kind) ≡ true
kind_inline outcomes.SelectNext = refl
kind_inline outcomes.TryAgain = refl
kind_inline outcomes.Approved = refl
kind_inline outcomes.Declined = refl
kind_inline outcomes.OnlineRequest = refl
kind_inline outcomes.TryAnother = refl
kind_inline outcomes.EndApplication = refl

words_inline : (message : Message) → is_inline (message_row message).words ≡ true
words_inline messages.Approved = refl
words_inline messages.NotAuthorised = refl
words_inline messages.PresentCard = refl
words_inline messages.Processing = refl
words_inline messages.ReadOk = refl
words_inline messages.InsertOrSwipe = refl
words_inline messages.OneCardOnly = refl
words_inline messages.TryAnotherCard = refl
words_inline messages.PresentAgain = refl

card_inline : (kind : CardKind) → is_inline (card_word kind) ≡ true
card_inline cards.A = refl
card_inline cards.B = refl

wave_inline : (wave : Wave) → is_inline (wave_letter wave) ≡ true
wave_inline AShort = refl
wave_inline ABare = refl
wave_inline A = refl
wave_inline B = refl

told_inline : (what : OwnEvent) → is_inline (told_text what) ≡ true
told_inline (Start txn_type amount) = simp (inline_append, hex_inline, decimal_inline) refl
told_inline (Pre number one) = simp (inline_append, hex_inline, decimal_inline, truth_inline, ttq_inline) refl
told_inline (Notice message) = simp (inline_append, hex_inline, words_inline) refl
told_inline (Card kind id) = simp (inline_append, hex_inline, card_inline) refl
told_inline (Candidates count) = decimal_inline count
told_inline (Activate given) = simp (inline_append, hex_inline, decimal_inline, ttq_inline) refl
told_inline (Outcome kind) = kind_inline kind

said_inline : (said : EventData) → is_inline (said_text said) ≡ true
said_inline (Tells what) = told_inline what
said_inline (Apdu command response) = simp (inline_append, hex_inline) refl
said_inline (End Finished) = refl
said_inline (End NoCard) = refl
said_inline EndLink = refl
said_inline EndBreach = refl

prefix_inline : (lane txn : ℕ) → is_inline (prefix lane txn) ≡ true
prefix_inline lane txn = simp (inline_append, decimal_inline) refl

heard_inline : (heard : Heard) → is_inline (heard_text heard) ≡ true
heard_inline Silence = refl
heard_inline Noise = refl
heard_inline Overlap = refl
heard_inline (Frame wave bytes) = hex_inline bytes

shown_inline : (sent : Shown) → is_inline (shown_text sent) ≡ true
shown_inline sent = simp (inline_append, decimal_inline, wave_inline, hex_inline) refl

-- ---- what stands after a line's first space

leaning : (lane txn rest : List ℕ) → (lane ++ codes "." ++ txn ++ codes " ") ++ rest ≡ lane ++ 46 ∷ (txn ++ 32 ∷ rest)
leaning lane txn rest = simp append_assoc refl

after_prefix : (lane txn : ℕ) (rest : List ℕ) → after_space (prefix lane txn ++ rest) ≡ rest
after_prefix lane txn rest =
    ap after_space (leaning (decimal lane) (decimal txn) rest)
    ∙ (after_digits (decimal lane) (46 ∷ (decimal txn ++ 32 ∷ rest)) (decimal_digits lane) ∙ after_digits (decimal txn) (32 ∷ rest) (decimal_digits txn))

prefix_first : (lane txn : ℕ) (rest : List ℕ) → is_trace_line (prefix lane txn ++ rest) ≡ false
prefix_first lane txn rest =
    ap is_trace_line (leaning (decimal lane) (decimal txn) rest) ∙ digits_first (decimal lane) (decimal txn ++ 32 ∷ rest) (decimal_digits lane)

told_other : (what : OwnEvent) (rest : List ℕ) → starts_with nat_eq (told_text what ++ rest) (codes "log ") ≡ false
told_other (Start txn_type amount) rest = refl
told_other (Pre number one) rest = refl
told_other (Notice message) rest = refl
told_other (Card kind id) rest = refl
told_other (Candidates count) rest = refl
told_other (Activate given) rest = refl
told_other (Outcome kind) rest = refl

said_other : (said : EventData) (rest : List ℕ) → starts_with nat_eq (said_text said ++ rest) (codes "log ") ≡ false
said_other (Tells what) rest = told_other what rest
said_other (Apdu command response) rest = refl
said_other (End Finished) rest = refl
said_other (End NoCard) rest = refl
said_other EndLink rest = refl
said_other EndBreach rest = refl

-- ---- the lines of events, of a log and of a trace

-- this is a line, and whether it is one of a log, and one of a trace
pub record IsLine (line : List ℕ) (of_log of_trace : Bool) : Type 0 where
  pub first : (rest : List ℕ) → lines_in (line ++ rest) ≡ line ∷ lines_in rest
  pub log : is_log_line line ≡ of_log
  pub trace : is_trace_line line ≡ of_trace

pub event_line : (lane txn : ℕ) (said : EventData) → IsLine (line_of lane txn said) false false
unfolding line_of
event_line lane txn said = record {
  first = λ rest. line_first (prefix lane txn ++ said_text said) rest (inline_more (prefix lane txn) (said_text said) (prefix_inline lane txn) (said_inline said));
  log =
      ap is_log_line (append_assoc (prefix lane txn) (said_text said) (10 ∷ []))
      ∙ (ap (λ l. starts_with nat_eq l (codes "log ")) (after_prefix lane txn (said_text said ++ 10 ∷ [])) ∙ said_other said (10 ∷ []));
  trace = ap is_trace_line (append_assoc (prefix lane txn) (said_text said) (10 ∷ [])) ∙ prefix_first lane txn (said_text said ++ 10 ∷ []);
}

pub record_line : (lane txn : ℕ) (entry : ℕ × List ℕ) → IsLine (log_line lane txn entry) true false
unfolding log_line
record_line lane txn entry =
    let text : List ℕ = codes "log " ++ decimal entry.0 ++ codes " " ++ hex entry.1 in
    let inline : is_inline text ≡ true = simp (inline_append, decimal_inline, hex_inline) refl in
    let same : log_line lane txn entry ≡ (prefix lane txn ++ text) ++ 10 ∷ [] = simp append_assoc refl in
    let apart : (prefix lane txn ++ text) ++ 10 ∷ [] ≡ prefix lane txn ++ (text ++ 10 ∷ []) = append_assoc (prefix lane txn) text (10 ∷ []) in
    subst (λ l. IsLine l true false) (sym same) (record {
      first = λ rest. line_first (prefix lane txn ++ text) rest (inline_more (prefix lane txn) text (prefix_inline lane txn) inline);
      log = ap is_log_line apart ∙ ap (λ l. starts_with nat_eq l (codes "log ")) (after_prefix lane txn (text ++ 10 ∷ []));
      trace = ap is_trace_line apart ∙ prefix_first lane txn (text ++ 10 ∷ []);
    })

line_inline : (line : TraceLine) → is_inline (trace_text line) ≡ true
line_inline line =
    inline_more (codes "x " ++ shown_text line.sent ++ codes " ") (heard_text line.heard)
    (inline_more (codes "x " ++ shown_text line.sent) (codes " ") (inline_more (codes "x ") (shown_text line.sent) refl (shown_inline line.sent)) refl)
    (heard_inline line.heard)

pub traced_line : (line : TraceLine) (rest : List ℕ) → (lines_in (trace_line line ++ rest) ≡ trace_line line ∷ lines_in rest) × (is_trace_line (trace_line line) ≡ true)
unfolding trace_line
traced_line line rest = (line_first (trace_text line) rest (line_inline line), refl)
