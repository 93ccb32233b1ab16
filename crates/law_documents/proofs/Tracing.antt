-- A document with a trace that was written.
use Rattle.std.proofs.Common.{◌≡◌, ℕ, ◌+◌, ◌≤◌, pos, nat_cmp, nat_lt, is_eq, Bool, true, false, if◌then◌else◌, List, [], ◌∷◌, length, map, codes, Option, Some, None, Result, Ok, refl, sym, ap, ap₂, ◌∙◌, subst, arith}
use Rattle.std.specs.Prelude.{All, unwrap_or}
use Rattle.std.specs.Cmp.Lexicographic.{slice_cmp}
use Rattle.std.proofs.lemmas.Bool.Decides.{nat_tests}
use Rattle.std.proofs.lemmas.List.{length-map}
use Rattle.std.proofs.lemmas.List.Elements.{All-head, All-tail}
use Rattle.toml.specs.Data.{array, Items, Members, get_member}
use Rattle.ep_base.specs.declared.limits.TheConstants.{FSDI, LANES, TRACE_LINES, TURNS}
use Rattle.ep_claim.specs.Text.TraceForm.{HoldsLine}
use Rattle.ep_claim.specs.Text.TraceLine.{TraceLine, trace_text, read_trace_line}
use Rattle.doc_table.specs.Fault.{Fault}
use Rattle.doc_table.specs.Path.{key_path, element_path}
use Rattle.doc_table.specs.declared.list.ElementKind.TheVariants.{Integer, Text, Table}
use Rattle.doc_table.specs.Read.{◌>>=◌, Reader, Place, allowed, of_kind, all_known, place_of, if_there, optional, wanted, required, defaulted, integer_in, first_unknown, item_count, is_of, all_items, array_of, counted, items_of_kind, each, list_of}
use Rattle.doc_table.proofs.Accepted.{after}
use Rattle.acquirer_config.specs.Config.{combinations, config_at}
use Rattle.trace_io.proofs.Spelt.{spelt_is_read, written_spells}
use Rattle.trace_table.specs.Trace.{line, trace_at}
use Rattle.scenario.specs.Plan.{Plan, lane, lanes_at, root_keys, plan_at}
use Rattle.scenario.specs.Turns.{turns_at}
use Rattle.law_documents.specs.Traced.{text_items, with_trace, WrittenTracesAreRead}
use Rattle.law_documents.proofs.Adding.{found_there, others_stay, still_known}

-- A chain goes on after a step that gave a value.
onward : {A B : Type 0} (r : Result A Fault) (f : A → Result B Fault) (x : A) (end : Result B Fault) → r ≡ Ok x → f x ≡ end → (r >>= f) ≡ end
onward {A} r f x end is next = subst (λ (s : Result A Fault). (s >>= f) ≡ end) (sym is) next

-- The array of the lines.
text_count : (texts : List (List ℕ)) → item_count (text_items texts) ≡ length texts
text_count [] = refl
text_count (t ∷ ts) = let more = text_count ts in omega (arith, more)

all_text : (texts : List (List ℕ)) → all_items (is_of Text) (text_items texts) ≡ true
all_text [] = refl
all_text (t ∷ ts) = all_text ts

array_read : (path : List ℕ) (texts : List (List ℕ)) → array_of Text path (array (text_items texts)) ≡ Ok (text_items texts)
array_read path texts = ap (λ b. of_kind path (if b then Some (text_items texts) else None)) (all_text texts)

neither : {A : Type 0} (b c : Bool) (x y z : A) → b ≡ false → c ≡ false → (if b then x else if c then y else z) ≡ z
neither true c x y z h g = cc
neither false true x y z h g = cc
neither false false x y z h g = refl

count_read : (most : ℕ) (path : List ℕ) (ds : Items) → item_count ds ≤ most → counted 0 most path ds ≡ Ok ds
count_read most path ds few =
    let many : nat_lt most (item_count ds) ≡ false = grind (arith, nat_tests, few) in
    let short : nat_lt (item_count ds) 0 ≡ false = grind (arith, nat_tests) in
    neither (nat_lt most (item_count ds)) (nat_lt (item_count ds) 0) _ _ (Ok ds) many short

each_read : (path : List ℕ) (n : ℕ) (lines : List TraceLine) → All HoldsLine lines → each line path n (text_items (map trace_text lines)) ≡ Ok lines
each_read path n [] all = refl
each_read path n (l ∷ ls) all =
    let written : read_trace_line (trace_text l) ≡ Some l = spelt_is_read (trace_text l) l (written_spells l (All-head HoldsLine l ls all)) in
    onward (allowed (element_path path n) (pos (length (trace_text l))) (read_trace_line (trace_text l))) _ l (Ok (l ∷ ls))
    (ap (allowed (element_path path n) (pos (length (trace_text l)))) written)
    (onward (each line path (n + 1) (text_items (map trace_text ls))) (λ (others : List TraceLine). Ok (l ∷ others)) ls (Ok (l ∷ ls))
    (each_read path (n + 1) ls (All-tail HoldsLine l ls all)) refl)

lines_read : (most : ℕ) (path : List ℕ) (lines : List TraceLine) → All HoldsLine lines → length (map trace_text lines) ≤ most
    → list_of Text 0 most line path (array (text_items (map trace_text lines))) ≡ Ok lines
lines_read most path lines all few =
    let texts : List (List ℕ) = map trace_text lines in
    let ds : Items = text_items texts in
    let count = text_count texts in
    onward (items_of_kind Text 0 most path (array ds)) (each line path 1) ds (Ok lines)
    (onward (array_of Text path (array ds)) (counted 0 most path) ds (Ok ds) (array_read path texts) (count_read most path ds (omega (arith, count, few))))
    (each_read path 1 lines all)

-- The table of the root.
abbrev at_root : Members → Place
at_root ms = record { path = []; members = ms }

module _ (ms ns : Members) where
  module _ {A : Type 0} (read : Reader A) (key : List ℕ) (e : get_member key ms ≡ get_member key ns) where
    optional_same : optional read key (at_root ms) ≡ optional read key (at_root ns)
    optional_same = ap (if_there read (key_path [] key)) e

    required_same : required read key (at_root ms) ≡ required read key (at_root ns)
    required_same = ap (λ (r : Result (Option A) Fault). r >>= wanted (key_path [] key)) optional_same

    defaulted_same : (x : A) → defaulted x read key (at_root ms) ≡ defaulted x read key (at_root ns)
    defaulted_same x = ap (λ (r : Result (Option A) Fault). r >>= λ o. Ok (unwrap_or o x)) optional_same

  -- All keys but that of the trace have the same values.
  abbrev SameElse : Type 0
  SameElse = (j : List ℕ) → is_eq (slice_cmp nat_cmp j (codes "trace")) ≡ false → get_member j ms ≡ get_member j ns

  config_same : SameElse → config_at (at_root ms) ≡ config_at (at_root ns)
  unfolding config_at
  config_same same =
      ap₂ (λ (r : Result _ Fault) (s : Result _ Fault). r >>= λ exponent. s >>= λ list. Ok (record { exponent = exponent; list = list }))
      (defaulted_same (integer_in 0 4) (codes "exponent") (same (codes "exponent") refl) 2)
      (defaulted_same combinations (codes "combinations") (same (codes "combinations") refl) [])

  -- What the root means with another trace.
  root_read : (p : Plan) (trace : Option (List TraceLine)) → SameElse → trace_at (at_root ms) ≡ Ok trace → plan_at (at_root ns) ≡ Ok p
      → plan_at (at_root ms) ≡ Ok (record p { trace = trace })
  unfolding plan_at
  root_read p trace same is_trace e =
      after (required (integer_in 1 1) (codes "version") (at_root ns)) _ p e (λ version is_version e1.
      after (defaulted FSDI (integer_in 0 FSDI) (codes "fsdi") (at_root ns)) _ p e1 (λ fsdi is_fsdi e2.
      after (config_at (at_root ns)) _ p e2 (λ config is_config e3.
      after (lanes_at (at_root ns)) _ p e3 (λ lanes is_lanes e4.
      after (turns_at (length lanes) (at_root ns)) _ p e4 (λ turns is_turns e5.
      after (trace_at (at_root ns)) _ p e5 (λ old _ e6.
      let made : Plan = record { config = config; fsdi = fsdi; turns = turns; lanes = lanes; trace = old } in
      let new : Plan = record { config = config; fsdi = fsdi; turns = turns; lanes = lanes; trace = trace } in
      let is : made ≡ p = cc in
      subst (λ (q : Plan). plan_at (at_root ms) ≡ Ok (record q { trace = trace })) is
      (onward (required (integer_in 1 1) (codes "version") (at_root ms)) _ version (Ok new)
      (required_same (integer_in 1 1) (codes "version") (same (codes "version") refl) ∙ is_version)
      (onward (defaulted FSDI (integer_in 0 FSDI) (codes "fsdi") (at_root ms)) _ fsdi (Ok new)
      (defaulted_same (integer_in 0 FSDI) (codes "fsdi") (same (codes "fsdi") refl) FSDI ∙ is_fsdi)
      (onward (config_at (at_root ms)) _ config (Ok new) (config_same same ∙ is_config)
      (onward (lanes_at (at_root ms)) _ lanes (Ok new) (required_same (list_of Table 1 LANES lane) (codes "lanes") (same (codes "lanes") refl) ∙ is_lanes)
      (onward (turns_at (length lanes) (at_root ms)) _ turns (Ok new) (defaulted_same (list_of Integer 0 TURNS (integer_in 1 (length lanes))) (codes "turns") (same (codes "turns") refl) [] ∙ is_turns)
      (onward (trace_at (at_root ms)) _ trace (Ok new) is_trace refl))))))))))))

known_place : (place q : Place) (o : Option ℕ) → all_known place o ≡ Ok q → (place ≡ q) × (o ≡ None)
known_place place q None e = (cc, refl)
known_place place q (Some n) e = cc

pub written_traces_are_read_law : WrittenTracesAreRead
written_traces_are_read_law members p lines e all few =
    let texts : List (List ℕ) = map trace_text lines in
    let new : Members = with_trace members texts in
    let count : length texts ≡ length lines = length-map lines trace_text in
    after (place_of root_keys [] members) plan_at p e (λ root is_root e1.
    let known = known_place (at_root members) root (first_unknown root_keys 1 members) is_root in
    let trace : trace_at (at_root new) ≡ Ok (Some lines) =
    ap (if_there (list_of Text 0 TRACE_LINES line) (key_path [] (codes "trace"))) (found_there (codes "trace") (array (text_items texts)) refl members)
    ∙ onward (list_of Text 0 TRACE_LINES line (key_path [] (codes "trace")) (array (text_items texts))) _ lines (Ok (Some lines))
    (lines_read TRACE_LINES (key_path [] (codes "trace")) lines all (omega (arith, count, few))) refl in
    onward (place_of root_keys [] new) plan_at (at_root new) (Ok (record p { trace = Some lines }))
    (ap (all_known (at_root new)) (still_known root_keys (codes "trace") (array (text_items texts)) refl 1 members known.1))
    (root_read new members p (Some lines) (λ j apart. others_stay (codes "trace") (array (text_items texts)) j apart members) trace
    (subst (λ (q : Place). plan_at q ≡ Ok p) (sym known.0) e1)))
