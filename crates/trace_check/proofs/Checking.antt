-- The check goes through a trace line by line.
use Rattle.std.proofs.Common.{◌≡◌, ◌≢◌, ℕ, suc, ◌+◌, ◌-◌, ◌<◌, ◌≤◌, ◌==◌, Bool, true, false, List, [], ◌∷◌, ◌++◌, length, map, take, drop, get_or, add-one, length-take, Option, Some, None, refl, sym, ap, ◌∙◌, subst, ⊎_elim, arith, append-nil, append_assoc, All}
use Rattle.std.specs.Prelude.{if◌then◌else◌, slice_index_or}
use Rattle.std.proofs.lemmas.Bool.{eq-eqb}
use Rattle.std.proofs.lemmas.Bool.Decides.{eqb_tells, leb_tells}
use Rattle.std.proofs.lemmas.List.Elements.{All-nil, All-cons, All-head, All-tail}
use Rattle.std.proofs.Math.ListN.{drop_of_length-le}
use Rattle.std.proofs.Math.Seq.{take-suc, drop-cons}
use Rattle.std.proofs.lemmas.List.{take-append-drop, map-append, length-map}
use Rattle.ep_base.specs.declared.limits.TheConstants.{LANES}
use Rattle.ep_claim.specs.Text.TraceLine.{TraceLine}
use Rattle.trace_io.specs.declared.line.TraceLine.{TraceLine as Declared}
use Rattle.trace_io.specs.Meaning.{traced_of}
use Rattle.trace_check.specs.Lines.{Line, line_of, lines_of}
use Rattle.trace_check.specs.Allowed.{IsCut, IsAllowed}
use Rattle.trace_check.specs.Verdicts.{HasLane, AreAllowed, lines_to, IsFirstBad, IsRule, Names}
use Rattle.trace_check.specs.declared.verdict.Rule.{Rule}
use Rattle.trace_check.specs.declared.watch.Watch.{Watch}
use Rattle.trace_check.specs.declared.watch.Watch.TheVariants as Watching
use Rattle.trace_check.specs.Watch.{steps, rule_of}
use Rattle.trace_check.proofs.Running.{runs, IsGoing, going_allowed}
use Rattle.trace_check.proofs.Ruling.{last_line, line_going, rule_is}

-- ---- lines of a lane

with_first : (lane : ℕ) (b : Bool) (x : TraceLine) (xs ys : List TraceLine) → lines_of lane (xs ++ ys) ≡ lines_of lane xs ++ lines_of lane ys
    → (if b then line_of x ∷ lines_of lane (xs ++ ys) else lines_of lane (xs ++ ys)) ≡ (if b then line_of x ∷ lines_of lane xs else lines_of lane xs) ++ lines_of lane ys
with_first lane true x xs ys e = ap (λ (l : List Line). line_of x ∷ l) e
with_first lane false x xs ys e = e

pub lines_append : (lane : ℕ) (xs ys : List TraceLine) → lines_of lane (xs ++ ys) ≡ lines_of lane xs ++ lines_of lane ys
lines_append lane [] ys = refl
lines_append lane (x ∷ xs) ys = with_first lane (x.sent.lane == lane) x xs ys (lines_append lane xs ys)

own_first : (x : TraceLine) (xs : List TraceLine) → lines_of x.sent.lane (x ∷ xs) ≡ line_of x ∷ lines_of x.sent.lane xs
own_first x xs = ap (λ (b : Bool). if b then line_of x ∷ lines_of x.sent.lane xs else lines_of x.sent.lane xs) (eq-eqb x.sent.lane x.sent.lane refl)

other_first : (lane : ℕ) (x : TraceLine) (xs : List TraceLine) → x.sent.lane ≢ lane → lines_of lane (x ∷ xs) ≡ lines_of lane xs
other_first lane x xs differ =
    ⊎_elim
    (λ h. absurd (differ h.1))
    (λ h. ap (λ (b : Bool). if b then line_of x ∷ lines_of lane xs else lines_of lane xs) h.0)
    (eqb_tells x.sent.lane lane)

no_lines : (lane : ℕ) (xs : List TraceLine) → ((1 ≤ lane) × (lane ≤ LANES) → ⊥) → All HasLane xs → lines_of lane xs ≡ []
no_lines lane [] out all = refl
no_lines lane (x ∷ xs) out all =
    let here : HasLane x = All-head HasLane x xs all in
    other_first lane x xs (λ same. out (subst (λ (n : ℕ). (1 ≤ n) × (n ≤ LANES)) same here)) ∙ no_lines lane xs out (All-tail HasLane x xs all)

pub up_to : (before after : List TraceLine) (l : TraceLine) → lines_of l.sent.lane (before ++ l ∷ after) ≡ lines_to before l ++ lines_of l.sent.lane after
up_to before after l =
    lines_append l.sent.lane before (l ∷ after) ∙ ap (λ (x : List Line). lines_of l.sent.lane before ++ x) (own_first l after)
    ∙ sym (append_assoc (lines_of l.sent.lane before) (line_of l ∷ []) (lines_of l.sent.lane after))

pub has_at : (earlier between : List TraceLine) (m : TraceLine) → All HasLane (earlier ++ m ∷ between) → HasLane m
has_at [] between m all = All-head HasLane m between all
has_at (x ∷ xs) between m all = has_at xs between m (All-tail HasLane x (xs ++ m ∷ between) all)

module _ (fsdi : ℕ) where
  -- a first part of allowed lines is allowed
  first_allowed : (xs ys : List Line) → IsAllowed fsdi (xs ++ ys) → IsAllowed fsdi xs
  first_allowed xs ys a = (ys ++ a.0, subst (λ (l : List Line). IsCut fsdi l) (append_assoc xs ys a.0) a.1)

  -- where each lane stands after these lines
  abbrev pub Watched : List TraceLine → List Watch → Type 0
  Watched before ws = (lane : ℕ) → 1 ≤ lane → lane ≤ LANES → runs fsdi (Some Watching.Ready) (lines_of lane before) ≡ Some (slice_index_or ws (lane - 1) Watching.Ready)

  pub watched_first : (ws : List Watch) → ((k : ℕ) → slice_index_or ws k Watching.Ready ≡ Watching.Ready) → Watched [] ws
  watched_first ws ready lane least most = ap (λ (w : Watch). Some w) (sym (ready (lane - 1)))

  pub watched_next : (before : List TraceLine) (l : TraceLine) (old new : List Watch) → HasLane l → Watched before old
      → steps fsdi (slice_index_or old (l.sent.lane - 1) Watching.Ready) (line_of l) ≡ Some (slice_index_or new (l.sent.lane - 1) Watching.Ready)
      → ((k : ℕ) → k ≢ l.sent.lane - 1 → slice_index_or new k Watching.Ready ≡ slice_index_or old k Watching.Ready) → Watched (before ++ l ∷ []) new
  watched_next before l old new has w step others lane least most =
      ⊎_elim
      (λ h.
      let same : l.sent.lane ≡ lane = h.1 in
      subst (λ (n : ℕ). runs fsdi (Some Watching.Ready) (lines_of n (before ++ l ∷ [])) ≡ Some (slice_index_or new (n - 1) Watching.Ready)) same
      (ap (runs fsdi (Some Watching.Ready)) (up_to before [] l ∙ append-nil (lines_to before l))
      ∙ last_line fsdi (lines_of l.sent.lane before) (slice_index_or old (l.sent.lane - 1) Watching.Ready) (line_of l) (w l.sent.lane has.0 has.1) ∙ step))
      (λ h.
      let differ : l.sent.lane ≢ lane = h.1 in
      let place : lane - 1 ≢ l.sent.lane - 1 = omega (arith, has.0, least) in
      ap (runs fsdi (Some Watching.Ready)) (lines_append lane before (l ∷ []) ∙ ap (λ (x : List Line). lines_of lane before ++ x) (other_first lane l [] differ) ∙ append-nil (lines_of lane before))
      ∙ w lane least most ∙ ap (λ (x : Watch). Some x) (sym (others (lane - 1) place)))
      (eqb_tells l.sent.lane lane)

  going_some : (o : Option Watch) (w : Watch) → o ≡ Some w → IsGoing o
  going_some o w e = subst IsGoing (sym e) tt

  lane_allowed : (before : List TraceLine) (ws : List Watch) (lane : ℕ) → Watched before ws → 1 ≤ lane → lane ≤ LANES → IsAllowed fsdi (lines_of lane before)
  lane_allowed before ws lane w least most =
      going_allowed fsdi (lines_of lane before) (going_some (runs fsdi (Some Watching.Ready) (lines_of lane before)) (slice_index_or ws (lane - 1) Watching.Ready) (w lane least most))

  none_allowed : (ls : List Line) → ls ≡ [] → IsAllowed fsdi ls
  none_allowed ls e = going_allowed fsdi ls (subst (λ (l : List Line). IsGoing (runs fsdi (Some Watching.Ready) l)) (sym e) tt)

  pub all_allowed : (trace : List TraceLine) (ws : List Watch) → All HasLane trace → Watched trace ws → AreAllowed fsdi trace
  all_allowed trace ws all w lane =
      ⊎_elim
      (λ least. ⊎_elim
      (λ most. lane_allowed trace ws lane w least.1 most.1)
      (λ more. none_allowed (lines_of lane trace) (no_lines lane trace (λ h. omega (arith, h.1, more.1)) all))
      (leb_tells lane LANES))
      (λ none. none_allowed (lines_of lane trace) (no_lines lane trace (λ h. omega (arith, h.0, none.1)) all))
      (leb_tells 1 lane)

  module _ (before after : List TraceLine) (l : TraceLine) (ws : List Watch) (all : All HasLane before) (has : HasLane l) (w : Watched before ws)
      (none : steps fsdi (slice_index_or ws (l.sent.lane - 1) Watching.Ready) (line_of l) ≡ None) where
    bad : IsAllowed fsdi (lines_to before l) → ⊥
    bad a =
        subst IsGoing none
        (line_going fsdi (lines_of l.sent.lane before) (slice_index_or ws (l.sent.lane - 1) Watching.Ready) (line_of l) (w l.sent.lane has.0 has.1) a)

    earlier_allowed : (earlier between : List TraceLine) (m : TraceLine) → before ≡ earlier ++ m ∷ between → IsAllowed fsdi (lines_to earlier m)
    earlier_allowed earlier between m parts =
        let here : HasLane m = has_at earlier between m (subst (All HasLane) parts all) in
        first_allowed (lines_to earlier m) (lines_of m.sent.lane between)
        (subst (IsAllowed fsdi) (ap (lines_of m.sent.lane) parts ∙ up_to earlier between m) (lane_allowed before ws m.sent.lane w here.0 here.1))

    pub first_bad : IsFirstBad fsdi before l
    first_bad = record { bad = bad; first = earlier_allowed }

    pub not_allowed : (trace : List TraceLine) → trace ≡ before ++ l ∷ after → AreAllowed fsdi trace → ⊥
    not_allowed trace parts a =
        bad (first_allowed (lines_to before l) (lines_of l.sent.lane after) (subst (IsAllowed fsdi) (ap (lines_of l.sent.lane) parts ∙ up_to before after l) (a l.sent.lane)))

-- ---- a slice of lines

pub parts_at : (xs : List Declared) (i : ℕ) (x : Declared) → i < length xs → x ≡ get_or xs i x → map traced_of xs ≡ map traced_of (take i xs) ++ traced_of x ∷ map traced_of (drop (suc i) xs)
parts_at xs i x small is =
    let rest : drop i xs ≡ x ∷ drop (suc i) xs = drop-cons xs i x small ∙ ap (λ (y : Declared). y ∷ drop (suc i) xs) (sym is) in
    ap (map traced_of) (sym (take-append-drop i xs) ∙ ap (λ (l : List Declared). take i xs ++ l) rest) ∙ map-append traced_of (take i xs) (x ∷ drop (suc i) xs)

pub next_at : (xs : List Declared) (i : ℕ) (x : Declared) → i < length xs → x ≡ get_or xs i x → map traced_of (take (i + 1) xs) ≡ map traced_of (take i xs) ++ traced_of x ∷ []
next_at xs i x small is =
    ap (λ (n : ℕ). map traced_of (take n xs)) (add-one i) ∙ ap (map traced_of) (take-suc xs i x small ∙ ap (λ (y : Declared). take i xs ++ y ∷ []) (sym is)) ∙ map-append traced_of (take i xs) (x ∷ [])

pub has_of : (xs : List Declared) (i : ℕ) (x : Declared) → i < length xs → x ≡ get_or xs i x → All HasLane (map traced_of xs) → HasLane (traced_of x)
has_of xs i x small is all = has_at (map traced_of (take i xs)) (map traced_of (drop (suc i) xs)) (traced_of x) (subst (All HasLane) (parts_at xs i x small is) all)

pub all_before : (xs ys : List TraceLine) → All HasLane (xs ++ ys) → All HasLane xs
all_before [] ys all = All-nil HasLane
all_before (x ∷ xs) ys all = All-cons HasLane x xs (All-head HasLane x (xs ++ ys) all) (all_before xs ys (All-tail HasLane x (xs ++ ys) all))

pub place_at : (xs : List Declared) (i : ℕ) → i < length xs → i + 1 ≡ length (map traced_of (take i xs)) + 1
place_at xs i small = omega (arith, length-map (take i xs) traced_of, length-take i xs)

-- the verdict on a bad line
pub names_at : (fsdi : ℕ) (xs : List Declared) (i : ℕ) (x : Declared) (ws : List Watch) (lane : ℕ) (rule : Rule) → i < length xs → x ≡ get_or xs i x → All HasLane (map traced_of xs)
    → Watched fsdi (map traced_of (take i xs)) ws → steps fsdi (slice_index_or ws (x.sent.lane - 1) Watching.Ready) (line_of (traced_of x)) ≡ None
    → lane ≡ x.sent.lane → rule ≡ rule_of fsdi (slice_index_or ws (x.sent.lane - 1) Watching.Ready) (line_of (traced_of x))
    → Names fsdi (map traced_of xs) (record { place = i + 1; lane = lane; rule = rule })
names_at fsdi xs i x ws lane rule small is all w none same rules =
    let before : List TraceLine = map traced_of (take i xs) in
    let after : List TraceLine = map traced_of (drop (suc i) xs) in
    let parts : map traced_of xs ≡ before ++ traced_of x ∷ after = parts_at xs i x small is in
    let has : HasLane (traced_of x) = has_of xs i x small is all in
    let here : All HasLane before = all_before before (traced_of x ∷ after) (subst (All HasLane) parts all) in
    record {
      before = before;
      line = traced_of x;
      after = after;
      parts = parts;
      bad = first_bad fsdi before after (traced_of x) ws here has w none;
      place = place_at xs i small;
      lane = same;
      rule =
          subst (IsRule fsdi (lines_of x.sent.lane before) (line_of (traced_of x))) (sym rules)
          (rule_is fsdi (lines_of x.sent.lane before) (slice_index_or ws (x.sent.lane - 1) Watching.Ready) (line_of (traced_of x)) (w x.sent.lane has.0 has.1));
    }

pub refused_at : (fsdi : ℕ) (xs : List Declared) (i : ℕ) (x : Declared) (ws : List Watch) → i < length xs → x ≡ get_or xs i x → All HasLane (map traced_of xs)
    → Watched fsdi (map traced_of (take i xs)) ws → steps fsdi (slice_index_or ws (x.sent.lane - 1) Watching.Ready) (line_of (traced_of x)) ≡ None → AreAllowed fsdi (map traced_of xs) → ⊥
refused_at fsdi xs i x ws small is all w none =
    let before : List TraceLine = map traced_of (take i xs) in
    let after : List TraceLine = map traced_of (drop (suc i) xs) in
    let parts : map traced_of xs ≡ before ++ traced_of x ∷ after = parts_at xs i x small is in
    not_allowed fsdi before after (traced_of x) ws (all_before before (traced_of x ∷ after) (subst (All HasLane) parts all)) (has_of xs i x small is all) w none (map traced_of xs) parts

pub watched_at : (fsdi : ℕ) (xs : List Declared) (i : ℕ) (x : Declared) (old new : List Watch) → i < length xs → x ≡ get_or xs i x → All HasLane (map traced_of xs)
    → Watched fsdi (map traced_of (take i xs)) old
    → steps fsdi (slice_index_or old (x.sent.lane - 1) Watching.Ready) (line_of (traced_of x)) ≡ Some (slice_index_or new (x.sent.lane - 1) Watching.Ready)
    → ((k : ℕ) → k ≢ x.sent.lane - 1 → slice_index_or new k Watching.Ready ≡ slice_index_or old k Watching.Ready) → Watched fsdi (map traced_of (take (i + 1) xs)) new
watched_at fsdi xs i x old new small is all w step others =
    subst (λ (l : List TraceLine). Watched fsdi l new) (sym (next_at xs i x small is))
    (watched_next fsdi (map traced_of (take i xs)) (traced_of x) old new (has_of xs i x small is all) w step others)

pub taken_all : (xs : List Declared) (i : ℕ) → length xs ≤ i → map traced_of (take i xs) ≡ map traced_of xs
taken_all xs i large =
    ap (map traced_of) (sym (append-nil (take i xs)) ∙ ap (λ (l : List Declared). take i xs ++ l) (sym (drop_of_length-le xs large)) ∙ take-append-drop i xs)
