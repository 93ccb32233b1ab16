-- A run that tells its trace and the same run without it, side by side: where their texts differ, and what the second has but for its log.
use Rattle.std.proofs.Common.{◌≡◌, ℕ, zero, suc, ◌+◌, Bool, true, false, not, cond, List, [], ◌∷◌, ◌++◌, length, refl, sym, ap, subst, ◌∙◌, append_assoc, Option, Some, None}
use Rattle.std.specs.List.{concat, filter, flat_map}
use Rattle.std.proofs.lemmas.Grind.{flat_map-append}
use Rattle.std.proofs.lemmas.List.{append-nil}
use Rattle.std.proofs.lemmas.List.Elements.{filter-append}
use Rattle.std.proofs.lemmas.List.Folds.{concat-append}
use Rattle.ep_base.specs.Air.Heard.{Ask, Heard}
use Rattle.ep_rules.specs.EntryPoint.Event.{Event as EventData}
use Rattle.ep_claim.specs.Text.ReportLine.{line_of, log_line}
use Rattle.ep_claim.specs.Text.TraceLine.{TraceLine, trace_line}
use Rattle.ep_claim.specs.Text.WrittenText.{event_lines, log_lines}
use Rattle.ep_claim.specs.Lanes.Ending.{HasEnded}
use Rattle.ep_claim.specs.Lanes.Exchanges.{Lane, field_answers, or_silence}
use Rattle.ep_claim.specs.Lanes.LaneText.{Going, Job, Piece, added_events, goes_on, heard_lane, opens, opens_by, piece_of, trace_part, traced_as}
use Rattle.ep_claim.specs.Lanes.Order.{Order, next_turn}
use Rattle.ep_claim.specs.Lanes.Standing.{asked_by, events_of, started}
use Rattle.ep_claim.specs.Lanes.Steps.{times}
use Rattle.ep_claim.specs.Lanes.WholeRun.{Run, is_live, makes_exchange, open_probe, opened_run, opening_text, run_step, takes_turn, turn_of}
use Rattle.lane_run.specs.OwnTrace.{OneTrace, RunsTellTraces, line_at, line_by, line_in, lines_of, own_lines, own_run}
use Rattle.lane_run.specs.ReportLines.{is_log_line, is_trace_line, lines_in, trace_in, without_log, without_trace}
use Rattle.lane_run.proofs.LineForms.{IsLine, event_line, record_line, traced_line}
use Rattle.lane_run.proofs.Said.{said_after, said_at, said_by, said_first, said_in, said_of, said_on, said_opening}

-- ---- whole lines

-- no line of it goes on in what comes after it
abbrev IsWhole : List ℕ → Type 0
IsWhole text = (rest : List ℕ) → lines_in (text ++ rest) ≡ lines_in text ++ lines_in rest

-- the lines that pass a test
abbrev chosen : (List ℕ → Bool) → List ℕ → List ℕ
chosen test text = concat (filter test (lines_in text))

whole_more : (a b : List ℕ) → IsWhole a → IsWhole b → IsWhole (a ++ b)
whole_more a b wa wb = λ rest.
    ap lines_in (append_assoc a b rest)
    ∙ (wa (b ++ rest)
    ∙ (ap (λ ls. lines_in a ++ ls) (wb rest)
    ∙ (sym (append_assoc (lines_in a) (lines_in b) (lines_in rest)) ∙ ap (λ ls. ls ++ lines_in rest) (sym (wa b)))))

chosen_more : (test : List ℕ → Bool) (a b : List ℕ) → IsWhole a → chosen test (a ++ b) ≡ chosen test a ++ chosen test b
chosen_more test a b wa =
    ap (λ ls. concat (filter test ls)) (wa b)
    ∙ (ap concat (filter-append test (lines_in a) (lines_in b)) ∙ concat-append (filter test (lines_in a)) (filter test (lines_in b)))

module _ (line : List ℕ) (first : (rest : List ℕ) → lines_in (line ++ rest) ≡ line ∷ lines_in rest) where
  one_line : lines_in line ≡ line ∷ []
  one_line = ap lines_in (sym (append-nil line)) ∙ first []

  whole_one : IsWhole line
  whole_one rest = first rest ∙ ap (λ ls. ls ++ lines_in rest) (sym one_line)

  kept : (test : List ℕ → Bool) → test line ≡ true → chosen test line ≡ line
  kept test is =
      ap (λ ls. concat (filter test ls)) one_line ∙ (ap (λ (t : Bool). concat (cond t (line ∷ []) [])) is ∙ append-nil line)

  dropped : (test : List ℕ → Bool) → test line ≡ false → chosen test line ≡ []
  dropped test is = ap (λ ls. concat (filter test ls)) one_line ∙ ap (λ (t : Bool). concat (cond t (line ∷ []) [])) is

-- ---- texts side by side

-- the lines of a trace, where it is told
abbrev told : Bool → List TraceLine → List ℕ
told true lines = flat_map trace_line lines
told false lines = []

told_more : (traced : Bool) (a b : List TraceLine) → told traced (a ++ b) ≡ told traced a ++ told traced b
told_more true a b = flat_map-append trace_line a b
told_more false a b = refl

joined : (a c b d : List ℕ) → a ≡ c → b ≡ d → a ++ b ≡ c ++ d
joined a c b d x y = ap (λ l. l ++ b) x ∙ ap (λ l. c ++ l) y

-- a text with these trace lines, the same without them, and what that has but for its log lines
record Tells (traced : Bool) (text plain said : List ℕ) (lines : List TraceLine) : Type 0 where
  pub whole : IsWhole text
  pub plainly : IsWhole plain
  pub between : without_trace text ≡ plain
  pub left : without_log plain ≡ said
  pub trace : trace_in text ≡ told traced lines

module _ (traced : Bool) where
  more : (t p s u q v : List ℕ) (l m : List TraceLine) → Tells traced t p s l → Tells traced u q v m
      → Tells traced (t ++ u) (p ++ q) (s ++ v) (l ++ m)
  more t p s u q v l m a b = record {
    whole = whole_more t u a.whole b.whole;
    plainly = whole_more p q a.plainly b.plainly;
    between =
        chosen_more (λ line. not (is_trace_line line)) t u a.whole ∙ joined (without_trace t) p (without_trace u) q a.between b.between;
    left = chosen_more (λ line. not (is_log_line line)) p q a.plainly ∙ joined (without_log p) s (without_log q) v a.left b.left;
    trace =
        chosen_more is_trace_line t u a.whole
        ∙ (joined (trace_in t) (told traced l) (trace_in u) (told traced m) a.trace b.trace ∙ sym (told_more traced l m));
  }

  none_told : [] ≡ told traced []
  none_told = elim traced as (λ (b : Bool). [] ≡ told b []) [ true ↦ refl | false ↦ refl ]

  nothing : Tells traced [] [] [] []
  nothing = record { whole = λ rest. refl; plainly = λ rest. refl; between = refl; left = refl; trace = none_told }

  -- a text without trace lines, and what it has but for its log lines
  abbrev Own : List ℕ → List ℕ → Type 0
  Own text said = Tells traced text text said []

  own_more : (t s u v : List ℕ) → Own t s → Own u v → Own (t ++ u) (s ++ v)
  own_more t s u v a b = more t t s u u v [] [] a b

  own_event : (line : List ℕ) → IsLine line false false → Own line line
  own_event line is = record {
    whole = whole_one line is.first;
    plainly = whole_one line is.first;
    between = kept line is.first (λ l. not (is_trace_line l)) (ap not is.trace);
    left = kept line is.first (λ l. not (is_log_line l)) (ap not is.log);
    trace = dropped line is.first is_trace_line is.trace ∙ none_told;
  }

  own_record : (line : List ℕ) → IsLine line true false → Own line []
  own_record line is = record {
    whole = whole_one line is.first;
    plainly = whole_one line is.first;
    between = kept line is.first (λ l. not (is_trace_line l)) (ap not is.trace);
    left = dropped line is.first (λ l. not (is_log_line l)) (ap not is.log);
    trace = dropped line is.first is_trace_line is.trace ∙ none_told;
  }

  own_events : (lane txn : ℕ) (events : List EventData) → Own (event_lines lane txn events) (event_lines lane txn events)
  own_events lane txn [] = nothing
  own_events lane txn (e ∷ events) =
      own_more (line_of lane txn e) (line_of lane txn e) (event_lines lane txn events) (event_lines lane txn events)
      (own_event (line_of lane txn e) (event_line lane txn e)) (own_events lane txn events)

  own_log : (lane txn : ℕ) (log : List (ℕ × List ℕ)) → Own (log_lines lane txn log) []
  own_log lane txn [] = nothing
  own_log lane txn (r ∷ log) =
      own_more (log_line lane txn r) [] (log_lines lane txn log) [] (own_record (log_line lane txn r) (record_line lane txn r)) (own_log lane txn log)

-- the line of an exchange, where a trace is wanted
exchange_told : (traced : Bool) (lane : ℕ) (ask : Ask) (heard : Heard)
    → Tells traced (trace_part traced lane ask heard) [] [] (traced_as lane ask heard ∷ [])
exchange_told false lane ask heard = record { whole = λ rest. refl; plainly = λ rest. refl; between = refl; left = refl; trace = refl }
exchange_told true lane ask heard =
    let line = trace_line (traced_as lane ask heard) in
    let first : (rest : List ℕ) → lines_in (line ++ rest) ≡ line ∷ lines_in rest = λ rest. (traced_line (traced_as lane ask heard) rest).0 in
    let is : is_trace_line line ≡ true = (traced_line (traced_as lane ask heard) []).1 in
    record {
      whole = whole_one line first;
      plainly = λ rest. refl;
      between = dropped line first (λ l. not (is_trace_line l)) (ap not is);
      left = refl;
      trace = kept line first is_trace_line is ∙ sym (append-nil line);
    }

module _ (traced : Bool) (fsdi : ℕ) where
  -- ---- pieces of lanes

  said_as : (text said other : List ℕ) → said ≡ other → Own traced text said → Own traced text other
  said_as text said other e t = subst (λ s. Own traced text s) e t

  opened_by : (lane txn : ℕ) (j : Job) (js : List Job) (rest : Piece) (said : List ℕ) (a : Option Ask) → Own traced rest.text said
      → Own traced (opens_by lane txn j js rest a).text (event_lines lane txn (events_of j.talk (started j.talk)) ++ said_after a said)
  opened_by lane txn j js rest said (Some ask) t =
      let events = event_lines lane txn (events_of j.talk (started j.talk)) in
      said_as events events (events ++ []) (sym (append-nil events)) (own_events traced lane txn (events_of j.talk (started j.talk)))
  opened_by lane txn j js rest said None t =
      let events = event_lines lane txn (events_of j.talk (started j.talk)) in
      let log = log_lines lane txn j.field.log in
      said_as ((events ++ log) ++ rest.text) ((events ++ []) ++ said) (events ++ said) (ap (λ l. l ++ said) (append-nil events))
      (own_more traced (events ++ log) (events ++ []) rest.text said
      (own_more traced events events log [] (own_events traced lane txn (events_of j.talk (started j.talk))) (own_log traced lane txn j.field.log)) t)

  opened_told : (js : List Job) (lane txn : ℕ) → Own traced (opens fsdi lane txn js).text (said_opening fsdi lane txn js)
  opened_told [] lane txn = nothing traced
  opened_told (j ∷ js) lane txn =
      opened_by lane txn j js (opens fsdi lane (txn + 1) js) (said_opening fsdi lane (txn + 1) js) (asked_by fsdi (started j.talk).doing)
      (opened_told js lane (txn + 1))

  all_opened : (lanes : List (List Job)) (first : ℕ) → Own traced (opening_text fsdi first lanes) (said_first fsdi first lanes)
  all_opened [] first = nothing traced
  all_opened (js ∷ rest) first =
      own_more traced (opens fsdi first 1 js).text (said_opening fsdi first 1 js) (opening_text fsdi (first + 1) rest) (said_first fsdi (first + 1) rest)
      (opened_told js first 1) (all_opened rest (first + 1))

  on_told : (lane : ℕ) (g : Going) (l : Lane) (a : Option Ask)
      → Own traced (goes_on fsdi lane g l a).text (said_after a (said_opening fsdi lane (g.txn + 1) g.left))
  on_told lane g l (Some ask) = nothing traced
  on_told lane g l None =
      own_more traced (log_lines lane g.txn l.field.log) [] (opens fsdi lane (g.txn + 1) g.left).text (said_opening fsdi lane (g.txn + 1) g.left)
      (own_log traced lane g.txn l.field.log) (opened_told g.left lane (g.txn + 1))

  piece_told : (lane : ℕ) (g : Going) (l : Lane) → Own traced (piece_of fsdi lane g l).text (said_on fsdi lane g l)
  piece_told lane g l =
      let events = event_lines lane g.txn (added_events g.talk g.lane.standing l.standing) in
      let next = asked_by fsdi l.standing.doing in
      own_more traced events events (goes_on fsdi lane g l next).text (said_after next (said_opening fsdi lane (g.txn + 1) g.left))
      (own_events traced lane g.txn (added_events g.talk g.lane.standing l.standing)) (on_told lane g l next)

  -- ---- two runs

  -- a run with another text
  abbrev retold : List ℕ → Run (Unit {0}) → Run (Unit {0})
  retold text run = record { lanes = run.lanes; order = run.order; probe = run.probe; text = text }

  -- a run, and the same without its trace lines
  record Beside (run plain : Run (Unit {0})) (said : List ℕ) (lines : List TraceLine) : Type 0 where
    pub same : plain ≡ retold plain.text run
    pub tells : Tells traced run.text plain.text said lines

  module _ (run : Run (Unit {0})) (text said : List ℕ) (lines : List TraceLine) (t : Tells traced run.text text said lines) where
    idle : Beside run (retold text run) (said ++ []) (lines ++ [])
    idle = record {
      same = refl;
      tells =
          subst (λ s. Tells traced run.text text s (lines ++ [])) (sym (append-nil said))
          (subst (λ ls. Tells traced run.text text said ls) (sym (append-nil lines)) t);
    }

    by_ask : (n : ℕ) (o : Order) (g : Going) (a : Option Ask)
        → Beside (makes_exchange traced open_probe fsdi n o g a run) (makes_exchange false open_probe fsdi n o g a (retold text run)) (said ++ said_by fsdi n g a)
        (lines ++ line_by n g a)
    by_ask n o g None = idle
    by_ask n o g (Some ask) =
        let heard = or_silence (field_answers ask g.lane.field).0 in
        let then_lane = heard_lane fsdi g.talk ask heard (field_answers ask g.lane.field).1 g.lane in
        let piece = (piece_of fsdi n g then_lane).text in
        record {
          same = refl;
          tells =
              more traced run.text text said (trace_part traced n ask heard ++ piece) piece (said_on fsdi n g then_lane) lines (traced_as n ask heard ∷ []) t
              (more traced (trace_part traced n ask heard) [] [] piece piece (said_on fsdi n g then_lane) (traced_as n ask heard ∷ []) []
              (exchange_told traced n ask heard) (piece_told n g then_lane));
        }

    by_lane : (n : ℕ) (o : Order) (l : Option Going)
        → Beside (turn_of traced open_probe fsdi n o l run) (turn_of false open_probe fsdi n o l (retold text run)) (said ++ said_in fsdi n l) (lines ++ line_in fsdi n l)
    by_lane n o None = idle
    by_lane n o (Some g) = by_ask n o g (asked_by fsdi g.lane.standing.doing)

    by_turn : (turn : Option (ℕ × Order))
        → Beside (takes_turn traced open_probe fsdi turn run) (takes_turn false open_probe fsdi turn (retold text run)) (said ++ said_at fsdi run turn)
        (lines ++ line_at fsdi run turn)
    by_turn None = idle
    by_turn (Some (n, o)) = by_lane n o (run.lanes n)

  module _ (count : ℕ) where
    step_beside : (run plain : Run (Unit {0})) (said : List ℕ) (lines : List TraceLine) → Beside run plain said lines
        → Beside (run_step traced open_probe fsdi count run) (run_step false open_probe fsdi count plain)
        (said ++ said_at fsdi run (next_turn (is_live run) count run.order)) (lines ++ line_at fsdi run (next_turn (is_live run) count run.order))
    step_beside run plain said lines b =
        subst (λ r. Beside (run_step traced open_probe fsdi count run) (run_step false open_probe fsdi count r)
        (said ++ said_at fsdi run (next_turn (is_live run) count run.order)) (lines ++ line_at fsdi run (next_turn (is_live run) count run.order)))
        (sym b.same) (by_turn run plain.text said lines b.tells (next_turn (is_live run) count run.order))

    steps_beside : (n : ℕ) (run plain : Run (Unit {0})) (said : List ℕ) (lines : List TraceLine) → Beside run plain said lines
        → Beside (times (run_step traced open_probe fsdi count) n run) (times (run_step false open_probe fsdi count) n plain)
        (said ++ said_of traced fsdi count n run) (lines ++ lines_of traced fsdi count n run)
    steps_beside zero run plain said lines b =
        subst (λ s. Beside run plain s (lines ++ [])) (sym (append-nil said)) (subst (λ ls. Beside run plain said ls) (sym (append-nil lines)) b)
    steps_beside (suc n) run plain said lines b =
        let next = run_step traced open_probe fsdi count run in
        let turn = next_turn (is_live run) count run.order in
        let after = steps_beside n next (run_step false open_probe fsdi count plain) (said ++ said_at fsdi run turn) (lines ++ line_at fsdi run turn)
        (step_beside run plain said lines b) in
        let last = times (run_step traced open_probe fsdi count) n next in
        let plainly = times (run_step false open_probe fsdi count) n (run_step false open_probe fsdi count plain) in
        subst (λ s. Beside last plainly s (lines ++ (line_at fsdi run turn ++ lines_of traced fsdi count n next)))
        (append_assoc said (said_at fsdi run turn) (said_of traced fsdi count n next))
        (subst (λ ls. Beside last plainly ((said ++ said_at fsdi run turn) ++ said_of traced fsdi count n next) ls)
        (append_assoc lines (line_at fsdi run turn) (lines_of traced fsdi count n next)) after)

-- ---- a run from its opening

-- what a run has of lines of events
abbrev pub own_said : Bool → ℕ → List ℕ → List (List Job) → (n : ℕ) → List ℕ
own_said traced fsdi turns lanes n = said_first fsdi 1 lanes ++ said_of traced fsdi (length lanes) n (opened_run fsdi turns tt lanes)

module _ (traced : Bool) (fsdi : ℕ) (turns : List ℕ) (lanes : List (List Job)) (n : ℕ) where
  beside : Beside traced fsdi (own_run traced fsdi turns lanes n) (own_run false fsdi turns lanes n) (own_said traced fsdi turns lanes n) (own_lines traced fsdi turns lanes n)
  beside =
      let begun = opened_run fsdi turns tt lanes in
      steps_beside traced fsdi (length lanes) n begun begun (said_first fsdi 1 lanes) [] (record { same = refl; tells = all_opened traced fsdi lanes 1 })

  -- its text without its log lines is that
  pub said_is : without_log (own_run false fsdi turns lanes n).text ≡ own_said traced fsdi turns lanes n
  said_is = beside.tells.left

pub runs_tell_traces_law : RunsTellTraces
runs_tell_traces_law fsdi turns lanes n =
    let b = beside true fsdi turns lanes n in
    record {
      over = (λ h. subst (λ r. HasEnded (length lanes) r) (sym b.same) h, λ h. subst (λ r. HasEnded (length lanes) r) b.same h);
      between = b.tells.between;
      trace = b.tells.trace;
    }

-- ---- a run that is over has no more lines

module _ (traced : Bool) (fsdi count : ℕ) where
  none_left : (n : ℕ) (run : Run (Unit {0})) → HasEnded count run → lines_of traced fsdi count n run ≡ []
  none_left zero run over = refl
  none_left (suc n) run over =
      ap (λ t. line_at fsdi run t ++ lines_of traced fsdi count n (takes_turn traced open_probe fsdi t run)) over ∙ none_left n run over

  same_lines : (m n : ℕ) (run : Run (Unit {0})) → HasEnded count (times (run_step traced open_probe fsdi count) m run)
      → HasEnded count (times (run_step traced open_probe fsdi count) n run) → lines_of traced fsdi count m run ≡ lines_of traced fsdi count n run
  same_lines zero n run first second = sym (none_left n run first)
  same_lines (suc m) zero run first second = none_left (suc m) run second
  same_lines (suc m) (suc n) run first second =
      ap (λ ls. line_at fsdi run (next_turn (is_live run) count run.order) ++ ls) (same_lines m n (run_step traced open_probe fsdi count run) first second)

pub one_trace_law : OneTrace
one_trace_law traced fsdi turns lanes m n first second =
    same_lines traced fsdi (length lanes) m n (opened_run fsdi turns tt lanes) first second
