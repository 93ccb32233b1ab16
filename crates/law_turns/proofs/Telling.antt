-- What a lane writes tells of its transactions.
use Rattle.std.proofs.Common.{◌≡◌, ℕ, zero, suc, ◌+◌, Bool, false, List, [], ◌∷◌, ◌++◌, length, length-append, drop, refl, sym, ap, subst, ◌∙◌, append_assoc, append-nil, arith, Option, Some, None}
use Rattle.std.proofs.Math.Seq.{drop-append_seam}
use Rattle.std.proofs.lemmas.Grind.{flat_map-append}
use Rattle.ep_base.specs.Air.Heard.{Ask}
use Rattle.ep_claim.specs.Text.ReportLine.{line_of}
use Rattle.ep_rules.specs.EntryPoint.Event.{Event as EventData}
use Rattle.ep_rules.specs.EntryPoint.Talk.{Talk}
use Rattle.ep_claim.specs.Text.WrittenText.{event_lines, log_lines, lane_text_from}
use Rattle.ep_claim.specs.Lanes.Standing.{started, asked_by, events_of}
use Rattle.ep_claim.specs.Lanes.Exchanges.{Lane, field_answers, or_silence, goes_by, lane_step, lane_after, opened_lane}
use Rattle.law_lane.proofs.Following.{events_grow_law}
use Rattle.ep_claim.specs.Lanes.LaneText.{Job, Going, Piece, opens_by, opens, added_events, trace_part, heard_lane, goes_on, piece_of}
use Rattle.ep_claim.specs.Lanes.WholeRun.{open_probe, is_live, run_after}
use Rattle.ep_claim.specs.Lanes.Pieces.{of_lane, pieces_after}
use Rattle.ep_claim.specs.Lanes.Telling.{jobs_of, job_after, IsOverAt, exchange_by, exchanges_text, job_text, whole_text, AreTold, Stands, LaneTells, KeepsInRun, RunsTell, AreEnds, TellsReport}
use Rattle.law_turns.proofs.Ordering.{Anyhow, anyhow}
use Rattle.law_turns.proofs.Stepping.{times_end, no_going}
use Rattle.law_turns.proofs.Owning.{own_by, own_turn, own_after, own_in_run}

module _ (traced : Bool) (fsdi lane : ℕ) where
  -- ---- one more transaction, and one more exchange

  told_more : (before : List Job) (txn k : ℕ) (done : List ℕ) (j : Job) (n : ℕ) → k ≡ txn + length before → AreTold traced fsdi lane txn before done → IsOverAt fsdi j n
      → AreTold traced fsdi lane txn (before ++ j ∷ []) (done ++ whole_text traced fsdi lane k j n)
  told_more [] txn k done j n is told over =
      let same : k ≡ txn = omega (arith, is) in
      let text = whole_text traced fsdi lane txn j n in (
        n,
        [],
        over,
        ap (λ m. done ++ whole_text traced fsdi lane m j n) same ∙ (ap (λ d. d ++ text) told ∙ sym (append-nil text)),
        refl,
      )
  told_more (b ∷ bs) txn k done j n is (m, rest, ended, text, told) over =
      let new = whole_text traced fsdi lane k j n in (
        m,
        rest ++ new,
        ended,
        ap (λ d. d ++ new) text ∙ append_assoc (whole_text traced fsdi lane txn b m) rest new,
        told_more bs (txn + 1) k rest j n (omega (arith, is)) told over,
      )

  exchanges_more : (txn : ℕ) (talk : Talk) (n : ℕ) (l : Lane) → exchanges_text traced fsdi lane txn talk (suc n) l
      ≡ exchanges_text traced fsdi lane txn talk n l
      ++ exchange_by traced fsdi lane txn talk (lane_after fsdi talk n l) (asked_by fsdi (lane_after fsdi talk n l).standing.doing)
  exchanges_more txn talk zero l = append-nil (exchange_by traced fsdi lane txn talk l (asked_by fsdi l.standing.doing))
  exchanges_more txn talk (suc n) l =
      let now = exchange_by traced fsdi lane txn talk l (asked_by fsdi l.standing.doing) in
      let next = lane_step fsdi talk l in
      let last = exchange_by traced fsdi lane txn talk (lane_after fsdi talk n next) (asked_by fsdi (lane_after fsdi talk n next).standing.doing) in
      ap (λ t. now ++ t) (exchanges_more txn talk n next) ∙ sym (append_assoc now (exchanges_text traced fsdi lane txn talk n next) last)

  -- ---- transactions that are opened

  module _ (jobs : List Job) where
    abbrev Tells : List ℕ → Piece → Type 0
    Tells done p = LaneTells traced fsdi lane jobs (done ++ p.text) p.going

    opens_tell : (js before : List Job) (done : List ℕ) (txn : ℕ) → jobs ≡ before ++ js → txn ≡ length before + 1 → AreTold traced fsdi lane 1 before done
        → Tells done (opens fsdi lane txn js)
    opens_tell [] before done txn all number told =
        subst (λ z. AreTold traced fsdi lane 1 z (done ++ [])) (sym (all ∙ append-nil before)) (subst (λ z. AreTold traced fsdi lane 1 before z) (sym (append-nil done)) told)
    opens_tell (j ∷ js) before done txn all number told =
        let events : List ℕ = event_lines lane txn (events_of j.talk (started j.talk)) in
        let rest = opens fsdi lane (txn + 1) js in
        elim (asked_by fsdi (started j.talk).doing) as (λ (a : Option Ask). asked_by fsdi (started j.talk).doing ≡ a → Tells done (opens_by lane txn j js rest a)) [
          | Some ask ↦ λ e. record {
            before = before;
            job = j;
            count = 0;
            done = done;
            all = all;
            number = number;
            talks = refl;
            made = refl;
            told = told;
            wrote = ap (λ k. done ++ event_lines lane k (events_of j.talk (started j.talk))) number
                ∙ ap (λ t. done ++ t) (sym (append-nil (event_lines lane (length before + 1) (events_of j.talk (started j.talk)))));
          }
          | None ↦ λ e.
              let log : List ℕ = log_lines lane txn j.field.log in
              let whole = whole_text traced fsdi lane txn j 0 in
              let is : whole ≡ events ++ log = ap (λ t. t ++ log) (append-nil events) in
              let size : length (before ++ j ∷ []) ≡ length before + 1 = length-append before (j ∷ []) in
              let told_on : AreTold traced fsdi lane 1 (before ++ j ∷ []) (done ++ whole) = told_more before 1 txn done j 0 (omega (arith, number)) told e in
              let more : Tells (done ++ whole) rest = opens_tell js (before ++ j ∷ []) (done ++ whole) (txn + 1) (all ∙ sym (append_assoc before (j ∷ []) js)) (omega (arith, number, size)) told_on in
              let text : (done ++ whole) ++ rest.text ≡ done ++ ((events ++ log) ++ rest.text) =
              append_assoc done whole rest.text ∙ ap (λ t. done ++ (t ++ rest.text)) is in
              subst (λ t. LaneTells traced fsdi lane jobs t rest.going) text more
        ] refl

    -- ---- an exchange of a transaction

    module _ (before : List Job) (job : Job) (left : List Job) (done : List ℕ) (all : jobs ≡ before ++ job ∷ left) (told : AreTold traced fsdi lane 1 before done) where
      abbrev txn : ℕ
      txn = length before + 1

      abbrev going_at : ℕ → Going
      going_at n = record { txn = txn; talk = job.talk; lane = job_after fsdi job n; left = left }

      abbrev so_far : ℕ → List ℕ
      so_far n = done ++ job_text traced fsdi lane txn job n

      stands_at : (n : ℕ) (text : List ℕ) → text ≡ so_far n → Stands traced fsdi lane jobs text (going_at n)
      stands_at n text e = record { before = before; job = job; count = n; done = done; all = all; number = refl; talks = refl; made = refl; told = told; wrote = e }

      abbrev last_events : ℕ → List ℕ
      last_events n = event_lines lane txn (added_events job.talk (job_after fsdi job n).standing (job_after fsdi job (suc n)).standing)

      -- with an exchange more
      wrote_more : (n : ℕ) (ask : Ask) → asked_by fsdi (job_after fsdi job n).standing.doing ≡ Some ask
          → so_far (suc n) ≡ so_far n ++ (trace_part traced lane ask (or_silence (field_answers ask (job_after fsdi job n).field).0) ++ last_events n)
      wrote_more n ask e =
          let l = job_after fsdi job n in
          let start = opened_lane job.talk job.field in
          let events = event_lines lane txn (events_of job.talk (started job.talk)) in
          let old = exchanges_text traced fsdi lane txn job.talk n start in
          let trace = trace_part traced lane ask (or_silence (field_answers ask l.field).0) in
          let new = trace ++ last_events n in
          let one : exchange_by traced fsdi lane txn job.talk l (asked_by fsdi l.standing.doing) ≡ new =
          ap (λ a. exchange_by traced fsdi lane txn job.talk l a) e
          ∙ ap (λ (m : Lane). trace ++ event_lines lane txn (added_events job.talk l.standing m.standing)) (sym (times_end (lane_step fsdi job.talk) n start)) in
          let both : exchanges_text traced fsdi lane txn job.talk (suc n) start ≡ old ++ new = exchanges_more txn job.talk n start ∙ ap (λ t. old ++ t) one in
          ap (λ t. done ++ (events ++ t)) both ∙ (ap (λ t. done ++ t) (sym (append_assoc events old new)) ∙ sym (append_assoc done (events ++ old) new))

      -- after it the lane waits, or goes on with its next transactions
      goes_tell : (n : ℕ) (head : List ℕ) → so_far (suc n) ≡ so_far n ++ (head ++ last_events n) → (a : Option Ask) → asked_by fsdi (job_after fsdi job (suc n)).standing.doing ≡ a
          → LaneTells traced fsdi lane jobs (so_far n ++ (head ++ (last_events n ++ (goes_on fsdi lane (going_at n) (job_after fsdi job (suc n)) a).text)))
          (goes_on fsdi lane (going_at n) (job_after fsdi job (suc n)) a).going
      goes_tell n head e (Some ask) x =
          stands_at (suc n) (so_far n ++ (head ++ (last_events n ++ []))) (ap (λ t. so_far n ++ (head ++ t)) (append-nil (last_events n)) ∙ sym e)
      goes_tell n head e None x =
          let m = suc n in
          let log : List ℕ = log_lines lane txn (job_after fsdi job m).field.log in
          let rest = opens fsdi lane (txn + 1) left in
          let body = job_text traced fsdi lane txn job m in
          let whole = whole_text traced fsdi lane txn job m in
          let size : length (before ++ job ∷ []) ≡ length before + 1 = length-append before (job ∷ []) in
          let told_on : AreTold traced fsdi lane 1 (before ++ job ∷ []) (done ++ whole) = told_more before 1 txn done job m (omega arith) told x in
          let more : Tells (done ++ whole) rest =
          opens_tell left (before ++ job ∷ []) (done ++ whole) (txn + 1) (all ∙ sym (append_assoc before (job ∷ []) left)) (omega (arith, size)) told_on in
          let parts : done ++ whole ≡ so_far n ++ (head ++ (last_events n ++ log)) =
          sym (append_assoc done body log)
          ∙ (ap (λ t. t ++ log) e ∙ (append_assoc (so_far n) (head ++ last_events n) log ∙ ap (λ t. so_far n ++ t) (append_assoc head (last_events n) log))) in
          let text : (done ++ whole) ++ rest.text ≡ so_far n ++ (head ++ (last_events n ++ (log ++ rest.text))) =
          ap (λ t. t ++ rest.text) parts
          ∙ (append_assoc (so_far n) (head ++ (last_events n ++ log)) rest.text
          ∙ ap (λ t. so_far n ++ t) (append_assoc head (last_events n ++ log) rest.text ∙ ap (λ t. head ++ t) (append_assoc (last_events n) log rest.text))) in
          subst (λ t. LaneTells traced fsdi lane jobs t rest.going) text more

      exchange_tells : (n : ℕ) → Tells (so_far n) (own_turn traced fsdi lane (Some (going_at n)))
      exchange_tells n =
          let l = job_after fsdi job n in
          elim (asked_by fsdi l.standing.doing) as (λ (a : Option Ask). asked_by fsdi l.standing.doing ≡ a → Tells (so_far n) (own_by traced fsdi lane (going_at n) a)) [
            | None ↦ λ e. stands_at n (so_far n ++ []) (append-nil (so_far n))
            | Some ask ↦ λ e.
                let h = or_silence (field_answers ask l.field).0 in
                let trace = trace_part traced lane ask h in
                let heard = heard_lane fsdi job.talk ask h (field_answers ask l.field).1 l in
                let is : job_after fsdi job (suc n) ≡ heard = times_end (lane_step fsdi job.talk) n (opened_lane job.talk job.field) ∙ ap (λ o. goes_by fsdi job.talk o l) e in
                subst (λ (m : Lane). LaneTells traced fsdi lane jobs (so_far n ++ (trace ++ (piece_of fsdi lane (going_at n) m).text)) (piece_of fsdi lane (going_at n) m).going) is
                (goes_tell n trace (wrote_more n ask e) (asked_by fsdi (job_after fsdi job (suc n)).standing.doing) refl)
          ] refl

    -- ---- a turn of the lane by itself

    going : ℕ → Talk → Lane → List Job → Going
    going txn talk l left = record { txn = txn; talk = talk; lane = l; left = left }

    turn_tells : (text : List ℕ) (g : Option Going) → LaneTells traced fsdi lane jobs text g → Tells text (own_turn traced fsdi lane g)
    unfolding going
    turn_tells text None told = subst (λ t. AreTold traced fsdi lane 1 jobs t) (sym (append-nil text)) told
    turn_tells text (Some g) s =
        let at : Going = record { txn = length s.before + 1; talk = s.job.talk; lane = job_after fsdi s.job s.count; left = g.left } in
        let same : at ≡ g =
        sym (ap (λ k. going k g.talk g.lane g.left) s.number
        ∙ (ap (λ t. going (length s.before + 1) t g.lane g.left) s.talks ∙ ap (λ l. going (length s.before + 1) s.job.talk l g.left) s.made)) in
        subst (λ x. Tells text (own_turn traced fsdi lane (Some x))) same
        (subst (λ t. Tells t (own_turn traced fsdi lane (Some at))) (sym s.wrote) (exchange_tells s.before s.job g.left s.done s.all s.told s.count))

    own_tells : (n : ℕ) → LaneTells traced fsdi lane jobs (own_after traced fsdi lane n jobs).text (own_after traced fsdi lane n jobs).going
    own_tells zero = opens_tell jobs [] [] 1 refl refl refl
    own_tells (suc n) =
        let p = own_after traced fsdi lane n jobs in
        subst (λ (q : Piece). LaneTells traced fsdi lane jobs q.text q.going)
        (sym (times_end (λ (q : Piece). record { text = q.text ++ (own_turn traced fsdi lane q.going).text; going = (own_turn traced fsdi lane q.going).going }) n (opens fsdi lane 1 jobs)))
        (turn_tells p.text p.going (own_tells n))

pub keeps_in_run_law : KeepsInRun
keeps_in_run_law traced fsdi turns lanes n lane =
    let jobs = jobs_of 1 lanes lane in
    let own = own_in_run traced fsdi lane turns lanes n in
    subst (λ (p : Piece). LaneTells traced fsdi lane jobs p.text p.going) own.1 (own_tells traced fsdi lane jobs own.0)

pub runs_tell_law : RunsTell
runs_tell_law traced fsdi turns lanes n lane is over =
    let run = run_after traced open_probe fsdi turns tt lanes n in
    let jobs = jobs_of 1 lanes lane in
    let text = of_lane lane (pieces_after traced open_probe fsdi turns tt lanes n) in
    let quiet : Anyhow (is_live run) (length lanes) None = subst (λ t. Anyhow (is_live run) (length lanes) t) over (anyhow (is_live run) (length lanes) run.order) in
    subst (λ g. LaneTells traced fsdi lane jobs text g) (no_going (run.lanes lane) (quiet lane is)) (keeps_in_run_law traced fsdi turns lanes n lane)

-- ---- without a trace

module _ (fsdi lane txn : ℕ) (talk : Talk) where
  abbrev said : Lane → List ℕ
  said l = event_lines lane txn (events_of talk l.standing)

  -- an exchange tells the events that it adds
  exchange_tells_events : (l : Lane) → said l ++ exchange_by false fsdi lane txn talk l (asked_by fsdi l.standing.doing) ≡ said (lane_step fsdi talk l)
  exchange_tells_events l =
      elim (asked_by fsdi l.standing.doing) as (λ (a : Option Ask). asked_by fsdi l.standing.doing ≡ a → said l ++ exchange_by false fsdi lane txn talk l a ≡ said (lane_step fsdi talk l)) [
        | None ↦ λ e. append-nil (said l) ∙ ap (λ o. said (goes_by fsdi talk o l)) (sym e)
        | Some ask ↦ λ e.
            let old = events_of talk l.standing in
            let next = lane_step fsdi talk l in
            let grown = events_grow_law fsdi talk (or_silence (field_answers ask l.field).0) l.standing in
            let is : events_of talk next.standing ≡ old ++ grown.0 = ap (λ o. events_of talk (goes_by fsdi talk o l).standing) e ∙ grown.1 in
            let new : added_events talk l.standing next.standing ≡ grown.0 = ap (λ (x : List EventData). drop (length old) x) is ∙ drop-append_seam old grown.0 in
            ap (λ x. said l ++ event_lines lane txn x) new ∙ (sym (flat_map-append (line_of lane txn) old grown.0) ∙ ap (λ x. event_lines lane txn x) (sym is))
      ] refl

  pub exchanges_tell_events : (n : ℕ) (l : Lane) → said l ++ exchanges_text false fsdi lane txn talk n l ≡ said (lane_after fsdi talk n l)
  exchanges_tell_events zero l = append-nil (said l)
  exchanges_tell_events (suc n) l =
      let next = lane_step fsdi talk l in
      let rest = exchanges_text false fsdi lane txn talk n next in
      let now = exchange_by false fsdi lane txn talk l (asked_by fsdi l.standing.doing) in
      sym (append_assoc (said l) now rest) ∙ (ap (λ t. t ++ rest) (exchange_tells_events l) ∙ exchanges_tell_events n next)

report_from : (fsdi lane : ℕ) (jobs : List Job) (txn : ℕ) (text : List ℕ) → AreTold false fsdi lane txn jobs text
    → (ends : List (List EventData × List (ℕ × List ℕ))) × AreEnds fsdi jobs ends × (text ≡ lane_text_from lane txn ends)
report_from fsdi lane [] first text told = ([], tt, told)
report_from fsdi lane (j ∷ js) first text (n, rest, over, is, told) =
    let l = job_after fsdi j n in
    let more = report_from fsdi lane js (first + 1) rest told in
    let events : job_text false fsdi lane first j n ≡ event_lines lane first (events_of j.talk l.standing) = exchanges_tell_events fsdi lane first j.talk n (opened_lane j.talk j.field) in
    let log : List ℕ = log_lines lane first l.field.log in (
      (events_of j.talk l.standing, l.field.log) ∷ more.0,
      ((n, over, refl, refl), more.1),
      is ∙ (ap (λ t. (t ++ log) ++ rest) events ∙ ap (λ t. (event_lines lane first (events_of j.talk l.standing) ++ log) ++ t) more.2),
    )

pub tells_report_law : TellsReport
tells_report_law fsdi lane jobs text told = report_from fsdi lane jobs 1 text told
