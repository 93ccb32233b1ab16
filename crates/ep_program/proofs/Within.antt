-- The transactions of an accepted document stay within their bounds.
use Rattle.std.proofs.Common.{◌≡◌, ℕ, suc, ◌+◌, ◌<◌, ◌≤◌, ◌==◌, Bool, true, false, List, [], ◌∷◌, ◌++◌, length, map, filter, refl, sym, ap, subst, ◌∙◌, arith, Some}
use Rattle.std.specs.Prelude.{All, if◌then◌else◌}
use Rattle.std.proofs.lemmas.List.{length-map}
use Rattle.std.proofs.lemmas.List.Sums.{length-filter}
use Rattle.std.proofs.lemmas.List.Elements.{All-nil, All-head, All-tail, All-weaker}
use Rattle.ep_rules.specs.EntryPoint.Configuration.{Combination, Config, count_of}
use Rattle.ep_rules.specs.EntryPoint.Kernel.{steps_left, running_left, running_count, scripted}
use Rattle.ep_rules.specs.EntryPoint.PreProcessing.{prepared_one, prepared}
use Rattle.ep_rules.specs.EntryPoint.Bounds.{AtMost, AtMostStarts, log_bound}
use Rattle.law_run.proofs.Bounding.{few_commands_lem, few_starts_lem}
use Rattle.law_run.proofs.Scripting.{scripts_fall_lem}
use Rattle.law_run.proofs.Legal.{scripted_lem}
use Rattle.ep_claim.specs.Lanes.Standing.{Standing, started}
use Rattle.ep_claim.specs.Lanes.Exchanges.{Lane}
use Rattle.ep_claim.specs.Promise.Counts.{heard_in, counts_after, NextFits, IsUnderWay}
use Rattle.ep_claim.specs.Lanes.Counting.{IsBounded, after_hearings, exchanges_most}
use Rattle.ep_claim.specs.Lanes.Ending.{AreOverAfter, LanesOverAfter}
use Rattle.ep_claim.specs.Lanes.LaneText.{Job, Going}
use Rattle.ep_claim.specs.Promise.Logs.{LogFits}
use Rattle.ep_claim.specs.Lanes.Pieces.{of_lane, pieces_after}
use Rattle.ep_claim.specs.Lanes.Telling.{jobs_of, job_after, Stands, LaneTells}
use Rattle.ep_claim.specs.Lanes.WholeRun.{ProbeSteps, open_probe, Run, opened_run, run_after}
use Rattle.law_turns.proofs.Bounding.{transaction_few}
use Rattle.law_turns.proofs.Counted.{bounded_count_law}
use Rattle.law_turns.proofs.Counting.{every_exchange_counts_law}
use Rattle.law_turns.proofs.Ending.{runs_end_within_law}
use Rattle.law_turns.proofs.Logging.{logs_fit_law}
use Rattle.law_turns.proofs.Making.{are_under_way_law}
use Rattle.law_turns.proofs.Telling.{keeps_in_run_law}
use Rattle.lane_run.specs.Works.{preparation}
use Rattle.scenario.specs.Jobs.{job_of, jobs_in, talk_in}
use Rattle.scenario.specs.Scenario.{Work, Scenario}
use Rattle.ep_program.specs.Headline.{IsFresh, IsReady}
use Rattle.ep_claim.specs.Promise.Run.{GivesOn}
use Rattle.ep_claim.specs.Promise.Transaction.{cards_in}
use Rattle.ep_program.specs.Bounded.{commands_most, starts_most, works_of, IsInWork, StaysWithin, exchanges_of, IsBoundedRun, HasFreeRecord, KeepsRecordsFree}
use Rattle.ep_program.proofs.Promising.{opened_after, may_begin}

no_more : (n : ℕ) → n + 0 ≡ n
no_more n = omega arith

-- Pre-Processing leaves as many Combinations as the configuration has of the type.
prepared_count : (settings : Config) (txn_type amount : ℕ) → length (prepared settings txn_type amount) ≡ count_of txn_type settings.list
prepared_count settings txn_type amount =
    length-map (filter (λ (c : Combination). c.txn_type == txn_type) settings.list) (prepared_one settings.exponent amount)
    ∙ length-filter (λ (c : Combination). c.txn_type == txn_type) settings.list

-- ---- the bounds of one transaction

module _ (settings : Config) (fsdi : ℕ) where
  abbrev Begins : Work → Type 0
  Begins w = IsFresh settings fsdi w

  -- the counts of kernels that run no script yet
  restarts_are : (w : Work) → Begins w → scripted.restarts w.scripts ≡ length w.scripts.scripts
  restarts_are w fresh = ap (λ r. length w.scripts.scripts + running_count r) fresh.few.rests ∙ no_more (length w.scripts.scripts)

  steps_are : (w : Work) → Begins w → scripted.commands w.scripts ≡ steps_left w.scripts.scripts
  steps_are w fresh = ap (λ r. steps_left w.scripts.scripts + running_left r) fresh.few.rests ∙ no_more (steps_left w.scripts.scripts)

  commands_are : (w : Work) → Begins w
      → log_bound (scripted.restarts w.scripts) (length (preparation settings w).list) (scripted.commands w.scripts) ≡ commands_most settings w
  commands_are w fresh =
      ap (λ r. log_bound r (length (preparation settings w).list) (scripted.commands w.scripts)) (restarts_are w fresh)
      ∙ (ap (λ n. log_bound (length w.scripts.scripts) n (scripted.commands w.scripts)) (prepared_count settings w.txn_type w.amount)
      ∙ ap (λ b. log_bound (length w.scripts.scripts) (count_of w.txn_type settings.list) b) (steps_are w fresh))

  few_sent : (w : Work) → Begins w → AtMost (commands_most settings w) (talk_in settings w)
  few_sent w fresh =
      let p = preparation settings w in
      subst (λ n. AtMost n (talk_in settings w)) (commands_are w fresh) (few_commands_lem scripted scripts_fall_lem p.txn_type p.amount p.list w.scripts)

  bounded : (w : Work) → Begins w → IsBounded (commands_most settings w) (starts_most w) (talk_in settings w)
  bounded w fresh =
      let p = preparation settings w in
      record {
        legal = scripted_lem p.txn_type p.amount p.list w.scripts fresh.few.sends;
        few_commands = few_sent w fresh;
        few_starts =
            subst (λ n. AtMostStarts (1 + n) (talk_in settings w)) (restarts_are w fresh)
            (few_starts_lem scripted p.txn_type p.amount p.list w.scripts);
        few_rounds = transaction_few scripted p.txn_type p.amount p.list w.scripts;
      }

  abbrev pub KeepsFree : Work → Type 0
  KeepsFree w = (n : ℕ) → LogFits fsdi (commands_most settings w) (job_of settings w) n

  log_fits : (w : Work) → Begins w → KeepsFree w
  log_fits w fresh = λ n.
      logs_fit_law fsdi (job_of settings w) (cards_in (job_of settings w)) (commands_most settings w) n (may_begin settings fsdi w fresh)
      (few_sent w fresh) (subst (λ m. m < w.field.room) (commands_are w fresh) fresh.room)

  -- ---- the transactions of a lane

  -- a list of transactions, as its jobs are parted
  record Parted (works : List Work) (before : List Job) (job : Job) (after : List Job) : Type 0 where
    front : List Work
    one : Work
    rest : List Work
    all : works ≡ front ++ one ∷ rest
    size : length front ≡ length before
    is : job ≡ job_of settings one
    fresh : Begins one

  abbrev head_of : Job → List Job → Job
  head_of j [] = j
  head_of j (k ∷ ks) = k

  abbrev tail_of : List Job → List Job
  tail_of [] = []
  tail_of (k ∷ ks) = ks

  parted : (works : List Work) (before : List Job) (job : Job) (after : List Job) → All Begins works
      → map (job_of settings) works ≡ before ++ job ∷ after → Parted works before job after
  parted [] [] job after fresh e = absurd (let clash : ⊥ = cc in clash)
  parted [] (b ∷ bs) job after fresh e = absurd (let clash : ⊥ = cc in clash)
  parted (w ∷ ws) [] job after fresh e = record {
    front = [];
    one = w;
    rest = ws;
    all = refl;
    size = refl;
    is = sym (ap (λ l. head_of job l) e);
    fresh = All-head Begins w ws fresh;
  }
  parted (w ∷ ws) (b ∷ bs) job after fresh e =
      let x = parted ws bs job after (All-tail Begins w ws fresh) (ap (λ l. tail_of l) e) in
      record {
        front = w ∷ x.front;
        one = x.one;
        rest = x.rest;
        all = ap (λ l. w ∷ l) x.all;
        size = ap suc x.size;
        is = x.is;
        fresh = x.fresh;
      }

  -- the transaction in which a lane is
  abbrev in_work : (works : List Work) (g : Going) (before : List Job) (job : Job) → Parted works before job g.left → g.txn ≡ length before + 1
      → g.talk ≡ job.talk → IsInWork settings works g
  in_work works g before job x number talks =
      let size = x.size in
      record {
        before = x.front;
        work = x.one;
        after = x.rest;
        all = x.all;
        number = omega (arith, number, size);
        talks = talks ∙ ap (λ (j : Job). j.talk) x.is;
      }

  stays_within : (works : List Work) (g : Going) → All Begins works → IsUnderWay fsdi (map (job_of settings) works) g
      → StaysWithin settings fsdi works g
  stays_within works g fresh m =
      let x = parted works m.before m.job g.left fresh m.all in
      let talk = talk_in settings x.one in
      let same : m.job.talk ≡ talk = ap (λ (j : Job). j.talk) x.is in
      let led : g.lane.standing ≡ after_hearings fsdi talk (heard_in g.lane.exchanges) (started talk) =
      m.led ∙ ap (λ t. after_hearings fsdi t (heard_in g.lane.exchanges) (started t)) same in
      record {
        now = in_work works g m.before m.job x m.number m.talks;
        led = led;
        fits =
            subst
            (λ (s : Standing).
            NextFits (commands_most settings x.one) (starts_most x.one) s.doing (counts_after fsdi talk (heard_in g.lane.exchanges)))
            (sym led)
            (bounded_count_law fsdi talk (commands_most settings x.one) (starts_most x.one) (bounded x.one x.fresh) (heard_in g.lane.exchanges));
      }

  has_free_record : (traced : Bool) (lane : ℕ) (text : List ℕ) (works : List Work) (g : Going) → All Begins works
      → Stands traced fsdi lane (map (job_of settings) works) text g → HasFreeRecord settings works g
  has_free_record traced lane text works g fresh m =
      let x = parted works m.before m.job g.left fresh m.all in
      let made : g.lane ≡ job_after fsdi (job_of settings x.one) m.count = m.made ∙ ap (λ j. job_after fsdi j m.count) x.is in
      let fits = log_fits x.one x.fresh m.count in
      record {
        now = in_work works g m.before m.job x m.number m.talks;
        most = subst (λ (l : Lane). length l.field.log ≤ commands_most settings x.one) (sym made) fits.most;
        free = subst (λ (l : Lane). length l.field.log < l.field.room) (sym made) fits.free;
      }

  -- ---- all lanes

  jobs_are : (first lane : ℕ) (lanes : List (List Work)) → jobs_of first (map (λ works. map (job_of settings) works) lanes) lane
      ≡ map (job_of settings) (works_of first lanes lane)
  jobs_are first lane [] = refl
  jobs_are first lane (works ∷ rest) =
      elim (lane == first)
      as (λ b. (if b then map (job_of settings) works else jobs_of (first + 1) (map (λ ws. map (job_of settings) ws) rest) lane)
      ≡ map (job_of settings) (if b then works else works_of (first + 1) rest lane)) [
        | true ↦ refl
        | false ↦ jobs_are (first + 1) lane rest
      ]

  all_begin : (first lane : ℕ) (lanes : List (List Work)) → All (All Begins) lanes → All Begins (works_of first lanes lane)
  all_begin first lane [] fresh = All-nil Begins
  all_begin first lane (works ∷ rest) fresh =
      elim (lane == first) as (λ b. All Begins (if b then works else works_of (first + 1) rest lane)) [
        | true ↦ All-head (All Begins) works rest fresh
        | false ↦ all_begin (first + 1) lane rest (All-tail (All Begins) works rest fresh)
      ]

  abbrev most_of : Work → ℕ
  most_of w = exchanges_most (commands_most settings w) (starts_most w)

  lane_over : (works : List Work) → All Begins works → AreOverAfter fsdi (map (job_of settings) works) (map most_of works)
  lane_over [] fresh = tt
  lane_over (w ∷ ws) fresh = (
    every_exchange_counts_law fsdi (talk_in settings w) (commands_most settings w) (starts_most w) (bounded w (All-head Begins w ws fresh)),
    lane_over ws (All-tail Begins w ws fresh),
  )

  lanes_over : (lanes : List (List Work)) → All (All Begins) lanes
      → LanesOverAfter fsdi (map (λ works. map (job_of settings) works) lanes) (exchanges_of settings lanes)
  lanes_over [] fresh = tt
  lanes_over (works ∷ rest) fresh =
      (lane_over works (All-head (All Begins) works rest fresh), lanes_over rest (All-tail (All Begins) works rest fresh))

pub is_bounded_run : {P : Type 0} (traced : Bool) (steps : ProbeSteps P) (s : Scenario) (p : P) → IsReady s → IsBoundedRun traced steps s p
is_bounded_run traced steps s p ready = record {
  transactions = λ n lane g is.
      stays_within s.config s.fsdi (works_of 1 s.lanes lane) g (all_begin s.config s.fsdi 1 lane s.lanes ready.fresh)
      (subst (λ jobs. IsUnderWay s.fsdi jobs g) (jobs_are s.config s.fsdi 1 lane s.lanes)
      (are_under_way_law steps traced s.fsdi s.turns p (jobs_in s) n lane g is));
  whole =
      runs_end_within_law steps traced s.fsdi s.turns p (jobs_in s) (exchanges_of s.config s.lanes)
      (lanes_over s.config s.fsdi s.lanes ready.fresh);
}

pub keeps_records_free : {P : Type 0} (traced : Bool) (steps : ProbeSteps P) (s : Scenario) (p : P) → IsReady s → GivesOn steps
    → KeepsRecordsFree traced steps s p
keeps_records_free traced steps s p ready gives = record {
  running = λ n lane g is.
      let jobs = jobs_in s in
      let same = opened_after steps gives traced s.fsdi (length jobs) n (opened_run s.fsdi s.turns p jobs) in
      let here : (run_after traced open_probe s.fsdi s.turns tt jobs n).lanes lane ≡ Some g =
      sym (ap (λ (r : Run (Unit {0})). r.lanes lane) same) ∙ is in
      let text = of_lane lane (pieces_after traced open_probe s.fsdi s.turns tt jobs n) in
      let tells : LaneTells traced s.fsdi lane (jobs_of 1 jobs lane) text (Some g) =
      subst (λ o. LaneTells traced s.fsdi lane (jobs_of 1 jobs lane) text o) here (keeps_in_run_law traced s.fsdi s.turns jobs n lane) in
      has_free_record s.config s.fsdi traced lane text (works_of 1 s.lanes lane) g (all_begin s.config s.fsdi 1 lane s.lanes ready.fresh)
      (subst (λ js. Stands traced s.fsdi lane js text g) (jobs_are s.config s.fsdi 1 lane s.lanes) tells);
  logs =
      All-weaker (All (IsFresh s.config s.fsdi)) (All (KeepsFree s.config s.fsdi))
      (λ lane fresh. All-weaker (IsFresh s.config s.fsdi) (KeepsFree s.config s.fsdi) (log_fits s.config s.fsdi) lane fresh)
      s.lanes ready.fresh;
}
