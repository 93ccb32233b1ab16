-- The transactions of an accepted document may begin, and a run of them that was written is served.
use Rattle.std.proofs.Common.{◌≡◌, ℕ, ◌+◌, ◌<◌, ◌≤◌, ◌==◌, ◌*◌, Bool, true, List, [], ◌∷◌, length, map, filter, refl, ap, ◌∙◌, sym, subst, arith}
use Rattle.std.specs.Prelude.{All, Ok}
use Rattle.std.specs.declared.option.Option.{Option}
use Rattle.std.specs.Io.KnownBytes.{Appends}
use Rattle.std.proofs.lemmas.List.{length-map}
use Rattle.std.proofs.lemmas.List.Sums.{length-filter}
use Rattle.std.proofs.lemmas.List.Elements.{All-nil, All-cons, All-head, All-tail, All-weaker, All-map}
use Rattle.ep_rules.specs.EntryPoint.Configuration.{Combination, Config, IsConfig, count_of}
use Rattle.ep_base.specs.Streams.Io.{AppendsPrefix}
use Rattle.ep_base.specs.declared.limits.TheConstants.{LANES, NAMED, TRANSACTIONS}
use Rattle.ep_rules.specs.EntryPoint.Kernel.{steps_left}
use Rattle.ep_rules.specs.EntryPoint.PreProcessing.{prepared_one, prepared}
use Rattle.law_radio.proofs.Finding.{new_field_law}
use Rattle.law_documents.proofs.Meaning.{documents_are_of_bytes_law}
use Rattle.ep_claim.specs.Lanes.LaneText.{Job}
use Rattle.ep_claim.specs.Lanes.WholeRun.{ProbeSteps, Run, opened_run}
use Rattle.toml.specs.Data.{Members}
use Rattle.card_table.specs.Placing.{placed_from}
use Rattle.ep_lanes.specs.Lanes.{Held, new_lanes}
use Rattle.ep_claim.specs.Lanes.Probing.{ProbeAnswers, Tells}
use Rattle.lane_run.specs.Reports.{IsFew, IsNewWork}
use Rattle.ep_claim.specs.Lanes.Ending.{HasEnded, HasRun}
use Rattle.lane_run.specs.Works.{LaneWork, new_work, all_jobs, jobs_of}
use Rattle.scenario.specs.Accepted.{IsLawful, IsLane, IsAccepted}
use Rattle.scenario.specs.Jobs.{job_of, jobs_in}
use Rattle.scenario.specs.Plan.{Transaction, Plan, plan}
use Rattle.scenario.specs.Scenario.{Work, Scenario, room_of, work_of, scenario_of}
use Rattle.ep_program.specs.Headline.{IsFresh, IsReady}
use Rattle.ep_program.specs.Input.{Gives, Opens}
use Rattle.ep_claim.specs.Promise.Run.{GivesOn, HasPromise}
use Rattle.ep_claim.specs.Text.TraceForm.{HoldsLine}
use Rattle.lane_run.specs.OwnTrace.{own_run}
use Rattle.ep_program.specs.RunTrace.{TellsExchanges, exchanges_in}
use Rattle.ep_program.specs.Serve.{Surroundings, IsTextOf, Writes, WritesPart, Reports, Runs}
use Rattle.ep_program.specs.declared.status.Status.{Status}
use Rattle.ep_program.specs.declared.status.Status.TheVariants.{Done, ReadFault, WriteFault, NoMemory, Usage, TooLong, NotToml, BadDocument, Mismatch}
use Rattle.ep_program.proofs.Promising.{MayBegin, may_begin, opened_after, promised}
use Rattle.ep_program.proofs.Traces.{lines_held, tells_exchanges}
use Rattle.ep_program.proofs.Within.{is_bounded_run, keeps_records_free}

-- ---- the transactions of an accepted document may begin

-- Pre-Processing leaves as many Combinations as the configuration has of the type.
prepared_count : (settings : Config) (txn_type amount : ℕ) → length (prepared settings txn_type amount) ≡ count_of txn_type settings.list
prepared_count settings txn_type amount =
    length-map (filter (λ (c : Combination). c.txn_type == txn_type) settings.list) (prepared_one settings.exponent amount)
    ∙ length-filter (λ (c : Combination). c.txn_type == txn_type) settings.list

one_more : (x b : ℕ) → x + b < x + b + 1
one_more x b = omega arith

room_more : (a a' b b' n m : ℕ) → a ≡ a' → b ≡ b' → n ≡ m → (1 + a) * (1 + NAMED * n) + b < (1 + a') * (1 + NAMED * m) + b' + 1
room_more a a' b b' n m ea eb en =
    subst (λ k. (1 + a) * (1 + NAMED * n) + b < (1 + k) * (1 + NAMED * m) + b' + 1) ea
    (subst (λ k. (1 + a) * (1 + NAMED * n) + b < (1 + a) * (1 + NAMED * k) + b' + 1) en
    (subst (λ k. (1 + a) * (1 + NAMED * n) + b < (1 + a) * (1 + NAMED * n) + k + 1) eb (one_more ((1 + a) * (1 + NAMED * n)) b)))

no_more : (n : ℕ) → n + 0 ≡ n
no_more n = omega arith

module _ (settings : Config) (limits : IsConfig settings) (fsdi : ℕ) where
  is_fresh : (t : Transaction) → IsLawful t → IsFresh settings fsdi (work_of settings t)
  is_fresh t lawful = record {
    new = new_field_law (placed_from 1 t.cards) t.presence t.fates (room_of settings t) fsdi lawful.placed lawful.apart lawful.distinct lawful.fates;
    few = record {
      sends = lawful.scripts.sends;
      rests = refl;
      scripts = lawful.scripts.few;
      steps = lawful.scripts.short;
      combinations = limits.list.of_a_type t.txn_type;
    };
    room = room_more _ _ _ _ _ _ (no_more (length t.scripts)) (no_more (steps_left t.scripts)) (prepared_count settings t.txn_type t.amount);
  }

  lane_fresh : (lane : List Transaction) → IsLane lane → All (IsFresh settings fsdi) (map (work_of settings) lane)
  lane_fresh lane is =
      All-map (IsFresh settings fsdi) (work_of settings) lane
      (All-weaker IsLawful (λ t. IsFresh settings fsdi (work_of settings t)) is_fresh lane is.lawful)

lane_short : (settings : Config) (lane : List Transaction) → IsLane lane → length (map (work_of settings) lane) ≤ 64
lane_short settings lane is = subst (λ n. n ≤ TRANSACTIONS) (sym (length-map lane (work_of settings))) is.short

pub is_ready : (members : Members) (p : Plan) → plan members ≡ Ok p → IsAccepted p → IsReady (scenario_of p)
is_ready members p reads accepted = record {
  bytes = documents_are_of_bytes_law members p reads;
  code = accepted.fsdi;
  few = subst (λ n. n ≤ LANES) (sym (length-map p.lanes (λ lane. map (work_of p.config) lane))) accepted.few;
  short =
      All-map (λ lane. length lane ≤ TRANSACTIONS) (λ lane. map (work_of p.config) lane) p.lanes
      (All-weaker IsLane (λ lane. length (map (work_of p.config) lane) ≤ 64) (lane_short p.config) p.lanes accepted.lanes);
  fresh =
      All-map (All (IsFresh p.config p.fsdi)) (λ lane. map (work_of p.config) lane) p.lanes
      (All-weaker IsLane (λ lane. All (IsFresh p.config p.fsdi) (map (work_of p.config) lane))
      (lane_fresh p.config accepted.config p.fsdi) p.lanes accepted.lanes);
}

pub opened_ready : (input : Option (List ℕ)) (s : Scenario) → Opens input s → IsReady s
opened_ready input s opens = let says = opens.1 in subst IsReady (sym says.scene) (is_ready opens.0 says.document says.reads says.accepted)

-- ---- what lanes have to do before their first transactions

map_twice : {A B C : Type 0} (f : A → B) (g : B → C) (xs : List A) → map (λ x. g (f x)) xs ≡ map g (map f xs)
map_twice f g [] = refl
map_twice f g (x ∷ xs) = ap (λ l. g (f x) ∷ l) (map_twice f g xs)

module _ (settings : Config) (fsdi : ℕ) where
  abbrev IsShort : List Work → Type 0
  IsShort lane = length lane ≤ TRANSACTIONS

  new_lane_work : (lane : List Work) → IsShort lane → All (IsFresh settings fsdi) lane → IsNewWork settings (new_work lane)
  new_lane_work lane short fresh = record {
    none = refl;
    first = refl;
    short = short;
    few = All-weaker (IsFresh settings fsdi) (IsFew settings) (λ w is. is.few) lane fresh;
  }

  pub new_works : (lanes : List (List Work)) → All IsShort lanes → All (All (IsFresh settings fsdi)) lanes
      → All (IsNewWork settings) (map new_work lanes)
  new_works [] short fresh = All-nil (IsNewWork settings)
  new_works (lane ∷ rest) short fresh =
      All-cons (IsNewWork settings) (new_work lane) (map new_work rest)
      (new_lane_work lane (All-head IsShort lane rest short) (All-head (All (IsFresh settings fsdi)) lane rest fresh))
      (new_works rest (All-tail IsShort lane rest short) (All-tail (All (IsFresh settings fsdi)) lane rest fresh))

-- What is to be done by lanes of this kind, each of which holds a list of transactions.
module _ {V : Type 0} (items : V → List Work) (settings : Config) (lanes : List V) (works : List LaneWork)
    (is : works ≡ map (λ lane. new_work (items lane)) lanes) where
  pub works_are_new : (fsdi : ℕ) → All (λ lane. length lane ≤ TRANSACTIONS) (map items lanes) → All (All (IsFresh settings fsdi)) (map items lanes)
      → All (IsNewWork settings) works
  works_are_new fsdi short fresh =
      subst (All (IsNewWork settings)) (sym (is ∙ map_twice items new_work lanes)) (new_works settings fsdi (map items lanes) short fresh)

  pub jobs_to_come : all_jobs settings works ≡ map (λ lane. map (job_of settings) lane) (map items lanes)
  jobs_to_come = ap (all_jobs settings) (is ∙ map_twice items new_work lanes) ∙ sym (map_twice new_work (jobs_of settings) (map items lanes))

pub all_map : {A B : Type 0} (f : A → B) (P : B → Type 0) (xs : List A) → All P (map f xs) → All (λ x. P (f x)) xs
all_map f P [] all = All-nil (λ x. P (f x))
all_map f P (x ∷ xs) all = All-cons (λ y. P (f y)) x xs (All-head P (f x) (map f xs) all) (all_map f P xs (All-tail P (f x) (map f xs) all))

-- Lanes that were just opened are new for any equal count, with their own turn list.
pub opened_new : {S : Type 0} (held : Held S) (n m : ℕ) (turns : List ℕ) → held ≡ new_lanes n turns → n ≡ m → held ≡ new_lanes m held.order.turns
opened_new {S} held n m turns is same =
    is ∙ (ap (λ k. new_lanes k turns) same ∙ ap (λ ts. new_lanes m ts) (sym (ap (λ (h : Held S). h.order.turns) is)))

-- ---- a run that was written is served

module _ (settings : Config) (fsdi : ℕ) where
  jobs_begin : (lane : List Work) → All (IsFresh settings fsdi) lane → All (MayBegin fsdi) (map (job_of settings) lane)
  jobs_begin lane fresh =
      All-map (MayBegin fsdi) (job_of settings) lane
      (All-weaker (IsFresh settings fsdi) (λ w. MayBegin fsdi (job_of settings w)) (may_begin settings fsdi) lane fresh)

  lanes_begin : (lanes : List (List Work)) → All (All (IsFresh settings fsdi)) lanes
      → All (All (MayBegin fsdi)) (map (λ lane. map (job_of settings) lane) lanes)
  lanes_begin lanes fresh =
      All-map (All (MayBegin fsdi)) (λ lane. map (job_of settings) lane) lanes
      (All-weaker (All (IsFresh settings fsdi)) (λ lane. All (MayBegin fsdi) (map (job_of settings) lane)) jobs_begin lanes fresh)

-- A run that tells its trace, with a probe that gives on what it gets.
trace_told : {P : Type 0} (steps : ProbeSteps P) (traced : Bool) (s : Scenario) (p : P) (text : List ℕ) (q : P) → IsReady s
    → HasRun traced steps s.fsdi s.turns p (jobs_in s) text q → GivesOn steps → traced ≡ true → TellsExchanges s text
trace_told {P} steps traced s p text q ready run gives is =
    let lanes = jobs_in s in
    let whole : HasRun true steps s.fsdi s.turns p lanes text q = subst (λ (b : Bool). HasRun b steps s.fsdi s.turns p lanes text q) is run in
    let same = opened_after steps gives true s.fsdi (length lanes) whole.exchanges (opened_run s.fsdi s.turns p lanes) in
    let few : length lanes ≤ LANES = subst (λ n. n ≤ LANES) (sym (length-map s.lanes (λ lane. map (job_of s.config) lane))) ready.few in
    let over : HasEnded (length lanes) (own_run true s.fsdi s.turns lanes whole.exchanges) =
    subst (λ (r : Run (Unit {0})). HasEnded (length lanes) r) same whole.over in
    subst (λ t. TellsExchanges s t) (sym (whole.text_is ∙ ap (λ (r : Run (Unit {0})). r.text) same))
    (tells_exchanges s ready.code few (lanes_begin s.config s.fsdi s.lanes ready.fresh) ready.bytes whole.exchanges over)

-- Its exchanges can be held by trace lines.
pub exchanges_held : (s : Scenario) → IsReady s → (n : ℕ) → All HoldsLine (exchanges_in s n)
exchanges_held s ready n =
    let few : length (jobs_in s) ≤ LANES = subst (λ k. k ≤ LANES) (sym (length-map s.lanes (λ lane. map (job_of s.config) lane))) ready.few in
    lines_held s ready.code few (lanes_begin s.config s.fsdi s.lanes ready.fresh) ready.bytes n

pub is_text : {P : Type 0} (steps : ProbeSteps P) (traced : Bool) (s : Scenario) (p : P) (text : List ℕ) (q : P) → IsReady s
    → HasRun traced steps s.fsdi s.turns p (jobs_in s) text q
    → IsTextOf steps traced s p text q
is_text steps traced s p text q ready run = record {
  run = run;
  bounded = is_bounded_run traced steps s p ready;
  free = λ gives. keeps_records_free traced steps s p ready gives;
  promise = λ gives.
      subst (λ t. HasPromise traced s.fsdi s.turns (jobs_in s) t) (sym run.text_is)
      (promised steps traced s.fsdi s.turns p (jobs_in s) run.exchanges gives (lanes_begin s.config s.fsdi s.lanes ready.fresh) run.over);
  trace = λ gives is. trace_told steps traced s p text q ready run gives is;
}

module _ {P : Type 0} (answers : ProbeAnswers P) (traced : Bool) (s : Scenario) (ready : IsReady s) (before after : Surroundings P) where
  abbrev pub RunsTo : List ℕ → List (List Job) → Type 0
  RunsTo turns jobs =
      (steps : ProbeSteps P) → Tells answers steps →
      (text : List ℕ) × HasRun traced steps s.fsdi turns before.probe jobs text after.probe × Appends before.written after.written text

  abbrev pub RunsToPart : List ℕ → List (List Job) → Type 0
  RunsToPart turns jobs =
      (steps : ProbeSteps P) → Tells answers steps →
      (text : List ℕ) × (q : P) × HasRun traced steps s.fsdi turns before.probe jobs text q × AppendsPrefix before.written after.written text

  pub writes : (turns : List ℕ) (jobs : List (List Job)) → turns ≡ s.turns → jobs ≡ jobs_in s → RunsTo turns jobs
      → Writes answers traced s before after
  writes turns jobs same_turns same_jobs run = λ steps tells.
      let whole : RunsTo s.turns (jobs_in s) = subst (λ js. RunsTo s.turns js) same_jobs (subst (λ ts. RunsTo ts jobs) same_turns run) in
      let (text, has, appended) = whole steps tells in
      (text, is_text steps traced s before.probe text after.probe ready has, appended)

  pub writes_part : (turns : List ℕ) (jobs : List (List Job)) → turns ≡ s.turns → jobs ≡ jobs_in s → RunsToPart turns jobs
      → WritesPart answers traced s before after
  writes_part turns jobs same_turns same_jobs run = λ steps tells.
      let part : RunsToPart s.turns (jobs_in s) = subst (λ js. RunsToPart s.turns js) same_jobs (subst (λ ts. RunsToPart ts jobs) same_turns run) in
      let (text, q, has, appended) = part steps tells in
      (text, q, is_text steps traced s before.probe text q ready has, appended)

module _ {P : Type 0} (answers : ProbeAnswers P) (traced : Bool) (input : Option (List ℕ)) (before after : Surroundings P) where
  of_plan : (p : Plan) → Gives input p → (status : Status) → Runs answers traced (scenario_of p) before after status
      → Reports answers traced input before after status
  of_plan p gives Done r = (p, gives, r)
  of_plan p gives ReadFault r = absurd r
  of_plan p gives WriteFault r = (p, gives, r)
  of_plan p gives NoMemory r = (tt, r)
  of_plan p gives Usage r = absurd r
  of_plan p gives TooLong r = absurd r
  of_plan p gives NotToml r = absurd r
  of_plan p gives (BadDocument f) r = absurd r
  of_plan p gives (Mismatch m) r = absurd r

  -- A scenario that was read and run is reported.
  pub reported : (s : Scenario) → Opens input s → (status : Status) → Runs answers traced s before after status
      → Reports answers traced input before after status
  reported s opens status r =
      let says = opens.1 in
      of_plan says.document (opens.0, says.reads, opens.2) status (subst (λ (t : Scenario). Runs answers traced t before after status) says.scene r)
