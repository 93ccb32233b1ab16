-- A run's text grows, a run that is over stays, and the runs of short lanes end.
use Rattle.std.proofs.Common.{◌≡◌, ℕ, ◌+◌, ◌-◌, ◌*◌, ◌≤◌, Bool, List, [], ◌∷◌, length, All, refl, sym, ap, subst, ◌∙◌, arith}
use Rattle.std.specs.Prelude.{sum}
use Rattle.std.proofs.Math.Nat.{mul-le-mul_right}
use Rattle.std.proofs.lemmas.Nat.{mul-le}
use Rattle.std.proofs.lemmas.List.Elements.{All-head, All-tail}
use Rattle.std.proofs.lemmas.List.Sums.{sum_by-cons}
use Rattle.ep_base.specs.declared.limits.TheConstants.{LANES, NAMED, SCRIPTS, STEPS, TRANSACTIONS, TYPE_COMBINATIONS}
use Rattle.ep_rules.specs.EntryPoint.Kernel.{scripted}
use Rattle.ep_claim.specs.Lanes.Steps.{times}
use Rattle.ep_rules.specs.EntryPoint.Talk.{Talk}
use Rattle.ep_rules.specs.EntryPoint.Bounds.{log_bound}
use Rattle.law_run.proofs.Bounding.{few_commands_lem, few_starts_lem}
use Rattle.law_run.proofs.Scripting.{scripts_fall_lem}
use Rattle.law_run.proofs.Legal.{scripted_lem}
use Rattle.ep_claim.specs.Lanes.Standing.{started}
use Rattle.law_lane.proofs.Moving.{times_more}
use Rattle.ep_claim.specs.Lanes.LaneText.{Job}
use Rattle.ep_claim.specs.Lanes.WholeRun.{ProbeSteps, run_step, opened_run, run_after}
use Rattle.ep_claim.specs.Lanes.Pieces.{written, step_pieces}
use Rattle.ep_claim.specs.Lanes.Counting.{IsBounded, IsOverAfter, exchanges_most}
use Rattle.ep_claim.specs.Lanes.Ending.{AreOverAfter, LanesOverAfter, in_all, HasEnded}
use Rattle.law_turns.specs.Growing.{TextsGrow, RunsStay, most_of_one, most_exchanges, RunsEndInMost}
use Rattle.ep_claim.specs.Lanes.ShortLanes.{IsShort, IsShortLane, AreShort}
use Rattle.law_turns.proofs.Bounding.{transaction_few}
use Rattle.law_turns.proofs.Counting.{every_exchange_counts_law}
use Rattle.law_turns.proofs.Ending.{over_same, runs_end_within_law}
use Rattle.law_turns.proofs.Writing.{steps_written}

pub texts_grow_law : {P : Type 0} (probe : ProbeSteps P) → TextsGrow probe
texts_grow_law probe traced fsdi turns p lanes m k =
    let step = run_step traced probe fsdi (length lanes) in
    let run = run_after traced probe fsdi turns p lanes m in (
      written (step_pieces traced probe fsdi (length lanes) k run),
      ap (λ r. r.text) (times_more step m k (opened_run fsdi turns p lanes)) ∙ steps_written traced probe fsdi (length lanes) k run,
    )

pub runs_stay_law : {P : Type 0} (probe : ProbeSteps P) → RunsStay probe
runs_stay_law probe traced fsdi turns p lanes m n le over =
    let count = length lanes in
    let step = run_step traced probe fsdi count in
    let run = run_after traced probe fsdi turns p lanes m in
    let more : n ≡ m + (n - m) = omega (arith, le) in
    let begun = opened_run fsdi turns p lanes in
    let parts : run_after traced probe fsdi turns p lanes n ≡ times step (n - m) run = ap (λ k. times step k begun) more ∙ times_more step m (n - m) begun in
    let same = parts ∙ over_same traced probe fsdi count (n - m) run over in
    (subst (λ r. HasEnded count r) (sym same) over, same)

-- ---- bounds grow with their counts

log_more : (r c s r' c' s' : ℕ) → r ≤ r' → c ≤ c' → s ≤ s' → log_bound r c s ≤ log_bound r' c' s'
log_more r c s r' c' s' a b d =
    let factor : 1 + NAMED * c ≤ 1 + NAMED * c' = omega (arith, b) in
    let starts : 1 + r ≤ 1 + r' = omega (arith, a) in
    let product = mul-le (1 + r) (1 + NAMED * c) (1 + r') (1 + NAMED * c') starts factor in
    omega (arith, product, d)

exchanges_more : (c s c' s' : ℕ) → c ≤ c' → s ≤ s' → exchanges_most c s ≤ exchanges_most c' s'
exchanges_more c s c' s' a b = omega (arith, a, b)

over_more : (fsdi : ℕ) (talk : Talk) (n m : ℕ) → n ≤ m → IsOverAfter fsdi talk n (started talk) → IsOverAfter fsdi talk m (started talk)
over_more fsdi talk n m le over = λ hs size. over hs (omega (arith, le, size))

abbrev commands_of : {talk : Talk} → IsShort talk → ℕ
commands_of s = log_bound (scripted.restarts s.kernels) (length s.list) (scripted.commands s.kernels)

abbrev starts_of : {talk : Talk} → IsShort talk → ℕ
starts_of s = 1 + scripted.restarts s.kernels

short_bounded : (talk : Talk) (s : IsShort talk) → IsBounded (commands_of s) (starts_of s) talk
short_bounded talk s =
    subst (IsBounded (commands_of s) (starts_of s)) (sym s.is)
    (record {
      legal = scripted_lem s.txn_type s.amount s.list s.kernels s.sends;
      few_commands = few_commands_lem scripted scripts_fall_lem s.txn_type s.amount s.list s.kernels;
      few_starts = few_starts_lem scripted s.txn_type s.amount s.list s.kernels;
      few_rounds = transaction_few scripted s.txn_type s.amount s.list s.kernels;
    })

-- each transaction is over after the most exchanges of one
short_over : (fsdi : ℕ) (talk : Talk) → IsShort talk → IsOverAfter fsdi talk most_of_one (started talk)
unfolding most_of_one
short_over fsdi talk s =
    let few : starts_of s ≤ SCRIPTS + 1 = omega (arith, s.few_scripts) in
    let most = log_more _ (length s.list) (scripted.commands s.kernels) SCRIPTS TYPE_COMBINATIONS (SCRIPTS * STEPS) s.few_scripts s.few_combinations s.few_steps in
    over_more fsdi talk (exchanges_most (commands_of s) (starts_of s)) (exchanges_most (log_bound SCRIPTS TYPE_COMBINATIONS (SCRIPTS * STEPS)) (SCRIPTS + 1))
    (exchanges_more (commands_of s) (starts_of s) (log_bound SCRIPTS TYPE_COMBINATIONS (SCRIPTS * STEPS)) (SCRIPTS + 1) most few)
    (every_exchange_counts_law fsdi talk (commands_of s) (starts_of s) (short_bounded talk s))

-- ---- the same count for each transaction

module _ (fsdi n : ℕ) (over : (talk : Talk) → IsShort talk → IsOverAfter fsdi talk n (started talk)) where
  abbrev lane_counts : List Job → List ℕ
  lane_counts [] = []
  lane_counts (j ∷ js) = n ∷ lane_counts js

  abbrev all_counts : List (List Job) → List (List ℕ)
  all_counts [] = []
  all_counts (js ∷ lanes) = lane_counts js ∷ all_counts lanes

  abbrev ShortJob : Job → Type 0
  ShortJob j = IsShort j.talk

  lane_over : (js : List Job) → All ShortJob js → AreOverAfter fsdi js (lane_counts js)
  lane_over [] short = tt
  lane_over (j ∷ js) short = (over j.talk (All-head ShortJob j js short), lane_over js (All-tail ShortJob j js short))

  lanes_over : (lanes : List (List Job)) → All IsShortLane lanes → LanesOverAfter fsdi lanes (all_counts lanes)
  lanes_over [] short = tt
  lanes_over (js ∷ lanes) short =
      (lane_over js (All-head IsShortLane js lanes short).short, lanes_over lanes (All-tail IsShortLane js lanes short))

  lane_sum : (js : List Job) → sum (lane_counts js) ≡ length js * n
  lane_sum [] = omega arith
  lane_sum (j ∷ js) = let first = sum_by-cons (λ x. x) n (lane_counts js) in let rest = lane_sum js in omega (arith, first, rest)

  all_sum : (lanes : List (List Job)) → All IsShortLane lanes → in_all (all_counts lanes) ≤ length lanes * (TRANSACTIONS * n)
  all_sum [] short = omega arith
  all_sum (js ∷ lanes) short =
      let first = lane_sum js in
      let few = mul-le-mul_right n (All-head IsShortLane js lanes short).few in
      let rest = all_sum lanes (All-tail IsShortLane js lanes short) in
      omega (arith, first, few, rest)

  in_most : (lanes : List (List Job)) → AreShort lanes → in_all (all_counts lanes) ≤ LANES * TRANSACTIONS * n
  in_most lanes short =
      let most = all_sum lanes short.short in
      let few = mul-le-mul_right (TRANSACTIONS * n) short.few in
      omega (arith, most, few)

ends_in_most : {P : Type 0} (probe : ProbeSteps P) (traced : Bool) (fsdi : ℕ) (turns : List ℕ) (p : P) (lanes : List (List Job)) (n most : ℕ)
    → most ≡ LANES * TRANSACTIONS * n → ((talk : Talk) → IsShort talk → IsOverAfter fsdi talk n (started talk)) → AreShort lanes
    → HasEnded (length lanes) (run_after traced probe fsdi turns p lanes most)
ends_in_most probe traced fsdi turns p lanes n most is over short =
    let counts = all_counts fsdi n over lanes in
    let few = in_most fsdi n over lanes short in
    (runs_stay_law probe traced fsdi turns p lanes (in_all counts) most (omega (arith, few, is))
    (runs_end_within_law probe traced fsdi turns p lanes counts (lanes_over fsdi n over lanes short.short))).0

most_is : most_exchanges ≡ LANES * TRANSACTIONS * most_of_one
unfolding most_exchanges
most_is = refl

pub runs_end_in_most_law : {P : Type 0} (probe : ProbeSteps P) → RunsEndInMost probe
runs_end_in_most_law probe traced fsdi turns p lanes short =
    ends_in_most probe traced fsdi turns p lanes most_of_one most_exchanges most_is (λ talk s. short_over fsdi talk s) short
