-- Lanes before their first transactions are short.
use Rattle.std.proofs.Common.{◌≡◌, ℕ, ◌*◌, ◌≤◌, ◌==◌, List, [], ◌∷◌, length, filter, All, refl, sym, ap, subst, ◌∙◌, arith}
use Rattle.std.proofs.lemmas.List.{length-map}
use Rattle.std.proofs.lemmas.List.Sums.{length-filter}
use Rattle.std.proofs.lemmas.List.Elements.{All-head, All-tail, All-map, All-weaker}
use Rattle.ep_base.specs.declared.limits.TheConstants.{LANES, STEPS, TRANSACTIONS}
use Rattle.ep_rules.specs.EntryPoint.Configuration.{Combination, Config, count_of}
use Rattle.ep_rules.specs.EntryPoint.Kernel.{Script, steps_left, running_left, running_count}
use Rattle.ep_rules.specs.EntryPoint.PreProcessing.{prepared, prepared_one}
use Rattle.ep_claim.specs.Lanes.ShortLanes.{IsShort, IsShortLane, AreShort}
use Rattle.ep_claim.specs.Lanes.LaneText.{Job}
use Rattle.scenario.specs.Jobs.{job_of, talk_in}
use Rattle.scenario.specs.Scenario.{Work}
use Rattle.lane_run.specs.Reports.{IsFew, IsNewWork}
use Rattle.lane_run.specs.Works.{LaneWork, jobs_of, all_jobs}

-- Pre-Processing leaves as many Combinations as the configuration has of the type.
prepared_count : (settings : Config) (txn_type amount : ℕ) → length (prepared settings txn_type amount) ≡ count_of txn_type settings.list
prepared_count settings txn_type amount =
    length-map (filter (λ (c : Combination). c.txn_type == txn_type) settings.list) (prepared_one settings.exponent amount)
    ∙ length-filter (λ (c : Combination). c.txn_type == txn_type) settings.list

steps_few : (scripts : List Script) → All (λ (s : Script). length s.steps ≤ STEPS) scripts → steps_left scripts ≤ STEPS * length scripts
steps_few [] few = omega arith
steps_few (s ∷ scripts) few =
    let first = All-head (λ (s : Script). length s.steps ≤ STEPS) s scripts few in
    let rest = steps_few scripts (All-tail (λ (s : Script). length s.steps ≤ STEPS) s scripts few) in
    omega (arith, first, rest)

few_short : (settings : Config) (w : Work) → IsFew settings w → IsShort (talk_in settings w)
few_short settings w few =
    let none : running_count w.scripts.running ≡ 0 = ap running_count few.rests in
    let nothing : running_left w.scripts.running ≡ 0 = ap running_left few.rests in
    let steps = steps_few w.scripts.scripts few.steps in
    let count = prepared_count settings w.txn_type w.amount in
    record {
      txn_type = w.txn_type;
      amount = w.amount;
      list = prepared settings w.txn_type w.amount;
      kernels = w.scripts;
      is = refl;
      few_combinations = omega (arith, count, few.combinations);
      few_scripts = omega (arith, none, few.scripts);
      few_steps = omega (arith, nothing, steps, few.scripts);
      sends = few.sends;
    }

new_short : (settings : Config) (work : LaneWork) → IsNewWork settings work → IsShortLane (jobs_of settings work)
new_short settings work new = record {
  few = subst (λ n. n ≤ TRANSACTIONS) (sym (length-map work.left (job_of settings))) new.short;
  short =
      All-map (λ (j : Job). IsShort j.talk) (job_of settings) work.left
      (All-weaker (IsFew settings) (λ w. IsShort (talk_in settings w)) (few_short settings) work.left new.few);
}

pub all_short : (settings : Config) (works : List LaneWork) → length works ≤ LANES → All (IsNewWork settings) works → AreShort (all_jobs settings works)
all_short settings works few new = record {
  few = subst (λ n. n ≤ LANES) (sym (length-map works (jobs_of settings))) few;
  short =
      All-map IsShortLane (jobs_of settings) works
      (All-weaker (IsNewWork settings) (λ work. IsShortLane (jobs_of settings work)) (new_short settings) works new);
}

pub all_count : (settings : Config) (works : List LaneWork) → length (all_jobs settings works) ≡ length works
all_count settings works = length-map works (jobs_of settings)
