-- What lanes have to do, with a field for each of theirs.
use Rattle.std.proofs.Common.{◌≡◌, ◌≢◌, ℕ, ◌-◌, ◌==◌, ◌≤◌, Bool, true, false, List, [], ◌∷◌, length, map, All, refl, sym, ap, subst, ◌∙◌, slice_index_or, slice_set}
use Rattle.std.specs.Prelude.{Option, Some, None, if◌then◌else◌, option_map, slice_get, unwrap_or}
use Rattle.std.proofs.lemmas.List.{length-map, length-set}
use Rattle.std.proofs.lemmas.List.Elements.{All-map, All-weaker}
use Rattle.std.proofs.lemmas.Option.{slice_get-map}
use Rattle.ep_base.specs.Cards.Field.{Field}
use Rattle.ep_base.specs.declared.limits.TheConstants.{LANES, TRANSACTIONS}
use Rattle.ep_rules.specs.EntryPoint.Configuration.{Config}
use Rattle.ep_rules.specs.EntryPoint.Kernel.{Scripted}
use Rattle.ep_lanes.specs.Lanes.{Held, new_lanes, next_lane}
use Rattle.scenario.specs.Scenario.{Work}
use Rattle.lane_run.specs.Works.{LaneWork, no_work, work_of}
use Rattle.lane_run.proofs.Places.{found, changed, others}
use Rattle.lane_run.proofs.Steps.{next_there}
use Rattle.lane_run.specs.Shows.{Fits}
use Rattle.lane_run.specs.Played.{played_job, played, all_played}
use Rattle.lane_run.specs.Reports.{IsFew, IsNewWork}

module _ (f : Field → Field) where
  read : (o : Option LaneWork) → unwrap_or (option_map (played f) o) no_work ≡ played f (unwrap_or o no_work)
  read None = refl
  read (Some w) = refl

  by_number : (b : Bool) (o : Option LaneWork) → (if b then no_work else unwrap_or (option_map (played f) o) no_work)
      ≡ played f (if b then no_work else unwrap_or o no_work)
  by_number true o = refl
  by_number false o = read o

  -- by their numbers
  pub work_played : (works : List LaneWork) (lane : ℕ) → work_of (all_played f works) lane ≡ played f (work_of works lane)
  work_played works lane =
      ap (λ o. if lane == 0 then no_work else unwrap_or o no_work) (slice_get-map (played f) works (lane - 1))
      ∙ by_number (lane == 0) (slice_get works (lane - 1))

  pub count_played : (works : List LaneWork) → length (all_played f works) ≡ length works
  count_played works = length-map works (played f)

  pub same_count : (works others : List LaneWork) → length works ≡ length others → length (all_played f works) ≡ length (all_played f others)
  same_count works others e = count_played works ∙ e ∙ sym (count_played others)

  -- new lanes stay so
  module _ (settings : Config) where
    few_played : (w : Work) → IsFew settings w → IsFew settings (played_job f w)
    few_played w few = record { sends = few.sends; rests = few.rests; scripts = few.scripts; steps = few.steps; combinations = few.combinations }

    pub new_played : (work : LaneWork) → IsNewWork settings work → IsNewWork settings (played f work)
    new_played work new = record {
      none = new.none;
      first = new.first;
      short = subst (λ n. n ≤ TRANSACTIONS) (sym (length-map work.left (played_job f))) new.short;
      few =
          All-map (IsFew settings) (played_job f) work.left
          (All-weaker (IsFew settings) (λ w. IsFew settings (played_job f w)) few_played work.left new.few);
    }

    pub all_new : (works : List LaneWork) → All (IsNewWork settings) works → All (IsNewWork settings) (all_played f works)
    all_new works new =
        All-map (IsNewWork settings) (played f) works
        (All-weaker (IsNewWork settings) (λ w. IsNewWork settings (played f w)) new_played works new)

  pub all_few : (works : List LaneWork) → length works ≤ LANES → length (all_played f works) ≤ LANES
  all_few works few = subst (λ n. n ≤ LANES) (sym (count_played works)) few

  pub lanes_new : (before : Held Scripted) (works : List LaneWork) (turns : List ℕ) → before ≡ new_lanes (length works) turns
      → before ≡ new_lanes (length (all_played f works)) turns
  lanes_new before works turns new = new ∙ ap (λ n. new_lanes n turns) (sym (count_played works))

-- The lane whose turn it is has something to do.
pub there_is : (f : Field → Field) (h : Held Scripted) (works : List LaneWork) (lane : ℕ) → Fits h (all_played f works) → next_lane h ≡ Some lane
    → (1 ≤ lane) × (lane ≤ length works)
there_is f h works lane fits e = subst (λ n. (1 ≤ lane) × (lane ≤ n)) (count_played f works) (next_there h (all_played f works) lane fits e)

-- What it has to do, and what all have where that changes.
module _ (f : Field → Field) (works : List LaneWork) (i lane : ℕ) (e : i ≡ lane) (there : (1 ≤ lane) × (lane ≤ length works)) where
  pub found_played : (d : LaneWork) → played f (slice_index_or works (i - 1) d) ≡ work_of (all_played f works) lane
  found_played d = ap (played f) (found works i lane e there d) ∙ sym (work_played f works lane)

  module _ (w : LaneWork) where
    pub changed_played : work_of (all_played f (slice_set works (i - 1) w)) lane ≡ played f w
    changed_played = work_played f (slice_set works (i - 1) w) lane ∙ ap (played f) (changed works i lane e there w)

    pub others_played : (k : ℕ) → k ≢ lane → work_of (all_played f (slice_set works (i - 1) w)) k ≡ work_of (all_played f works) k
    others_played k other =
        work_played f (slice_set works (i - 1) w) k ∙ ap (played f) (others works i lane e there w k other) ∙ sym (work_played f works k)

    pub size_played : length (all_played f (slice_set works (i - 1) w)) ≡ length (all_played f works)
    size_played = count_played f (slice_set works (i - 1) w) ∙ length-set works (i - 1) w ∙ sym (count_played f works)

-- Where each field stands for itself, nothing changes.
own_jobs : (jobs : List Work) → map (played_job (λ f. f)) jobs ≡ jobs
own_jobs [] = refl
own_jobs (w ∷ ws) = ap (λ l. w ∷ l) (own_jobs ws)

own_work : (work : LaneWork) → played (λ f. f) work ≡ work
own_work work = ap (λ js. record { left = js; field = work.field; txn = work.txn }) (own_jobs work.left)

pub own_works : (works : List LaneWork) → all_played (λ f. f) works ≡ works
own_works [] = refl
own_works (w ∷ ws) = ap (λ v. v ∷ all_played (λ f. f) ws) (own_work w) ∙ ap (λ l. w ∷ l) (own_works ws)
