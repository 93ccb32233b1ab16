use Rattle.std.proofs.Common.{rules, arith, ◌≡◌, ◌≤◌, refl, sym, subst, List, [], ◌∷◌, length, All}
use Rattle.std.proofs.lemmas.List.Elements.{All-nil, All-cons}
use Rattle.ep_base.specs.declared.limits.TheConstants.{TRANSACTIONS}
use Rattle.ep_rules.specs.EntryPoint.Configuration.{Config}
use Rattle.scenario.specs.Scenario.{Work}
use Rattle.lane_run.specs.Reports.{IsFew, IsNewWork}
use Rattle.lane_run.specs.Works.{LaneWork, new_work}
use Rattle.run_tests.proofs.lane_run_tests.works.Goals as goal

is_new : (settings : Config) (jobs : List Work) → length jobs ≤ TRANSACTIONS → All (IsFew settings) jobs → IsNewWork settings (new_work jobs)
is_new settings jobs short few = record { none = refl; first = refl; short = short; few = few }

all_new : (settings : Config) (works : List LaneWork) (a b d : Work) → works ≡ new_work (a ∷ b ∷ []) ∷ new_work (d ∷ []) ∷ []
    → IsFew settings a → IsFew settings b → IsFew settings d → All (IsNewWork settings) works
all_new settings works a b d e fa fb fd =
    subst (All (IsNewWork settings)) (sym e)
    (All-cons (IsNewWork settings) (new_work (a ∷ b ∷ [])) (new_work (d ∷ []) ∷ [])
    (is_new settings (a ∷ b ∷ []) (omega arith) (All-cons (IsFew settings) a (b ∷ []) fa (All-cons (IsFew settings) b [] fb (All-nil (IsFew settings)))))
    (All-cons (IsNewWork settings) (new_work (d ∷ [])) []
    (is_new settings (d ∷ []) (omega arith) (All-cons (IsFew settings) d [] fd (All-nil (IsFew settings))))
    (All-nil (IsNewWork settings))))

pub returns-clause-new : goal.returns-clause-new
returns-clause-new c =
    let items : c.in-Ok.works.items
    ≡ new_work (c.in_ok-job.field-0 ∷ c.in_ok-job-2.field-0 ∷ []) ∷ new_work (c.in_ok-job-3.field-0 ∷ []) ∷ [] = search rules in
    all_new c.args.config.now c.in-Ok.works.items c.in_ok-job.field-0 c.in_ok-job-2.field-0 c.in_ok-job-3.field-0 items
    c.in_ok-job.ensures c.in_ok-job-2.ensures c.in_ok-job-3.ensures
