-- The transactions of a load, and their numbers.
use Rattle.std.proofs.Common.{◌≡◌, ℕ, refl, subst}
use Rattle.ep_load.specs.Load.{generated}
use Rattle.load_run.specs.Counts.{Counts, IsTotal, jobs_in_order}
use Rattle.load_run.specs.Summary.{summary_line_of}
use Rattle.load_run.proofs.Single.{one_total_law}
use Rattle.scenario.specs.Scenario.{Scenario, scenario_of}
use Rattle.ep_program.specs.Load.{IsLoadTotal, IsSummary}

-- The line of the numbers of a load's transactions is its summary.
pub is_summary : (seed count : ℕ) (s : Scenario) (c : Counts) → s ≡ scenario_of (generated seed count) → IsTotal s.fsdi (jobs_in_order s.config s.lanes) c
    → IsSummary seed count (summary_line_of seed count c)
is_summary seed count s c is total =
    let whole : IsLoadTotal seed count c = subst (λ (t : Scenario). IsTotal t.fsdi (jobs_in_order t.config t.lanes) c) is total in
    record {
      counts = c;
      total = whole;
      text_is = refl;
      only = λ other t. one_total_law _ _ other c t whole;
    }
