use Rattle.std.proofs.Common.{arith, ◌≡◌, ◌≤◌, ◌∙◌, sym, ap, subst, [], length, All}
use Rattle.std.specs.Prelude.{None}
use Rattle.std.proofs.lemmas.List.Elements.{All-nil}
use Rattle.ep_base.specs.declared.limits.TheConstants.{SCRIPTS, STEPS, TYPE_COMBINATIONS}
use Rattle.ep_rules.specs.EntryPoint.Configuration.{Config, AreCombinations, count_of}
use Rattle.ep_rules.specs.EntryPoint.Kernel.{Script, Scripted}
use Rattle.ep_rules.specs.EntryPoint.KernelCommands.{ScriptedSends}
use Rattle.scenario.specs.Scenario.{Work}
use Rattle.lane_run.specs.Reports.{IsFew}
use Rattle.run_tests.proofs.lane_run_tests.job.Goals as goal

-- no script, and none runs
abbrev nothing : Scripted
nothing = record { scripts = []; running = None }

few_of : (settings : Config) (w : Work) → w.scripts ≡ nothing → count_of w.txn_type settings.list ≤ TYPE_COMBINATIONS → IsFew settings w
few_of settings w e few = record {
  sends = subst ScriptedSends (sym e) (tt, tt);
  rests = ap (λ (s : Scripted). s.running) e;
  scripts = subst (λ (s : Scripted). length s.scripts ≤ SCRIPTS) (sym e) (omega arith);
  steps = subst (λ (s : Scripted). All (λ (x : Script). length x.steps ≤ STEPS) s.scripts) (sym e) (All-nil (λ (x : Script). length x.steps ≤ STEPS));
  combinations = few;
}

pub returns : goal.returns
returns c =
    few_of c.args.config.now _ (c.of.ensures ∙ ap (λ l. record { scripts = l; running = None }) c.new.ensures.items)
    ((subst AreCombinations c.list-list.ensures.value c.list-list.ensures.limits).of_a_type 0)
