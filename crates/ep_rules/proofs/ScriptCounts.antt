-- What an activation and a step of scripts take from the counts of what is left.
use Rattle.std.proofs.Common.{◌≡◌, ◌==◌, ℕ, ◌+◌, ◌<◌, List, [], ◌∷◌, true, false, length, arith, refl, sym, subst}
use Rattle.std.specs.Prelude.{Some, None, if◌then◌else◌}
use Rattle.std.specs.declared.option.Option.{Option}
use Rattle.ep_base.specs.declared.outcome.OutcomeKind.{OutcomeKind}
use Rattle.ep_base.specs.declared.outcome.OutcomeKind.TheVariants.{SelectNext, TryAgain, Approved, Declined, OnlineRequest, TryAnother, EndApplication}
use Rattle.ep_base.specs.Cards.Apdu.{status_of}
use Rattle.ep_rules.specs.EntryPoint.Event.{Verdict}
use Rattle.ep_rules.specs.EntryPoint.Kernel.{KernelStep, Done, Script, Step, Awaited, Running, Scripted, scripted, next_step, answered, running_step, steps_left, running_left, running_count, script_for, without_script, begun}
use Rattle.ep_rules.specs.EntryPoint.KernelCounts.{RestartsFall, CountsFall, FallingCounts}

fall_one : (d : OutcomeKind) (m n : ℕ) → n < m → RestartsFall d m n
fall_one SelectNext m n lt = omega arith
fall_one TryAgain m n lt = lt
fall_one Approved m n lt = omega arith
fall_one Declined m n lt = omega arith
fall_one OnlineRequest m n lt = omega arith
fall_one TryAnother m n lt = omega arith
fall_one EndApplication m n lt = omega arith

-- a state with what runs
abbrev at : List Script → Option Running → Scripted
at scripts running = record { scripts = scripts; running = running }

abbrev Falls : List Script → Option Running → KernelStep × Option Running → Type 0
Falls scripts running p = CountsFall scripted p.0 (at scripts running) (at scripts p.1)

goes_at : (scripts : List Script) (r : Running) (v : Verdict) (steps : List Step) → r.steps ≡ steps → Falls scripts (Some r) (next_step v steps)
goes_at scripts r v [] e = (omega arith, fall_one v.kind _ _ (omega arith))
goes_at scripts r v (x ∷ steps) e = (rw e (omega arith), omega arith)

answered_at : (scripts : List Script) (r : Running) (awaited : Option Awaited) (last : Option (List ℕ)) → Falls scripts (Some r) (answered r.verdict r.steps awaited last)
answered_at scripts r None last = goes_at scripts r r.verdict r.steps refl
answered_at scripts r (Some x) None = goes_at scripts r r.verdict r.steps refl
answered_at scripts r (Some x) (Some a) =
    elim (status_of a == x.want) as (λ b. Falls scripts (Some r) (if b then next_step r.verdict r.steps else (Done x.other, None)))
    [ true ↦ goes_at scripts r r.verdict r.steps refl | false ↦ (omega arith, fall_one x.other.kind _ _ (omega arith)) ]

step_at : (scripts : List Script) (running : Option Running) (last : Option (List ℕ)) → Falls scripts running (running_step running last)
step_at scripts None last = (omega arith, omega arith)
step_at scripts (Some r) last = answered_at scripts r r.awaited last

pub counts_fall : (scripts : List Script) (running next : Option Running) (last : Option (List ℕ)) (m : KernelStep) → (m, next) ≡ running_step running last
    → CountsFall scripted m (at scripts running) (at scripts next)
counts_fall scripts running next last m e = subst (Falls scripts running) (sym e) (step_at scripts running last)

-- the script that an activation takes has the steps that it takes from the list
pub steps_taken : (kernel : ℕ) (scripts : List Script) → steps_left (without_script kernel scripts) + running_left (begun (script_for kernel scripts)) ≡ steps_left scripts
steps_taken kernel [] = refl
steps_taken kernel (s ∷ scripts) =
    elim (s.kernel == kernel) as (λ b. steps_left (if b then scripts else s ∷ without_script kernel scripts) + running_left (begun (if b then Some s else script_for kernel scripts)) ≡ length s.steps + steps_left scripts)
    [ true ↦ omega arith | false ↦ omega (arith, steps_taken kernel scripts) ]

pub scripts_taken : (kernel : ℕ) (scripts : List Script) → length (without_script kernel scripts) + running_count (begun (script_for kernel scripts)) ≡ length scripts
scripts_taken kernel [] = refl
scripts_taken kernel (s ∷ scripts) =
    elim (s.kernel == kernel) as (λ b. length (if b then scripts else s ∷ without_script kernel scripts) + running_count (begun (if b then Some s else script_for kernel scripts)) ≡ length (s ∷ scripts))
    [ true ↦ omega arith | false ↦ omega (arith, scripts_taken kernel scripts) ]

pub scripts_fall : FallingCounts scripted
scripts_fall = record {
  begin_commands = λ s g. let n = steps_taken g.kernel s.scripts in omega arith;
  begin_restarts = λ s g. let n = scripts_taken g.kernel s.scripts in omega arith;
  step = λ s last. step_at s.scripts s.running last;
}
