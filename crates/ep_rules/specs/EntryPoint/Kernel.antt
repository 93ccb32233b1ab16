-- Kernels, and those that follow scripts (this project's own).
use Rattle.std.specs.Prelude.{ℕ, ◌+◌, ◌==◌, List, [], ◌∷◌, length, Some, None, if◌then◌else◌}
use Rattle.std.specs.declared.option.Option.{Option}
use Rattle.ep_base.specs.declared.outcome.OutcomeKind.TheVariants.{EndApplication}
use Rattle.ep_base.specs.Cards.Apdu.{status_of}
use Rattle.ep_rules.specs.EntryPoint.Event.{Verdict, Activation}

-- What a kernel does next.
pub data KernelStep : Type 0 where
  Send : (command : List ℕ) → KernelStep
  Done : (verdict : Verdict) → KernelStep

-- A kernel's two steps, and how many commands and restarts it has left.
pub record KernelSteps (S : Type 0) : Type 0 where
  pub begin : S → Activation → S
  pub step : S → Option (List ℕ) → KernelStep × S
  pub commands : S → ℕ
  pub restarts : S → ℕ

-- A step: a command, the status word that is wanted, and the verdict where another one comes.
pub record Step : Type 0 where
  pub send : List ℕ
  pub want : ℕ
  pub other : Verdict

pub record Script : Type 0 where
  pub kernel : ℕ
  pub steps : List Step
  pub verdict : Verdict

-- The status word that is awaited, and the verdict where another one comes.
pub record Awaited : Type 0 where
  pub want : ℕ
  pub other : Verdict

-- What is awaited, if a step was sent; the steps after it, and the verdict after them.
pub record Running : Type 0 where
  pub awaited : Option Awaited
  pub steps : List Step
  pub verdict : Verdict

-- The scripts that are left, and the one that runs.
pub record Scripted : Type 0 where
  pub scripts : List Script
  pub running : Option Running

abbrev pub steps_left : List Script → ℕ
steps_left [] = 0
steps_left (s ∷ scripts) = length s.steps + steps_left scripts

abbrev pub running_left : Option Running → ℕ
running_left None = 0
running_left (Some r) = length r.steps

abbrev pub running_count : Option Running → ℕ
running_count None = 0
running_count (Some r) = 1

-- The first script of this kernel.
abbrev pub script_for : ℕ → List Script → Option Script
script_for kernel [] = None
script_for kernel (s ∷ scripts) = if s.kernel == kernel then Some s else script_for kernel scripts

-- The scripts without the first one of this kernel.
abbrev pub without_script : ℕ → List Script → List Script
without_script kernel [] = []
without_script kernel (s ∷ scripts) = if s.kernel == kernel then scripts else s ∷ without_script kernel scripts

abbrev pub begun : Option Script → Option Running
begun None = None
begun (Some s) = Some (record { awaited = None; steps = s.steps; verdict = s.verdict })

-- The n-th activation of a kernel takes that kernel's n-th script. Beyond them no script runs.
abbrev pub scripted_begin : List Script → ℕ → Scripted
scripted_begin scripts kernel = record { scripts = without_script kernel scripts; running = begun (script_for kernel scripts) }

-- The next step, or the verdict.
abbrev pub next_step : Verdict → List Step → KernelStep × Option Running
next_step verdict [] = (Done verdict, None)
next_step verdict (x ∷ steps) = (Send x.send, Some (record { awaited = Some (record { want = x.want; other = x.other }); steps = steps; verdict = verdict }))

-- What follows an answer to the step that was sent.
abbrev pub answered : Verdict → List Step → Option Awaited → Option (List ℕ) → KernelStep × Option Running
answered verdict steps None last = next_step verdict steps
answered verdict steps (Some x) None = next_step verdict steps
answered verdict steps (Some x) (Some r) = if status_of r == x.want then next_step verdict steps else (Done x.other, None)

-- End Application without a message.
abbrev pub no_verdict : Verdict
no_verdict = record { kind = EndApplication; message = None }

abbrev pub running_step : Option Running → Option (List ℕ) → KernelStep × Option Running
running_step None last = (Done no_verdict, None)
running_step (Some r) last = answered r.verdict r.steps r.awaited last

-- The steps of kernels that follow scripts.
abbrev pub scripted : KernelSteps Scripted
scripted = record {
  begin = λ s g. scripted_begin s.scripts g.kernel;
  step = λ s last. ((running_step s.running last).0, record { scripts = s.scripts; running = (running_step s.running last).1 });
  commands = λ s. steps_left s.scripts + running_left s.running;
  restarts = λ s. length s.scripts + running_count s.running;
}
