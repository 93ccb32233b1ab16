-- Scripts of kernels, and their tables (this project's own).
use Rattle.std.specs.Prelude.{codes, ℕ, ◌+◌, ◌*◌, ◌≤◌, List, [], ◌∷◌, length, slice_index, All, None, Result, Ok}
use Rattle.ep_base.specs.declared.limits.TheConstants.{SCRIPTS, STEPS}
use Rattle.ep_base.specs.Cards.Apdu.{is_command}
use Rattle.ep_rules.specs.EntryPoint.Kernel.{Step, Script, no_verdict}
use Rattle.ep_rules.specs.EntryPoint.KernelCommands.{ScriptedSends}
use Rattle.doc_table.specs.Fault.{Fault}
use Rattle.doc_table.specs.declared.list.ElementKind.TheVariants as elements
use Rattle.doc_table.specs.Read.{◌>>=◌, Reader, Place, table_of, required, defaulted, integer_in, byte_text, bytes_that, list_of}
use Rattle.scenario.specs.Outcomes.{outcome_text}

-- The keys of a step, in the order in which they are checked (this project's own).
abbrev pub step_keys : List (List ℕ)
step_keys = codes "send" ∷ codes "want" ∷ codes "other" ∷ []

-- A status word, its first byte highest (this project's own).
abbrev pub status_number : List ℕ → ℕ
status_number bytes = 256 * slice_index bytes 0 + slice_index bytes 1

-- What a step's table says (this project's own).
unfoldable pub step_at : Place → Result Step Fault
step_at place = do
  send ← required (bytes_that is_command) (codes "send") place
  want ← defaulted (0x90 ∷ 0x00 ∷ []) (byte_text 2 2) (codes "want") place
  other ← defaulted no_verdict outcome_text (codes "other") place
  Ok (record { send = send; want = status_number want; other = other })

-- A step's table (this project's own).
abbrev pub step : Reader Step
step path d = do
  place ← table_of step_keys path d
  step_at place

-- The keys of a script, in the order in which they are checked (this project's own).
abbrev pub script_keys : List (List ℕ)
script_keys = codes "kernel" ∷ codes "steps" ∷ codes "outcome" ∷ []

-- What a script's table says (this project's own).
unfoldable pub script_at : Place → Result Script Fault
script_at place = do
  kernel ← required (integer_in 1 16777215) (codes "kernel") place
  steps ← defaulted [] (list_of elements.Table 0 STEPS step) (codes "steps") place
  verdict ← required outcome_text (codes "outcome") place
  Ok (record { kernel = kernel; steps = steps; verdict = verdict })

-- A script's table (this project's own).
abbrev pub script : Reader Script
script path d = do
  place ← table_of script_keys path d
  script_at place

-- At most four scripts of at most 16 steps, all of whose commands have the form of one (this project's profile).
pub record AreScripts (scripts : List Script) : Type 0 where
  pub few : length scripts ≤ SCRIPTS
  pub short : All (λ (s : Script). length s.steps ≤ STEPS) scripts
  pub sends : ScriptedSends (record { scripts = scripts; running = None })
