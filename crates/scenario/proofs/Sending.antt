-- The scripts of a document that is accepted: their lengths and their commands.
use Rattle.std.proofs.Common.{◌≡◌, ◌≤◌, List, [], ◌∷◌, length, codes, true, Ok, subst, arith}
use Rattle.std.specs.Prelude.{All}
use Rattle.std.proofs.lemmas.List.Elements.{All-nil, All-head, All-tail}
use Rattle.ep_base.specs.declared.limits.TheConstants.{SCRIPTS, STEPS}
use Rattle.ep_base.specs.Cards.Apdu.{is_command}
use Rattle.ep_rules.specs.EntryPoint.Kernel.{Step, Script, no_verdict}
use Rattle.ep_rules.specs.EntryPoint.KernelCommands.{StepsSend, ScriptsSend}
use Rattle.doc_table.specs.declared.list.ElementKind.TheVariants as elements
use Rattle.doc_table.specs.Read.{Place, list_of, integer_in, byte_text, bytes_that, table_of, required, defaulted}
use Rattle.doc_table.proofs.Accepted.{Accepts, after, accepted_bytes_that, accepted_required, accepted_defaulted, accepted_list}
use Rattle.scenario.specs.Outcomes.{outcome_text}
use Rattle.scenario.specs.Plan.{scripts_at}
use Rattle.scenario.specs.Scripts.{step_keys, status_number, step_at, step, script_keys, script_at, script, AreScripts}

-- A step's command has the form of one.
abbrev IsSending : Step → Type 0
IsSending s = is_command s.send ≡ true

step_is : (place : Place) (s : Step) → step_at place ≡ Ok s → IsSending s
unfolding step_at
step_is place s e =
    after (required (bytes_that is_command) (codes "send") place) _ s e (λ send is_send e1.
    after (defaulted (0x90 ∷ 0x00 ∷ []) (byte_text 2 2) (codes "want") place) _ s e1 (λ want _ e2.
    after (defaulted no_verdict outcome_text (codes "other") place) _ s e2 (λ other _ e3.
    let made : Step = record { send = send; want = status_number want; other = other } in
    let same : made ≡ s = cc in
    subst IsSending same (accepted_required _ _ (codes "send") place send (accepted_bytes_that is_command) is_send))))

accepted_step : Accepts step IsSending
accepted_step = record { is = λ path d s e. after (table_of step_keys path d) _ s e (λ place _ is. step_is place s is) }

-- At most 16 steps, which send commands.
record IsRight (s : Script) : Type 0 where
  short : length s.steps ≤ STEPS
  sends : All IsSending s.steps

record AreSteps (steps : List Step) : Type 0 where
  short : length steps ≤ STEPS
  sends : All IsSending steps

accepted_steps : Accepts (list_of elements.Table 0 STEPS step) AreSteps
accepted_steps = record {
  is = λ path d xs e. let all = (accepted_list elements.Table 0 STEPS step IsSending accepted_step).is path d xs e in record { short = all.most; sends = all.each };
}

script_is : (place : Place) (s : Script) → script_at place ≡ Ok s → IsRight s
unfolding script_at
script_is place s e =
    after (required (integer_in 1 16777215) (codes "kernel") place) _ s e (λ kernel _ e1.
    after (defaulted [] (list_of elements.Table 0 STEPS step) (codes "steps") place) _ s e1 (λ steps is_steps e2.
    after (required outcome_text (codes "outcome") place) _ s e2 (λ verdict _ e3.
    let made : Script = record { kernel = kernel; steps = steps; verdict = verdict } in
    let same : made ≡ s = cc in
    let none : AreSteps [] = record { short = omega arith; sends = All-nil IsSending } in
    let right = accepted_defaulted _ AreSteps [] (codes "steps") place steps accepted_steps none is_steps in
    subst IsRight same (record { short = right.short; sends = right.sends }))))

accepted_script : Accepts script IsRight
accepted_script = record { is = λ path d s e. after (table_of script_keys path d) _ s e (λ place _ is. script_is place s is) }

steps_send : (steps : List Step) → All IsSending steps → StepsSend steps
steps_send [] all = tt
steps_send (x ∷ steps) all = (All-head IsSending x steps all, steps_send steps (All-tail IsSending x steps all))

scripts_send : (scripts : List Script) → All IsRight scripts → ScriptsSend scripts
scripts_send [] all = tt
scripts_send (s ∷ scripts) all = (steps_send s.steps (All-head IsRight s scripts all).sends, scripts_send scripts (All-tail IsRight s scripts all))

scripts_short : (scripts : List Script) → All IsRight scripts → All (λ (s : Script). length s.steps ≤ STEPS) scripts
scripts_short scripts all k d lt = (all k d lt).short

are_scripts : (scripts : List Script) → length scripts ≤ SCRIPTS → All IsRight scripts → AreScripts scripts
are_scripts scripts few all = record {
  few = few;
  short = scripts_short scripts all;
  sends = (scripts_send scripts all, tt);
}

-- What a transaction's table says of its scripts is within the limits.
pub accepted_scripts : (place : Place) (scripts : List Script) → scripts_at place ≡ Ok scripts → AreScripts scripts
accepted_scripts place scripts e =
    accepted_defaulted _ AreScripts [] (codes "scripts") place scripts
    (record { is = λ path d xs e. let all = (accepted_list elements.Table 0 SCRIPTS script IsRight accepted_script).is path d xs e in are_scripts xs all.most all.each })
    (are_scripts [] (omega arith) (All-nil IsRight)) e
