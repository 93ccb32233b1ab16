-- The check of an accepted document's trace.
use Rattle.std.proofs.Common.{◌≡◌, ℕ, ℤ, List, [], length, codes, sym, subst, option_map, Option, Some, None, Ok, Err, refl}
use Rattle.std.specs.Prelude.{All}
use Rattle.std.specs.Option.{ForSome}
use Rattle.ep_base.specs.declared.limits.TheConstants.{TRACE_LINES}
use Rattle.toml.specs.Data.{Members, as_str}
use Rattle.ep_claim.specs.Text.TraceLine.{TraceLine}
use Rattle.doc_table.specs.Read.{Place, place_of, required, defaulted, integer_in, allowed, of_kind, list_of}
use Rattle.doc_table.specs.declared.list.ElementKind.TheVariants as elements
use Rattle.doc_table.proofs.Accepted.{Accepts, after, accepted_optional, accepted_list}
use Rattle.acquirer_config.specs.Config.{config_at}
use Rattle.trace_io.proofs.Parts.{read_spells}
use Rattle.trace_check.specs.Verdicts.{HasLane}
use Rattle.trace_table.specs.Trace.{line, trace_at}
use Rattle.scenario.specs.Accepted.{IsAccepted}
use Rattle.scenario.specs.Plan.{Plan, lanes_at, plan, plan_at, root_keys}
use Rattle.scenario.specs.Scenario.{Scenario, scenario_of}
use Rattle.scenario.specs.Turns.{turns_at}
use Rattle.ep_program.specs.Check.{Checks, IsCheckable, Judges}
use Rattle.ep_program.specs.Input.{Gives, Opens, IsTooLong}
use Rattle.ep_program.specs.declared.status.Status.{Status}
use Rattle.ep_program.specs.declared.status.Status.TheVariants.{Done, ReadFault, WriteFault, NoMemory, Usage, TooLong, NotToml, BadDocument, Mismatch}
use Rattle.ep_program.proofs.Replaying.{with_lines}

-- ---- the lanes of trace lines

allowed_ok : {A : Type 0} (path : List ℕ) (z : ℤ) (o : Option A) (x : A) → allowed path z o ≡ Ok x → o ≡ Some x
allowed_ok path z (Some y) x e = cc
allowed_ok path z None x e = cc

accepted_line : Accepts line HasLane
accepted_line = record {
  is = λ path d x e. after (of_kind path (as_str d)) _ x e (λ text _ h. (read_spells text x (allowed_ok path _ _ x h)).lane);
}

accepted_lines : Accepts (list_of elements.Text 0 TRACE_LINES line) (All HasLane)
accepted_lines = record { is = λ path d xs e. ((accepted_list elements.Text 0 TRACE_LINES line HasLane accepted_line).is path d xs e).each }

root_lines : (root : Place) (p : Plan) → plan_at root ≡ Ok p → ForSome p.trace (All HasLane)
unfolding plan_at
root_lines root p e =
    after (required (integer_in 1 1) (codes "version") root) _ p e (λ _ _ e1.
    after (defaulted 8 (integer_in 0 8) (codes "fsdi") root) _ p e1 (λ fsdi _ e2.
    after (config_at root) _ p e2 (λ config _ e3.
    after (lanes_at root) _ p e3 (λ lanes _ e4.
    after (turns_at (length lanes) root) _ p e4 (λ turns _ e5.
    after (trace_at root) _ p e5 (λ trace is_trace e6.
    let made : Plan = record { config = config; fsdi = fsdi; turns = turns; lanes = lanes; trace = trace } in
    let same : made ≡ p = cc in
    subst (λ (q : Plan). ForSome q.trace (All HasLane)) same (accepted_optional _ (All HasLane) (codes "trace") root trace accepted_lines is_trace)))))))

plan_lines : (members : Members) (p : Plan) → plan members ≡ Ok p → ForSome p.trace (All HasLane)
plan_lines members p e = after (place_of root_keys [] members) _ p e (λ root _ is. root_lines root p is)

-- ---- a document that was read

checkable : (members : Members) (p : Plan) → plan members ≡ Ok p → IsAccepted p → IsCheckable (scenario_of p)
checkable members p reads accepted = record { code = accepted.fsdi; few = accepted.trace; lanes = plan_lines members p reads }

pub opened_checkable : (input : Option (List ℕ)) (s : Scenario) → Opens input s → IsCheckable s
opened_checkable input s opens =
    let says = opens.1 in
    subst IsCheckable (sym says.scene) (checkable opens.0 says.document says.reads says.accepted)

module _ (input : Option (List ℕ)) (before after : Option (List ℕ)) where
  of_plan : (p : Plan) → Gives input p → (status : Status) → Judges (scenario_of p) before after status → Checks input before after status
  of_plan p gives Done r = (p, r.0, (gives.0, with_lines gives.0 p (Ok r.0) gives.1 r.1, gives.2), r.2)
  of_plan p gives WriteFault r = (p, r.0, (gives.0, with_lines gives.0 p (Ok r.0) gives.1 r.1, gives.2), r.2)
  of_plan p gives (BadDocument f) r = (gives.0, with_lines gives.0 p (Err f) gives.1 r.0, gives.2, r.1)
  of_plan p gives NoMemory r = absurd r
  of_plan p gives ReadFault r = absurd r
  of_plan p gives Usage r = absurd r
  of_plan p gives TooLong r = absurd r
  of_plan p gives NotToml r = absurd r
  of_plan p gives (Mismatch m) r = absurd r

  -- A scenario that was read and whose trace was checked is answered.
  pub checked : (s : Scenario) → Opens input s → (status : Status) → Judges s before after status → Checks input before after status
  checked s opens status r =
      let says = opens.1 in
      of_plan says.document (opens.0, says.reads, opens.2) status (subst (λ (t : Scenario). Judges t before after status) says.scene r)

pub judged_not_long : (s : Scenario) (before after : Option (List ℕ)) (status : Status) → Judges s before after status → IsTooLong status → ⊥
judged_not_long s before after Done r h = absurd h
judged_not_long s before after ReadFault r h = absurd h
judged_not_long s before after WriteFault r h = absurd h
judged_not_long s before after NoMemory r h = absurd h
judged_not_long s before after Usage r h = absurd h
judged_not_long s before after TooLong r h = absurd r
judged_not_long s before after NotToml r h = absurd h
judged_not_long s before after (BadDocument f) r h = absurd h
judged_not_long s before after (Mismatch m) r h = absurd h

-- What holds of a scenario's trace, where there is one, holds of the lines that it is made of.
pub of_lines : {V : Type 0} (f : V → List TraceLine) (P : List TraceLine → Type 0) (o : Option V) (v : V) → o ≡ Some v → ForSome (option_map f o) P → P (f v)
of_lines f P o v e h = (subst (λ t. ForSome (option_map f t) P) e h) (f v) refl
