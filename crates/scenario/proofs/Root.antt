-- The root's table, read key by key.
use Rattle.std.proofs.Common.{◌≡◌, ℕ, ◌≤◌, List, length, map, codes, Option, Result, Ok, Err, refl, sym, subst}
use Rattle.std.specs.Prelude.{IfOk}
use Rattle.std.proofs.lemmas.List.{length-map}
use Rattle.ep_claim.specs.Text.TraceLine.{TraceLine}
use Rattle.doc_table.specs.Fault.{Fault}
use Rattle.doc_table.specs.declared.fault.TableEnd.{TableEnd}
use Rattle.doc_table.specs.declared.fault.TableEnd.TheVariants.{NoMemory}
use Rattle.doc_table.specs.declared.fault.TableEnd.TheVariants as ends
use Rattle.doc_table.specs.Read.{◌>>=◌, Place, FailsSo, GivesIfRoom, required, defaulted, integer_in}
use Rattle.acquirer_config.specs.Config.{config_at}
use Rattle.trace_table.specs.Trace.{trace_at}
use Rattle.scenario.specs.Plan.{Plan, lanes_at, plan_at}
use Rattle.scenario.specs.Turns.{turns_at}

-- A plan with a trace that was read after it.
abbrev traced : Plan → Option (List TraceLine) → Result Plan Fault
traced p trace = Ok (record { config = p.config; fsdi = p.fsdi; turns = p.turns; lanes = p.lanes; trace = trace })

-- A chain goes on after a step that gave a value.
onward : {A B : Type 0} (r : Result A Fault) (f : A → Result B Fault) (x : A) (end : Result B Fault) → r ≡ Ok x → f x ≡ end → (r >>= f) ≡ end
onward {A} r f x end is next = subst (λ (s : Result A Fault). (s >>= f) ≡ end) (sym is) next

-- What was read of the root before its trace.
pub record Before (root : Place) (n : ℕ) (p : Plan) : Type 0 where
  pub version : ℕ
  pub is_version : required (integer_in 1 1) (codes "version") root ≡ Ok version
  pub is_fsdi : defaulted 8 (integer_in 0 8) (codes "fsdi") root ≡ Ok p.fsdi
  pub is_config : config_at root ≡ Ok p.config
  pub is_lanes : lanes_at root ≡ Ok p.lanes
  pub is_count : n ≡ length p.lanes
  pub is_turns : turns_at n root ≡ Ok p.turns

up_to_trace : (root : Place) (n : ℕ) (p : Plan) (end : Result Plan Fault) → Before root n p
    → (trace_at root >>= traced p) ≡ end → plan_at root ≡ end
unfolding plan_at
up_to_trace root n p end b rest =
    onward (required (integer_in 1 1) (codes "version") root) _ b.version end b.is_version (
    onward (defaulted 8 (integer_in 0 8) (codes "fsdi") root) _ p.fsdi end b.is_fsdi (
    onward (config_at root) _ p.config end b.is_config (
    onward (lanes_at root) _ p.lanes end b.is_lanes (
    onward (turns_at (length p.lanes) root) _ p.turns end (subst (λ k. turns_at k root ≡ Ok p.turns) b.is_count b.is_turns) rest))))

-- The root with its trace.
pub whole_root : (root : Place) (n : ℕ) (p : Plan) → Before root n p → trace_at root ≡ Ok p.trace → plan_at root ≡ Ok p
whole_root root n p b is = up_to_trace root n p (Ok p) b (onward (trace_at root) _ p.trace (Ok p) is refl)

failed : (root : Place) (n : ℕ) (p : Plan) (f : Fault) → Before root n p → trace_at root ≡ Err f → plan_at root ≡ Err f
failed root n p f b is =
    up_to_trace root n p (Err f) b
    (subst (λ (r : Result (Option (List TraceLine)) Fault). (r >>= traced p) ≡ Err f) (sym is) refl)

-- The root whose trace has a fault.
pub bad_trace : (root : Place) (n : ℕ) (p : Plan) (e : TableEnd) → Before root n p → FailsSo e (trace_at root) → FailsSo e (plan_at root)
bad_trace root n p NoMemory b fails = tt
bad_trace root n p (ends.Fault f) b fails = failed root n p f b fails

-- A list that was read is no longer than all such lists are.
pub few_given : {X Y V : Type 0} (items : V → List X) (g : X → Y) (most : ℕ) (r : Result V TableEnd) (read : Result (List Y) Fault)
    → GivesIfRoom (λ v. map g (items v)) r read → ((ys : List Y) → read ≡ Ok ys → length ys ≤ most) → IfOk r (λ v. length (items v) ≤ most)
few_given items g most (Ok v) read given all = subst (λ n. n ≤ most) (length-map (items v) g) (all (map g (items v)) given)
few_given items g most (Err e) read given all = tt
