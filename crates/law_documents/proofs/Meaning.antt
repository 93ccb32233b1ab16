-- The transactions of a document that is accepted are made of bytes.
use Rattle.std.proofs.Common.{◌≡◌, List, [], ◌∷◌, length, map, codes, Ok, subst}
use Rattle.std.specs.Prelude.{All}
use Rattle.std.proofs.lemmas.List.Elements.{All-nil, All-cons, All-head, All-tail}
use Rattle.ep_base.specs.Cards.Apdu.{is_command}
use Rattle.ep_base.specs.declared.limits.TheConstants.{FSDI, LANES, SCRIPTS, STEPS, TRANSACTIONS}
use Rattle.hex.specs.Hex.{IsBytes}
use Rattle.ep_rules.specs.EntryPoint.Configuration.{Config}
use Rattle.ep_rules.specs.EntryPoint.Kernel.{Step, Script, no_verdict}
use Rattle.ep_rules.specs.EntryPoint.PreProcessing.{prepared}
use Rattle.doc_table.specs.declared.list.ElementKind.TheVariants as elements
use Rattle.doc_table.specs.Read.{Place, place_of, table_of, required, defaulted, integer_in, list_of, bytes_that, byte_text}
use Rattle.doc_table.proofs.Accepted.{Accepts, after, accepted_required, accepted_defaulted}
use Rattle.acquirer_config.specs.Config.{config_at}
use Rattle.card_table.specs.Cards.{cards_at}
use Rattle.fate_table.specs.Fates.{fates_at}
use Rattle.fate_table.specs.Presence.{presence_at}
use Rattle.trace_table.specs.Trace.{trace_at}
use Rattle.scenario.specs.Outcomes.{outcome_text}
use Rattle.scenario.specs.Jobs.{job_of}
use Rattle.scenario.specs.Plan.{Transaction, Plan, scripts_at, transaction_keys, transaction_at, transaction, lane_keys, lane, lanes_at, root_keys, plan_at}
use Rattle.scenario.specs.Scenario.{Work, work_of}
use Rattle.scenario.specs.Scripts.{step_keys, status_number, step_at, step, script_keys, script_at, script}
use Rattle.scenario.specs.Turns.{turns_at}
use Rattle.law_lines.specs.Bytes.{JobOfBytes}
use Rattle.law_documents.specs.Meant.{DocumentsAreOfBytes}
use Rattle.law_documents.proofs.Asking.{StepOfBytes, ScriptOfBytes, scripted_asks}
use Rattle.law_documents.proofs.Cards.{IsOfBytes, accepted_each_of, cards_of, all_placed}
use Rattle.law_documents.proofs.Spelling.{accepted_spelling}

step_is : (place : Place) (s : Step) → step_at place ≡ Ok s → StepOfBytes s
unfolding step_at
step_is place s e =
    after (required (bytes_that is_command) (codes "send") place) _ s e (λ send is_send e1.
    after (defaulted (0x90 ∷ 0x00 ∷ []) (byte_text 2 2) (codes "want") place) _ s e1 (λ want _ e2.
    after (defaulted no_verdict outcome_text (codes "other") place) _ s e2 (λ other _ e3.
    let made : Step = record { send = send; want = status_number want; other = other } in
    let same : made ≡ s = cc in
    subst StepOfBytes same (accepted_required _ IsBytes (codes "send") place send (accepted_spelling is_command) is_send))))

accepted_step : Accepts step StepOfBytes
accepted_step = record { is = λ path d s e. after (table_of step_keys path d) _ s e (λ place _ is. step_is place s is) }

script_is : (place : Place) (s : Script) → script_at place ≡ Ok s → ScriptOfBytes s
unfolding script_at
script_is place s e =
    after (required (integer_in 1 16777215) (codes "kernel") place) _ s e (λ kernel _ e1.
    after (defaulted [] (list_of elements.Table 0 STEPS step) (codes "steps") place) _ s e1 (λ steps is_steps e2.
    after (required outcome_text (codes "outcome") place) _ s e2 (λ verdict _ e3.
    let made : Script = record { kernel = kernel; steps = steps; verdict = verdict } in
    let same : made ≡ s = cc in
    subst ScriptOfBytes same
    (accepted_defaulted _ (All StepOfBytes) [] (codes "steps") place steps (accepted_each_of elements.Table 0 STEPS step StepOfBytes accepted_step) (All-nil StepOfBytes) is_steps))))

accepted_script : Accepts script ScriptOfBytes
accepted_script = record { is = λ path d s e. after (table_of script_keys path d) _ s e (λ place _ is. script_is place s is) }

-- A transaction of a document: its cards, and its scripts.
record IsMade (t : Transaction) : Type 0 where
  cards : All IsOfBytes t.cards
  scripts : All ScriptOfBytes t.scripts

scripts_of : (place : Place) (scripts : List Script) → scripts_at place ≡ Ok scripts → All ScriptOfBytes scripts
scripts_of place scripts e =
    accepted_defaulted _ (All ScriptOfBytes) [] (codes "scripts") place scripts (accepted_each_of elements.Table 0 SCRIPTS script ScriptOfBytes accepted_script) (All-nil ScriptOfBytes) e

transaction_is : (place : Place) (t : Transaction) → transaction_at place ≡ Ok t → IsMade t
unfolding transaction_at
transaction_is place t e =
    after (required (integer_in 0 255) (codes "type") place) _ t e (λ txn_type _ e1.
    after (required (integer_in 0 999999999999) (codes "amount") place) _ t e1 (λ amount _ e2.
    after (cards_at place) _ t e2 (λ cards is_cards e3.
    after (presence_at (length cards) place) _ t e3 (λ presence _ e4.
    after (fates_at place) _ t e4 (λ fates _ e5.
    after (scripts_at place) _ t e5 (λ scripts is_scripts e6.
    let made : Transaction = record { txn_type = txn_type; amount = amount; cards = cards; presence = presence; fates = fates; scripts = scripts } in
    let same : made ≡ t = cc in
    subst IsMade same (record { cards = cards_of place cards is_cards; scripts = scripts_of place scripts is_scripts })))))))

accepted_transaction : Accepts transaction IsMade
accepted_transaction = record { is = λ path d t e. after (table_of transaction_keys path d) _ t e (λ place _ is. transaction_is place t is) }

accepted_lane : Accepts lane (All IsMade)
accepted_lane = record {
  is = λ path d ts e.
      after (table_of lane_keys path d) _ ts e (λ place _ is.
      accepted_required _ (All IsMade) (codes "transactions") place ts (accepted_each_of elements.Table 1 TRANSACTIONS transaction IsMade accepted_transaction) is);
}

lanes_of : (root : Place) (lanes : List (List Transaction)) → lanes_at root ≡ Ok lanes → All (All IsMade) lanes
lanes_of root lanes e = accepted_required _ (All (All IsMade)) (codes "lanes") root lanes (accepted_each_of elements.Table 1 LANES lane (All IsMade) accepted_lane) e

root_is : (root : Place) (p : Plan) → plan_at root ≡ Ok p → All (All IsMade) p.lanes
unfolding plan_at
root_is root p e =
    after (required (integer_in 1 1) (codes "version") root) _ p e (λ _ _ e1.
    after (defaulted FSDI (integer_in 0 FSDI) (codes "fsdi") root) _ p e1 (λ fsdi _ e2.
    after (config_at root) _ p e2 (λ config _ e3.
    after (lanes_at root) _ p e3 (λ lanes is_lanes e4.
    after (turns_at (length lanes) root) _ p e4 (λ turns _ e5.
    after (trace_at root) _ p e5 (λ trace _ e6.
    let made : Plan = record { config = config; fsdi = fsdi; turns = turns; lanes = lanes; trace = trace } in
    let same : made ≡ p = cc in
    subst (λ (q : Plan). All (All IsMade) q.lanes) same (lanes_of root lanes is_lanes)))))))

-- What holds of all elements, of what is made of each.
each_made : {X Y : Type 0} (P : X → Type 0) (Q : Y → Type 0) (f : X → Y) → ((x : X) → P x → Q (f x)) → (xs : List X) → All P xs → All Q (map f xs)
each_made P Q f h [] all = All-nil Q
each_made P Q f h (x ∷ xs) all = All-cons Q (f x) (map f xs) (h x (All-head P x xs all)) (each_made P Q f h xs (All-tail P x xs all))

-- A transaction that is about to begin.
abbrev ToBegin : Config → Work → Type 0
ToBegin settings w = JobOfBytes (job_of settings w)

begins : (settings : Config) (t : Transaction) → IsMade t → ToBegin settings (work_of settings t)
begins settings t h = record {
  asks = scripted_asks t.txn_type t.amount (prepared settings t.txn_type t.amount) t.scripts h.scripts;
  cards = all_placed 1 t.cards h.cards;
}

all_begin : (settings : Config) (lanes : List (List Transaction)) → All (All IsMade) lanes
    → All (All JobOfBytes) (map (λ l. map (job_of settings) l) (map (λ l. map (work_of settings) l) lanes))
all_begin settings lanes all =
    each_made (All (ToBegin settings)) (All JobOfBytes) (λ l. map (job_of settings) l)
    (λ works are. each_made (ToBegin settings) JobOfBytes (job_of settings) (λ w is. is) works are)
    (map (λ l. map (work_of settings) l) lanes)
    (each_made (All IsMade) (All (ToBegin settings)) (λ l. map (work_of settings) l)
    (λ ts are. each_made IsMade (ToBegin settings) (work_of settings) (begins settings) ts are) lanes all)

pub documents_are_of_bytes_law : DocumentsAreOfBytes
documents_are_of_bytes_law members p e =
    after (place_of root_keys [] members) _ p e (λ root _ is. all_begin p.config p.lanes (root_is root p is))
