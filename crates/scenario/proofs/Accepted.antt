-- A document that is accepted is within its limits.
use Rattle.std.proofs.Common.{◌≡◌, ℕ, ◌≤◌, List, [], length, codes, Option, Ok, subst, arith}
use Rattle.std.specs.Prelude.{⊤}
use Rattle.std.specs.Option.{ForSome}
use Rattle.std.proofs.lemmas.List.Elements.{All-nil}
use Rattle.ep_base.specs.declared.limits.TheConstants.{LANES, TRACE_LINES, TRANSACTIONS, TURNS}
use Rattle.toml.specs.Data.{Members}
use Rattle.ep_claim.specs.Text.TraceLine.{TraceLine}
use Rattle.doc_table.specs.declared.list.ElementKind.TheVariants as elements
use Rattle.doc_table.specs.Read.{Place, place_of, table_of, required, defaulted, integer_in, list_of}
use Rattle.doc_table.proofs.Accepted.{Accepts, IsListOf, after, accepted_integer, accepted_required, accepted_defaulted, accepted_optional, accepted_list}
use Rattle.acquirer_config.specs.Config.{config_at}
use Rattle.acquirer_config.proofs.Accepted.{accepted_config}
use Rattle.card_table.specs.Cards.{cards_at}
use Rattle.card_table.proofs.Whole.{accepted_cards_at}
use Rattle.fate_table.specs.Fates.{fates_at}
use Rattle.fate_table.specs.Presence.{presence_at}
use Rattle.fate_table.proofs.Accepted.{accepted_fates, accepted_presence}
use Rattle.trace_table.specs.Trace.{line, trace_at}
use Rattle.scenario.specs.Accepted.{IsLawful, IsLane, IsAccepted}
use Rattle.scenario.specs.Plan.{Transaction, Plan, scripts_at, transaction_keys, transaction_at, transaction, lane_keys, lane, lanes_at, root_keys, plan_at, plan}
use Rattle.scenario.specs.Turns.{AreTurns, turns_at}
use Rattle.scenario.proofs.Sending.{accepted_scripts}

transaction_is : (place : Place) (t : Transaction) → transaction_at place ≡ Ok t → IsLawful t
unfolding transaction_at
transaction_is place t e =
    after (required (integer_in 0 255) (codes "type") place) _ t e (λ txn_type _ e1.
    after (required (integer_in 0 999999999999) (codes "amount") place) _ t e1 (λ amount _ e2.
    after (cards_at place) _ t e2 (λ cards is_cards e3.
    after (presence_at (length cards) place) _ t e3 (λ presence is_presence e4.
    after (fates_at place) _ t e4 (λ fates is_fates e5.
    after (scripts_at place) _ t e5 (λ scripts is_scripts e6.
    let made : Transaction = record { txn_type = txn_type; amount = amount; cards = cards; presence = presence; fates = fates; scripts = scripts } in
    let same : made ≡ t = cc in
    let of_cards = accepted_cards_at place cards is_cards in
    subst IsLawful same (record {
      placed = of_cards.placed;
      apart = of_cards.apart;
      distinct = of_cards.distinct;
      presence = accepted_presence (length cards) place presence is_presence;
      fates = accepted_fates place fates is_fates;
      scripts = accepted_scripts place scripts is_scripts;
    })))))))

accepted_transaction : Accepts transaction IsLawful
accepted_transaction = record { is = λ path d t e. after (table_of transaction_keys path d) _ t e (λ place _ is. transaction_is place t is) }

accepted_transactions : Accepts (list_of elements.Table 1 TRANSACTIONS transaction) IsLane
accepted_transactions = record {
  is = λ path d ts e.
      let all = (accepted_list elements.Table 1 TRANSACTIONS transaction IsLawful accepted_transaction).is path d ts e in
      record { some = all.least; short = all.most; lawful = all.each };
}

accepted_lane : Accepts lane IsLane
accepted_lane = record {
  is = λ path d ts e. after (table_of lane_keys path d) _ ts e (λ place _ is. accepted_required _ _ (codes "transactions") place ts accepted_transactions is);
}

-- The lanes, 1 to 8.
pub accepted_lanes : (root : Place) (lanes : List (List Transaction)) → lanes_at root ≡ Ok lanes → IsListOf IsLane 1 LANES lanes
accepted_lanes root lanes e = accepted_required _ _ (codes "lanes") root lanes (accepted_list elements.Table 1 LANES lane IsLane accepted_lane) e

-- A number of one of so many lanes.
abbrev IsNumber : ℕ → ℕ → Type 0
IsNumber lanes n = (1 ≤ n) × (n ≤ lanes)

accepted_turns : (lanes : ℕ) (root : Place) (turns : List ℕ) → turns_at lanes root ≡ Ok turns → AreTurns lanes turns
accepted_turns lanes root turns e =
    let none : IsListOf (IsNumber lanes) 0 TURNS [] = record { each = All-nil (IsNumber lanes); least = omega arith; most = omega arith } in
    let list = accepted_list elements.Integer 0 TURNS (integer_in 1 lanes) (IsNumber lanes) (accepted_integer 1 lanes) in
    let all = accepted_defaulted _ _ [] (codes "turns") root turns list none e in
    record { few = all.most; known = all.each }

accepted_line : Accepts line (λ _. ⊤)
accepted_line = record { is = λ path d x e. tt }

-- At most `TRACE_LINES` trace lines.
abbrev IsShort : List TraceLine → Type 0
IsShort lines = length lines ≤ TRACE_LINES

accepted_lines : Accepts (list_of elements.Text 0 TRACE_LINES line) IsShort
accepted_lines = record { is = λ path d xs e. ((accepted_list elements.Text 0 TRACE_LINES line (λ _. ⊤) accepted_line).is path d xs e).most }

accepted_trace : (root : Place) (trace : Option (List TraceLine)) → trace_at root ≡ Ok trace → ForSome trace IsShort
accepted_trace root trace e = accepted_optional _ IsShort (codes "trace") root trace accepted_lines e

root_is : (root : Place) (p : Plan) → plan_at root ≡ Ok p → IsAccepted p
unfolding plan_at
root_is root p e =
    after (required (integer_in 1 1) (codes "version") root) _ p e (λ _ _ e1.
    after (defaulted 8 (integer_in 0 8) (codes "fsdi") root) _ p e1 (λ fsdi is_fsdi e2.
    after (config_at root) _ p e2 (λ config is_config e3.
    after (lanes_at root) _ p e3 (λ lanes is_lanes e4.
    after (turns_at (length lanes) root) _ p e4 (λ turns is_turns e5.
    after (trace_at root) _ p e5 (λ trace is_trace e6.
    let made : Plan = record { config = config; fsdi = fsdi; turns = turns; lanes = lanes; trace = trace } in
    let same : made ≡ p = cc in
    let code = accepted_defaulted (integer_in 0 8) _ 8 (codes "fsdi") root fsdi (accepted_integer 0 8) (omega arith, omega arith) is_fsdi in
    let of_lanes = accepted_lanes root lanes is_lanes in
    subst IsAccepted same (record {
      config = accepted_config root config is_config;
      fsdi = code.1;
      some = of_lanes.least;
      few = of_lanes.most;
      lanes = of_lanes.each;
      turns = accepted_turns (length lanes) root turns is_turns;
      trace = accepted_trace root trace is_trace;
    })))))))

-- What is accepted of a document's root.
pub accepted_plan : (members : Members) (p : Plan) → plan members ≡ Ok p → IsAccepted p
accepted_plan members p e = after (place_of root_keys [] members) _ p e (λ root _ is. root_is root p is)
