-- The cards of a document that is accepted are made of bytes.
use Rattle.std.proofs.Common.{◌≡◌, ℕ, ◌+◌, List, [], ◌∷◌, length, codes, true, Ok, subst, arith}
use Rattle.std.specs.Prelude.{All, slice_index}
use Rattle.std.proofs.lemmas.List.Elements.{All-nil, All-cons, All-head, All-tail}
use Rattle.hex.specs.Hex.{IsBytes}
use Rattle.toml.specs.Data.{as_table}
use Rattle.ep_base.specs.declared.air.CardKind.{CardKind}
use Rattle.ep_base.specs.declared.air.CardKind.TheVariants.{A, B}
use Rattle.ep_base.specs.declared.limits.TheConstants.{ANSWERS, APPLICATIONS, CARDS, COMMAND, RESPONSE, RULES}
use Rattle.ep_base.specs.Cards.CardAnswer.{Rule, App, unused}
use Rattle.ep_base.specs.Cards.Field.{Outside, OfA, OfB}
use Rattle.ep_base.specs.Cards.TypeA.{Idle}
use Rattle.ep_base.specs.Cards.TypeB.{BIdle}
use Rattle.doc_table.specs.declared.list.ElementKind.{ElementKind}
use Rattle.doc_table.specs.declared.list.ElementKind.TheVariants as elements
use Rattle.doc_table.specs.Read.{Reader, Place, of_kind, list_of, truth, byte_text, table_of, required, defaulted}
use Rattle.doc_table.proofs.Accepted.{Accepts, after, accepted_bytes, accepted_required, accepted_defaulted, accepted_list}
use Rattle.card_table.specs.Cards.{Card, response, extensions, multiplier, rule_keys, rule_at, rule, app_keys, app_at, app, uid, is_uid, sak, is_sak, frame_code, waiting_code, ppse_list, app_list, a_keys, a_card_at, b_keys, b_card_at, card_of_kind, card_kind, card, all_new, card_list, cards_at}
use Rattle.card_table.specs.Placing.{placed, placed_from}
use Rattle.card_table.proofs.Whole.{accepted_frame, accepted_waiting, accepted_historical}
use Rattle.law_lines.specs.Bytes.{RuleOfBytes, AppOfBytes, OutsideOfBytes, CardOfBytes}
use Rattle.law_documents.proofs.Parts.{no_bytes, one_more}
use Rattle.law_documents.proofs.Spelling.{accepted_spelling}

-- Texts of these lengths.
accepted_text : (low high : ℕ) → Accepts (byte_text low high) IsBytes
accepted_text low high = accepted_spelling _

-- A list whose elements have a property.
pub accepted_each_of : {A : Type 0} (kind : ElementKind) (least most : ℕ) (read : Reader A) (P : A → Type 0) → Accepts read P → Accepts (list_of kind least most read) (All P)
accepted_each_of kind least most read P h = record { is = λ path d xs e. ((accepted_list kind least most read P h).is path d xs e).each }

accepted_responses : (least : ℕ) → Accepts (list_of elements.Text least ANSWERS response) (All IsBytes)
accepted_responses least = accepted_each_of elements.Text least ANSWERS response IsBytes (accepted_text 2 RESPONSE)

rule_is : (place : Place) (r : Rule) → rule_at place ≡ Ok r → RuleOfBytes r
unfolding rule_at
rule_is place r e =
    after (required (byte_text 1 COMMAND) (codes "prefix") place) _ r e (λ prefix _ e1.
    after (required (list_of elements.Text 1 ANSWERS response) (codes "responses") place) _ r e1 (λ responses is_responses e2.
    after (extensions place) _ r e2 (λ wtx _ e3.
    after (multiplier place) _ r e3 (λ wtxm _ e4.
    let made : Rule = record { prefix = prefix; responses = unused responses; wtx = wtx; wtxm = wtxm } in
    let same : made ≡ r = cc in
    subst RuleOfBytes same (accepted_required _ (All IsBytes) (codes "responses") place responses (accepted_responses 1) is_responses)))))

accepted_rule : Accepts rule RuleOfBytes
accepted_rule = record { is = λ path d r e. after (table_of rule_keys path d) _ r e (λ place _ is. rule_is place r is) }

app_is : (place : Place) (a : App) → app_at place ≡ Ok a → AppOfBytes a
unfolding app_at
app_is place a e =
    after (required (byte_text 5 16) (codes "name") place) _ a e (λ name _ e1.
    after (required (list_of elements.Text 1 ANSWERS response) (codes "select") place) _ a e1 (λ selects is_selects e2.
    after (extensions place) _ a e2 (λ wtx _ e3.
    after (multiplier place) _ a e3 (λ wtxm _ e4.
    after (defaulted [] (list_of elements.Table 0 RULES rule) (codes "rules") place) _ a e4 (λ rules is_rules e5.
    let made : App = record { name = name; selects = unused selects; wtx = wtx; wtxm = wtxm; rules = rules } in
    let same : made ≡ a = cc in
    subst AppOfBytes same (record {
      selects = accepted_required _ (All IsBytes) (codes "select") place selects (accepted_responses 1) is_selects;
      rules = accepted_defaulted _ (All RuleOfBytes) [] (codes "rules") place rules (accepted_each_of elements.Table 0 RULES rule RuleOfBytes accepted_rule) (All-nil RuleOfBytes) is_rules;
    }))))))

accepted_app : Accepts app AppOfBytes
accepted_app = record { is = λ path d a e. after (table_of app_keys path d) _ a e (λ place _ is. app_is place a is) }

-- A card of a document, before it has a number.
pub record IsOfBytes (c : Card) : Type 0 where
  pub outside : OutsideOfBytes c.outside
  pub ppse : All IsBytes c.ppse
  pub apps : All AppOfBytes c.apps

ppse_of : (place : Place) (ppse : List (List ℕ)) → ppse_list place ≡ Ok ppse → All IsBytes ppse
ppse_of place ppse e = accepted_defaulted _ (All IsBytes) [] (codes "ppse") place ppse (accepted_responses 0) (All-nil IsBytes) e

apps_of : (place : Place) (apps : List App) → app_list place ≡ Ok apps → All AppOfBytes apps
apps_of place apps e =
    accepted_defaulted _ (All AppOfBytes) [] (codes "apps") place apps (accepted_each_of elements.Table 0 APPLICATIONS app AppOfBytes accepted_app) (All-nil AppOfBytes) e

a_card_is : (place : Place) (c : Card) → a_card_at place ≡ Ok c → IsOfBytes c
unfolding a_card_at
a_card_is place c e =
    after (required uid (codes "uid") place) _ c e (λ id is_id e1.
    after (defaulted (0x20 ∷ []) sak (codes "sak") place) _ c e1 (λ last is_last e2.
    after (defaulted [] (byte_text 0 15) (codes "historical") place) _ c e2 (λ historical is_historical e3.
    after (frame_code place) _ c e3 (λ fsci is_fsci e4.
    after (waiting_code place) _ c e4 (λ fwi is_fwi e5.
    after (ppse_list place) _ c e5 (λ ppse is_ppse e6.
    after (app_list place) _ c e6 (λ apps is_apps e7.
    let made : Card = record { outside = OfA (record { uid = id; sak = slice_index last 0; fsci = fsci; fwi = fwi; historical = historical }) Idle; ppse = ppse; apps = apps } in
    let same : made ≡ c = cc in
    subst IsOfBytes same (record {
      outside = record {
        uid = accepted_required _ IsBytes (codes "uid") place id (accepted_spelling is_uid) is_id;
        sak = accepted_defaulted _ IsBytes (0x20 ∷ []) (codes "sak") place last (accepted_spelling is_sak) (one_more 0x20 [] (omega arith) no_bytes) is_last 0;
        historical = accepted_defaulted _ IsBytes [] (codes "historical") place historical (accepted_text 0 15) no_bytes is_historical;
        few = accepted_historical place historical is_historical;
        fsci = accepted_frame place fsci is_fsci;
        fwi = accepted_waiting place fwi is_fwi;
      };
      ppse = ppse_of place ppse is_ppse;
      apps = apps_of place apps is_apps;
    }))))))))

-- Application data of four bytes.
app_data_of : (place : Place) (bytes : List ℕ) → defaulted (0 ∷ 0 ∷ 0 ∷ 0 ∷ []) (byte_text 4 4) (codes "app_data") place ≡ Ok bytes → IsBytes bytes × (length bytes ≡ 4)
app_data_of place bytes e =
    let zeros : IsBytes (0 ∷ 0 ∷ 0 ∷ 0 ∷ []) = one_more 0 (0 ∷ 0 ∷ 0 ∷ []) (omega arith) (one_more 0 (0 ∷ 0 ∷ []) (omega arith) (one_more 0 (0 ∷ []) (omega arith) (one_more 0 [] (omega arith) no_bytes))) in
    let four = accepted_defaulted (byte_text 4 4) _ (0 ∷ 0 ∷ 0 ∷ 0 ∷ []) (codes "app_data") place bytes (accepted_bytes 4 4) (omega arith, omega arith) e in
    (accepted_defaulted _ IsBytes (0 ∷ 0 ∷ 0 ∷ 0 ∷ []) (codes "app_data") place bytes (accepted_text 4 4) zeros e, omega (arith, four.0, four.1))

b_card_is : (place : Place) (c : Card) → b_card_at place ≡ Ok c → IsOfBytes c
unfolding b_card_at
b_card_is place c e =
    after (required (byte_text 4 4) (codes "pupi") place) _ c e (λ pupi is_pupi e1.
    after (defaulted (0 ∷ 0 ∷ 0 ∷ 0 ∷ []) (byte_text 4 4) (codes "app_data") place) _ c e1 (λ app_data is_app_data e2.
    after (defaulted true truth (codes "iso4") place) _ c e2 (λ iso4 _ e3.
    after (frame_code place) _ c e3 (λ fsci is_fsci e4.
    after (waiting_code place) _ c e4 (λ fwi is_fwi e5.
    after (ppse_list place) _ c e5 (λ ppse is_ppse e6.
    after (app_list place) _ c e6 (λ apps is_apps e7.
    let made : Card = record { outside = OfB (record { pupi = pupi; app_data = app_data; fsci = fsci; fwi = fwi; iso4 = iso4 }) BIdle; ppse = ppse; apps = apps } in
    let same : made ≡ c = cc in
    let right = app_data_of place app_data is_app_data in
    subst IsOfBytes same (record {
      outside = record {
        pupi = accepted_required _ IsBytes (codes "pupi") place pupi (accepted_text 4 4) is_pupi;
        app_data = right.0;
        four = right.1;
        fsci = accepted_frame place fsci is_fsci;
        fwi = accepted_waiting place fwi is_fwi;
      };
      ppse = ppse_of place ppse is_ppse;
      apps = apps_of place apps is_apps;
    }))))))))

accepted_of_kind : (kind : CardKind) → Accepts (card_of_kind kind) IsOfBytes
accepted_of_kind A = record { is = λ path d c e. after (table_of a_keys path d) _ c e (λ place _ is. a_card_is place c is) }
accepted_of_kind B = record { is = λ path d c e. after (table_of b_keys path d) _ c e (λ place _ is. b_card_is place c is) }

accepted_card : Accepts card IsOfBytes
accepted_card = record {
  is = λ path d c e.
      after (of_kind path (as_table d)) _ c e (λ members _ e1.
      after (required card_kind (codes "kind") (record { path = path; members = members })) _ c e1 (λ kind _ is. (accepted_of_kind kind).is path d c is));
}

accepted_cards : Accepts card_list (All IsOfBytes)
accepted_cards = record {
  is = λ path d cards e.
      after (list_of elements.Table 0 CARDS card path d) _ cards e (λ listed is e1.
      after (all_new path [] listed) _ cards e1 (λ u _ e2.
      let all = (accepted_each_of elements.Table 0 CARDS card IsOfBytes accepted_card).is path d listed is in
      let same : listed ≡ cards = cc in
      subst (All IsOfBytes) same all));
}

-- The cards of a transaction.
pub cards_of : (place : Place) (cards : List Card) → cards_at place ≡ Ok cards → All IsOfBytes cards
cards_of place cards e = accepted_defaulted card_list (All IsOfBytes) [] (codes "cards") place cards accepted_cards (All-nil IsOfBytes) e

-- The same cards with their numbers.
one_placed : (number : ℕ) (o : Outside) (ppse : List (List ℕ)) (apps : List App) → OutsideOfBytes o → All IsBytes ppse → All AppOfBytes apps
    → CardOfBytes (placed number (record { outside = o; ppse = ppse; apps = apps }))
one_placed number (OfA plan state) ppse apps out answers all = record { outside = out; image = record { ppse = answers; apps = all } }
one_placed number (OfB plan state) ppse apps out answers all = record { outside = out; image = record { ppse = answers; apps = all } }

pub all_placed : (number : ℕ) (cards : List Card) → All IsOfBytes cards → All CardOfBytes (placed_from number cards)
all_placed number [] all = All-nil CardOfBytes
all_placed number (c ∷ cs) all =
    let first = All-head IsOfBytes c cs all in
    All-cons CardOfBytes (placed number c) (placed_from (number + 1) cs) (one_placed number c.outside c.ppse c.apps first.outside first.ppse first.apps)
    (all_placed (number + 1) cs (All-tail IsOfBytes c cs all))
