-- The cards of a document that is accepted can be listed.
use Rattle.std.proofs.Common.{◌≡◌, ◌≢◌, ℕ, ◌+◌, ◌≤◌, ◌==◌, ◌&&◌, List, [], ◌∷◌, length, map, codes, Bool, true, Option, Ok, refl, sym, ap, ◌∙◌, subst, arith}
use Rattle.std.specs.Prelude.{All, slice_index}
use Rattle.std.proofs.lemmas.Bool.{and_parts, eqb-true}
use Rattle.std.proofs.lemmas.List.{length-map}
use Rattle.std.proofs.lemmas.List.Elements.{All-nil, All-cons, All-head, All-tail, All-weaker, All-map}
use Rattle.ep_base.specs.declared.air.CardKind.{CardKind}
use Rattle.ep_base.specs.declared.air.CardKind.TheVariants.{A, B}
use Rattle.ep_base.specs.declared.limits.TheConstants.{CARDS, LANES, TRANSACTIONS}
use Rattle.ep_base.specs.Cards.Activation.{bit}
use Rattle.ep_base.specs.Cards.Field.{Outside, OfA, OfB, Placed}
use Rattle.ep_base.specs.Cards.Lawful as lawful
use Rattle.ep_base.specs.Cards.Lawful.{IsUid, IsFormed, IsPlaced, ArePlaced, IsUnlike, names, kind_of, id_of}
use Rattle.ep_base.specs.Cards.TypeA.{APlan, AState, Idle}
use Rattle.ep_base.specs.Cards.TypeB.{BPlan, BState, BIdle}
use Rattle.ep_base.specs.Cards.CardAnswer.{Image, new_image}
use Rattle.toml.specs.Data.{Members, as_table}
use Rattle.doc_table.specs.declared.list.ElementKind.TheVariants as elements
use Rattle.doc_table.specs.Read.{Place, place_of, table_of, of_kind, required, defaulted, integer_in, truth, byte_text, list_of}
use Rattle.doc_table.proofs.Accepted.{Accepts, IsListOf, after, accepted_required, accepted_defaulted, accepted_list, accepted_bytes_that}
use Rattle.acquirer_config.specs.Config.{config_at}
use Rattle.card_table.specs.Cards.{Card, is_sak, uid, sak, frame_code, waiting_code, ppse_list, app_list, a_keys, a_card_at, b_keys, b_card_at, card_of_kind, card_kind, card, all_new, card_list, cards_at}
use Rattle.card_table.specs.Placing.{placed, placed_as, placed_from, AreCards}
use Rattle.card_table.proofs.Whole.{accepted_cards_at}
use Rattle.fate_table.specs.Fates.{fates_at}
use Rattle.fate_table.specs.Presence.{presence_at}
use Rattle.trace_table.specs.Trace.{trace_at}
use Rattle.scenario.specs.Plan.{Transaction, Plan, scripts_at, transaction_keys, transaction_at, transaction, lane_keys, lane, lanes_at, root_keys, plan_at, plan}
use Rattle.scenario.specs.Scenario.{Work, work_of, room_of, scenario_of}
use Rattle.scenario.specs.Turns.{turns_at}
use Rattle.inventory.specs.Tags.{Tag, AreApart}
use Rattle.inventory_run.specs.Tagged.{with_card, card_tags, placed_tags, work_tags, plan_tags, IsComplete, CanBeListed}

-- ---- what the reading of a card says of its SAK

-- A SAK that says that the UID is complete.
abbrev HasSak : Outside → Type 0
HasSak (OfA plan state) = bit plan.sak 4 ≡ 0
HasSak (OfB plan state) = Unit {0}

abbrev IsSaked : Card → Type 0
IsSaked c = HasSak c.outside

sak_clear : (bytes : List ℕ) → is_sak bytes ≡ true → bit (slice_index bytes 0) 4 ≡ 0
sak_clear bytes h = eqb-true (bit (slice_index bytes 0) 4) 0 (and_parts (length bytes == 1) (bit (slice_index bytes 0) 4 == 0) h).1

a_card_saked : (place : Place) (c : Card) → a_card_at place ≡ Ok c → IsSaked c
unfolding a_card_at
a_card_saked place c e =
    after (required uid (codes "uid") place) _ c e (λ id _ e1.
    after (defaulted (0x20 ∷ []) sak (codes "sak") place) _ c e1 (λ last is_last e2.
    after (defaulted [] (byte_text 0 15) (codes "historical") place) _ c e2 (λ historical _ e3.
    after (frame_code place) _ c e3 (λ fsci _ e4.
    after (waiting_code place) _ c e4 (λ fwi _ e5.
    after (ppse_list place) _ c e5 (λ ppse _ e6.
    after (app_list place) _ c e6 (λ apps _ e7.
    let made : Card = record { outside = OfA (record { uid = id; sak = slice_index last 0; fsci = fsci; fwi = fwi; historical = historical }) Idle; ppse = ppse; apps = apps } in
    let same : made ≡ c = cc in
    let right : is_sak last ≡ true = accepted_defaulted sak (λ bytes. is_sak bytes ≡ true) (0x20 ∷ []) (codes "sak") place last (accepted_bytes_that is_sak) refl is_last in
    subst IsSaked same (sak_clear last right))))))))

b_card_saked : (place : Place) (c : Card) → b_card_at place ≡ Ok c → IsSaked c
unfolding b_card_at
b_card_saked place c e =
    after (required (byte_text 4 4) (codes "pupi") place) _ c e (λ pupi _ e1.
    after (defaulted (0 ∷ 0 ∷ 0 ∷ 0 ∷ []) (byte_text 4 4) (codes "app_data") place) _ c e1 (λ app_data _ e2.
    after (defaulted true truth (codes "iso4") place) _ c e2 (λ iso4 _ e3.
    after (frame_code place) _ c e3 (λ fsci _ e4.
    after (waiting_code place) _ c e4 (λ fwi _ e5.
    after (ppse_list place) _ c e5 (λ ppse _ e6.
    after (app_list place) _ c e6 (λ apps _ e7.
    let made : Card = record { outside = OfB (record { pupi = pupi; app_data = app_data; fsci = fsci; fwi = fwi; iso4 = iso4 }) BIdle; ppse = ppse; apps = apps } in
    let same : made ≡ c = cc in
    subst IsSaked same tt)))))))

kind_saked : (kind : CardKind) → Accepts (card_of_kind kind) IsSaked
kind_saked A = record { is = λ path d c e. after (table_of a_keys path d) _ c e (λ place _ is. a_card_saked place c is) }
kind_saked B = record { is = λ path d c e. after (table_of b_keys path d) _ c e (λ place _ is. b_card_saked place c is) }

card_saked : Accepts card IsSaked
card_saked = record {
  is = λ path d c e.
      after (of_kind path (as_table d)) _ c e (λ members _ e1.
      after (required card_kind (codes "kind") (record { path = path; members = members })) _ c e1 (λ kind _ is. (kind_saked kind).is path d c is));
}

cards_saked : Accepts card_list (All IsSaked)
cards_saked = record {
  is = λ path d cards e.
      after (list_of elements.Table 0 CARDS card path d) _ cards e (λ listed is e1.
      after (all_new path [] listed) _ cards e1 (λ u new e2.
      let same : listed ≡ cards = cc in
      subst (All IsSaked) same ((accepted_list elements.Table 0 CARDS card IsSaked card_saked).is path d listed is).each));
}

-- ---- the cards of a transaction

-- What the cards of a transaction are: within their limits, and with such a SAK.
record AreSaked (cards : List Card) : Type 0 where
  within : AreCards cards
  saked : All IsSaked cards

accepted_saked : (place : Place) (cards : List Card) → cards_at place ≡ Ok cards → AreSaked cards
accepted_saked place cards e = record {
  within = accepted_cards_at place cards e;
  saked = accepted_defaulted card_list (All IsSaked) [] (codes "cards") place cards cards_saked (All-nil IsSaked) e;
}

placed_with : (image : Image) (o : Outside) (tags : List Tag) → with_card (placed_as image o).outside tags ≡ with_card o tags
placed_with image (OfA plan state) tags = refl
placed_with image (OfB plan state) tags = refl

-- The cards in the field are those of the document.
pub same_tags : (n : ℕ) (cards : List Card) → placed_tags (placed_from n cards) ≡ card_tags cards
same_tags n [] = refl
same_tags n (c ∷ cs) =
    placed_with (new_image n c.ppse c.apps) c.outside (placed_tags (placed_from (n + 1) cs)) ∙ ap (with_card c.outside) (same_tags (n + 1) cs)

with_length_of : (n : ℕ) (cards : List Card) → length (placed_from n cards) ≡ length cards
with_length_of n [] = refl
with_length_of n (c ∷ cs) = omega (arith, with_length_of (n + 1) cs)

complete_with : (image : Image) (o : Outside) (tags : List Tag) → IsFormed (placed_as image o).outside → HasSak o → All IsComplete tags → All IsComplete (with_card o tags)
complete_with image (OfA plan state) tags formed clear all = All-cons IsComplete (record { uid = plan.uid; sak = plan.sak }) tags (record { uid = formed; sak = clear }) all
complete_with image (OfB plan state) tags formed clear all = all

complete_all : (n : ℕ) (cards : List Card) → ArePlaced (placed_from n cards) → All IsSaked cards → All IsComplete (card_tags cards)
complete_all n [] placed saked = All-nil IsComplete
complete_all n (c ∷ cs) placed saked =
    complete_with (new_image n c.ppse c.apps) c.outside (card_tags cs) placed.0.formed (All-head IsSaked c cs saked)
    (complete_all (n + 1) cs placed.1 (All-tail IsSaked c cs saked))

unlike_with : (plan : APlan) (o : Outside) (tags : List Tag) → (A ≡ kind_of o → plan.uid ≢ id_of o) → All (λ (u : Tag). u.uid ≢ plan.uid) tags
    → All (λ (u : Tag). u.uid ≢ plan.uid) (with_card o tags)
unlike_with plan (OfA other state) tags unlike all =
    All-cons (λ (u : Tag). u.uid ≢ plan.uid) (record { uid = other.uid; sak = other.sak }) tags (λ e. unlike refl (sym e)) all
unlike_with plan (OfB other state) tags unlike all = all

-- None of the other Type A cards has the UID of one.
unlike_tags : (plan : APlan) (ps : List Placed) → IsUnlike (A, plan.uid) (names ps) → All (λ (u : Tag). u.uid ≢ plan.uid) (placed_tags ps)
unlike_tags plan [] unlike = All-nil (λ (u : Tag). u.uid ≢ plan.uid)
unlike_tags plan (p ∷ ps) unlike = unlike_with plan p.outside (placed_tags ps) unlike.0 (unlike_tags plan ps unlike.1)

apart_with : (o : Outside) (ps : List Placed) → IsUnlike (kind_of o, id_of o) (names ps) → AreApart (placed_tags ps) → AreApart (with_card o (placed_tags ps))
apart_with (OfA plan state) ps unlike apart = (unlike_tags plan ps unlike, apart)
apart_with (OfB plan state) ps unlike apart = apart

apart_tags : (ps : List Placed) → lawful.AreApart (names ps) → AreApart (placed_tags ps)
apart_tags [] apart = tt
apart_tags (p ∷ ps) apart = apart_with p.outside ps apart.0 (apart_tags ps apart.1)

-- ---- transactions, lanes and the document

abbrev IsListed : Transaction → Type 0
IsListed t = AreSaked t.cards

transaction_listed : (place : Place) (t : Transaction) → transaction_at place ≡ Ok t → IsListed t
unfolding transaction_at
transaction_listed place t e =
    after (required (integer_in 0 255) (codes "type") place) _ t e (λ txn_type _ e1.
    after (required (integer_in 0 999999999999) (codes "amount") place) _ t e1 (λ amount _ e2.
    after (cards_at place) _ t e2 (λ cards is_cards e3.
    after (presence_at (length cards) place) _ t e3 (λ presence _ e4.
    after (fates_at place) _ t e4 (λ fates _ e5.
    after (scripts_at place) _ t e5 (λ scripts _ e6.
    let made : Transaction = record { txn_type = txn_type; amount = amount; cards = cards; presence = presence; fates = fates; scripts = scripts } in
    let same : made ≡ t = cc in
    subst IsListed same (accepted_saked place cards is_cards)))))))

accepted_listed : Accepts transaction IsListed
accepted_listed = record { is = λ path d t e. after (table_of transaction_keys path d) _ t e (λ place _ is. transaction_listed place t is) }

lane_listed : Accepts lane (All IsListed)
lane_listed = record {
  is = λ path d ts e.
      after (table_of lane_keys path d) _ ts e (λ place _ is.
      (accepted_required (list_of elements.Table 1 TRANSACTIONS transaction) (IsListOf IsListed 1 TRANSACTIONS) (codes "transactions") place ts
      (accepted_list elements.Table 1 TRANSACTIONS transaction IsListed accepted_listed) is).each);
}

lanes_listed : (root : Place) (lanes : List (List Transaction)) → lanes_at root ≡ Ok lanes → All (All IsListed) lanes
lanes_listed root lanes e =
    (accepted_required (list_of elements.Table 1 LANES lane) (IsListOf (All IsListed) 1 LANES) (codes "lanes") root lanes
    (accepted_list elements.Table 1 LANES lane (All IsListed) lane_listed) e).each

abbrev AllListed : Plan → Type 0
AllListed p = All (All IsListed) p.lanes

root_listed : (root : Place) (p : Plan) → plan_at root ≡ Ok p → AllListed p
unfolding plan_at
root_listed root p e =
    after (required (integer_in 1 1) (codes "version") root) _ p e (λ _ _ e1.
    after (defaulted 8 (integer_in 0 8) (codes "fsdi") root) _ p e1 (λ fsdi _ e2.
    after (config_at root) _ p e2 (λ config _ e3.
    after (lanes_at root) _ p e3 (λ lanes is_lanes e4.
    after (turns_at (length lanes) root) _ p e4 (λ turns _ e5.
    after (trace_at root) _ p e5 (λ trace _ e6.
    let made : Plan = record { config = config; fsdi = fsdi; turns = turns; lanes = lanes; trace = trace } in
    let same : made ≡ p = cc in
    subst AllListed same (lanes_listed root lanes is_lanes)))))))

plan_listed : (members : Members) (p : Plan) → plan members ≡ Ok p → AllListed p
plan_listed members p e = after (place_of root_keys [] members) _ p e (λ root _ is. root_listed root p is)

module _ (p : Plan) where
  abbrev work : Transaction → Work
  work t = work_of p.config t

  work_listed : (t : Transaction) → IsListed t → CanBeListed (work t)
  work_listed t is = record {
    few = omega (arith, with_length_of 1 t.cards, is.within.few);
    complete = subst (All IsComplete) (sym (same_tags 1 t.cards)) (complete_all 1 t.cards is.within.placed is.saked);
    apart = apart_tags (placed_from 1 t.cards) is.within.apart;
  }

  lane_works : (ts : List Transaction) → All IsListed ts → All CanBeListed (map work ts)
  lane_works ts all = All-map CanBeListed work ts (All-weaker IsListed (λ t. CanBeListed (work t)) work_listed ts all)

  works_tags : (ts : List Transaction) → map work_tags (map work ts) ≡ map (λ (t : Transaction). card_tags t.cards) ts
  works_tags [] = refl
  works_tags (t ∷ ts) =
      ap (λ tags. tags ∷ map work_tags (map work ts)) (same_tags 1 t.cards) ∙ ap (λ rest. card_tags t.cards ∷ rest) (works_tags ts)

  lanes_tags : (lanes : List (List Transaction))
      → map (λ (works : List Work). map work_tags works) (map (λ ts. map work ts) lanes) ≡ map (λ ts. map (λ (t : Transaction). card_tags t.cards) ts) lanes
  lanes_tags [] = refl
  lanes_tags (ts ∷ lanes) =
      ap (λ tags. tags ∷ map (λ (works : List Work). map work_tags works) (map (λ ts. map work ts) lanes)) (works_tags ts)
      ∙ ap (λ rest. map (λ (t : Transaction). card_tags t.cards) ts ∷ rest) (lanes_tags lanes)

-- The cards of all transactions of a document that is accepted can be listed.
pub cards_can_be_listed : (members : Members) (p : Plan) → plan members ≡ Ok p → All (All CanBeListed) (scenario_of p).lanes
cards_can_be_listed members p e =
    All-map (All CanBeListed) (λ ts. map (work p) ts) p.lanes
    (All-weaker (All IsListed) (λ ts. All CanBeListed (map (work p) ts)) (lane_works p) p.lanes (plan_listed members p e))

-- The cards in the fields of its scenario are those of the document.
pub plan_tags_are : (p : Plan) → map (λ (works : List Work). map work_tags works) (scenario_of p).lanes ≡ plan_tags p
plan_tags_are p = lanes_tags p p.lanes
