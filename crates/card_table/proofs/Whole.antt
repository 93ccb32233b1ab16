-- The cards of a transaction that are accepted are within their limits, apart, and numbered.
use Rattle.std.proofs.Common.{◌≡◌, ℕ, ◌≤◌, ◌<◌, List, [], ◌∷◌, length, codes, Bool, true, Result, Ok, Err, sym, subst, arith}
use Rattle.std.specs.Prelude.{IfOk, slice_index}
use Rattle.ep_base.specs.declared.limits.TheConstants.{CARDS}
use Rattle.ep_base.specs.declared.air.CardKind.{CardKind}
use Rattle.ep_base.specs.declared.air.CardKind.TheVariants.{A, B}
use Rattle.ep_base.specs.Cards.CardAnswer.{App}
use Rattle.ep_base.specs.Cards.Field.{OfA, OfB}
use Rattle.ep_base.specs.Cards.TypeA.{Idle}
use Rattle.ep_base.specs.Cards.TypeB.{BIdle}
use Rattle.toml.specs.Data.{Data, as_table}
use Rattle.ep_base.specs.Cards.Lawful.{AreApart, names}
use Rattle.doc_table.specs.declared.list.ElementKind.TheVariants as elements
use Rattle.doc_table.specs.declared.fault.TableEnd.{TableEnd}
use Rattle.doc_table.specs.Read.{Place, GivesIfRoom, of_kind, list_of, integer_in, truth, byte_text, table_of, required, defaulted}
use Rattle.doc_table.proofs.Accepted.{Accepts, after, accepted_integer, accepted_bytes, accepted_bytes_that, accepted_required, accepted_defaulted, accepted_list}
use Rattle.card_table.specs.Cards.{Card, IsCard, is_uid, uid, sak, frame_code, waiting_code, ppse_list, app_list, a_keys, a_card_at, b_keys, b_card_at, card_of_kind, card_kind, card, all_new, card_list, cards_at}
use Rattle.card_table.specs.Placing.{placed_from, AreCards}
use Rattle.card_table.proofs.Accepted.{accepted_image}
use Rattle.card_table.proofs.Apart.{accepted_apart}
use Rattle.card_table.proofs.Formed.{uid_length, formed_four, formed_uid}
use Rattle.card_table.proofs.Numbered.{all_placed, names_of, all_distinct}

pub accepted_frame : (place : Place) (n : ℕ) → frame_code place ≡ Ok n → n < 16
accepted_frame place n e =
    let h = accepted_defaulted (integer_in 0 8) _ 8 (codes "fsci") place n (accepted_integer 0 8) (omega arith, omega arith) e in
    omega (arith, h.1)

pub accepted_waiting : (place : Place) (n : ℕ) → waiting_code place ≡ Ok n → n < 16
accepted_waiting place n e =
    let h = accepted_defaulted (integer_in 0 14) _ 4 (codes "fwi") place n (accepted_integer 0 14) (omega arith, omega arith) e in
    omega (arith, h.1)

pub accepted_uid : (place : Place) (id : List ℕ) → required uid (codes "uid") place ≡ Ok id → is_uid id ≡ true
accepted_uid place id e = accepted_required uid _ (codes "uid") place id (accepted_bytes_that is_uid) e

pub accepted_historical : (place : Place) (bytes : List ℕ) → defaulted [] (byte_text 0 15) (codes "historical") place ≡ Ok bytes → length bytes ≤ 15
accepted_historical place bytes e = (accepted_defaulted (byte_text 0 15) _ [] (codes "historical") place bytes (accepted_bytes 0 15) (omega arith, omega arith) e).1

-- A card of Type A with these parts is within its limits.
pub a_card_is : (place : Place) (id historical : List ℕ) (s fsci fwi : ℕ) (ppse : List (List ℕ)) (apps : List App)
    → required uid (codes "uid") place ≡ Ok id
    → defaulted [] (byte_text 0 15) (codes "historical") place ≡ Ok historical
    → frame_code place ≡ Ok fsci
    → waiting_code place ≡ Ok fwi
    → ppse_list place ≡ Ok ppse
    → app_list place ≡ Ok apps
    → IsCard (record { outside = OfA (record { uid = id; sak = s; fsci = fsci; fwi = fwi; historical = historical }) Idle; ppse = ppse; apps = apps })
a_card_is place id historical s fsci fwi ppse apps is_id is_historical is_fsci is_fwi is_ppse is_apps =
    let right = accepted_uid place id is_id in
    record {
      formed = formed_uid id right;
      fits = record {
        uid = uid_length id right;
        fsci = accepted_frame place fsci is_fsci;
        fwi = accepted_waiting place fwi is_fwi;
        historical = accepted_historical place historical is_historical;
      };
      image = λ n. accepted_image place ppse apps n is_ppse is_apps;
    }

-- A card of Type B with these parts is within its limits.
pub b_card_is : (place : Place) (pupi app_data : List ℕ) (iso4 : Bool) (fsci fwi : ℕ) (ppse : List (List ℕ)) (apps : List App)
    → required (byte_text 4 4) (codes "pupi") place ≡ Ok pupi
    → frame_code place ≡ Ok fsci
    → waiting_code place ≡ Ok fwi
    → ppse_list place ≡ Ok ppse
    → app_list place ≡ Ok apps
    → IsCard (record { outside = OfB (record { pupi = pupi; app_data = app_data; fsci = fsci; fwi = fwi; iso4 = iso4 }) BIdle; ppse = ppse; apps = apps })
b_card_is place pupi app_data iso4 fsci fwi ppse apps is_pupi is_fsci is_fwi is_ppse is_apps =
    let four = accepted_required (byte_text 4 4) _ (codes "pupi") place pupi (accepted_bytes 4 4) is_pupi in
    let long : length pupi ≡ 4 = omega (arith, four.0, four.1) in
    record {
      formed = formed_four pupi long;
      fits = record { fsci = accepted_frame place fsci is_fsci; fwi = accepted_waiting place fwi is_fwi };
      image = λ n. accepted_image place ppse apps n is_ppse is_apps;
    }

a_card_accepted : (place : Place) (c : Card) → a_card_at place ≡ Ok c → IsCard c
unfolding a_card_at
a_card_accepted place c e =
    after (required uid (codes "uid") place) _ c e (λ id is_id e1.
    after (defaulted (0x20 ∷ []) sak (codes "sak") place) _ c e1 (λ last _ e2.
    after (defaulted [] (byte_text 0 15) (codes "historical") place) _ c e2 (λ historical is_historical e3.
    after (frame_code place) _ c e3 (λ fsci is_fsci e4.
    after (waiting_code place) _ c e4 (λ fwi is_fwi e5.
    after (ppse_list place) _ c e5 (λ ppse is_ppse e6.
    after (app_list place) _ c e6 (λ apps is_apps e7.
    let made : Card = record { outside = OfA (record { uid = id; sak = slice_index last 0; fsci = fsci; fwi = fwi; historical = historical }) Idle; ppse = ppse; apps = apps } in
    let same : made ≡ c = cc in
    subst IsCard same (a_card_is place id historical (slice_index last 0) fsci fwi ppse apps is_id is_historical is_fsci is_fwi is_ppse is_apps))))))))

b_card_accepted : (place : Place) (c : Card) → b_card_at place ≡ Ok c → IsCard c
unfolding b_card_at
b_card_accepted place c e =
    after (required (byte_text 4 4) (codes "pupi") place) _ c e (λ pupi is_pupi e1.
    after (defaulted (0 ∷ 0 ∷ 0 ∷ 0 ∷ []) (byte_text 4 4) (codes "app_data") place) _ c e1 (λ app_data _ e2.
    after (defaulted true truth (codes "iso4") place) _ c e2 (λ iso4 _ e3.
    after (frame_code place) _ c e3 (λ fsci is_fsci e4.
    after (waiting_code place) _ c e4 (λ fwi is_fwi e5.
    after (ppse_list place) _ c e5 (λ ppse is_ppse e6.
    after (app_list place) _ c e6 (λ apps is_apps e7.
    let made : Card = record { outside = OfB (record { pupi = pupi; app_data = app_data; fsci = fsci; fwi = fwi; iso4 = iso4 }) BIdle; ppse = ppse; apps = apps } in
    let same : made ≡ c = cc in
    subst IsCard same (b_card_is place pupi app_data iso4 fsci fwi ppse apps is_pupi is_fsci is_fwi is_ppse is_apps))))))))

accepted_of_kind : (kind : CardKind) → Accepts (card_of_kind kind) IsCard
accepted_of_kind A = record { is = λ path d c e. after (table_of a_keys path d) _ c e (λ place _ is. a_card_accepted place c is) }
accepted_of_kind B = record { is = λ path d c e. after (table_of b_keys path d) _ c e (λ place _ is. b_card_accepted place c is) }

accepted_card : Accepts card IsCard
accepted_card = record {
  is = λ path d c e.
      after (of_kind path (as_table d)) _ c e (λ members _ e1.
      after (required card_kind (codes "kind") (record { path = path; members = members })) _ c e1 (λ kind _ is. (accepted_of_kind kind).is path d c is));
}

pub listed_few : (path : List ℕ) (d : Data) (cards : List Card) → list_of elements.Table 0 CARDS card path d ≡ Ok cards → length cards ≤ CARDS
listed_few path d cards e = ((accepted_list elements.Table 0 CARDS card IsCard accepted_card).is path d cards e).most

all_apart : (path : List ℕ) (cards : List Card) (u : Unit {0}) → all_new path [] cards ≡ Ok u → AreApart (names (placed_from 1 cards))
all_apart path cards u e = subst AreApart (sym (names_of 1 cards)) (accepted_apart path cards u e)

accepted_cards : Accepts card_list AreCards
accepted_cards = record {
  is = λ path d cards e.
      after (list_of elements.Table 0 CARDS card path d) _ cards e (λ listed is e1.
      after (all_new path [] listed) _ cards e1 (λ u new e2.
      let all = (accepted_list elements.Table 0 CARDS card IsCard accepted_card).is path d listed is in
      let same : listed ≡ cards = cc in
      subst AreCards same (record {
        few = all.most;
        placed = all_placed 1 listed all.each;
        apart = all_apart path listed u new;
        distinct = all_distinct 1 listed;
      })));
}

-- What is accepted of the key of the cards.
pub accepted_cards_at : (place : Place) (cards : List Card) → cards_at place ≡ Ok cards → AreCards cards
accepted_cards_at place cards e =
    accepted_defaulted card_list AreCards [] (codes "cards") place cards accepted_cards (record { few = omega arith; placed = tt; apart = tt; distinct = tt }) e

-- What holds of all cards that are accepted holds of those that were given.
pub given_cards : {X : Type 0} (items : X → List Card) (place : Place) (r : Result X TableEnd) (P : List Card → Type 0)
    → ((cards : List Card) → AreCards cards → P cards)
    → GivesIfRoom items r (cards_at place)
    → IfOk r (λ x. P (items x))
given_cards items place (Ok x) P holds gives = holds (items x) (accepted_cards_at place (items x) gives)
given_cards items place (Err e) P holds gives = tt
