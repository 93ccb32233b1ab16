-- The cards of a transaction, their applications and rules, and their tables (this project's own; which bytes are a UID is ISO/IEC 14443-3).
use Rattle.std.specs.Prelude.{codes, ℕ, ◌+◌, ◌==◌, ◌&&◌, ◌||◌, not, pos, List, [], ◌∷◌, ◌++◌, length, slice_index, position, Bool, true, Some, None, Result, Ok, if◌then◌else◌}
use Rattle.std.specs.declared.option.Option.{Option}
use Rattle.std.specs.Str.{bytes_eq}
use Rattle.toml.specs.Data.{as_str, as_table}
use Rattle.ep_base.specs.declared.air.CardKind.{CardKind}
use Rattle.ep_base.specs.declared.air.CardKind.TheVariants.{A, B}
use Rattle.ep_base.specs.Cards.Activation.{bit}
use Rattle.ep_base.specs.Cards.Apdu.{same_bytes}
use Rattle.ep_base.specs.Cards.CardAnswer.{Rule, App, unused, new_image, IsImage}
use Rattle.ep_base.specs.Cards.Field.{Outside, OfA, OfB}
use Rattle.ep_base.specs.Air.Heard.{same_kind}
use Rattle.ep_base.specs.Cards.TypeA.{Idle}
use Rattle.ep_base.specs.Cards.TypeB.{BIdle}
use Rattle.type_a.specs.Plan as TypeA
use Rattle.type_b.specs.Card as TypeB
use Rattle.ep_base.specs.Cards.Lawful.{IsFormed, kind_of, id_of}
use Rattle.ep_base.specs.declared.limits.TheConstants.{ANSWERS, ANSWER_WAITS, APPLICATIONS, CARDS, COMMAND, RESPONSE, RULES}
use Rattle.doc_table.specs.Fault.{Fault}
use Rattle.doc_table.specs.Path.{key_path, element_path}
use Rattle.doc_table.specs.declared.fault.DocKind.TheVariants.{Conflict}
use Rattle.doc_table.specs.declared.list.ElementKind.TheVariants as elements
use Rattle.doc_table.specs.Read.{◌>>=◌, Reader, Place, fails, of_kind, allowed, table_of, required, defaulted, integer_in, truth, byte_text, bytes_that, list_of}

-- A card: what it is outside the block protocol, its answers to SELECT PPSE, and its applications (this project's own).
pub record Card : Type 0 where
  pub outside : Outside
  pub ppse : List (List ℕ)
  pub apps : List App

-- The codes and lengths of a card's plan (ISO/IEC 14443-3, -4).
abbrev pub Fits : Outside → Type 0
Fits (OfA plan state) = TypeA.PlanFits plan
Fits (OfB plan state) = TypeB.PlanFits plan

-- A card within the limits of a document, whatever its number (this project's profile).
pub record IsCard (c : Card) : Type 0 where
  pub formed : IsFormed c.outside
  pub fits : Fits c.outside
  pub image : (number : ℕ) → IsImage (new_image number c.ppse c.apps)

-- A response: 2 to 258 bytes (this project's profile).
abbrev pub response : Reader (List ℕ)
response = byte_text 2 RESPONSE

-- How many S(WTX) come before a response (this project's profile).
abbrev pub extensions : Place → Result ℕ Fault
extensions place = defaulted 0 (integer_in 0 ANSWER_WAITS) (codes "wtx") place

-- Their WTXM (this project's profile).
abbrev pub multiplier : Place → Result ℕ Fault
multiplier place = defaulted 1 (integer_in 1 59) (codes "wtxm") place

-- The keys of a rule, in the order in which they are checked (this project's own).
abbrev pub rule_keys : List (List ℕ)
rule_keys = codes "prefix" ∷ codes "responses" ∷ codes "wtx" ∷ codes "wtxm" ∷ []

-- What a rule's table says (this project's own).
unfoldable pub rule_at : Place → Result Rule Fault
rule_at place = do
  prefix ← required (byte_text 1 COMMAND) (codes "prefix") place
  responses ← required (list_of elements.Text 1 ANSWERS response) (codes "responses") place
  wtx ← extensions place
  wtxm ← multiplier place
  Ok (record { prefix = prefix; responses = unused responses; wtx = wtx; wtxm = wtxm })

-- A rule's table (this project's own).
abbrev pub rule : Reader Rule
rule path d = do
  place ← table_of rule_keys path d
  rule_at place

-- The keys of an application, in the order in which they are checked (this project's own).
abbrev pub app_keys : List (List ℕ)
app_keys = codes "name" ∷ codes "select" ∷ codes "wtx" ∷ codes "wtxm" ∷ codes "rules" ∷ []

-- What an application's table says (this project's own).
unfoldable pub app_at : Place → Result App Fault
app_at place = do
  name ← required (byte_text 5 16) (codes "name") place
  selects ← required (list_of elements.Text 1 ANSWERS response) (codes "select") place
  wtx ← extensions place
  wtxm ← multiplier place
  rules ← defaulted [] (list_of elements.Table 0 RULES rule) (codes "rules") place
  Ok (record { name = name; selects = unused selects; wtx = wtx; wtxm = wtxm; rules = rules })

-- An application's table (this project's own).
abbrev pub app : Reader App
app path d = do
  place ← table_of app_keys path d
  app_at place

-- The kind of card that a word names (this project's own).
abbrev pub kind_named : List ℕ → Option CardKind
kind_named word =
    if same_bytes word (codes "A") then Some A
    else (if same_bytes word (codes "B") then Some B else None)

-- The word of a kind (this project's own).
abbrev pub card_kind : Reader CardKind
card_kind path d = do
  word ← of_kind path (as_str d)
  allowed path (pos (length word)) (kind_named word)

-- 4, 7 or 10 bytes. A cascade tag, 88h, neither begins a UID of 4 bytes nor stands as the fourth byte of one of 7 (ISO/IEC 14443-3).
abbrev pub is_uid : List ℕ → Bool
is_uid bytes =
    ((length bytes == 4) && not (slice_index bytes 0 == 0x88))
    || (((length bytes == 7) && not (slice_index bytes 3 == 0x88)) || (length bytes == 10))

-- A UID (ISO/IEC 14443-3).
abbrev pub uid : Reader (List ℕ)
uid = bytes_that is_uid

-- One byte without bit 04h, which says that the UID goes on (ISO/IEC 14443-3).
abbrev pub is_sak : List ℕ → Bool
is_sak bytes = (length bytes == 1) && (bit (slice_index bytes 0) 4 == 0)

-- The SAK of a card's last level (ISO/IEC 14443-3).
abbrev pub sak : Reader (List ℕ)
sak = bytes_that is_sak

-- The code of the frame size that a card takes (ISO/IEC 14443-4; the default is this project's own).
abbrev pub frame_code : Place → Result ℕ Fault
frame_code place = defaulted 8 (integer_in 0 8) (codes "fsci") place

-- The frame waiting time integer (ISO/IEC 14443-4; the default is this project's own).
abbrev pub waiting_code : Place → Result ℕ Fault
waiting_code place = defaulted 4 (integer_in 0 14) (codes "fwi") place

-- The answers to SELECT PPSE (this project's own).
abbrev pub ppse_list : Place → Result (List (List ℕ)) Fault
ppse_list place = defaulted [] (list_of elements.Text 0 ANSWERS response) (codes "ppse") place

-- The applications (this project's own).
abbrev pub app_list : Place → Result (List App) Fault
app_list place = defaulted [] (list_of elements.Table 0 APPLICATIONS app) (codes "apps") place

-- The keys of a card of Type A, in the order in which they are checked (this project's own).
abbrev pub a_keys : List (List ℕ)
a_keys =
    codes "kind" ∷ codes "uid" ∷ codes "sak" ∷ codes "historical" ∷ codes "fsci" ∷ codes "fwi" ∷ codes "ppse"
    ∷ codes "apps" ∷ []

-- What the table of a card of Type A says (this project's own).
unfoldable pub a_card_at : Place → Result Card Fault
a_card_at place = do
  id ← required uid (codes "uid") place
  last ← defaulted (0x20 ∷ []) sak (codes "sak") place
  historical ← defaulted [] (byte_text 0 15) (codes "historical") place
  fsci ← frame_code place
  fwi ← waiting_code place
  ppse ← ppse_list place
  apps ← app_list place
  Ok (record {
    outside = OfA (record { uid = id; sak = slice_index last 0; fsci = fsci; fwi = fwi; historical = historical }) Idle;
    ppse = ppse;
    apps = apps;
  })

-- The keys of a card of Type B, in the order in which they are checked (this project's own).
abbrev pub b_keys : List (List ℕ)
b_keys =
    codes "kind" ∷ codes "pupi" ∷ codes "app_data" ∷ codes "iso4" ∷ codes "fsci" ∷ codes "fwi" ∷ codes "ppse"
    ∷ codes "apps" ∷ []

-- What the table of a card of Type B says (this project's own).
unfoldable pub b_card_at : Place → Result Card Fault
b_card_at place = do
  pupi ← required (byte_text 4 4) (codes "pupi") place
  app_data ← defaulted (0 ∷ 0 ∷ 0 ∷ 0 ∷ []) (byte_text 4 4) (codes "app_data") place
  iso4 ← defaulted true truth (codes "iso4") place
  fsci ← frame_code place
  fwi ← waiting_code place
  ppse ← ppse_list place
  apps ← app_list place
  Ok (record {
    outside = OfB (record { pupi = pupi; app_data = app_data; fsci = fsci; fwi = fwi; iso4 = iso4 }) BIdle;
    ppse = ppse;
    apps = apps;
  })

-- What the table of a card of this kind says, whose keys are those of the kind (this project's own).
abbrev pub card_of_kind : CardKind → Reader Card
card_of_kind A path d = do
  place ← table_of a_keys path d
  a_card_at place
card_of_kind B path d = do
  place ← table_of b_keys path d
  b_card_at place

-- A card's table: its kind is checked first, since its keys depend on it (this project's own).
abbrev pub card : Reader Card
card path d = do
  members ← of_kind path (as_table d)
  kind ← required card_kind (codes "kind") (record { path = path; members = members })
  card_of_kind kind path d

-- Whether two cards are of one kind and have one UID or PUPI (ISO/IEC 14443-3).
abbrev pub is_same : Card → Card → Bool
is_same c d = same_kind (kind_of c.outside) (kind_of d.outside) && bytes_eq (id_of c.outside) (id_of d.outside)

-- The key of a card's identifier (this project's own).
abbrev pub id_key : Outside → List ℕ
id_key (OfA plan state) = codes "uid"
id_key (OfB plan state) = codes "pupi"

-- The card with this number, where an earlier one is the same or none is: the fault has the number of the earlier one (this project's own).
abbrev pub is_new : List ℕ → ℕ → Card → Option ℕ → Result (Unit {0}) Fault
is_new path number c None = Ok tt
is_new path number c (Some k) = fails Conflict (key_path (element_path path number) (id_key c.outside)) (pos (k + 1))

-- Each of these cards in turn, after others before it: none is the same as an earlier one (this project's own).
abbrev pub all_new : List ℕ → List Card → List Card → Result (Unit {0}) Fault
all_new path before [] = Ok tt
all_new path before (c ∷ cs) = do
  new ← is_new path (length before + 1) c (position (is_same c) before)
  all_new path (before ++ c ∷ []) cs

-- An array of cards, at most four, of which no two are the same (this project's own).
abbrev pub card_list : Reader (List Card)
card_list path d = do
  cards ← list_of elements.Table 0 CARDS card path d
  new ← all_new path [] cards
  Ok cards

-- The cards of a transaction (this project's own).
abbrev pub cards_at : Place → Result (List Card) Fault
cards_at place = defaulted [] card_list (codes "cards") place
