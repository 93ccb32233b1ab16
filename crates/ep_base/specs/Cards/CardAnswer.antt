-- What a card image answers to a command (this project's own).
use Rattle.std.specs.Prelude.{ℕ, ◌+◌, ◌-◌, ◌≤◌, ◌<◌, ◌&&◌, min, nat_lt, nat_eq, Bool, List, [], ◌∷◌, length, slice_get, slice_set, position, unwrap_or, All, if◌then◌else◌}
use Rattle.std.specs.declared.option.Option.{Option}
use Rattle.std.specs.Prelude.{Some, None}
use Rattle.std.specs.Option.{ForSome}
use Rattle.std.specs.List.{starts_with}
use Rattle.ep_base.specs.Cards.Apdu.{same_bytes, command_data, ppse_name, is_9000}
use Rattle.ep_base.specs.declared.limits.TheConstants.{ANSWER_WAITS, ANSWERS, APPLICATIONS, COMMAND, RESPONSE, RULES}

-- A response, how many S(WTX) come before it, and their WTXM.
pub record Answered : Type 0 where
  pub response : List ℕ
  pub wtx : ℕ
  pub wtxm : ℕ

-- A list of responses, given in turn and the last one again and again, and how many were given: it stays at the list's length.
pub record Answers : Type 0 where
  pub list : List (List ℕ)
  pub used : ℕ

-- The answer to the commands that begin with a prefix.
pub record Rule : Type 0 where
  pub prefix : List ℕ
  pub responses : Answers
  pub wtx : ℕ
  pub wtxm : ℕ

-- An application: its name, the answers to its SELECT, and its rules.
pub record App : Type 0 where
  pub name : List ℕ
  pub selects : Answers
  pub wtx : ℕ
  pub wtxm : ℕ
  pub rules : List Rule

-- A card's image: its number, the answers to SELECT PPSE, its applications, and the place of the selected one.
pub record Image : Type 0 where
  pub number : ℕ
  pub ppse : Answers
  pub apps : List App
  pub selected : Option ℕ

-- The k-th element at the k-th use, and the last one repeated; the other one where the list is empty.
abbrev pub next_answer : List ℕ → Answers → List ℕ
next_answer empty a = unwrap_or (slice_get a.list (min a.used (length a.list - 1))) empty

abbrev pub used_once : Answers → Answers
used_once a = record { list = a.list; used = min (a.used + 1) (length a.list) }

-- The status words that no list gives.
abbrev pub file_not_found : List ℕ
file_not_found = 0x6a ∷ 0x82 ∷ []

abbrev pub unknown_instruction : List ℕ
unknown_instruction = 0x6d ∷ 0x00 ∷ []

abbrev pub not_allowed_now : List ℕ
not_allowed_now = 0x69 ∷ 0x85 ∷ []

abbrev pub plain : List ℕ → Answered
plain response = record { response = response; wtx = 0; wtxm = 1 }

-- No application is selected.
abbrev pub deselected : Image → Image
deselected i = record { number = i.number; ppse = i.ppse; apps = i.apps; selected = None }

-- A SELECT by name with data.
abbrev pub is_select : List ℕ → Bool
is_select command = starts_with nat_eq command (0x00 ∷ 0xa4 ∷ 0x04 ∷ 0x00 ∷ []) && nat_lt 5 (length command)

-- The answer of an application to its SELECT, and the application after it.
abbrev pub app_answer : App → Answered
app_answer a = record { response = next_answer [] a.selects; wtx = a.wtx; wtxm = a.wtxm }

abbrev pub app_selected : App → App
app_selected a = record { name = a.name; selects = used_once a.selects; wtx = a.wtx; wtxm = a.wtxm; rules = a.rules }

-- Of the application at this place, the next answer to its SELECT; it is selected where that ends with 9000.
abbrev pub by_app : Image → ℕ → Option App → Answered × Image
by_app i n None = (plain file_not_found, deselected i)
by_app i n (Some a) = (
  app_answer a,
  record {
    number = i.number;
    ppse = i.ppse;
    apps = slice_set i.apps n (app_selected a);
    selected = (if is_9000 (app_answer a).response then Some n else None);
  },
)

abbrev pub by_place : Image → Option ℕ → Answered × Image
by_place i None = (plain file_not_found, deselected i)
by_place i (Some n) = by_app i n (slice_get i.apps n)

-- SELECT of the first application whose name equals the data.
abbrev pub select_answer : Image → List ℕ → Answered × Image
select_answer i name = by_place i (position (λ (a : App). same_bytes a.name name) i.apps)

-- SELECT PPSE: no application is selected.
abbrev pub ppse_answer : Image → Answered × Image
ppse_answer i =
    (plain (next_answer file_not_found i.ppse), record { number = i.number; ppse = used_once i.ppse; apps = i.apps; selected = None })

-- The answer of a rule, and the rule after it.
abbrev pub rule_answer : Rule → Answered
rule_answer r = record { response = next_answer [] r.responses; wtx = r.wtx; wtxm = r.wtxm }

abbrev pub rule_used : Rule → Rule
rule_used r = record { prefix = r.prefix; responses = used_once r.responses; wtx = r.wtx; wtxm = r.wtxm }

abbrev pub app_with : App → List Rule → App
app_with a rules = record { name = a.name; selects = a.selects; wtx = a.wtx; wtxm = a.wtxm; rules = rules }

-- Of an application, the next answer of the rule at this place, and the application after it.
abbrev pub by_rule : App → ℕ → Option Rule → Answered × App
by_rule a k None = (plain unknown_instruction, a)
by_rule a k (Some r) = (rule_answer r, app_with a (slice_set a.rules k (rule_used r)))

abbrev pub by_rule_place : App → Option ℕ → Answered × App
by_rule_place a None = (plain unknown_instruction, a)
by_rule_place a (Some k) = by_rule a k (slice_get a.rules k)

-- Of an application, the first rule whose prefix begins the command.
abbrev pub app_executes : App → List ℕ → Answered × App
app_executes a command = by_rule_place a (position (λ (r : Rule). starts_with nat_eq command r.prefix) a.rules)

abbrev pub with_app : Image → ℕ → App → Image
with_app i n a = record { number = i.number; ppse = i.ppse; apps = slice_set i.apps n a; selected = i.selected }

-- Of the selected application, which stands at this place.
abbrev pub in_app : Image → List ℕ → ℕ → Option App → Answered × Image
in_app i command n None = (plain not_allowed_now, i)
in_app i command n (Some a) = ((app_executes a command).0, with_app i n (app_executes a command).1)

abbrev pub other_answer : Image → List ℕ → Option ℕ → Answered × Image
other_answer i command None = (plain not_allowed_now, i)
other_answer i command (Some n) = in_app i command n (slice_get i.apps n)

-- What a card image answers to a command, and the image after it.
unfoldable pub card_answer : Image → List ℕ → Answered × Image
card_answer i command =
    if is_select command
    then (if same_bytes (command_data command) ppse_name then ppse_answer i else select_answer i (command_data command))
    else other_answer i command i.selected

-- Responses that nothing was given of yet.
abbrev pub unused : List (List ℕ) → Answers
unused list = record { list = list; used = 0 }

-- A card's image before its first command.
abbrev pub new_image : ℕ → List (List ℕ) → List App → Image
new_image number ppse apps = record { number = number; ppse = unused ppse; apps = apps; selected = None }

-- The limits of an image and of its answers (this project's profile).
pub record IsResponse (response : List ℕ) : Type 0 where
  pub least : 2 ≤ length response
  pub most : length response ≤ RESPONSE

pub record AreAnswers (a : Answers) : Type 0 where
  pub each : All IsResponse a.list
  pub few : length a.list ≤ ANSWERS
  pub given : a.used ≤ length a.list

pub record IsRule (r : Rule) : Type 0 where
  pub prefix_least : 1 ≤ length r.prefix
  pub prefix_most : length r.prefix ≤ COMMAND
  pub answers : AreAnswers r.responses
  pub some : 0 < length r.responses.list
  pub waits : r.wtx ≤ ANSWER_WAITS
  pub wtxm_least : 1 ≤ r.wtxm
  pub wtxm_most : r.wtxm ≤ 59

pub record IsApp (a : App) : Type 0 where
  pub name_least : 5 ≤ length a.name
  pub name_most : length a.name ≤ 16
  pub answers : AreAnswers a.selects
  pub some : 0 < length a.selects.list
  pub waits : a.wtx ≤ ANSWER_WAITS
  pub wtxm_least : 1 ≤ a.wtxm
  pub wtxm_most : a.wtxm ≤ 59
  pub each_rule : All IsRule a.rules
  pub few_rules : length a.rules ≤ RULES

pub record IsImage (i : Image) : Type 0 where
  pub answers : AreAnswers i.ppse
  pub each_app : All IsApp i.apps
  pub few_apps : length i.apps ≤ APPLICATIONS
  pub place : ForSome i.selected (λ n. n < length i.apps)

pub record IsAnswer (a : Answered) : Type 0 where
  pub response : IsResponse a.response
  pub waits : a.wtx ≤ ANSWER_WAITS
  pub wtxm_least : 1 ≤ a.wtxm
  pub wtxm_most : a.wtxm ≤ 59
