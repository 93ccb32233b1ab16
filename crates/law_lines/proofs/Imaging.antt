-- An image of bytes answers in bytes, and stays one.
use Rattle.std.proofs.Common.{◌≡◌, ℕ, ◌-◌, ◌≤◌, Bool, true, false, List, [], ◌∷◌, length, Option, Some, None, refl, sym, subst, arith}
use Rattle.std.specs.Prelude.{All, min, unwrap_or, slice_get, slice_set, position, nat_eq, if◌then◌else◌}
use Rattle.std.specs.List.{starts_with}
use Rattle.std.proofs.lemmas.Option.{unwrap_or-slice_get, get_or_from_slice_get, slice_get_within, slice_get_past}
use Rattle.std.proofs.lemmas.List.Elements.{All-set, All-get_or}
use Rattle.hex.specs.Hex.{IsBytes}
use Rattle.ep_base.specs.Air.Heard.{Activated}
use Rattle.ep_base.specs.Cards.Apdu.{same_bytes, command_data, ppse_name}
use Rattle.ep_base.specs.Cards.CardAnswer.{Answered, Rule, App, Image, IsImage, file_not_found, is_select, app_selected, by_app, by_place, select_answer, ppse_answer, rule_used, app_with, by_rule, by_rule_place, app_executes, in_app, other_answer, card_answer}
use Rattle.ep_base.specs.Cards.Direct.{image_rules}
use Rattle.ep_base.specs.Cards.Images.{unasked, last_answer}
use Rattle.ep_base.specs.Link.Wire.{by_commands, image_after}
use Rattle.law_wire.proofs.Limits.{answer_is, images_keep}
use Rattle.law_lines.specs.Bytes.{RuleOfBytes, AppOfBytes, ImageOfBytes}
use Rattle.law_lines.proofs.Octets.{bytes_nil, bytes_two}

-- an element at a place
element : {X : Type 0} (P : X → Type 0) (xs : List X) (n : ℕ) (x : X) → All P xs → slice_get xs n ≡ Some x → P x
element P xs n x all e = subst P (get_or_from_slice_get xs n x x e) (All-get_or P xs n x (slice_get_within xs n x e) all)

-- the next response of a list
next_bytes : (empty : List ℕ) (list : List (List ℕ)) (used : ℕ) → All IsBytes list → IsBytes empty
    → IsBytes (unwrap_or (slice_get list (min used (length list - 1))) empty)
next_bytes empty [] used all e = subst (λ (o : Option (List ℕ)). IsBytes (unwrap_or o empty)) (sym (slice_get_past {X = List ℕ} [] (min used (0 - 1)) (omega arith))) e
next_bytes empty (x ∷ xs) used all e =
    let list = x ∷ xs in
    subst IsBytes (sym (unwrap_or-slice_get list (min used (length list - 1)) empty)) (All-get_or IsBytes list (min used (length list - 1)) empty (omega arith) all)

-- a response of bytes, after which what gave it is of bytes
record Gives {X : Type 0} (P : X → Type 0) (a : Answered × X) : Type 0 where
  response : IsBytes a.0.response
  within : P a.1

with_rules : (a : App) (rules : List Rule) → AppOfBytes a → All RuleOfBytes rules → AppOfBytes (app_with a rules)
with_rules a rules h all = record { selects = h.selects; rules = all }

module _ (a : App) (is : AppOfBytes a) where
  rule_gives : (k : ℕ) (o : Option Rule) → slice_get a.rules k ≡ o → Gives AppOfBytes (by_rule a k o)
  rule_gives k None e = record { response = bytes_two 0x6d 0x00 (omega arith) (omega arith); within = is }
  rule_gives k (Some r) e =
      let rule : RuleOfBytes r = element RuleOfBytes a.rules k r is.rules e in
      record {
        response = next_bytes [] r.responses.list r.responses.used rule bytes_nil;
        within = with_rules a (slice_set a.rules k (rule_used r)) is (All-set RuleOfBytes a.rules k (rule_used r) rule is.rules);
      }

  rule_place_gives : (o : Option ℕ) → Gives AppOfBytes (by_rule_place a o)
  rule_place_gives None = record { response = bytes_two 0x6d 0x00 (omega arith) (omega arith); within = is }
  rule_place_gives (Some k) = rule_gives k (slice_get a.rules k) refl

  executes_gives : (command : List ℕ) → Gives AppOfBytes (app_executes a command)
  executes_gives command = rule_place_gives (position (λ (r : Rule). starts_with nat_eq command r.prefix) a.rules)

module _ (i : Image) (w : ImageOfBytes i) where
  app_gives : (n : ℕ) (o : Option App) → slice_get i.apps n ≡ o → Gives ImageOfBytes (by_app i n o)
  app_gives n None e = record { response = bytes_two 0x6a 0x82 (omega arith) (omega arith); within = record { ppse = w.ppse; apps = w.apps } }
  app_gives n (Some a) e =
      let is : AppOfBytes a = element AppOfBytes i.apps n a w.apps e in
      let selected : AppOfBytes (app_selected a) = record { selects = is.selects; rules = is.rules } in
      record {
        response = next_bytes [] a.selects.list a.selects.used is.selects bytes_nil;
        within = record { ppse = w.ppse; apps = All-set AppOfBytes i.apps n (app_selected a) selected w.apps };
      }

  place_gives : (o : Option ℕ) → Gives ImageOfBytes (by_place i o)
  place_gives None = record { response = bytes_two 0x6a 0x82 (omega arith) (omega arith); within = record { ppse = w.ppse; apps = w.apps } }
  place_gives (Some n) = app_gives n (slice_get i.apps n) refl

  in_app_gives : (command : List ℕ) (n : ℕ) (o : Option App) → slice_get i.apps n ≡ o → Gives ImageOfBytes (in_app i command n o)
  in_app_gives command n None e = record { response = bytes_two 0x69 0x85 (omega arith) (omega arith); within = w }
  in_app_gives command n (Some a) e =
      let g : Gives AppOfBytes (app_executes a command) = executes_gives a (element AppOfBytes i.apps n a w.apps e) command in
      record { response = g.response; within = record { ppse = w.ppse; apps = All-set AppOfBytes i.apps n (app_executes a command).1 g.within w.apps } }

  other_gives : (command : List ℕ) (o : Option ℕ) → Gives ImageOfBytes (other_answer i command o)
  other_gives command None = record { response = bytes_two 0x69 0x85 (omega arith) (omega arith); within = w }
  other_gives command (Some n) = in_app_gives command n (slice_get i.apps n) refl

  ppse_gives : Gives ImageOfBytes (ppse_answer i)
  ppse_gives = record {
    response = next_bytes file_not_found i.ppse.list i.ppse.used w.ppse (bytes_two 0x6a 0x82 (omega arith) (omega arith));
    within = record { ppse = w.ppse; apps = w.apps };
  }

  by_tests : (command : List ℕ) (a b : Bool) → Gives ImageOfBytes (if a then (if b then ppse_answer i else select_answer i (command_data command)) else other_answer i command i.selected)
  by_tests command true true = ppse_gives
  by_tests command true false = place_gives (position (λ (a : App). same_bytes a.name (command_data command)) i.apps)
  by_tests command false b = other_gives command i.selected

  answer_gives : (command : List ℕ) → Gives ImageOfBytes (card_answer i command)
  unfolding card_answer
  answer_gives command = by_tests command (is_select command) (same_bytes (command_data command) ppse_name)

-- ---- an image of bytes, within the limits of a document

pub record IsGood (i : Image) : Type 0 where
  pub bytes : ImageOfBytes i
  pub limits : IsImage i

-- an answer that blocks can carry
pub record IsSent (a : Answered) : Type 0 where
  pub response : IsBytes a.response
  pub wtxm : a.wtxm ≤ 59

pub good_deselected : (i : Image) → IsGood i → IsGood (record { number = i.number; ppse = i.ppse; apps = i.apps; selected = None })
good_deselected i g = record { bytes = record { ppse = g.bytes.ppse; apps = g.bytes.apps }; limits = (images_keep (λ card. 0)).clears i g.limits }

abbrev Fine : Answered × Image → Type 0
Fine a = IsSent a.0 × IsGood a.1

next_fine : (i : Image) (command : List ℕ) → IsGood i → Fine (card_answer i command)
next_fine i command g =
    let gives = answer_gives i g.bytes command in
    let is = answer_is i command g.limits in (
      record { response = gives.response; wtxm = is.wtxm_most },
      record { bytes = gives.within; limits = (images_keep (λ card. 0)).stays 0 i command g.limits },
    )

all_fine : (f : Activated → ℕ) (n : ℕ) (a : Answered × Image) (commands : List (List ℕ)) → Fine a → Fine (last_answer (image_rules f) n a commands)
all_fine f n a [] fine = fine
all_fine f n a (c ∷ commands) fine = all_fine f n (card_answer a.1 c) commands (next_fine a.1 c fine.1)

fine_from : (i : Image) (commands : List (List ℕ)) → IsGood i → Fine (last_answer (image_rules (λ card. i.number)) i.number (unasked, i) commands)
fine_from i commands g =
    all_fine (λ card. i.number) i.number (unasked, i) commands (record { response = bytes_two 0 0 (omega arith) (omega arith); wtxm = omega arith }, g)

pub good_after : (i : Image) (commands : List (List ℕ)) → IsGood i → IsGood (image_after i commands)
good_after i commands g = (fine_from i commands g).1

pub good_answers : (i : Image) → IsGood i → (commands : List (List ℕ)) → IsSent ((by_commands i).answer commands)
good_answers i g commands = (fine_from i commands g).0
