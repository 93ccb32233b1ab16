-- Images by the place of an application.
use Rattle.std.proofs.Common.{◌≡◌, ℕ, ◌<◌, List, length, arith, refl, get_or, slice_get, slice_set, position, length-set, Some, None, Bool, true, false, if◌then◌else◌, Option}
use Rattle.std.specs.Bool.{then_some}
use Rattle.std.specs.Option.{ForSome}
use Rattle.std.proofs.lemmas.Option.{slice_get-get_or}
use Rattle.std.proofs.lemmas.List.Elements.{All-set}
use Rattle.std.proofs.lemmas.List.Quantifiers.{position-Some}
use Rattle.ep_base.specs.Cards.Apdu.{same_bytes, is_9000}
use Rattle.ep_base.specs.Cards.CardAnswer.{Image, App, Answered, IsApp, IsImage, app_answer, app_selected, app_executes, with_app, other_answer, select_answer}

-- the image with another application at a place
pub with_app_keeps : (i : Image) (n : ℕ) (a : App) (selected : Option ℕ) → IsImage i → IsApp a → ForSome selected (λ k. k < length i.apps)
    → IsImage (record { number = i.number; ppse = i.ppse; apps = slice_set i.apps n a; selected = selected })
with_app_keeps i n a selected h g place = record {
  answers = h.answers;
  each_app = All-set IsApp i.apps n a g h.each_app;
  few_apps = rw length-set h.few_apps;
  place = rw length-set place;
}

-- a place that may be selected
pub choice_of : (b : Bool) (n : ℕ) → then_some b n ≡ (if b then Some n else None)
choice_of true n = refl
choice_of false n = refl

pub chosen : (b : Bool) (n len : ℕ) → n < len → ForSome (if b then Some n else None) (λ k. k < len)
chosen true n len lt = λ x e. (let same : n ≡ x = cc in omega arith)
chosen false n len lt = λ x e. absurd (cc)

pub chosen_within : (b : Bool) (n len : ℕ) → n < len → ForSome (then_some b n) (λ k. k < len)
chosen_within b n len lt = rw choice_of (chosen b n len lt)

abbrev place_of : Image → List ℕ → Option ℕ
place_of i name = position (λ (x : App). same_bytes x.name name) i.apps

pub place_within : (i : Image) (name : List ℕ) (n : ℕ) (a : App) → place_of i name ≡ Some n → n < length i.apps
place_within i name n a e = (position-Some (λ (x : App). same_bytes x.name name) i.apps n a e).0

found : (i : Image) (n : ℕ) (a : App) → n < length i.apps → a ≡ get_or i.apps n a → slice_get i.apps n ≡ Some a
found i n a lt e = rw (slice_get-get_or i.apps n a, ← e) refl

-- the selected application executes a command
pub executes_at : (i : Image) (command : List ℕ) (n : ℕ) (a after : App) (r : Answered) → i.selected ≡ Some n → n < length i.apps → a ≡ get_or i.apps n a
    → r ≡ (app_executes a command).0 → after ≡ (app_executes a command).1 → ◌≡◌ {A = Answered × Image} (r, with_app i n after) (other_answer i command i.selected)
executes_at i command n a after r e lt same answer goes =
    let h : slice_get i.apps n ≡ Some a = found i n a lt same in
    rw (e, h, answer, goes) refl

-- the application with the name answers its SELECT
pub selects_at : (i : Image) (name : List ℕ) (n : ℕ) (a after : App) (r : Answered) (selected : Option ℕ) → place_of i name ≡ Some n → a ≡ get_or i.apps n a
    → r ≡ app_answer a → after ≡ app_selected a → selected ≡ (if is_9000 r.response then Some n else None)
    → ◌≡◌ {A = Answered × Image} (r, record { number = i.number; ppse = i.ppse; apps = slice_set i.apps n after; selected = selected }) (select_answer i name)
selects_at i name n a after r selected e same answer goes choice =
    let h : slice_get i.apps n ≡ Some a = found i n a (place_within i name n a e) same in
    rw (e, h, choice, goes, answer) refl
