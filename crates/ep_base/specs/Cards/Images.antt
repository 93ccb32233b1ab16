-- What the cards of a transaction answer (this project's own).
use Rattle.std.specs.Prelude.{ℕ, ◌==◌, Bool, List, [], ◌∷◌, if◌then◌else◌}
use Rattle.ep_base.specs.Air.Heard.{Activated}
use Rattle.ep_base.specs.Cards.CardAnswer.{Answered}
use Rattle.ep_base.specs.Link.CardEnd.{CommandRules}

-- The rules of the cards, whose images have the states S: which bytes are a command, the answer of the card with this number and the state
-- after it, the state in which no application is selected, and the number of the card that a round found.
pub record Rules (S : Type 0) : Type 0 where
  pub is_command : List ℕ → Bool
  pub answers : ℕ → S → List ℕ → Answered × S
  pub deselected : S → S
  pub number_of : Activated → ℕ

abbrev pub unasked : Answered
unasked = record { response = 0 ∷ 0 ∷ []; wtx = 0; wtxm = 1 }

-- The last answer to these commands, and the state after them.
abbrev pub last_answer : {S : Type 0} → Rules S → ℕ → Answered × S → List (List ℕ) → Answered × S
last_answer rules n a [] = a
last_answer rules n a (command ∷ commands) = last_answer rules n (rules.answers n a.1 command) commands

abbrev pub state_after : {S : Type 0} → Rules S → ℕ → S → List (List ℕ) → S
state_after rules n s commands = (last_answer rules n (unasked, s) commands).1

-- A card from this state on, by the commands that it executes then.
abbrev pub image_from : {S : Type 0} → Rules S → ℕ → S → CommandRules
image_from rules n s = record { is_command = rules.is_command; answer = λ commands. (last_answer rules n (unasked, s) commands).0 }

-- The states with that of card n changed.
abbrev pub stored : {S : Type 0} → ℕ → S → (ℕ → S) → ℕ → S
stored n s images k = if k == n then s else images k
