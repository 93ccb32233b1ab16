-- A transaction as the talk that it holds, and what it says and wishes by the results so far (this project's own form).
use Rattle.std.specs.Prelude.{◌≡◌, ℕ, zero, suc, Bool, true, false, List, [], ◌∷◌}
use Rattle.ep_base.specs.declared.outcome.Message.{Message}
use Rattle.ep_base.specs.Air.Heard.{Activated, RoundEnd, Empty, Collision, Unsupported, Broken, Found}
use Rattle.ep_rules.specs.EntryPoint.Event.{OwnEvent, Notice, Ending, NoCard, Event as EventData, Tells, Apdu, End}

-- The end of a poll round, a response, or that the presentation was closed.
pub data Result : Type 0 where
  Round : (ending : RoundEnd) → Result
  Response : (bytes : List ℕ) → Result
  Closed : Result

pub data Wish : Type 0 where
  Polls : Wish
  Commands : (command : List ℕ) → Wish
  Closes : Wish
  Nothing : Wish

-- What it says and wishes, with how it goes on after each result. Each response is said with its command.
pub data Talk : Type 0 where
  Over : (ending : Ending) → Talk
  Say : (what : OwnEvent) → (next : Talk) → Talk
  Poll : (next : RoundEnd → Talk) → Talk
  Command : (command : List ℕ) → (next : List ℕ → Talk) → Talk
  Close : (next : Talk) → Talk

-- The events so far, and the wish.
pub record SoFar : Type 0 where
  pub events : List EventData
  pub wish : Wish

abbrev pub after_event : EventData → SoFar → SoFar
after_event event s = record { events = event ∷ s.events; wish = s.wish }

abbrev pub waits : Wish → SoFar
waits wish = record { events = []; wish = wish }

abbrev pub over : Ending → SoFar
over ending = record { events = End ending ∷ []; wish = Nothing }

abbrev pub after_round : (RoundEnd → List Result → SoFar) → List Result → SoFar
after_round next [] = waits Polls
after_round next ((Round e) ∷ rest) = next e rest
after_round next ((Response r) ∷ rest) = waits Polls
after_round next (Closed ∷ rest) = waits Polls

abbrev pub after_command : List ℕ → (List ℕ → List Result → SoFar) → List Result → SoFar
after_command command next [] = waits (Commands command)
after_command command next ((Round e) ∷ rest) = waits (Commands command)
after_command command next ((Response r) ∷ rest) = after_event (Apdu command r) (next r rest)
after_command command next (Closed ∷ rest) = waits (Commands command)

abbrev pub after_close : (List Result → SoFar) → List Result → SoFar
after_close next [] = waits Closes
after_close next ((Round e) ∷ rest) = waits Closes
after_close next ((Response r) ∷ rest) = waits Closes
after_close next (Closed ∷ rest) = next rest

-- The events so far and the wish, by the results so far.
abbrev pub so_far : Talk → List Result → SoFar
so_far (Over ending) results = over ending
so_far (Say what next) results = after_event (Tells what) (so_far next results)
so_far (Poll next) results = after_round (λ e rest. so_far (next e) rest) results
so_far (Command command next) results = after_command command (λ r rest. so_far (next r) rest) results
so_far (Close next) results = after_close (λ rest. so_far next rest) results

abbrev pub is_found : RoundEnd → Bool
is_found Empty = false
is_found Collision = false
is_found Unsupported = false
is_found Broken = false
is_found (Found card) = true

-- It sends commands alone, and these to a card that was found and not closed.
abbrev pub IsLegal : (List ℕ → Bool) → Bool → Talk → Type 0
IsLegal is_command found (Over ending) = Unit {0}
IsLegal is_command found (Say what next) = IsLegal is_command found next
IsLegal is_command found (Poll next) = (e : RoundEnd) → IsLegal is_command (is_found e) (next e)
IsLegal is_command found (Command command next) =
    (found ≡ true) × (is_command command ≡ true) × ((r : List ℕ) → IsLegal is_command found (next r))
IsLegal is_command found (Close next) = IsLegal is_command false next

-- Rounds: at most n more; the first collision says its message, and n rounds without a card end the transaction.
abbrev pub say_collision : Bool → Message → Talk → Talk
say_collision true message next = next
say_collision false message next = Say (Notice message) next

abbrev pub by_end : Message → Bool → (Bool → Talk) → (Activated → Talk) → RoundEnd → Talk
by_end message collided again next Empty = again collided
by_end message collided again next Collision = say_collision collided message (again true)
by_end message collided again next Unsupported = again collided
by_end message collided again next Broken = again collided
by_end message collided again next (Found card) = next card

unfoldable pub rounds : Message → ℕ → Bool → (Activated → Talk) → Talk
rounds message zero collided next = Over NoCard
rounds message (suc n) collided next = Poll (by_end message collided (λ c. rounds message n c next) next)

-- The ends of the rounds among results.
abbrev pub ends_of : List Result → List RoundEnd
ends_of [] = []
ends_of ((Round e) ∷ results) = e ∷ ends_of results
ends_of ((Response r) ∷ results) = ends_of results
ends_of (Closed ∷ results) = ends_of results
