-- A transaction over a field, against the perfect run for the ends of its rounds (this project's own).
use Rattle.std.specs.Prelude.{◌≡◌, ◌⊎◌, ℕ, suc, ◌<◌, false, List, [], ◌∷◌, ◌++◌, None, length}
use Rattle.ep_base.specs.Air.Heard.{Activated}
use Rattle.ep_base.specs.Cards.Apdu.{is_command}
use Rattle.ep_base.specs.Cards.CardAnswer.{Image}
use Rattle.ep_base.specs.Cards.Field.{Field}
use Rattle.ep_base.specs.Poll.Radio.{Radio}
use Rattle.ep_rules.specs.EntryPoint.Event.{Event as EventData, Apdu, EndLink}
use Rattle.ep_rules.specs.EntryPoint.Talk.{Talk, Result, Round, Response, Closed, Commands, Nothing, so_far, IsLegal}
use Rattle.ep_rules.specs.EntryPoint.TransportRun.{HearEnd, Whole, AtLink, AtBreach, AtDevice, said_for}
use Rattle.ep_rules.specs.EntryPoint.Perfect.{Perfect}
use Rattle.ep_rules.specs.EntryPoint.Bounds.{AtMost}
use Rattle.ep_base.specs.Cards.Lawful.{Lawful}
use Rattle.ep_base.specs.Cards.Numbers.{AreDistinct, AreNumbered, HaveImages, numbers}

-- A radio before its first presentation, over a field of a document's cards with these images. Nothing is in the log (this project's own).
pub record IsNew (number_of : Activated → ℕ) (images : ℕ → Image) (s : Radio Field) : Type 0 where
  pub lawful : Lawful s.medium
  pub numbered : AreNumbered number_of s.medium.cards
  pub distinct : AreDistinct (numbers s.medium.cards)
  pub have : HaveImages images s.medium.cards
  pub unlinked : s.link ≡ None
  pub empty : s.medium.log ≡ []

-- A talk that a log with this room carries: it sends commands alone, and these to a card that was found and not closed, and the log has room for
-- more records than the talk has commands (this project's own).
pub record IsCarried (talk : Talk) (room : ℕ) : Type 0 where
  pub legal : IsLegal is_command false talk
  pub commands : ℕ
  pub most : AtMost commands talk
  pub free : commands < room

-- A talk that was heard to its end, against the perfect run: its events are those of that run, and the cards executed exactly the commands of
-- that run, each once and in order (this project's own).
pub record IsWhole (talk : Talk) (heard : List Result) (log : List (ℕ × List ℕ)) (p : Perfect) : Type 0 where
  pub events : said_for talk heard Whole ≡ (so_far talk p.results).events
  pub executed : log ≡ p.commands
  pub over : (so_far talk heard).wish ≡ Nothing

-- How many responses are among the results.
abbrev pub responses : List Result → ℕ
responses [] = 0
responses ((Round e) ∷ results) = responses results
responses ((Response r) ∷ results) = suc (responses results)
responses (Closed ∷ results) = responses results

-- A transaction that ends with a link failure, against the perfect run: one wished command has no response; the events are those of the
-- perfect run before its Apdu, and then End Link; the executions are those before it, and perhaps its own.
pub record EndsInLink (talk : Talk) (results : List Result) (events : List EventData) (log : List (ℕ × List ℕ)) (p : Perfect) : Type 0 where
  pub number : ℕ
  pub command : List ℕ
  pub wished : (so_far talk results).wish ≡ Commands command
  pub response : List ℕ
  pub before : List EventData
  pub after : List EventData
  pub perfect_said : (so_far talk p.results).events ≡ before ++ Apdu command response ∷ after
  pub said : events ≡ before ++ EndLink ∷ []
  pub earlier : List (ℕ × List ℕ)
  pub later : List (ℕ × List ℕ)
  pub perfect_executed : p.commands ≡ earlier ++ (number, command) ∷ later
  pub all_earlier : length earlier ≡ responses results
  pub executed : (log ≡ earlier) ⊎ (log ≡ earlier ++ (number, command) ∷ [])

-- By what ended the hearing: it came to its end, or a link failed, and nothing else comes (this project's own).
abbrev pub Keeps : Talk → List Result → Field → Perfect → HearEnd → Type 0
Keeps talk heard u p Whole = IsWhole talk heard u.log p
Keeps talk heard u p AtLink = EndsInLink talk heard (said_for talk heard AtLink) u.log p
Keeps talk heard u p AtBreach = ⊥
Keeps talk heard u p AtDevice = ⊥
