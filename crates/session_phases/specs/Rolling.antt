-- How a Start B goes on after a round, for the rest of its talk.
use Rattle.std.specs.Prelude.{◌≡◌, ℕ, ◌+◌, List, [], ◌∷◌, ◌++◌}
use Rattle.ep_base.specs.Air.Heard.{Activated, RoundEnd, Found}
use Rattle.ep_rules.specs.EntryPoint.Event.{Event as EventData, Ending}
use Rattle.ep_rules.specs.EntryPoint.Event as plain
use Rattle.ep_rules.specs.EntryPoint.Talk.{Talk, Result, Over}
use Rattle.kernel_port.specs.Event.{said_of_end}
use Rattle.kernel_port.specs.declared.event.End.{End}
use Rattle.session_phases.specs.declared.steps.Rolling.{Rolling}
use Rattle.session_phases.specs.declared.steps.Rolling.TheVariants.{Round, Card, Ended}
use Rattle.session_phases.specs.Causes.{EndDecided, FindsNone}
use Rattle.session_phases.specs.Rounds.{polls}
use Rattle.session_phases.specs.Shown.{EndLeft}
use Rattle.session_phases.specs.Told.{Comes}

-- The talk is over after all of these events but the last, which is its end's word; where it was carried through, an outcome stands before that
-- (this project's own).
pub record OverBy (end : End) (talk : Talk) (results : List Result) (said : List EventData) : Type 0 where
  pub before : List EventData
  pub last : said ≡ before ++ said_of_end end ∷ []
  pub decided : EndDecided end before
  pub ending : Ending
  pub word : said_of_end end ≡ plain.End ending
  pub comes : Comes talk results before (Over ending)

-- For these results a talk says these events, and then goes on as the Start B does: with another round, with the card that was found, or not at all
-- (this project's profile).
abbrev pub RollsOn : Rolling → Talk → List Result → List EventData → (Activated → Talk) → Type 0
RollsOn (Round left collided) talk results said next = Comes talk results said (polls left collided next)
RollsOn (Card card) talk results said next = Comes talk results said (next card.now)
RollsOn (Ended end) talk results said next = OverBy end talk results said

-- It goes on so after this end of a round: with the card that the round found, or otherwise where it found none (this project's profile).
abbrev pub RollsBy : Rolling → RoundEnd → Type 0
RollsBy (Round left collided) e = FindsNone e
RollsBy (Card card) e = e ≡ Found card.now
RollsBy (Ended end) e = FindsNone e

-- It goes on so where so many rounds might still come: another one is one of these, and it ends without a card only after the last one (this
-- project's profile).
abbrev pub RollsFrom : Rolling → ℕ → Type 0
RollsFrom (Round left collided) old = left + 1 ≡ old
RollsFrom (Card card) old = Unit {0}
RollsFrom (Ended end) old = EndLeft end old
