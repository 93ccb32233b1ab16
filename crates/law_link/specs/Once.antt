-- Exactly once over one link.
use Rattle.std.specs.Prelude.{◌≡◌, ◌⊎◌, ℕ, suc, ◌≤◌, Bool, true, not, cond, if◌then◌else◌, List, [], ◌∷◌, ◌++◌, length}
use Rattle.ep_base.specs.declared.limits.TheConstants.{ANSWER_WAITS, COMMAND, COMMAND_EXCHANGES, RESPONSE}
use Rattle.ep_base.specs.Link.Block.{other, is_bad, count}
use Rattle.ep_base.specs.Link.ReaderEnd.{Reader, Idle, begin}
use Rattle.ep_base.specs.Link.CardEnd.{CommandRules, Card, Parts}
use Rattle.ep_base.specs.Link.OneLink.{Frames, BlockFate, End, Open, Done, Spent, Breach, run_command}

-- An image's commands have at most `COMMAND` bytes, its responses 2 to `RESPONSE`, and at most `ANSWER_WAITS` S(WTX) come before one.
pub record IsImage (image : CommandRules) : Type 0 where
  pub commands : (command : List ℕ) → image.is_command command ≡ true → length command ≤ COMMAND
  pub responses : (log : List (List ℕ)) → (2 ≤ length (image.answer log).response) × (length (image.answer log).response ≤ RESPONSE)
  pub waits : (log : List (List ℕ)) → (image.answer log).wtx ≤ ANSWER_WAITS

-- No frame is shorter than 16 bytes.
pub record AreFrames (frames : Frames) : Type 0 where
  pub card : 16 ≤ frames.card
  pub reader : 16 ≤ frames.reader

-- Between two commands the numbers differ, and nothing is left of the last one.
pub record IsIdle (r : Reader) (card : Card) : Type 0 where
  pub differ : r.number ≡ other card.number
  pub closed : r.phase ≡ Idle
  pub fresh : r.since ≡ []
  pub none_taken : card.taken ≡ []
  pub none_left : card.left ≡ Parts []

-- How a command may end, from the executions before it; the first case is every moment before its end.
abbrev pub ExactlyOnce : CommandRules → List (List ℕ) → List ℕ → End → Type 0
ExactlyOnce image before command (Open r card) = (card.log ≡ before) ⊎ (card.log ≡ before ++ command ∷ [])
ExactlyOnce image before command (Done response r card fates) =
    (response ≡ (image.answer (before ++ command ∷ [])).response) × (card.log ≡ before ++ command ∷ []) × IsIdle r card
ExactlyOnce image before command (Spent r card) =
    (count is_bad r.since ≡ 3) × ((card.log ≡ before) ⊎ (card.log ≡ before ++ command ∷ []))
ExactlyOnce image before command (Breach r card) = ⊥

-- Whatever becomes of the frames.
abbrev pub OneCommand : Type 0
OneCommand = (frames : Frames) (image : CommandRules) (fates : List BlockFate) (r : Reader) (card : Card) (command : List ℕ) →
    AreFrames frames → IsImage image → IsIdle r card → image.is_command command ≡ true →
    ExactlyOnce image card.log command (run_command frames image fates (begin frames.card command r) card)

-- How many exchanges lose a frame.
abbrev pub is_loss : BlockFate → Bool
is_loss f = if f.down then not f.up else true

abbrev pub losses : List BlockFate → ℕ
losses [] = 0
losses (f ∷ fates) = cond (is_loss f) (suc (losses fates)) (losses fates)

-- Neither spent nor broken.
abbrev pub IsSafe : End → Type 0
IsSafe (Open r card) = Unit {0}
IsSafe (Done response r card fates) = Unit {0}
IsSafe (Spent r card) = ⊥
IsSafe (Breach r card) = ⊥

abbrev pub IsAnswered : End → Type 0
IsAnswered (Open r card) = ⊥
IsAnswered (Done response r card fates) = Unit {0}
IsAnswered (Spent r card) = ⊥
IsAnswered (Breach r card) = ⊥

-- Where two frames are lost at most, and there is time for it, a command is answered.
abbrev pub FewLosses : Type 0
FewLosses = (frames : Frames) (image : CommandRules) (fates : List BlockFate) (r : Reader) (card : Card) (command : List ℕ) →
    AreFrames frames → IsImage image → IsIdle r card → image.is_command command ≡ true →
    losses fates ≤ 2 → COMMAND_EXCHANGES ≤ length fates →
    IsAnswered (run_command frames image fates (begin frames.card command r) card)
