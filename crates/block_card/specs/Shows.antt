-- What a card's end does with a frame, by the rules of the block protocol (this project's own).
use Rattle.std.specs.Prelude.{◌≡◌, ℕ, Bool, true, false, List, [], ◌∷◌, ◌++◌, Option, Some, None}
use Rattle.arrayvec.specs.ArrayVec.{ArrayVec}
use Rattle.ep_base.specs.declared.air.CardKind.{CardKind}
use Rattle.ep_base.specs.Cards.Apdu.{is_command}
use Rattle.ep_base.specs.Air.Heard.{wave_of_kind}
use Rattle.ep_base.specs.Link.Block.{Block}
use Rattle.ep_base.specs.Link.CardEnd.{Card, CommandRules, Answer, card_hears, executes, answers, is_halted}
use Rattle.ep_base.specs.Link.Spelling.{Read, Reads, Refuses, read_block}
use Rattle.ep_base.specs.Link.Wire.{maybe_frame}
use Rattle.block_card.specs.declared.held.CardNext.{CardNext}
use Rattle.block_card.specs.declared.held.CardNext.TheVariants.{Mute, Send, Execute}
use Rattle.block_card.specs.declared.held.Step as S
use Rattle.block_card.specs.Held.{HeldCard, IsCard, last_shown}

-- What is done, with the frame that was written and the bytes that were taken (this project's own).
abbrev pub next_of : S.Step → ArrayVec ℕ → List ℕ → CardNext
next_of S.TheVariants.Mute frame taken = Mute
next_of S.TheVariants.Send frame taken = Send frame
next_of S.TheVariants.Execute frame taken = Execute taken

-- The bytes that are executed are a command (this project's own).
abbrev pub IsReady : S.Step → List ℕ → Type 0
IsReady S.TheVariants.Mute taken = Unit {0}
IsReady S.TheVariants.Send taken = Unit {0}
IsReady S.TheVariants.Execute taken = is_command taken ≡ true

-- The card's answer is this: no block and nothing said, or a block in its frame.
abbrev pub Says : CardNext → CardKind → Option Block → Type 0
Says Mute kind block = block ≡ None
Says (Send frame) kind block = maybe_frame kind block ≡ Some (record { wave = wave_of_kind kind; bytes = frame.items })
Says (Execute command) kind block = ⊥

-- After this answer the end stands for its card and says its block, and these were executed.
abbrev pub Answers : CardNext → HeldCard → List (List ℕ) → Answer → Type 0
Answers next e log a = IsCard e a.card × Says next e.kind a.block × (a.card.log ≡ log)

-- The image takes just the well-formed commands for commands.
abbrev pub TakesCommands : CommandRules → Type 0
TakesCommands image = (bytes : List ℕ) → image.is_command bytes ≡ is_command bytes

-- What a card's end does with a block, whatever its image: it answers, and executes nothing; or it executes this command, to which the answer
-- is that of the image.
abbrev pub Shows : CardNext → HeldCard → Card → Block → Type 0
Shows Mute e c block = (image : CommandRules) → TakesCommands image → Answers Mute e c.log (card_hears e.fsd image c block)
Shows (Send frame) e c block = (image : CommandRules) → TakesCommands image → Answers (Send frame) e c.log (card_hears e.fsd image c block)
Shows (Execute command) e c block =
    (is_command command ≡ true)
    × ((image : CommandRules) → TakesCommands image →
    card_hears e.fsd image c block ≡ answers e.fsd e.number (image.answer (c.log ++ command ∷ [])) (c.log ++ command ∷ []))

-- Nothing is said, and nothing changes.
abbrev pub Stays : CardNext → HeldCard → HeldCard → Type 0
Stays next old new = (next ≡ Mute) × (new ≡ old)

-- Bytes that are no block get no answer, and after S(DESELECT) none get one.
abbrev pub ShowsRead : CardNext → HeldCard → HeldCard → Card → Read → Type 0
ShowsRead next old new c (Reads block) = Shows next new c block
ShowsRead next old new c (Refuses fault) = Stays next old new

-- The same for a card that was halted, and for one that wasn't (this project's own).
abbrev pub ShowsOpen : Bool → CardNext → HeldCard → HeldCard → Card → List ℕ → Type 0
ShowsOpen true next old new c message = Stays next old new
ShowsOpen false next old new c message = ShowsRead next old new c (read_block message)

-- What a card's end does with the bytes of a frame without its check; a damaged frame has none.
abbrev pub ShowsFrame : CardNext → HeldCard → HeldCard → Card → Option (List ℕ) → Type 0
ShowsFrame next old new c None = Stays next old new
ShowsFrame next old new c (Some message) = ShowsOpen (is_halted c) next old new c message

-- The same for a step, before its frame is made and before it is known whether the bytes are a command.
abbrev pub Replies : S.Step → HeldCard → Answer → Type 0
Replies S.TheVariants.Mute e a = IsCard e a.card × (a.block ≡ None)
Replies S.TheVariants.Send e a = IsCard e a.card × (a.block ≡ last_shown e)
Replies S.TheVariants.Execute e a = ⊥

-- A step that answers leaves the log as it was (this project's own).
abbrev pub StepAnswers : S.Step → HeldCard → Card → Answer → Type 0
StepAnswers step e c a = Replies step e a × (a.card.log ≡ c.log)

-- What a step does with a block, whatever the image (this project's own).
abbrev pub StepShows : S.Step → HeldCard → Card → Block → Type 0
StepShows S.TheVariants.Mute e c block = (image : CommandRules) → StepAnswers S.TheVariants.Mute e c (card_hears e.fsd image c block)
StepShows S.TheVariants.Send e c block = (image : CommandRules) → StepAnswers S.TheVariants.Send e c (card_hears e.fsd image c block)
StepShows S.TheVariants.Execute e c block = (image : CommandRules) → card_hears e.fsd image c block ≡ executes e.fsd image e.number e.taken c.log
