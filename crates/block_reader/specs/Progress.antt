-- When the progress of a command stands for a state of the rules (this project's own).
use Rattle.std.specs.Prelude.{◌≡◌, ℕ, ◌+◌, ◌-◌, ◌<◌, ◌≤◌, nat_lt, Bool, true, false, List, [], length, take, drop}
use Rattle.ep_base.specs.declared.limits.TheConstants.{WAITS}
use Rattle.ep_base.specs.Link.Block.{Block, I, RAck, RNak, Wtx, ReadBlock, other, is_bad, is_wtx, count}
use Rattle.ep_base.specs.Link.Parts.{cut}
use Rattle.ep_base.specs.Link.ReaderEnd as rules
use Rattle.block_reader.specs.declared.progress.Progress.{Progress}
use Rattle.block_reader.specs.declared.stages.Stage.{Stage}
use Rattle.block_reader.specs.declared.stages.Stage.TheVariants as stage
use Rattle.block_reader.specs.declared.stages.Question.{Question}
use Rattle.block_reader.specs.declared.stages.Question.TheVariants as question
use Rattle.block_reader.specs.declared.stages.Step.{Step}
use Rattle.block_reader.specs.declared.stages.Step.TheVariants as step

-- What a progress holds.
pub record Course : Type 0 where
  pub card_frame : ℕ
  pub frame : ℕ
  pub number : Bool
  pub stage : Stage
  pub question : Question
  pub bad : ℕ
  pub wtx : ℕ
  pub command : List ℕ
  pub place : ℕ
  pub got : List ℕ

-- What a progress holds, in plain data (this project's own).
abbrev pub course : Progress → Course
course p = record {
  card_frame = p.card_frame;
  frame = p.frame;
  number = p.number;
  stage = p.stage;
  question = p.question;
  bad = p.bad;
  wtx = p.wtx;
  command = p.command.items;
  place = p.place;
  got = p.got.items;
}

-- The phase of a stage, whose parts have this size.
abbrev pub phase_by : Stage → ℕ → List ℕ → ℕ → List ℕ → rules.Phase
phase_by stage.Resting size command place got = rules.Idle
phase_by stage.Sending size command place got = rules.Sending (cut size (drop place command)).first (cut size (drop place command)).others
phase_by stage.Receiving size command place got = rules.Receiving got
phase_by stage.Failed size command place got = rules.Idle
phase_by stage.Closed size command place got = rules.Idle

-- The phase of a progress (this project's own).
abbrev pub phase_of : Course → rules.Phase
phase_of e = phase_by e.stage (e.card_frame - 3) e.command e.place e.got

-- The block of a question (this project's own).
abbrev pub block_by : Question → Bool → ℕ → List ℕ → ℕ → Block
block_by question.Part number size command place = I number (nat_lt (place + size) (length command)) (take size (drop place command))
block_by question.Ack number size command place = RAck number
block_by question.Nak number size command place = RNak number
block_by (question.Waiting wtxm) number size command place = Wtx 0 wtxm

-- The block that is sent.
abbrev pub block_due : Course → Block
block_due e = block_by e.question e.number (e.card_frame - 3) e.command e.place

-- Nothing of a response is kept while the command is sent.
abbrev pub NoneGot : Stage → List ℕ → Type 0
NoneGot stage.Resting got = Unit {0}
NoneGot stage.Sending got = got ≡ []
NoneGot stage.Receiving got = Unit {0}
NoneGot stage.Failed got = Unit {0}
NoneGot stage.Closed got = Unit {0}

-- What the blocks of an open command are made of.
pub record Carried : Type 0 where
  pub number : Bool
  pub card_frame : ℕ
  pub command : List ℕ
  pub place : ℕ

abbrev pub carried : Course → Carried
carried e = record { number = e.number; card_frame = e.card_frame; command = e.command; place = e.place }

-- The block of a question, out of what is carried (this project's own).
abbrev pub block_from : Question → Carried → Block
block_from q c = block_by q c.number (c.card_frame - 3) c.command c.place

-- The parts of a progress, one for each part of the state.
pub record IsAt (e : Course) (r : rules.Reader) : Type 0 where
  pub number : r.number ≡ e.number
  pub phase : r.phase ≡ phase_of e
  pub bad : e.bad ≡ count is_bad r.since
  pub wtx : e.wtx ≡ count is_wtx r.since
  pub fresh : NoneGot e.stage e.got

-- An open command asks its block.
pub record Sends (e : Course) (r : rules.Reader) : Type 0 where
  pub state : IsAt e r
  pub block : rules.asked r ≡ block_due e
  pub few : (e.bad < 3) × (e.wtx ≤ WAITS)

-- Where a step leads from a reader at this hearing.
pub record Goes (e : Course) (h : ReadBlock) (r q : rules.Reader) : Type 0 where
  pub sends : Sends e q
  pub same : q ≡ rules.kept h r

-- The number was toggled, and nothing was heard since (this project's own).
pub record Toggles (e : Course) (r q : rules.Reader) : Type 0 where
  pub sends : Sends e q
  pub number : q.number ≡ other r.number
  pub fresh : q.since ≡ []

-- The response is whole, and no command is open (this project's own).
pub record Ends (e : Course) (response : List ℕ) (r q : rules.Reader) : Type 0 where
  pub got : e.got ≡ response
  pub state : IsAt e q
  pub closed : e.stage ≡ stage.Resting
  pub fresh : q.since ≡ []

-- The link is spent with this hearing (this project's own).
pub record Fails (e : Course) (h : ReadBlock) (r q : rules.Reader) : Type 0 where
  pub same : q ≡ rules.kept h r
  pub number : q.number ≡ e.number
  pub bad : e.bad ≡ count is_bad q.since
  pub three : e.bad ≡ 3

-- The rules are broken, and the reader is as before (this project's own).
pub record Breaks (e : Course) (r q : rules.Reader) : Type 0 where
  pub same : q ≡ r
  pub state : IsAt e q

-- A step is what the reader's table says of this hearing (this project's own).
abbrev pub StepShows : Step → Course → ReadBlock → rules.Reader → rules.ReaderTurn → Type 0
StepShows step.Again e h r (rules.Asks q) = Goes e h r q
StepShows step.Toggled e h r (rules.Asks q) = Toggles e r q
StepShows step.Done e h r (rules.Gives response q) = Ends e response r q
StepShows step.Spent e h r (rules.Spends q) = Fails e h r q
StepShows step.Breach e h r (rules.Breaks q) = Breaks e r q
StepShows _ _ _ _ _ = ⊥

-- What stays at every step.
abbrev pub Keeps : Progress → Progress → Type 0
Keeps old new = (new.card_frame ≡ old.card_frame) × (new.frame ≡ old.frame)

-- What was sent before a hearing that leads to no toggle can still be sent (this project's own).
abbrev pub Repeats : Step → Course → Course → Type 0
Repeats step.Again old new = carried new ≡ carried old
Repeats step.Toggled old new = Unit {0}
Repeats step.Done old new = Unit {0}
Repeats step.Spent old new = carried new ≡ carried old
Repeats step.Breach old new = carried new ≡ carried old

-- Whether a step ends the link as spent.
abbrev pub is_spent : Step → Bool
is_spent step.Again = false
is_spent step.Toggled = false
is_spent step.Done = false
is_spent step.Spent = true
is_spent step.Breach = false

-- A whole response has at least two bytes.
abbrev pub IsWhole : Step → List ℕ → Type 0
IsWhole step.Again got = Unit {0}
IsWhole step.Toggled got = Unit {0}
IsWhole step.Done got = 2 ≤ length got
IsWhole step.Spent got = Unit {0}
IsWhole step.Breach got = Unit {0}
