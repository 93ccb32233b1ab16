-- A transaction between two of its exchanges: by the results so far its talk says events and wishes something (this project's own form).
use Rattle.std.specs.Prelude.{ℕ, List, [], ◌∷◌, ◌++◌, Option, Some, None}
use Rattle.ep_base.specs.Air.Heard.{Ask, Heard, RoundEnd, Empty, Collision, Unsupported, Broken, Found}
use Rattle.ep_base.specs.Air.Heard as rounds
use Rattle.ep_base.specs.Poll.Round.{Stage, Waking, round_asks, round_hears}
use Rattle.ep_base.specs.Link.Block.{Block, Deselect}
use Rattle.ep_base.specs.Link.ReaderEnd.{ReaderTurn, Asks, Gives, Spends, Breaks, asked, begin}
use Rattle.ep_base.specs.Link.LinkFrames.{LinkSetting, block_ask}
use Rattle.ep_base.specs.Link.Carry.{turn_on}
use Rattle.ep_base.specs.Poll.Radio.{OpenLink, link_to}
use Rattle.ep_rules.specs.EntryPoint.Event.{Event as EventData}
use Rattle.ep_rules.specs.EntryPoint.Talk.{Talk, Result, Round, Response, Closed, Wish, Polls, Commands, Closes, Nothing, so_far}
use Rattle.ep_rules.specs.EntryPoint.TransportRun.{HearEnd, Whole, AtLink, AtBreach, said_for}

-- What the next exchange is of: a poll round, which stands at a stage; an open command, with the reader's end of its link; the closing of a link;
-- or there is none, since the transaction is over, or wishes a command or a closing without a card (this project's own).
pub data Doing : Type 0 where
  Rounds : (stage : Stage) → Doing
  Carries : (link : OpenLink) → Doing
  Closing : (link : OpenLink) → Doing
  Stopped : (ending : HearEnd) → Doing
  Astray : Doing

-- The results so far, and what the next exchange is of (this project's own).
pub record Standing : Type 0 where
  pub results : List Result
  pub doing : Doing

-- The link whose reader has begun this command (ISO/IEC 14443-4).
abbrev pub begins : OpenLink → List ℕ → OpenLink
begins l command = record { set = l.set; reader = begin l.set.frames.card command l.reader }

-- What follows from a wish, with the open link, if there is one (this project's profile).
abbrev pub doing_by : Wish → Option OpenLink → Doing
doing_by Polls link = Rounds Waking
doing_by (Commands command) (Some l) = Carries (begins l command)
doing_by (Commands command) None = Astray
doing_by Closes (Some l) = Closing l
doing_by Closes None = Astray
doing_by Nothing link = Stopped Whole

-- After these results, with this link (this project's own).
abbrev pub standing : Talk → List Result → Option OpenLink → Standing
standing talk results link = record { results = results; doing = doing_by (so_far talk results).wish link }

-- A transaction that begins (this project's own).
abbrev pub started : Talk → Standing
started talk = standing talk [] None

-- A block of a link in the air (ISO/IEC 14443-4).
abbrev pub asks_block : LinkSetting → Block → Ask
asks_block set b = block_ask set.kind set.fwi b

-- What is asked in the next exchange, if there is one (this project's own).
abbrev pub asked_by : ℕ → Doing → Option Ask
asked_by fsdi (Rounds stage) = Some (round_asks fsdi stage)
asked_by fsdi (Carries l) = Some (asks_block l.set (asked l.reader))
asked_by fsdi (Closing l) = Some (asks_block l.set Deselect)
asked_by fsdi (Stopped ending) = None
asked_by fsdi Astray = None

-- The link that a round opens (this project's profile).
abbrev pub link_by : ℕ → RoundEnd → Option OpenLink
link_by fsdi Empty = None
link_by fsdi Collision = None
link_by fsdi Unsupported = None
link_by fsdi Broken = None
link_by fsdi (Found card) = Some (link_to fsdi card)

-- After a hearing in a round (this project's profile).
abbrev pub after_stage : ℕ → Talk → List Result → rounds.RoundTurn Stage → Standing
after_stage fsdi talk results (rounds.Goes stage) = record { results = results; doing = Rounds stage }
after_stage fsdi talk results (rounds.Ends e) = standing talk (results ++ Round e ∷ []) (link_by fsdi e)

-- After a hearing of an open command (ISO/IEC 14443-4).
abbrev pub after_turn : Talk → List Result → LinkSetting → ReaderTurn → Standing
after_turn talk results set (Asks r) = record { results = results; doing = Carries (record { set = set; reader = r }) }
after_turn talk results set (Gives response r) = standing talk (results ++ Response response ∷ []) (Some (record { set = set; reader = r }))
after_turn talk results set (Spends r) = record { results = results; doing = Stopped AtLink }
after_turn talk results set (Breaks r) = record { results = results; doing = Stopped AtBreach }

-- What a hearing makes of it (this project's own).
abbrev pub hears_by : ℕ → Talk → List Result → Heard → Doing → Standing
hears_by fsdi talk results heard (Rounds stage) = after_stage fsdi talk results (round_hears stage heard)
hears_by fsdi talk results heard (Carries l) = after_turn talk results l.set (turn_on l.set l.reader heard)
hears_by fsdi talk results heard (Closing l) = standing talk (results ++ Closed ∷ []) None
hears_by fsdi talk results heard (Stopped ending) = record { results = results; doing = Stopped ending }
hears_by fsdi talk results heard Astray = record { results = results; doing = Astray }

-- The transaction after the hearing of its next exchange (this project's own).
abbrev pub after_hearing : ℕ → Talk → Heard → Standing → Standing
after_hearing fsdi talk heard s = hears_by fsdi talk s.results heard s.doing

-- What ended it, if it is over (this project's own).
abbrev pub ending_of : Doing → Option HearEnd
ending_of (Rounds stage) = None
ending_of (Carries l) = None
ending_of (Closing l) = None
ending_of (Stopped ending) = Some ending
ending_of Astray = None

-- The events for these results, with the end of a link that failed (this project's own).
abbrev pub events_by : Talk → List Result → Option HearEnd → List EventData
events_by talk results None = (so_far talk results).events
events_by talk results (Some ending) = said_for talk results ending

-- All its events so far (this project's own).
abbrev pub events_of : Talk → Standing → List EventData
events_of talk s = events_by talk s.results (ending_of s.doing)
