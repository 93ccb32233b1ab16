-- How the cause of an end shows in a lane: in the exchange that is told, at the standing that the lane stood for.
use Rattle.std.specs.Prelude.{◌≡◌, ℕ, true, List, Option, Some, None}
use Rattle.ep_base.specs.Air.Heard.{Heard, RoundEnd}
use Rattle.ep_base.specs.Link.Block.{is_bad, count}
use Rattle.ep_base.specs.Link.Carry.{turn_on}
use Rattle.ep_base.specs.Link.LinkFrames.{heard_block}
use Rattle.ep_base.specs.Link.ReaderEnd.{Reader, Spends, Breaks}
use Rattle.ep_base.specs.Poll.Radio.{OpenLink}
use Rattle.ep_rules.specs.EntryPoint.Event.{Event as EventData}
use Rattle.ep_rules.specs.EntryPoint.Kernel.{KernelSteps}
use Rattle.ep_rules.specs.EntryPoint.Talk.{Talk}
use Rattle.ep_claim.specs.Lanes.Standing.{Doing, Carries, Standing, after_hearing, events_of}
use Rattle.kernel_port.specs.declared.event.End.{End}
use Rattle.kernel_port.specs.declared.event.End.TheVariants as ending
use Rattle.session_phases.specs.Causes.{IsDecided, IsNoCard}
use Rattle.session_phases.specs.Shown.{rounds_of}
use Rattle.entry_session.specs.Turns.{BeginCauseShows}
use Rattle.ep_lanes.specs.Lanes.{LaneHeld, Made}
use Rattle.ep_lanes.specs.Turns.{Stands}
use Rattle.ep_lanes.specs.declared.exchange.Turned.{Turned}
use Rattle.ep_lanes.specs.declared.exchange.Turned.TheVariants.{Goes, Ended}

-- A command was open, and by its reader's table its link is spent at this hearing: it is bad, and the third bad one since the reader's toggle (this
-- project's profile).
pub record SpendsLink (heard : Heard) (doing : Doing) : Type 0 where
  pub over : OpenLink
  pub carried : doing ≡ Carries over
  pub bad : is_bad (heard_block over.set.kind over.set.frames.reader heard) ≡ true
  pub reader : Reader
  pub turn : turn_on over.set over.reader heard ≡ Spends reader
  pub third : count is_bad reader.since ≡ 3

-- A command was open, and by its reader's table this hearing is a breach (this project's profile).
pub record BreaksLink (heard : Heard) (doing : Doing) : Type 0 where
  pub over : OpenLink
  pub carried : doing ≡ Carries over
  pub reader : Reader
  pub turn : turn_on over.set over.reader heard ≡ Breaks reader

-- How the cause of an end shows, from what was done and heard, and from the rounds and the events after it: carried through, an outcome stands before
-- the end; without a card, all 64 rounds of the last Start B have ended and none found one; at a failed link, its reader's table gives the failure at
-- this hearing (this project's profile).
abbrev pub CauseShows : End → Heard → Doing → (rounds : List RoundEnd) → (events : List EventData) → Type 0
CauseShows ending.Done heard doing rounds events = IsDecided ending.Done events
CauseShows ending.Link heard doing rounds events = SpendsLink heard doing
CauseShows ending.NoCard heard doing rounds events = IsNoCard rounds
CauseShows ending.Breach heard doing rounds events = BreaksLink heard doing

-- The same of what follows a turn, where it is an end (this project's own).
abbrev pub CauseAfter : Turned → Heard → Doing → (rounds : List RoundEnd) → (events : List EventData) → Type 0
CauseAfter Goes heard doing rounds events = Unit {0}
CauseAfter (Ended end) heard doing rounds events = CauseShows end heard doing rounds events

-- In every standing that the lane stood for, an end after this hearing has its cause (this project's own).
abbrev pub ShowsCause : {S : Type 0} → KernelSteps S → LaneHeld S → Heard → Turned → Type 0
ShowsCause k before heard turned = (talk : Talk) (fsdi : ℕ) (st : Standing) → Stands k before talk fsdi st
    → CauseAfter turned heard st.doing (rounds_of (after_hearing fsdi talk heard st)) (events_of talk (after_hearing fsdi talk heard st))

-- The same after the exchange that is told, and one is (this project's own).
abbrev pub TellsCause : {S : Type 0} → KernelSteps S → LaneHeld S → Option Made → Turned → Type 0
TellsCause k before None turned = ⊥
TellsCause k before (Some made) turned = ShowsCause k before made.heard turned

-- Before the first exchange a transaction ends only as Entry Point decides, after an outcome (after EMV Contactless Book B).
abbrev pub ShowsBeginCause : Turned → (events : List EventData) → Type 0
ShowsBeginCause Goes events = Unit {0}
ShowsBeginCause (Ended end) events = BeginCauseShows end events
