-- How the cause of a transaction's end shows: in the rounds of its last Start B, over its last link, and in what it said.
use Rattle.std.specs.Prelude.{◌≡◌, ℕ, true, List, [], ◌∷◌, ◌++◌, All, length, map, Option, Some}
use Rattle.block_reader.specs.Stands.{Held}
use Rattle.ep_base.specs.Link.Block.{ReadBlock, is_bad, count}
use Rattle.ep_base.specs.Link.Carry.{turn_on}
use Rattle.ep_base.specs.declared.limits.TheConstants.{ROUNDS}
use Rattle.ep_base.specs.declared.outcome.OutcomeKind.{OutcomeKind}
use Rattle.ep_base.specs.Air.Heard.{Heard, RoundEnd, Empty, Collision, Unsupported, Broken, Found}
use Rattle.ep_base.specs.Link.LinkEvents.{exchange_of}
use Rattle.ep_base.specs.Link.LinkFrames.{LinkSetting, Kept, heard_block}
use Rattle.ep_base.specs.Poll.Radio.{OpenLink}
use Rattle.ep_base.specs.Link.ReaderEnd.{Reader, Spends, Breaks}
use Rattle.ep_rules.specs.EntryPoint.Event.{Event as EventData, Tells, Outcome}
use Rattle.ep_claim.specs.Lanes.Standing.{Doing, Carries}
use Rattle.kernel_port.specs.Event.{said_of_end}
use Rattle.kernel_port.specs.declared.event.End.{End}
use Rattle.kernel_port.specs.declared.event.End.TheVariants as ending

-- No card was found in this round (this project's own).
abbrev pub FindsNone : RoundEnd → Type 0
FindsNone Empty = Unit {0}
FindsNone Collision = Unit {0}
FindsNone Unsupported = Unit {0}
FindsNone Broken = Unit {0}
FindsNone (Found card) = ⊥

-- All `ROUNDS` rounds of a Start B have ended, and none found a card (this project's profile).
pub record IsNoCard (ends : List RoundEnd) : Type 0 where
  pub all : length ends ≡ ROUNDS
  pub none : All FindsNone ends

-- What the reader made of an exchange that is kept (ISO/IEC 14443-4).
abbrev pub block_in : LinkSetting → Kept → ReadBlock
block_in set k = heard_block set.kind set.frames.reader k.heard

-- How many of these exchanges were bad (this project's profile).
abbrev pub bad_in : LinkSetting → List Kept → ℕ
bad_in set ks = count is_bad (map (block_in set) ks)

-- This exchange is the last one of these (this project's own).
pub record IsLast (k : Kept) (ks : List Kept) : Type 0 where
  pub before : List Kept
  pub kept_is : ks ≡ before ++ k ∷ []

-- By its reader's table this link is spent at this hearing, the third bad one since the toggle; the exchanges that the reader's end keeps then show
-- it (this project's profile).
pub record SpentOver (heard : Heard) (l : OpenLink) (e : Held) : Type 0 where
  pub reader : Reader
  pub turn : turn_on l.set l.reader heard ≡ Spends reader
  pub third : count is_bad reader.since ≡ 3
  pub set_is : e.set ≡ l.set
  pub last : IsLast (exchange_of l.set l.reader heard) e.since
  pub bad : is_bad (block_in l.set (exchange_of l.set l.reader heard)) ≡ true
  pub three : bad_in l.set e.since ≡ 3

-- By its reader's table this hearing is a breach, and it is the last exchange that the reader's end keeps then (this project's profile).
pub record BrokenOver (heard : Heard) (l : OpenLink) (e : Held) : Type 0 where
  pub reader : Reader
  pub turn : turn_on l.set l.reader heard ≡ Breaks reader
  pub set_is : e.set ≡ l.set
  pub last : IsLast (exchange_of l.set l.reader heard) e.since

-- How a link that failed shows it at the end of its transaction; no link fails at another end (this project's profile).
abbrev pub FailsOver : End → Heard → OpenLink → Held → Type 0
FailsOver ending.Done heard l e = ⊥
FailsOver ending.Link heard l e = SpentOver heard l e
FailsOver ending.NoCard heard l e = ⊥
FailsOver ending.Breach heard l e = BrokenOver heard l e

-- A command was open over a link, and that link failed so (this project's own).
pub record FailedIn (end : End) (heard : Heard) (doing : Doing) (link : Option Held) : Type 0 where
  pub over : OpenLink
  pub carried : doing ≡ Carries over
  pub e : Held
  pub link_is : link ≡ Some e
  pub fails : FailsOver end heard over e

-- An outcome is among these events (after EMV Contactless Book B).
pub record HasOutcome (said : List EventData) : Type 0 where
  pub before : List EventData
  pub kind : OutcomeKind
  pub after : List EventData
  pub said_is : said ≡ before ++ Tells (Outcome kind) ∷ after

-- Before the end of a transaction that was carried through, an outcome was said (after EMV Contactless Book B).
abbrev pub EndDecided : End → List EventData → Type 0
EndDecided ending.Done before = HasOutcome before
EndDecided ending.Link before = Unit {0}
EndDecided ending.NoCard before = Unit {0}
EndDecided ending.Breach before = Unit {0}

-- The last of these events is this end, and an outcome stands before it (after EMV Contactless Book B).
pub record IsDecided (end : End) (said : List EventData) : Type 0 where
  pub before : List EventData
  pub last : said ≡ before ++ said_of_end end ∷ []
  pub outcome : HasOutcome before
