-- When a reader's end stands for a state of the rules, and what it says then (this project's own).
use Rattle.std.specs.Prelude.{◌≡◌, ℕ, ◌+◌, ◌-◌, ◌*◌, Bool, true, false, List, [], ◌∷◌, length, reverse}
use Rattle.ep_base.specs.declared.limits.TheConstants.{BETWEEN_TOGGLES}
use Rattle.ep_base.specs.Air.Heard.{Heard}
use Rattle.ep_base.specs.Link.Block.{ReadBlock, is_bad, count}
use Rattle.ep_base.specs.Link.ReaderEnd.{Reader, Idle, ReaderTurn, Asks, Gives, Spends, Breaks, asked}
use Rattle.ep_base.specs.Link.LinkFrames.{LinkSetting, Kept, block_ask, heard_block, breach_of}
use Rattle.ep_base.specs.Link.LinkEvents.{AreSince, LinkEvent, LinkStanding, standing_after}
use Rattle.block_reader.specs.Counts as counts
use Rattle.block_reader.specs.Progress.{Course, course, IsAt, Sends}
use Rattle.block_reader.specs.declared.reader_end.ReaderEnd.{ReaderEnd}
use Rattle.block_reader.specs.declared.stages.Stage.TheVariants as stage
use Rattle.block_reader.specs.declared.ends.Next.{Next}
use Rattle.block_reader.specs.declared.ends.Next.TheVariants.{Ask, Done, Failed}
use Rattle.block_reader.specs.declared.ends.LinkEnd.TheVariants.{Spent, Breach, Device}

-- What an end holds.
pub record Held : Type 0 where
  pub set : LinkSetting
  pub course : Course
  pub since : List Kept

-- What an end holds, in plain data (this project's own).
abbrev pub held : ReaderEnd → Held
held e = record {
  set = record { kind = e.kind; frames = record { card = e.progress.card_frame; reader = e.progress.frame }; fwi = e.fwi };
  course = course e.progress;
  since = e.since.items;
}

-- A command is open.
abbrev pub is_open : Held → Bool
is_open e = counts.is_open e.course.stage

-- No command is open, the link hasn't failed and wasn't closed.
abbrev pub is_resting : Held → Bool
is_resting e = counts.is_resting e.course.stage

-- The exchanges that it keeps are those of these hearings since the toggle.
abbrev pub KeepsOf : Held → Reader → List ReadBlock → Type 0
KeepsOf e r hs = AreSince e.set r.number r.phase hs (reverse e.since)

-- No command is open.
pub record Rests (e : Held) (r : Reader) : Type 0 where
  pub state : IsAt e.course r
  pub resting : is_resting e ≡ true
  pub closed : r.phase ≡ Idle
  pub fresh : r.since ≡ []
  pub none_kept : e.since ≡ []

-- A command is open.
pub record Asking (e : Held) (r : Reader) : Type 0 where
  pub opened : is_open e ≡ true
  pub sends : Sends e.course r
  pub kept : KeepsOf e r r.since

-- The link has failed, with these hearings since the toggle.
pub record Fails (e : Held) (r : Reader) : Type 0 where
  pub failed : e.course.stage ≡ stage.Failed
  pub number : r.number ≡ e.course.number
  pub bad : e.course.bad ≡ count is_bad r.since

-- The link was closed.
pub record Closed (e : Held) : Type 0 where
  pub closed : e.course.stage ≡ stage.Closed

-- It stands at a turn.
abbrev pub StandsAt : Held → ReaderTurn → Type 0
StandsAt e (Asks r) = Asking e r
StandsAt e (Gives response r) = Rests e r
StandsAt e (Spends r) = Fails e r
StandsAt e (Breaks r) = Fails e r

-- It says what a turn leads to, after this hearing.
abbrev pub Says : Next → LinkSetting → Heard → ReaderTurn → Type 0
Says (Ask a) set h (Asks r) = a ≡ block_ask set.kind set.fwi (asked r)
Says (Done response) set h (Gives given r) = response ≡ given
Says (Failed (Spent bad)) set h (Spends r) = (bad ≡ 3) × (count is_bad r.since ≡ 3)
Says (Failed (Breach b)) set h (Breaks r) = b ≡ breach_of r h
Says _ _ _ _ = ⊥

-- After a failure it keeps all exchanges since the toggle, and the one at which the link failed is the last.
abbrev pub KeepsLast : Held → Heard → ReaderTurn → Type 0
KeepsLast e h (Asks r) = Unit {0}
KeepsLast e h (Gives response r) = Unit {0}
KeepsLast e h (Spends r) = KeepsOf e r r.since
KeepsLast e h (Breaks r) = KeepsOf e r (heard_block e.set.kind e.set.frames.reader h ∷ r.since)

-- What it says and is after this hearing.
pub record Shows (result : Next) (e : Held) (h : Heard) (turn : ReaderTurn) : Type 0 where
  pub says : Says result e.set h turn
  pub stands : StandsAt e turn
  pub last : KeepsLast e h turn

-- It stands at a turn, and keeps these exchanges.
pub record StandsWith (e : Held) (st : LinkStanding) : Type 0 where
  pub turn : StandsAt e st.turn
  pub kept : e.since ≡ st.kept

-- It stands for these events of its link.
abbrev pub StandsFor : Held → List LinkEvent → Type 0
StandsFor e events = StandsWith e (standing_after e.set events)

-- The link failed as the device did.
abbrev pub IsDevice : Next → Type 0
IsDevice (Ask a) = ⊥
IsDevice (Done response) = ⊥
IsDevice (Failed (Spent bad)) = ⊥
IsDevice (Failed (Breach b)) = ⊥
IsDevice (Failed Device) = Unit {0}

-- Whether the link is spent.
abbrev pub is_spent : Next → Bool
is_spent (Ask a) = false
is_spent (Done response) = false
is_spent (Failed (Spent bad)) = true
is_spent (Failed (Breach b)) = false
is_spent (Failed Device) = false

-- Whether a command is open after this, and whether none is.
abbrev pub asks_on : Next → Bool
asks_on (Ask a) = true
asks_on (Done response) = false
asks_on (Failed end) = false

-- Whether the response is whole (this project's own).
abbrev pub is_done : Next → Bool
is_done (Ask a) = false
is_done (Done response) = true
is_done (Failed end) = false

-- What bounds the exchanges that a command still takes: each hearing that is asked on leaves less.
abbrev pub left_of : Held → ℕ
left_of e = BETWEEN_TOGGLES * counts.ahead e.course.stage (length e.course.command) e.course.place (length e.course.got) + (BETWEEN_TOGGLES - length e.since)
