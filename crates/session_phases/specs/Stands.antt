-- How what a transaction does between two exchanges stands for its standing.
use Rattle.std.specs.Prelude.{◌≡◌, ℕ, ◌≤◌, Bool, true, false, ◌&&◌, is_some, List, [], ◌∷◌, ◌++◌, Option, Some, None}
use Rattle.ep_base.specs.Cards.Apdu.{select, ppse_name}
use Rattle.ep_base.specs.Objects.Arena.{Object}
use Rattle.ep_rules.specs.EntryPoint.Kernel.{KernelSteps}
use Rattle.ep_rules.specs.EntryPoint.PreProcessing.{PreparedOne}
use Rattle.ep_base.specs.Link.ReaderEnd.{Reader}
use Rattle.ep_rules.specs.EntryPoint.Event.{Event as EventData}
use Rattle.ep_rules.specs.EntryPoint.Talk.{Talk, Command}
use Rattle.ep_rules.specs.EntryPoint.Transaction.{presented}
use Rattle.ep_rules.specs.EntryPoint.TransportRun.{HearEnd}
use Rattle.block_reader.specs.Stands.{Held, held, Asking}
use Rattle.block_reader.specs.Stands as links
use Rattle.block_reader.specs.declared.reader_end.ReaderEnd.{ReaderEnd}
use Rattle.ep_claim.specs.Lanes.Standing.{Doing, Rounds, Carries, Closing, Stopped, Standing, asked_by, events_of}
use Rattle.poll_activate.specs.Poll.{PollState}
use Rattle.kernel_port.specs.Event.{said_of_end}
use Rattle.kernel_port.specs.declared.event.End.{End}
use Rattle.session_phases.specs.declared.steps.LastLink.{LastLink}
use Rattle.session_phases.specs.Causes.{EndDecided}
use Rattle.session_phases.specs.Told.{Comes}
use Rattle.session_phases.specs.Rounds.{polls, presents}
use Rattle.session_phases.specs.Wishes.{Before, Wished, serves_wish}
use Rattle.session_phases.specs.Plain as plain
use Rattle.session_phases.specs.Plain.{Wish, Step, Onward}

-- The reader's end of a link that was opened, in plain data (this project's own).
abbrev pub held_if : Bool → ReaderEnd → Option Held
held_if false e = None
held_if true e = Some (held e)

-- That of the last link, if there is one (this project's own).
abbrev pub link_held : LastLink → Option Held
link_held l = held_if l.was_opened l.end

-- Whether a command is open over the last link (this project's own).
abbrev pub is_asking : Option Held → Bool
is_asking None = false
is_asking (Some e) = links.is_open e

-- Whether a wish is carried: a command is open over the last link, or that link is being closed (this project's own).
abbrev pub carries : Option Held → Wish → Bool
carries link (plain.Command command purpose) = is_asking link
carries link (plain.Close again) = true

-- Whether a step can go on: a round that isn't over, or a wish that is carried and that the kernels serve (this project's own).
abbrev pub can_go_on : Bool → Bool → Option Held → Step → Bool
can_go_on is_open is_fresh link (plain.Polling round) = is_some round.poll.stage
can_go_on is_open is_fresh link (plain.Waiting wish) = carries link wish && serves_wish is_open is_fresh wish

-- The same after an exchange, where another one comes (this project's own).
abbrev pub goes_on : Bool → Bool → Option Held → Onward → Bool
goes_on is_open is_fresh link (plain.Ask ask step) = can_go_on is_open is_fresh link step
goes_on is_open is_fresh link (plain.Ended end) = true

-- A poll round is at its stage (this project's own).
pub record AtRound (fsdi : ℕ) (poll : PollState) (doing : Doing) : Type 0 where
  pub fsdi_is : poll.fsdi ≡ fsdi
  pub at : (stage : _) × (poll.stage ≡ Some stage) × (doing ≡ Rounds stage)

-- A command is open over this link (ISO/IEC 14443-4).
pub record AtCommand (e : Held) (doing : Doing) : Type 0 where
  pub reader : Reader
  pub asking : Asking e reader
  pub does : doing ≡ Carries (record { set = e.set; reader = reader })

-- This link is closed (ISO/IEC 14443-4).
pub record AtClose (e : Held) (doing : Doing) : Type 0 where
  pub reader : Reader
  pub does : doing ≡ Closing (record { set = e.set; reader = reader })

-- What the next exchange is of, where it is of a wish (this project's own).
abbrev pub DoesOver : Held → Wish → Doing → Type 0
DoesOver e (plain.Command command purpose) doing = AtCommand e doing
DoesOver e (plain.Close again) doing = AtClose e doing

-- The same over the last link, if there is one (this project's own).
abbrev pub Does : Option Held → Wish → Doing → Type 0
Does None wish doing = ⊥
Does (Some e) wish doing = DoesOver e wish doing

-- The transaction is over with these events, and its end's word is the last of them; where it was carried through, an outcome stands before that
-- (this project's own).
pub record EndsSo (end : End) (talk : Talk) (st : Standing) (said : List EventData) : Type 0 where
  pub ending : HearEnd
  pub stopped : st.doing ≡ Stopped ending
  pub said_is : events_of talk st ≡ said
  pub before : List EventData
  pub last : said ≡ before ++ said_of_end end ∷ []
  pub decided : EndDecided end before

-- A round is made, and after it the rest of this Start B (this project's own).
pub record Rolls (fsdi : ℕ) (poll : PollState) (left : ℕ) (collided : Bool) (talk : Talk) (st : Standing) (said : List EventData) (next : List ℕ → Talk) : Type 0 where
  pub round : AtRound fsdi poll st.doing
  pub comes : Comes talk st.results said (polls left collided (presents next))

-- A card was found, and its directory is looked up (this project's own).
pub record Finds (link : Option Held) (wish : Wish) (talk : Talk) (st : Standing) (said : List EventData) (next : List ℕ → Talk) : Type 0 where
  pub does : Does link wish st.doing
  pub first : wish ≡ plain.Command (select ppse_name) plain.Directory
  pub comes : Comes talk st.results said (Command (select ppse_name) next)

-- What a step of a Start B stands for (this project's own).
abbrev pub StepRolls : ℕ → Option Held → Step → Talk → Standing → List EventData → (List ℕ → Talk) → Type 0
StepRolls fsdi link (plain.Polling round) talk st said next = Rolls fsdi round.poll round.left round.collided talk st said next
StepRolls fsdi link (plain.Waiting wish) talk st said next = Finds link wish talk st said next

-- What follows an exchange of a Start B stands for this standing and these events (this project's own).
abbrev pub RoundTurned : ℕ → Option Held → Onward → Talk → Standing → List EventData → (List ℕ → Talk) → Type 0
RoundTurned fsdi link (plain.Ask ask step) talk st said next = StepRolls fsdi link step talk st said next × (asked_by fsdi st.doing ≡ Some ask)
RoundTurned fsdi link (plain.Ended end) talk st said next = EndsSo end talk st said

module _ {S : Type 0} (k : KernelSteps S) (ones : List PreparedOne) (s : S) where
  -- A round of a Start B is made (after EMV Contactless Book B).
  abbrev pub InRound : ℕ → Bool → (S → Talk) → Talk → Type 0
  InRound left collided again t = t ≡ polls left collided (presented k again ones s)

  -- A round stands for this standing and these events (this project's own).
  pub record RoundStands (fsdi : ℕ) (poll : PollState) (left : ℕ) (collided : Bool) (talk : Talk) (st : Standing) (said : List EventData) : Type 0 where
    pub round : AtRound fsdi poll st.doing
    pub goes : Before k ones (λ n. k.restarts s ≤ n) (InRound left collided) talk st.results said

  -- A wish stands for this standing and these events (this project's own).
  pub record WishStands (objects : List Object) (link : Option Held) (wish : Wish) (talk : Talk) (st : Standing) (said : List EventData) : Type 0 where
    pub does : Does link wish st.doing
    pub goes : Wished k ones s objects talk st.results said wish

  -- A step stands for this standing and these events (this project's own).
  abbrev pub StepStands : List Object → ℕ → Option Held → Step → Talk → Standing → List EventData → Type 0
  StepStands objects fsdi link (plain.Polling round) talk st said = RoundStands fsdi round.poll round.left round.collided talk st said
  StepStands objects fsdi link (plain.Waiting wish) talk st said = WishStands objects link wish talk st said

  -- What follows an exchange stands for this standing and these events (this project's own).
  abbrev pub Turned : List Object → ℕ → Option Held → Onward → Talk → Standing → List EventData → Type 0
  Turned objects fsdi link (plain.Ask ask step) talk st said = StepStands objects fsdi link step talk st said × (asked_by fsdi st.doing ≡ Some ask)
  Turned objects fsdi link (plain.Ended end) talk st said = EndsSo end talk st said
