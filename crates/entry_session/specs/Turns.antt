-- A session between two exchanges, in plain data, and the standings that it stands for.
use Rattle.std.specs.Prelude.{◌≡◌, ℕ, Bool, true, false, List, [], ◌∷◌, ◌++◌, Option, Some, None}
use Rattle.block_reader.specs.Stands as links
use Rattle.ep_base.specs.Objects.Arena.{Object}
use Rattle.ep_base.specs.Air.Heard.{Ask, Heard as HeardData, RoundEnd}
use Rattle.ep_rules.specs.EntryPoint.Kernel.{KernelSteps}
use Rattle.ep_rules.specs.EntryPoint.PreProcessing.{PreparedOne}
use Rattle.ep_rules.specs.EntryPoint.Event.{Event as EventData}
use Rattle.ep_rules.specs.EntryPoint.Talk.{Talk}
use Rattle.ep_rules.specs.EntryPoint.TransportRun.{HearEnd}
use Rattle.ep_claim.specs.Lanes.Standing.{Doing, Standing, Stopped, asked_by, events_of}
use Rattle.poll_activate.specs.Meaning.{ends_of}
use Rattle.kernel_port.specs.Event.{said_of_end}
use Rattle.kernel_port.specs.declared.event.End.{End}
use Rattle.kernel_port.specs.declared.event.End.TheVariants as ending
use Rattle.session_phases.specs.Causes.{EndDecided, FailedIn, IsDecided, IsNoCard}
use Rattle.session_phases.specs.Shown.{rounds_of, Fits}
use Rattle.session_phases.specs.Stands.{link_held, can_go_on, StepStands}
use Rattle.session_phases.specs.Plain.{Step, step_of}
use Rattle.session_phases.specs.declared.steps.Presentation.{Presentation}
use Rattle.entry_session.specs.declared.turn.Turn.{Turn}
use Rattle.entry_session.specs.declared.turn.Turn.TheVariants as turns
use Rattle.entry_session.specs.declared.holding.Task.{Task}
use Rattle.entry_session.specs.declared.holding.Session.{Session}

-- What is held of an open transaction: Pre-Processing's list, the kernels' state, whether one is open and its first step is to come, the reader's
-- FSDI, and what the next exchange is of (this project's own).
pub record Work (S : Type 0) : Type 0 where
  pub ones : List PreparedOne
  pub kernels : S
  pub opened : Bool
  pub fresh : Bool
  pub fsdi : ℕ
  pub step : Step

-- A session: the objects of the last directory, the reader's end of the last link, the ends of the last Start B's rounds, and the transaction, if one
-- is open (this project's own).
pub record View (S : Type 0) : Type 0 where
  pub objects : List Object
  pub link : Option links.Held
  pub rounds : List RoundEnd
  pub work : Option (Work S)

-- What is held of a transaction, if one is open (this project's own).
abbrev pub work_of : {K S : Type 0} → (K → S) → (opened fresh : K → Bool) → Presentation → Option (Task K) → Option (Work S)
work_of state opened fresh presentation None = None
work_of state opened fresh presentation (Some t) = Some (record {
  ones = t.prepared.list;
  kernels = state t.kernels;
  opened = opened t.kernels;
  fresh = fresh t.kernels;
  fsdi = t.fsdi;
  step = step_of t.phase presentation.round presentation.selection;
})

-- What a session keeps and holds, in plain data, by what its kernels hold (this project's own).
abbrev pub view_in : {K S : Type 0} → (K → S) → (opened fresh : K → Bool) → Presentation → Option (Task K) → View S
view_in state opened fresh presentation task = record {
  objects = presentation.arena.objects;
  link = link_held presentation.link;
  rounds = ends_of presentation.rounds.items;
  work = work_of state opened fresh presentation task;
}

-- A session in plain data, by what its kernels hold (this project's own).
abbrev pub view_of : {K S : Type 0} → (K → S) → (opened fresh : K → Bool) → Session K → View S
view_of state opened fresh s = view_in state opened fresh s.presentation s.task

-- What is held after an exchange: nothing where the transaction has ended (this project's own).
abbrev pub task_after : {K : Type 0} → Option End → Task K → Option (Task K)
task_after None t = Some t
task_after (Some end) t = None

-- Whether a transaction is open, and its step can go on (this project's own).
abbrev pub work_goes_on : {S : Type 0} → Option links.Held → Option (Work S) → Bool
work_goes_on link None = false
work_goes_on link (Some w) = can_go_on w.opened w.fresh link w.step

-- Whether a transaction is open (this project's own).
abbrev pub is_open : {S : Type 0} → View S → Bool
is_open v = work_goes_on v.link v.work

-- Whether another exchange is asked (this project's own).
abbrev pub is_ask : Turn → Bool
is_ask (turns.Ask ask) = true
is_ask (turns.Ended end) = false

-- A session's answer where what is asked was written into a place of the caller's (this project's own).
abbrev pub turn_of : Option End → Ask → Turn
turn_of None ask = turns.Ask ask
turn_of (Some end) ask = turns.Ended end

-- The transaction is over (this project's own).
pub record IsOver (st : Standing) : Type 0 where
  pub ending : HearEnd
  pub stopped : st.doing ≡ Stopped ending

-- An open transaction stands for this standing of its talk (this project's own).
pub record WorkStands {S : Type 0} (k : KernelSteps S) (objects : List Object) (link : Option links.Held) (w : Work S) (talk : Talk) (fsdi : ℕ) (st : Standing) : Type 0 where
  pub fsdi_is : w.fsdi ≡ fsdi
  pub step : StepStands k w.ones w.kernels objects fsdi link w.step talk st (events_of talk st)

-- The same, or no transaction is open and the standing is one in which it is over (this project's own).
abbrev pub WorkIs : {S : Type 0} → KernelSteps S → List Object → Option links.Held → Option (Work S) → Talk → ℕ → Standing → Type 0
WorkIs k objects link None talk fsdi st = IsOver st
WorkIs k objects link (Some w) talk fsdi st = WorkStands k objects link w talk fsdi st

-- As many rounds may still come as were not made (this project's profile).
abbrev pub WorkFits : {S : Type 0} → Option (Work S) → List RoundEnd → Type 0
WorkFits None rounds = Unit {0}
WorkFits (Some w) rounds = Fits w.step rounds

-- A session stands for this standing of a talk, with a reader of this FSDI: what is done, the ends of the last Start B's rounds, and how many rounds
-- may still come (this project's own).
pub record StandsFor {S : Type 0} (k : KernelSteps S) (v : View S) (talk : Talk) (fsdi : ℕ) (st : Standing) : Type 0 where
  pub work : WorkIs k v.objects v.link v.work talk fsdi st
  pub rounds : v.rounds ≡ rounds_of st
  pub fits : WorkFits v.work v.rounds

-- The transaction is over, and its end's word is the last of its events; where it was carried through, an outcome stands before that (this
-- project's own).
pub record EndedBy (end : End) (talk : Talk) (st : Standing) : Type 0 where
  pub ending : HearEnd
  pub stopped : st.doing ≡ Stopped ending
  pub before : List EventData
  pub last : events_of talk st ≡ before ++ said_of_end end ∷ []
  pub decided : EndDecided end before

-- A session's answer in a standing of its talk: what is asked in the next exchange, or the end (this project's own).
abbrev pub Answers : Turn → ℕ → Talk → Standing → Type 0
Answers (turns.Ask ask) fsdi talk st = asked_by fsdi st.doing ≡ Some ask
Answers (turns.Ended end) fsdi talk st = EndedBy end talk st

-- How the cause of an end shows: carried through, an outcome stands before the end; without a card, all `ROUNDS` rounds of the last Start B have ended
-- and none found one; at a failed link, the reader's table gives the failure at the last exchange that is kept: the third bad one, or the breach
-- (this project's profile).
abbrev pub CauseShows : End → HeardData → Doing → (rounds : List RoundEnd) → (link : Option links.Held) → (events : List EventData) → Type 0
CauseShows ending.Done heard doing rounds link events = IsDecided ending.Done events
CauseShows ending.Link heard doing rounds link events = FailedIn ending.Link heard doing link
CauseShows ending.NoCard heard doing rounds link events = IsNoCard rounds
CauseShows ending.Breach heard doing rounds link events = FailedIn ending.Breach heard doing link

-- The same of a session's answer, where it is an end (this project's own).
abbrev pub ShowsCause : Turn → HeardData → Doing → (rounds : List RoundEnd) → (link : Option links.Held) → (events : List EventData) → Type 0
ShowsCause (turns.Ask ask) heard doing rounds link events = Unit {0}
ShowsCause (turns.Ended end) heard doing rounds link events = CauseShows end heard doing rounds link events

-- Before the first exchange a transaction ends only as Entry Point decides, after an outcome (after EMV Contactless Book B).
abbrev pub BeginCauseShows : End → (events : List EventData) → Type 0
BeginCauseShows ending.Done events = IsDecided ending.Done events
BeginCauseShows ending.Link events = ⊥
BeginCauseShows ending.NoCard events = ⊥
BeginCauseShows ending.Breach events = ⊥

-- The same of a session's first answer, where it is an end (this project's own).
abbrev pub ShowsBeginCause : Turn → (events : List EventData) → Type 0
ShowsBeginCause (turns.Ask ask) events = Unit {0}
ShowsBeginCause (turns.Ended end) events = BeginCauseShows end events
