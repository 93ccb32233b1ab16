-- What became of a run over a transport: the results that it gave, and which of the talk's events for them were taken (this project's own).
use Rattle.std.specs.Prelude.{◌≡◌, ◌≢◌, ◌⊎◌, ℕ, Bool, List, [], ◌∷◌, ◌++◌}
use Rattle.ep_base.specs.Air.Heard.{RoundEnd}
use Rattle.ep_rules.specs.EntryPoint.Event.{Ending, Event as EventData, End, EndLink, EndBreach}
use Rattle.ep_rules.specs.EntryPoint.Talk.{Talk, Over, Say, Poll, Command, Close, Result, Round, Wish, Commands, Nothing, so_far}
use Rattle.ep_base.specs.Poll.Transport.{TransportSteps, PresentResult, Reply}
use Rattle.ep_rules.specs.EntryPoint.EventSteps.{EventSteps}
use Rattle.ep_rules.specs.EntryPoint.TransportRun.{RunEnd, Ended, DeviceFailed, EventsFailed, RunLeft, HearEnd, Whole, AtLink, AtBreach, AtDevice, Hears, HearsPresent, HearsReply, HearsClose, all_taken, said_for}

-- The last event, by what ended the hearing.
abbrev pub Says : HearEnd → EventData → Type 0
Says Whole last = (ending : Ending) × (last ≡ End ending)
Says AtLink last = last ≡ EndLink
Says AtBreach last = last ≡ EndBreach
Says AtDevice last = ⊥

-- What is still wished, by what ended the hearing: a link failed or broke its rules at a command, and a device failed at any wish.
abbrev pub Wishes : HearEnd → Wish → Type 0
Wishes Whole wish = wish ≡ Nothing
Wishes AtLink wish = (command : List ℕ) × (wish ≡ Commands command)
Wishes AtBreach wish = (command : List ℕ) × (wish ≡ Commands command)
Wishes AtDevice wish = wish ≢ Nothing

-- Nothing more was heard here.
abbrev pub HearsNothing : {T : Type 0} → T → List Result → HearEnd → T → Type 0
HearsNothing t heard ending u = (heard ≡ []) × (ending ≡ Whole) × (u ≡ t)

module _ {T : Type 0} (link : TransportSteps T) where
  -- As Hears, but it may stop at any wish: the results that the transport gave up to some moment, and its state then.
  abbrev pub HearsPart : Talk → List RoundEnd → T → List Result → HearEnd → T → Type 0
  HearsPart (Over e) more t heard ending u = HearsNothing t heard ending u
  HearsPart (Say x next) more t heard ending u = HearsPart next more t heard ending u
  HearsPart (Poll next) (x ∷ more) t heard ending u =
      HearsNothing t heard ending u ⊎ ((rest : List Result) × (heard ≡ Round x ∷ rest) × HearsPart (next x) more t rest ending u)
  HearsPart (Poll next) [] t heard ending u =
      HearsNothing t heard ending u
      ⊎ ((p : PresentResult) × (v : T) × link.presents t p v × HearsPresent link (λ x more. HearsPart (next x) more) p v heard ending u)
  HearsPart (Command c next) more t heard ending u =
      HearsNothing t heard ending u ⊎ ((r : Reply) × (v : T) × link.transacts t c r v × HearsReply link (λ a. HearsPart (next a) more) r v heard ending u)
  HearsPart (Close next) more t heard ending u =
      HearsNothing t heard ending u ⊎ ((well : Bool) × (v : T) × link.closes t well v × HearsClose link (HearsPart next more) well v heard ending u)

-- The run ended: all events for what was heard were taken, `last` as the last of them.
pub record RanWhole {T E : Type 0} (link : TransportSteps T) (events : EventSteps E) (talk : Talk) (more : List RoundEnd) (t : T) (e : E) (left : RunLeft T E) (last : EventData) : Type 0 where
  pub heard : List Result
  pub ending : HearEnd
  pub hears : Hears link talk more t heard ending left.transport
  pub taken : left.taken ≡ all_taken events.take e (said_for talk heard ending)
  pub before : List EventData
  pub said : said_for talk heard ending ≡ before ++ last ∷ []
  pub says : Says ending last
  pub wishes : Wishes ending (so_far talk heard).wish

-- The device failed: all events for what was heard before were taken.
pub record RanToDevice {T E : Type 0} (link : TransportSteps T) (events : EventSteps E) (talk : Talk) (more : List RoundEnd) (t : T) (e : E) (left : RunLeft T E) : Type 0 where
  pub heard : List Result
  pub hears : Hears link talk more t heard AtDevice left.transport
  pub taken : left.taken ≡ all_taken events.take e (so_far talk heard).events
  pub wishes : (so_far talk heard).wish ≢ Nothing

-- The taker of events failed: of the events for what was heard so far a first part was taken, and the next one was cut.
pub record RanToCut {T E : Type 0} (link : TransportSteps T) (events : EventSteps E) (talk : Talk) (more : List RoundEnd) (t : T) (e : E) (left : RunLeft T E) : Type 0 where
  pub heard : List Result
  pub ending : HearEnd
  pub hears : HearsPart link talk more t heard ending left.transport
  pub before : List EventData
  pub next : EventData
  pub after : List EventData
  pub said : said_for talk heard ending ≡ before ++ next ∷ after
  pub cut : events.cut (all_taken events.take e before) next left.taken

module _ {T E : Type 0} (link : TransportSteps T) (events : EventSteps E) (talk : Talk) (more : List RoundEnd) (t : T) (e : E) (left : RunLeft T E) where
  abbrev pub RanBy : RunEnd → Type 0
  RanBy (Ended last) = RanWhole link events talk more t e left last
  RanBy DeviceFailed = RanToDevice link events talk more t e left
  RanBy EventsFailed = RanToCut link events talk more t e left
