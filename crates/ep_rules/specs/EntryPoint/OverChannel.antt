-- What became of a run over the perfect channel: the events and the commands of the perfect run (this project's own).
use Rattle.std.specs.Prelude.{◌≡◌, ℕ, ◌+◌, List, [], ◌∷◌, ◌++◌, replicate, Some, None}
use Rattle.std.specs.declared.option.Option.{Option}
use Rattle.ep_base.specs.Air.Heard.{RoundEnd, Found}
use Rattle.ep_rules.specs.EntryPoint.Event.{Ending, Event as EventData, End}
use Rattle.ep_rules.specs.EntryPoint.Talk.{Talk, Over, Say, Poll, Command, Close}
use Rattle.ep_base.specs.Cards.CardAnswer.{Image}
use Rattle.ep_rules.specs.EntryPoint.EventSteps.{EventSteps}
use Rattle.ep_rules.specs.EntryPoint.TransportRun.{RunEnd, Ended, DeviceFailed, EventsFailed, RunLeft, all_taken}
use Rattle.ep_base.specs.Cards.Images.{Rules, stored}
use Rattle.ep_rules.specs.EntryPoint.Perfect.{Channel, presents}
use Rattle.ep_base.specs.Cards.Direct.{Direct, image_rules}

module _ {S : Type 0} (rules : Rules S) where
  abbrev pub channel_polled : Channel S → (RoundEnd → List RoundEnd → Channel S → Channel S) → List RoundEnd → Channel S
  channel_polled ch next [] = ch
  channel_polled ch next (e ∷ ends) = next e ends (presents rules ch e)

  abbrev pub channel_asked : Channel S → List ℕ → (List ℕ → Channel S → Channel S) → Option ℕ → Channel S
  channel_asked ch command next None = ch
  channel_asked ch command next (Some n) =
      let a = rules.answers n (ch.images n) command in next a.0.response (record { images = stored n a.1 ch.images; presented = Some n })

  -- The cards after the perfect run.
  abbrev pub channel_after : Talk → List RoundEnd → Channel S → Channel S
  channel_after (Over ending) ends ch = ch
  channel_after (Say what next) ends ch = channel_after next ends ch
  channel_after (Poll next) ends ch = channel_polled ch (λ e rest c. channel_after (next e) rest c) ends
  channel_after (Command command next) ends ch = channel_asked ch command (λ r c. channel_after (next r) ends c) ch.presented
  channel_after (Close next) ends ch = channel_after next ends (record { images = ch.images; presented = None })

-- It ended by the rules of Entry Point: all these events were taken, and the card executed these commands and has this image.
pub record RanPerfect {E : Type 0} (events : EventSteps E) (said : List EventData) (commands : List (ℕ × List ℕ)) (image : Image) (d : Direct) (e : E) (left : RunLeft Direct E) (last : EventData) : Type 0 where
  pub ending : Ending
  pub last_is : last ≡ End ending
  pub before : List EventData
  pub said_is : said ≡ before ++ last ∷ []
  pub taken : left.taken ≡ all_taken events.take e said
  pub now : left.transport ≡ record { card = d.card; image = image; log = d.log ++ commands; room = d.room }

-- The taker of events failed: a first part of these events was taken, and the next one was cut; a first part of the commands was executed.
pub record CutPerfect {E : Type 0} (events : EventSteps E) (said : List EventData) (commands : List (ℕ × List ℕ)) (d : Direct) (e : E) (left : RunLeft Direct E) : Type 0 where
  pub before : List EventData
  pub next : EventData
  pub after : List EventData
  pub said_is : said ≡ before ++ next ∷ after
  pub cut : events.cut (all_taken events.take e before) next left.taken
  pub executed : List (ℕ × List ℕ)
  pub later : List (ℕ × List ℕ)
  pub commands_are : commands ≡ executed ++ later
  pub log_is : left.transport.log ≡ d.log ++ executed

module _ {E : Type 0} (events : EventSteps E) (said : List EventData) (commands : List (ℕ × List ℕ)) (image : Image) (d : Direct) (e : E) (left : RunLeft Direct E) where
  abbrev pub PerfectBy : RunEnd → Type 0
  PerfectBy (Ended last) = RanPerfect events said commands image d e left last
  PerfectBy DeviceFailed = ⊥
  PerfectBy EventsFailed = CutPerfect events said commands d e left

-- The rules of the one card, and its ends of rounds: it is found in each Start B.
abbrev pub rules_of : Direct → Rules Image
rules_of d = image_rules (λ card. d.image.number)

abbrev pub found_ends : ℕ → Direct → List RoundEnd
found_ends ends d = replicate ends (Found d.card)
