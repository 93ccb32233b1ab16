-- An exchange of a lane over its field, as a run of lanes makes it.
use Rattle.std.proofs.Common.{◌≡◌, ℕ, Bool, true, false, List, ◌++◌, map, length, drop, sym, ap, subst, ◌∙◌, append_assoc}
use Rattle.std.specs.Prelude.{Option, Some, None, if◌then◌else◌}
use Rattle.std.specs.Io.KnownBytes.{Appends}
use Rattle.std.proofs.Math.Seq.{drop-append_seam}
use Rattle.ep_rules.specs.EntryPoint.Configuration.{Config}
use Rattle.ep_base.specs.Cards.Field.{Field, field, field_reset, field_send}
use Rattle.ep_base.specs.Air.Heard.{Ask, Heard}
use Rattle.ep_base.specs.Streams.Io.{AppendsPrefix}
use Rattle.ep_rules.specs.EntryPoint.Kernel.{Scripted, scripted}
use Rattle.ep_base.specs.Air.Medium.{told, AfterReset, ExchangesBy, Exchanges}
use Rattle.ep_rules.specs.EntryPoint.Event.{Event as EventData}
use Rattle.ep_claim.specs.Text.WrittenText.{event_lines}
use Rattle.ep_claim.specs.Lanes.Exchanges.{Lane, field_answers, or_silence}
use Rattle.ep_claim.specs.Lanes.Standing.{asked_by, events_of}
use Rattle.ep_claim.specs.Lanes.LaneText.{Going, Piece, added_events, goes_on, heard_lane, trace_part}
use Rattle.ep_claim.specs.Lanes.WholeRun.{ProbeSteps}
use Rattle.ep_lanes.specs.Lanes.{Held, LaneHeld, Made, lane_of}
use Rattle.ep_claim.specs.Lanes.Probing.{ProbeAnswers, Tells}
use Rattle.ep_lanes.specs.Turns.{Makes}
use Rattle.ep_lanes.specs.declared.exchange.Turned.{Turned}
use Rattle.ep_lanes.proofs.Standing.{asks_then}
use Rattle.lane_run.specs.Shows.{ShowsGoing}
use Rattle.lane_run.specs.Turned.{HeardTurn, IsAfter, TurnPart, TurnStopped, TurnWrote, UnheardTurn, Wrote, heard_by, turn_piece}
use Rattle.scenario.specs.Jobs.{job_of}
use Rattle.lane_run.specs.Works.{LaneWork}
use Rattle.lane_run.proofs.Appending.{whole_next, part_next, part_front}
use Rattle.lane_run.proofs.Results.{some_same}

-- What a field answers where it may answer so.
after_reset : (well : Bool) (ask : Ask) (u t : Field) (h : Heard) → AfterReset (told field) well u ask (Some h) t
    → field_send u ask.wave ask.bytes ≡ (Some h, t)
after_reset true ask u t h e = e
after_reset false ask u t h e = let never : Some h ≡ None = e.0 in cc

by_reset : (b : Bool) (ask : Ask) (f t : Field) (h : Heard) → ExchangesBy (told field) b f ask (Some h) t
    → field_send (if b then field_reset f else f) ask.wave ask.bytes ≡ (Some h, t)
by_reset false ask f t h e = e
by_reset true ask f t h e =
    subst (λ (u : Field). field_send u ask.wave ask.bytes ≡ (Some h, t)) (sym (ap (λ (r : Bool × Field). r.1) e.2)) (after_reset e.0 ask e.1 t h e.3)

answers_so : (ask : Ask) (f t : Field) (h : Heard) → Exchanges (told field) f ask (Some h) t → field_answers ask f ≡ (Some h, t)
answers_so ask f t h e = by_reset ask.reset ask f t h e

module _ {P : Type 0} (answers : ProbeAnswers P) (plays : Option Field → Field → Type 0) (settings : Config) (traced : Bool) (fsdi lane : ℕ) (before after : Held Scripted) (p q : P)
    (turned : Turned) (said : List EventData) (work heard_work : LaneWork)
    (turn : (f : Field) → plays work.field f → HeardTurn answers plays lane before f p turned said after heard_work.field q)
    (left : heard_work.left ≡ work.left) (number : heard_work.txn ≡ work.txn) (m : Made) (last : Some m ≡ after.last) (n : ℕ)
    (written_as : n ≡ heard_work.txn)
    (steps : ProbeSteps P) (tells : Tells answers steps) (g : Going) (shows : ShowsGoing plays settings fsdi (lane_of before lane) work g)
    (ask : Ask) (asked : asked_by fsdi g.lane.standing.doing ≡ Some ask) where
  this : HeardTurn answers plays lane before g.lane.field p turned said after heard_work.field q
  this = turn g.lane.field shows.field

  made_is : m ≡ this.turns.made
  made_is = some_same m this.turns.made (last ∙ this.turns.last)

  of_lane : m.lane ≡ lane
  of_lane = ap (λ (x : Made). x.lane) made_is ∙ this.turns.number

  makes : Makes scripted (told field) answers (lane_of before lane) g.lane.field p m turned said (lane_of after lane) this.field_then q
  makes =
      subst (λ (x : Made). Makes scripted (told field) answers (lane_of before lane) g.lane.field p x turned said (lane_of after lane) this.field_then q)
      (sym made_is) this.turns.makes

  ask_is : m.asked ≡ ask
  ask_is =
      makes.asked
      ∙ sym (some_same ask makes.transaction.asks
      (sym asked ∙ asks_then scripted g.talk fsdi g.lane.standing (lane_of before lane) makes.transaction makes.was shows.stands))

  answer : field_answers ask g.lane.field ≡ (Some makes.given, this.field_then)
  answer =
      answers_so ask g.lane.field this.field_then makes.given
      (subst (λ (x : Ask). Exchanges (told field) g.lane.field x (Some makes.given) this.field_then) ask_is makes.exchange)

  heard_so : heard_by steps p lane g ask ≡ (q, m.heard)
  heard_so =
      subst (λ (h : Heard). steps.hear p lane ask h ≡ (q, m.heard)) (sym (ap (λ (a : Option Heard × Field). or_silence a.0) answer))
      (subst (λ (x : Ask). steps.hear p lane x makes.given ≡ (q, m.heard)) ask_is
      (subst (λ k. steps.hear p k m.asked makes.given ≡ (q, m.heard)) of_lane
      (tells p m.lane m.asked makes.given m.heard q makes.heard)))

  heard_is : (heard_by steps p lane g ask).1 ≡ m.heard
  heard_is = ap (λ (r : P × Heard). r.1) heard_so

  -- the transaction after the exchange
  abbrev pub then_lane : Lane
  then_lane = heard_lane fsdi g.talk ask m.heard (field_answers ask g.lane.field).1 g.lane

  pub is_after : IsAfter plays settings fsdi (lane_of after lane) heard_work turned g then_lane
  is_after = record {
    stands = makes.stands g.talk fsdi g.lane.standing shows.stands;
    tells = makes.tells g.talk fsdi g.lane.standing shows.stands;
    field = subst (λ f. plays heard_work.field f) (sym (ap (λ (a : Option Heard × Field). a.1) answer)) this.left_is;
    number = number ∙ shows.number;
    left = ap (λ ws. map (job_of settings) ws) left ∙ shows.left;
  }

  said_is : said ≡ added_events g.talk g.lane.standing then_lane.standing
  said_is =
      sym (drop-append_seam (events_of g.talk g.lane.standing) said)
      ∙ ap (λ l. drop (length (events_of g.talk g.lane.standing)) l) (makes.events g.talk fsdi g.lane.standing shows.stands)

  -- the trace line and the lines of the events
  abbrev pub front : List ℕ
  front = trace_part traced m.lane m.asked m.heard ++ event_lines m.lane n said

  -- what follows them
  abbrev pub more : Piece
  more = goes_on fsdi lane g then_lane (asked_by fsdi then_lane.standing.doing)

  front_is : front ≡ trace_part traced lane ask m.heard ++ event_lines lane g.txn (added_events g.talk g.lane.standing then_lane.standing)
  front_is =
      ap (λ k. trace_part traced k m.asked m.heard ++ event_lines k n said) of_lane
      ∙ ap (λ (a : Ask). trace_part traced lane a m.heard ++ event_lines lane n said) ask_is
      ∙ ap (λ k. trace_part traced lane ask m.heard ++ event_lines lane k said) (written_as ∙ number ∙ shows.number)
      ∙ ap (λ xs. trace_part traced lane ask m.heard ++ event_lines lane g.txn xs) said_is

  whole_is : (turn_piece traced fsdi lane g ask m.heard).text ≡ front ++ more.text
  whole_is =
      sym (append_assoc (trace_part traced lane ask m.heard) (event_lines lane g.txn (added_events g.talk g.lane.standing then_lane.standing)) more.text)
      ∙ ap (λ l. l ++ more.text) (sym front_is)

  pub turn_wrote : (held : LaneHeld Scripted) (next : LaneWork) (a b w : Option (List ℕ)) → Appends a b front → Wrote plays settings fsdi held next b w more
      → TurnWrote plays settings traced steps fsdi lane (record { held = lane_of before lane; work = work; probe = p; written = a })
      (record { held = held; work = next; probe = q; written = w }) g ask
  turn_wrote held next a b w wrote rest = record {
    wrote =
        subst (λ (h : Heard). Wrote plays settings fsdi held next a w (turn_piece traced fsdi lane g ask h)) (sym heard_is)
        (record { text = whole_next a b front more.text _ whole_is wrote w rest.text; shows = rest.shows });
    probe = sym (ap (λ (r : P × Heard). r.0) heard_so);
  }

  pub turn_part : (a b w : Option (List ℕ)) → Appends a b front → AppendsPrefix b w more.text
      → TurnPart traced steps fsdi lane (record { held = lane_of before lane; work = work; probe = p; written = a }) q w g ask
  turn_part a b w wrote rest = record {
    part =
        subst (λ (h : Heard). AppendsPrefix a w (turn_piece traced fsdi lane g ask h).text) (sym heard_is)
        (part_next a b front more.text _ whole_is wrote w rest);
    probe = sym (ap (λ (r : P × Heard). r.0) heard_so);
  }

  pub turn_front : (a w : Option (List ℕ)) → AppendsPrefix a w front
      → TurnPart traced steps fsdi lane (record { held = lane_of before lane; work = work; probe = p; written = a }) q w g ask
  turn_front a w part = record {
    part =
        subst (λ (h : Heard). AppendsPrefix a w (turn_piece traced fsdi lane g ask h).text) (sym heard_is)
        (part_front a w front more.text _ whole_is part);
    probe = sym (ap (λ (r : P × Heard). r.0) heard_so);
  }

-- An exchange that had no answer.
module _ {P : Type 0} (answers : ProbeAnswers P) (plays : Option Field → Field → Type 0) (settings : Config) (fsdi lane : ℕ) (before : LaneHeld Scripted) (work : LaneWork) (p q : P)
    (turn : (f : Field) → plays work.field f → UnheardTurn answers lane before f p q)
    (steps : ProbeSteps P) (tells : Tells answers steps) (g : Going) (shows : ShowsGoing plays settings fsdi before work g)
    (ask : Ask) (asked : asked_by fsdi g.lane.standing.doing ≡ Some ask) where
  unheard : UnheardTurn answers lane before g.lane.field p q
  unheard = turn g.lane.field shows.field

  asks_so : unheard.transaction.asks ≡ ask
  asks_so =
      sym (some_same ask unheard.transaction.asks
      (sym asked ∙ asks_then scripted g.talk fsdi g.lane.standing before unheard.transaction unheard.was shows.stands))

  would_answer : field_answers ask g.lane.field ≡ (Some unheard.given, unheard.field_then)
  would_answer =
      answers_so ask g.lane.field unheard.field_then unheard.given
      (subst (λ (x : Ask). Exchanges (told field) g.lane.field x (Some unheard.given) unheard.field_then) asks_so unheard.exchange)

  pub turn_stopped : (after : LaneHeld Scripted) (next : LaneWork) (a b : Option (List ℕ)) → b ≡ a
      → TurnStopped steps lane (record { held = before; work = work; probe = p; written = a })
      (record { held = after; work = next; probe = q; written = b }) g ask
  turn_stopped after next a b same = record {
    wrote = same;
    probe =
        sym (ap (λ (r : P × Heard). r.0)
        (subst (λ (h : Heard). steps.hear p lane ask h ≡ (q, unheard.heard)) (sym (ap (λ (x : Option Heard × Field). or_silence x.0) would_answer))
        (subst (λ (x : Ask). steps.hear p lane x unheard.given ≡ (q, unheard.heard)) asks_so
        (tells p lane unheard.transaction.asks unheard.given unheard.heard q unheard.hears))));
  }
