-- The events so far stay, and the exchanges are those that were made.
use Rattle.std.proofs.Common.{◌≡◌, ℕ, zero, suc, List, [], ◌∷◌, ◌++◌, refl, sym, ap, ◌∙◌, append_assoc, append-nil, Option, Some, None}
use Rattle.ep_base.specs.Air.Heard.{Ask, Heard}
use Rattle.ep_base.specs.Air.Heard as rounds
use Rattle.ep_base.specs.Poll.Round.{Stage, round_hears}
use Rattle.ep_base.specs.Link.ReaderEnd.{ReaderTurn, Asks, Gives, Spends, Breaks}
use Rattle.ep_base.specs.Link.LinkFrames.{LinkSetting}
use Rattle.ep_base.specs.Link.Carry.{turn_on}
use Rattle.ep_base.specs.Cards.Field.{Field}
use Rattle.ep_base.specs.Poll.Radio.{OpenLink}
use Rattle.ep_rules.specs.EntryPoint.Event.{Event as EventData, Tells, Apdu, EndLink, EndBreach}
use Rattle.ep_rules.specs.EntryPoint.Talk.{Talk, Over, Say, Poll, Command, Close, Result, Round, Response, Closed, so_far}
use Rattle.ep_rules.specs.EntryPoint.TransportRun.{HearEnd}
use Rattle.ep_claim.specs.Lanes.Standing.{Standing, Doing, Rounds, Carries, Closing, Stopped, Astray, doing_by, standing, started, asked_by, link_by, after_stage, after_turn, hears_by, after_hearing, ending_of, events_by, events_of}
use Rattle.ep_claim.specs.Lanes.Exchanges.{Exchange, Lane, field_answers, or_silence, goes_by, lane_step, lane_after, opened_lane}
use Rattle.law_lane.specs.Following.{EventsGrow, AreMade, ExchangesAreMade}

-- ---- events

abbrev Extends : List EventData → List EventData → Type 0
Extends before after = (more : List EventData) × (after ≡ before ++ more)

extends_same : (before : List EventData) → Extends before before
extends_same before = ([], sym (append-nil before))

extends_cons : (x : EventData) (before after : List EventData) → Extends before after → Extends (x ∷ before) (x ∷ after)
extends_cons x before after e = (e.0, ap (λ l. x ∷ l) e.1)

extends_on : (before middle after : List EventData) → Extends before middle → Extends middle after → Extends before after
extends_on before middle after a b = (a.0 ++ b.0, b.1 ∙ (ap (λ l. l ++ b.0) a.1 ∙ append_assoc before a.0 b.0))

-- with one more result
result_extends : (talk : Talk) (results : List Result) (x : Result) → Extends (so_far talk results).events (so_far talk (results ++ x ∷ [])).events
result_extends (Over e) results x = extends_same (so_far (Over e) results).events
result_extends (Say what next) results x = extends_cons (Tells what) (so_far next results).events (so_far next (results ++ x ∷ [])).events (result_extends next results x)
result_extends (Poll next) [] x = ((so_far (Poll next) (x ∷ [])).events, refl)
result_extends (Poll next) ((Round e) ∷ rest) x = result_extends (next e) rest x
result_extends (Poll next) ((Response r) ∷ rest) x = ([], refl)
result_extends (Poll next) (Closed ∷ rest) x = ([], refl)
result_extends (Command c next) [] x = ((so_far (Command c next) (x ∷ [])).events, refl)
result_extends (Command c next) ((Round e) ∷ rest) x = ([], refl)
result_extends (Command c next) ((Response r) ∷ rest) x = extends_cons (Apdu c r) (so_far (next r) rest).events (so_far (next r) (rest ++ x ∷ [])).events (result_extends (next r) rest x)
result_extends (Command c next) (Closed ∷ rest) x = ([], refl)
result_extends (Close next) [] x = ((so_far (Close next) (x ∷ [])).events, refl)
result_extends (Close next) ((Round e) ∷ rest) x = ([], refl)
result_extends (Close next) ((Response r) ∷ rest) x = ([], refl)
result_extends (Close next) (Closed ∷ rest) x = result_extends next rest x

-- the end of a link comes after the other events
ending_extends : (talk : Talk) (results : List Result) (ending : Option HearEnd) → Extends (so_far talk results).events (events_by talk results ending)
ending_extends talk results None = extends_same (so_far talk results).events
ending_extends talk results (Some ending) = (_, refl)

module _ (fsdi : ℕ) (talk : Talk) (results : List Result) where
  abbrev now : List EventData
  now = (so_far talk results).events

  abbrev Grows : Standing → Type 0
  Grows t = Extends now (events_of talk t)

  stands_grow : (x : Result) (link : Option OpenLink) → Grows (standing talk (results ++ x ∷ []) link)
  stands_grow x link =
      let next = results ++ x ∷ [] in
      extends_on now (so_far talk next).events (events_of talk (standing talk next link)) (result_extends talk results x)
      (ending_extends talk next (ending_of (doing_by (so_far talk next).wish link)))

  stage_grows : (turn : rounds.RoundTurn Stage) → Grows (after_stage fsdi talk results turn)
  stage_grows (rounds.Goes stage) = extends_same now
  stage_grows (rounds.Ends e) = stands_grow (Round e) (link_by fsdi e)

  turn_grows : (set : LinkSetting) (turn : ReaderTurn) → Grows (after_turn talk results set turn)
  turn_grows set (Asks r) = extends_same now
  turn_grows set (Gives response r) = stands_grow (Response response) (Some (record { set = set; reader = r }))
  turn_grows set (Spends r) = (EndLink ∷ [], refl)
  turn_grows set (Breaks r) = (EndBreach ∷ [], refl)

  heard_grows : (h : Heard) (doing : Doing) → Extends (events_by talk results (ending_of doing)) (events_of talk (hears_by fsdi talk results h doing))
  heard_grows h (Rounds stage) = stage_grows (round_hears stage h)
  heard_grows h (Carries l) = turn_grows l.set (turn_on l.set l.reader h)
  heard_grows h (Closing l) = stands_grow Closed None
  heard_grows h (Stopped ending) = extends_same (events_by talk results (Some ending))
  heard_grows h Astray = extends_same now

pub events_grow_law : EventsGrow
events_grow_law fsdi talk heard s = heard_grows fsdi talk s.results heard s.doing

-- ---- exchanges

module _ (fsdi : ℕ) (talk : Talk) where
  -- one more exchange
  made_next : (s t : Standing) (f g u : Field) (xs : List Exchange) (x : Exchange) → AreMade fsdi talk s f xs t g → asked_by fsdi t.doing ≡ Some x.asked → field_answers x.asked g ≡ (Some x.heard, u)
      → AreMade fsdi talk s f (xs ++ x ∷ []) (after_hearing fsdi talk x.heard t) u
  made_next s t f g u [] x made asks answers = (
    ap (λ z. asked_by fsdi z.doing) made.0 ∙ asks,
    u,
    ap (λ h. field_answers x.asked h) made.1 ∙ answers,
    (ap (λ z. after_hearing fsdi talk x.heard z) made.0, refl),
  )
  made_next s t f g u (y ∷ ys) x (asked, v, answered, made) asks answers =
      (asked, v, answered, made_next (after_hearing fsdi talk y.heard s) t v g u ys x made asks answers)

  module _ (start : Field) where
    abbrev FromStart : Lane → Type 0
    FromStart l = AreMade fsdi talk (started talk) start l.exchanges l.standing l.field

    steps : (l : Lane) (o : Option Ask) → asked_by fsdi l.standing.doing ≡ o → FromStart l → FromStart (goes_by fsdi talk o l)
    steps l None e made = made
    steps l (Some ask) e made =
        let a = field_answers ask l.field in
        let x : Exchange = record { asked = ask; heard = or_silence a.0 } in
        made_next (started talk) l.standing start l.field a.1 l.exchanges x made e refl

    goes : (n : ℕ) (l : Lane) → FromStart l → FromStart (lane_after fsdi talk n l)
    goes zero l made = made
    goes (suc n) l made = goes n (lane_step fsdi talk l) (steps l (asked_by fsdi l.standing.doing) refl made)

pub exchanges_made_law : ExchangesAreMade
exchanges_made_law fsdi talk f n = goes fsdi talk f n (opened_lane talk f) (refl, refl)
