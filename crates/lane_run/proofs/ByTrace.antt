-- An exchange of a lane against a trace is one over a field without cards, in which the trace is a probe.
use Rattle.std.proofs.Common.{◌≡◌, ℕ, Bool, true, false, List, refl, sym, ap, subst, ◌∙◌, Option, Some, None, is_some}
use Rattle.std.specs.Prelude.{if◌then◌else◌}
use Rattle.ep_base.specs.Air.Heard.{Ask, Heard}
use Rattle.ep_base.specs.Air.Medium.{told, AfterReset, ExchangesBy, Exchanges}
use Rattle.ep_base.specs.Cards.Field.{Field, field, field_reset, field_send}
use Rattle.ep_rules.specs.EntryPoint.Event.{Event as EventData}
use Rattle.ep_rules.specs.EntryPoint.Kernel.{Scripted, scripted}
use Rattle.ep_claim.specs.Lanes.Exchanges.{field_answers, or_silence}
use Rattle.ep_claim.specs.Lanes.ReplayRun.{Replaying, at_lane, replay}
use Rattle.ep_claim.specs.Lanes.WholeReplay.{compared_at, trace_probe}
use Rattle.ep_claim.specs.Lanes.WholeRun.{open_probe}
use Rattle.ep_lanes.specs.Lanes.{Held, LaneHeld}
use Rattle.ep_claim.specs.Lanes.Probing as probes
use Rattle.ep_lanes.specs.Turns.{Fails, Turns}
use Rattle.ep_lanes.specs.declared.exchange.Turned.{Turned}
use Rattle.lane_run.specs.Turned.{HeardTurn, UnheardTurn}
use Rattle.lane_run.specs.Blank.{IsBlank}
use Rattle.lane_run.proofs.Comparing.{answer_of}
use Rattle.lane_run.proofs.Blank.{blank_after}

-- What a trace answers where it may answer so: a reset does nothing.
after_reset : (well : Bool) (ask : Ask) (u t : Replaying) (h : Option Heard) → true ≡ well → AfterReset (told replay) well u ask h t
    → replay.send u ask.wave ask.bytes ask.wait ≡ (h, t)
after_reset true ask u t h is e = e
after_reset false ask u t h is e = let never : true ≡ false = is in cc

by_reset : (b : Bool) (ask : Ask) (s t : Replaying) (h : Option Heard) → ExchangesBy (told replay) b s ask h t
    → replay.send s ask.wave ask.bytes ask.wait ≡ (h, t)
by_reset false ask s t h e = e
by_reset true ask s t h e =
    subst (λ (u : Replaying). replay.send u ask.wave ask.bytes ask.wait ≡ (h, t)) (sym (ap (λ (r : Bool × Replaying). r.1) e.2))
    (after_reset e.0 ask e.1 t h (ap (λ (r : Bool × Replaying). r.0) e.2) e.3)

line_is : (lane : ℕ) (ask : Ask) (s t : Replaying) (h : Option Heard) → Exchanges (told replay) (at_lane lane s) ask h t → compared_at lane ask s ≡ (h, t)
line_is lane ask s t h e = by_reset ask.reset ask (at_lane lane s) t h e

-- So the trace is a probe, whatever a field gives.
hears_so : (lane : ℕ) (ask : Ask) (s t : Replaying) (h : Option Heard) (given : Heard) → compared_at lane ask s ≡ (h, t)
    → trace_probe.hear s lane ask given ≡ (t, or_silence h)
hears_so lane ask s t h given e = ap (λ (a : Option Heard × Replaying). (a.1, or_silence a.0)) e

-- What a field gives to what is asked.
abbrev gives : Ask → Field → Heard
gives ask f = or_silence (field_answers ask f).0

field_by : (b : Bool) (ask : Ask) (f : Field)
    → ExchangesBy (told field) b f ask (Some (or_silence (field_send (if b then field_reset f else f) ask.wave ask.bytes).0))
    (field_send (if b then field_reset f else f) ask.wave ask.bytes).1
field_by false ask f = refl
field_by true ask f = (true, field_reset f, refl, refl)

field_so : (ask : Ask) (f : Field) → Exchanges (told field) f ask (Some (gives ask f)) (field_answers ask f).1
field_so ask f = field_by ask.reset ask f

module _ (lane : ℕ) (s t : Replaying) (f : Field) (blank : IsBlank f) where
  -- it asked what the line says
  pub heard_turn : (before after : Held Scripted) (turned : Turned) (said : List EventData) (left : Option Field)
      → Turns scripted (told replay) (probes.probe_told open_probe) lane before (at_lane lane s) tt turned said after t tt
      → HeardTurn (probes.probe_told trace_probe) (λ _ g. IsBlank g) lane before f s turned said after left t
  heard_turn before after turned said left turn =
      let makes = turn.makes in
      let asked = turn.made.asked in
      let given : makes.given ≡ turn.made.heard = ap (λ (r : Unit {0} × Heard). r.1) makes.heard in
      let line : compared_at lane asked s ≡ (Some turn.made.heard, t) =
      subst (λ (h : Heard). compared_at lane asked s ≡ (Some h, t)) given (line_is lane asked s t (Some makes.given) makes.exchange) in
      record {
        field_then = (field_answers asked f).1;
        left_is = blank_after asked f blank;
        turns = record {
          made = turn.made;
          last = turn.last;
          number = turn.number;
          makes = record {
            transaction = makes.transaction;
            was = makes.was;
            asked = makes.asked;
            given = gives asked f;
            exchange = field_so asked f;
            heard =
                subst (λ k. trace_probe.hear s k asked (gives asked f) ≡ (t, turn.made.heard)) (sym turn.number)
                (hears_so lane asked s t (Some turn.made.heard) (gives asked f) line);
            live = makes.live;
            stands = makes.stands;
            events = makes.events;
            tells = makes.tells;
          };
        };
      }

  -- it asked something else
  pub unheard_turn : (before after : LaneHeld Scripted) → Fails (told replay) before (at_lane lane s) after t
      → UnheardTurn (probes.probe_told trace_probe) lane before f s t
  unheard_turn before after fails =
      let asks = fails.transaction.asks in
      record {
        transaction = fails.transaction;
        was = fails.was;
        given = gives asks f;
        field_then = (field_answers asks f).1;
        exchange = field_so asks f;
        heard = or_silence None;
        hears = hears_so lane asks s t None (gives asks f) (line_is lane asks s t None fails.exchange);
      }

-- Whether the trace has failed then.
pub heard_well : (lane : ℕ) (s t : Replaying) (before after : Held Scripted) (turned : Turned) (said : List EventData)
    → Turns scripted (told replay) (probes.probe_told open_probe) lane before (at_lane lane s) tt turned said after t tt → is_some t.failure ≡ false
heard_well lane s t before after turned said turn =
    ap is_some
    (answer_of lane turn.made.asked s (Some turn.makes.given, t) (line_is lane turn.made.asked s t (Some turn.makes.given) turn.makes.exchange)).0

pub unheard_ill : (lane : ℕ) (s t : Replaying) (before after : LaneHeld Scripted) → Fails (told replay) before (at_lane lane s) after t
    → is_some t.failure ≡ true
unheard_ill lane s t before after fails =
    answer_of lane fails.transaction.asks s (None, t) (line_is lane fails.transaction.asks s t None fails.exchange)

-- The same, where the lane was named before.
module _ (lane : ℕ) (s u t : Replaying) (named : u ≡ at_lane lane s) where
  pub heard_from : (before after : Held Scripted) (turned : Turned) (said : List EventData) (left : Option Field)
      → Turns scripted (told replay) (probes.probe_told open_probe) lane before u tt turned said after t tt
      → (f : Field) → IsBlank f → HeardTurn (probes.probe_told trace_probe) (λ _ g. IsBlank g) lane before f s turned said after left t
  heard_from before after turned said left turn f blank =
      heard_turn lane s t f blank before after turned said left
      (subst (λ x. Turns scripted (told replay) (probes.probe_told open_probe) lane before x tt turned said after t tt) named turn)

  pub well_from : (before after : Held Scripted) (turned : Turned) (said : List EventData)
      → Turns scripted (told replay) (probes.probe_told open_probe) lane before u tt turned said after t tt → is_some t.failure ≡ false
  well_from before after turned said turn =
      heard_well lane s t before after turned said
      (subst (λ x. Turns scripted (told replay) (probes.probe_told open_probe) lane before x tt turned said after t tt) named turn)

  pub unheard_from : (before after : LaneHeld Scripted) → Fails (told replay) before u after t
      → (f : Field) → IsBlank f → UnheardTurn (probes.probe_told trace_probe) lane before f s t
  unheard_from before after fails f blank =
      unheard_turn lane s t f blank before after (subst (λ x. Fails (told replay) before x after t) named fails)

  pub ill_from : (before after : LaneHeld Scripted) → Fails (told replay) before u after t → is_some t.failure ≡ true
  ill_from before after fails = unheard_ill lane s t before after (subst (λ x. Fails (told replay) before x after t) named fails)
