-- What stays true of a lane that the checker watches.
use Rattle.std.proofs.Common.{◌≡◌, ℕ, suc, ◌+◌, ◌-◌, ◌==◌, ◌&&◌, Bool, true, false, List, [], ◌++◌, length, Option, Some, None, refl}
use Rattle.std.specs.Prelude.{if◌then◌else◌, nat_lt, nat_le}
use Rattle.std.proofs.lemmas.Bool.{and_parts}
use Rattle.ep_base.specs.declared.air.Wave.{Wave}
use Rattle.ep_base.specs.declared.limits.TheConstants.{WAITS}
use Rattle.ep_base.specs.Air.Heard.{Heard, Empty, Collision, Unsupported, Broken, Found, RoundTurn, Goes, Ends}
use Rattle.ep_base.specs.Link.Block.{ReadBlock, Bad, Junk, Intact, I, RAck, RNak, Deselect, Wtx, same}
use Rattle.ep_base.specs.Link.LinkFrames.{LinkSetting, heard_block}
use Rattle.ep_base.specs.Poll.Round.{Stage, round_hears}
use Rattle.trace_check.specs.Commands.{may_go_on}
use Rattle.trace_check.specs.Held.{Tally, Parts, Inf}
use Rattle.trace_check.specs.Lines.{Line}
use Rattle.trace_check.specs.declared.watch.Watch.{Watch}
use Rattle.trace_check.specs.declared.watch.Watch.TheVariants as Watching
use Rattle.trace_check.specs.Watch.{asks, part_in, is_part, fresh, settles_rest, settles_next, settles, after_round, lost, waits, again, is_lost, fits, received, takes_part, taken, answered, hears_sending, hears_receiving, hears, is_frame, is_wait, steps_settled, steps_by, steps}
use Rattle.trace_check.proofs.Parting.{some_left}
use Rattle.trace_check.proofs.Settling.{Wide, IsWide}
use Rattle.trace_check.proofs.Sizing.{Sized, sized, either}
use Rattle.trace_check.proofs.Stepping.{HasLeft}

-- a part that was sent can be followed where it says so
abbrev pub IsPart : Parts → Type 0
IsPart p = p.chained ≡ true → may_go_on (p.sent ++ p.part) ≡ true

module _ (fsdi : ℕ) where
  abbrev pub Lawful : Watch → Type 0
  Lawful Watching.Ready = Unit {0}
  Lawful (Watching.InRound round) = (round.fsdi ≡ fsdi) × Sized (Goes round.stage)
  Lawful (Watching.Resting set number) = Wide set
  Lawful (Watching.Closing set) = Unit {0}
  Lawful (Watching.Between set number sent) = Wide set × (may_go_on sent ≡ true)
  Lawful (Watching.Sending t p) = Wide t.set × IsPart p
  Lawful (Watching.Receiving t got) = Wide t.set

  abbrev pub IfLawful : Option Watch → Type 0
  IfLawful None = Unit {0}
  IfLawful (Some w) = Lawful w

  pub is_wide : (w : Watch) → Lawful w → IsWide w
  is_wide Watching.Ready h = tt
  is_wide (Watching.InRound round) h = tt
  is_wide (Watching.Resting set number) h = h
  is_wide (Watching.Closing set) h = tt
  is_wide (Watching.Between set number sent) h = h.0
  is_wide (Watching.Sending t p) h = tt
  is_wide (Watching.Receiving t got) h = tt

  pub has_left : (w : Watch) → Lawful w → HasLeft fsdi w
  has_left Watching.Ready h = tt
  has_left (Watching.InRound round) h = h.0
  has_left (Watching.Resting set number) h = tt
  has_left (Watching.Closing set) h = tt
  has_left (Watching.Between set number sent) h = tt
  has_left (Watching.Sending t p) h = some_left (t.set.frames.card - 3) p.sent p.part p.chained h.1
  has_left (Watching.Receiving t got) h = tt

  -- ---- settling

  part_goes_on : (size : ℕ) (sent bytes : List ℕ) (c : Bool) → is_part size sent (record { chained = c; bytes = bytes }) ≡ true → c ≡ true → may_go_on (sent ++ bytes) ≡ true
  part_goes_on size sent bytes true e ch = (and_parts (length bytes == size) (may_go_on (sent ++ bytes)) e).1
  part_goes_on size sent bytes false e ch = cc

  begins_by : (set : LinkSetting) (number : Bool) (sent : List ℕ) (inf : Inf) (b : Bool) → is_part (set.frames.card - 3) sent inf ≡ b → Wide set
      → IfLawful (if b then Some (Watching.Sending (fresh set number) (record { sent = sent; part = inf.bytes; chained = inf.chained })) else None)
  begins_by set number sent inf true e wide = (wide, part_goes_on (set.frames.card - 3) sent inf.bytes inf.chained e)
  begins_by set number sent inf false e wide = tt

  rest_lawful : (set : LinkSetting) (number : Bool) (o : Option Inf) → Wide set → IfLawful (settles_rest set number o)
  rest_lawful set number None wide = tt
  rest_lawful set number (Some inf) wide = begins_by set number [] inf (is_part (set.frames.card - 3) [] inf) refl wide

  next_lawful : (set : LinkSetting) (number : Bool) (sent : List ℕ) (o : Option Inf) → Wide set → IfLawful (settles_next set number sent o)
  next_lawful set number sent None wide = tt
  next_lawful set number sent (Some inf) wide = begins_by set number sent inf (is_part (set.frames.card - 3) sent inf) refl wide

  pub settles_lawful : (w : Watch) (wave : Wave) (frame : List ℕ) → Lawful w → IfLawful (settles fsdi w wave frame)
  settles_lawful Watching.Ready wave frame h = (refl, tt)
  settles_lawful (Watching.InRound round) wave frame h = h
  settles_lawful (Watching.Resting set number) wave frame h = rest_lawful set number (part_in set wave frame) h
  settles_lawful (Watching.Closing set) wave frame h = tt
  settles_lawful (Watching.Between set number sent) wave frame h = next_lawful set number sent (part_in set wave frame) h.0
  settles_lawful (Watching.Sending t p) wave frame h = h
  settles_lawful (Watching.Receiving t got) wave frame h = h

  -- ---- hearing

  turn_lawful : (n : ℕ) (turn : RoundTurn Stage) → n ≡ fsdi → Sized turn → Lawful (after_round n turn)
  turn_lawful n (Goes stage) e h = (e, h)
  turn_lawful n (Ends Empty) e h = tt
  turn_lawful n (Ends Collision) e h = tt
  turn_lawful n (Ends Unsupported) e h = tt
  turn_lawful n (Ends Broken) e h = tt
  turn_lawful n (Ends (Found card)) e h = h.0

  received_lawful : (t : Tally) (got : ℕ) (ch : Bool) → Wide t.set → Lawful (received t got ch)
  received_lawful t got true wide = wide
  received_lawful t got false wide = wide

  takes_lawful : (t : Tally) (got : ℕ) (ch : Bool) (len : ℕ) → Wide t.set → IfLawful (takes_part t got ch len)
  takes_lawful t got ch len wide = either IfLawful (fits t.set.frames.reader got ch len) (Some (received t (got + len) ch)) None (received_lawful t (got + len) ch wide) tt

  answered_by : (t : Tally) (sent part : List ℕ) (c ch : Bool) (len : ℕ) → Wide t.set → IfLawful (answered t (record { sent = sent; part = part; chained = c }) ch len)
  answered_by t sent part true ch len wide = tt
  answered_by t sent part false ch len wide = takes_lawful t 0 ch len wide

  taken_by : (t : Tally) (sent part : List ℕ) (c : Bool) → Wide t.set → (c ≡ true → may_go_on (sent ++ part) ≡ true) → IfLawful (taken t (record { sent = sent; part = part; chained = c }))
  taken_by t sent part true wide h = (wide, h refl)
  taken_by t sent part false wide h = tt

  sending_lawful : (t : Tally) (p : Parts) (h : ReadBlock) → Wide t.set → IsPart p → IfLawful (hears_sending t p h)
  sending_lawful t p Bad wide is = either (λ (w : Watch). Lawful w) (nat_lt (suc t.bad) 3) (Watching.Sending (lost t) p) Watching.Ready (wide, is) tt
  sending_lawful t p Junk wide is = tt
  sending_lawful t p (Intact (I k ch inf)) wide is = either IfLawful (same k t.number) (answered t p ch (length inf)) None (answered_by t p.sent p.part p.chained ch (length inf) wide) tt
  sending_lawful t p (Intact (RAck k)) wide is =
      either IfLawful (same k t.number) (taken t p) (if is_lost t.latest then Some (Watching.Sending (again t) p) else None) (taken_by t p.sent p.part p.chained wide is)
      (either IfLawful (is_lost t.latest) (Some (Watching.Sending (again t) p)) None (wide, is) tt)
  sending_lawful t p (Intact (RNak k)) wide is = tt
  sending_lawful t p (Intact Deselect) wide is = tt
  sending_lawful t p (Intact (Wtx q w)) wide is = either IfLawful (nat_le (suc t.wtx) WAITS) (Some (Watching.Sending (waits w t) p)) None (wide, is) tt

  receiving_lawful : (t : Tally) (got : ℕ) (h : ReadBlock) → Wide t.set → IfLawful (hears_receiving t got h)
  receiving_lawful t got Bad wide = either (λ (w : Watch). Lawful w) (nat_lt (suc t.bad) 3) (Watching.Receiving (lost t) got) Watching.Ready wide tt
  receiving_lawful t got Junk wide = tt
  receiving_lawful t got (Intact (I k ch inf)) wide = either IfLawful (same k t.number) (takes_part t got ch (length inf)) None (takes_lawful t got ch (length inf) wide) tt
  receiving_lawful t got (Intact (RAck k)) wide = tt
  receiving_lawful t got (Intact (RNak k)) wide = tt
  receiving_lawful t got (Intact Deselect) wide = tt
  receiving_lawful t got (Intact (Wtx q w)) wide = either IfLawful (nat_le (suc t.wtx) WAITS) (Some (Watching.Receiving (waits w t) got)) None wide tt

  pub hears_lawful : (w : Watch) (h : Heard) → Lawful w → IfLawful (hears w h)
  hears_lawful Watching.Ready h l = tt
  hears_lawful (Watching.InRound round) h l = turn_lawful round.fsdi (round_hears round.stage h) l.0 (sized round.stage h l.1)
  hears_lawful (Watching.Resting set number) h l = tt
  hears_lawful (Watching.Closing set) h l = tt
  hears_lawful (Watching.Between set number sent) h l = tt
  hears_lawful (Watching.Sending t p) h l = sending_lawful t p (heard_block t.set.kind t.set.frames.reader h) l.0 l.1
  hears_lawful (Watching.Receiving t got) h l = receiving_lawful t got (heard_block t.set.kind t.set.frames.reader h) l

  pub settled_lawful : (w : Watch) (l : Line) → Lawful w → IfLawful (steps_settled w l)
  settled_lawful w l h = either IfLawful (is_frame (asks w) l && is_wait (asks w) l) (hears w l.heard) None (hears_lawful w l.heard h) tt

  by_lawful : (o : Option Watch) (l : Line) → IfLawful o → IfLawful (steps_by o l)
  by_lawful None l h = tt
  by_lawful (Some w) l h = settled_lawful w l h

  pub steps_lawful : (w : Watch) (l : Line) → Lawful w → IfLawful (steps fsdi w l)
  steps_lawful w l h = by_lawful (settles fsdi w l.wave l.frame) l (settles_lawful w l.wave l.frame h)
