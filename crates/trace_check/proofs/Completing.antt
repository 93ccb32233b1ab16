-- Wherever the checker stands, some lines complete what came so far.
use Rattle.std.proofs.Common.{◌≡◌, ℕ, zero, suc, ◌+◌, ◌-◌, ◌<◌, ◌≤◌, Bool, true, false, List, [], ◌∷◌, Option, Some, refl, sym, subst, arith, leb-true}
use Rattle.std.specs.Prelude.{if◌then◌else◌, nat_lt}
use Rattle.ep_base.specs.Air.Heard.{Ask, Silence}
use Rattle.ep_base.specs.Cards.TypeA.{Woken}
use Rattle.ep_base.specs.Link.Block.{Deselect}
use Rattle.ep_base.specs.Link.Parts.{Cut, cut, more}
use Rattle.ep_base.specs.Link.LinkFrames.{LinkSetting, block_ask}
use Rattle.ep_base.specs.Poll.Round.{Stage, Waking, Halting, WakingB, InA, InB, round_asks}
use Rattle.trace_check.specs.Commands.{may_go_on}
use Rattle.trace_check.specs.Held.{Tally, Parts}
use Rattle.trace_check.specs.Lines.{Line}
use Rattle.trace_check.specs.Allowed.{Sends, IsCut, NoLine}
use Rattle.trace_check.specs.declared.watch.Watch.{Watch}
use Rattle.trace_check.specs.declared.watch.Watch.TheVariants as Watching
use Rattle.trace_check.specs.Watch.{asks, part_block, ack_block, fresh, lost, after_bad, hears}
use Rattle.trace_check.proofs.Cuts.{to_rest_closed}
use Rattle.trace_check.proofs.Futures.{SomeLeft, Fits, MayFit, rested}
use Rattle.trace_check.proofs.Lawful.{Lawful}
use Rattle.trace_check.proofs.Parting.{Rest, test_goes_on, some_left, first_inf, IsNext, is_next}
use Rattle.trace_check.proofs.Settling.{Wide, next_by}
use Rattle.trace_check.proofs.Stepping.{HasLeft, asked_back, steps_asked}

-- a line that is sent as asked, with nothing heard
abbrev pub silent : Ask → Line
silent ask = record { wave = ask.wave; frame = ask.bytes; wait = ask.wait; heard = Silence }

silent_sends : (ask : Ask) → Sends (silent ask) ask
silent_sends ask = record { wave = refl; frame = refl; wait = refl }

module _ (fsdi : ℕ) where
  -- lines that complete what came so far
  pub record Completion (w : Watch) : Type 0 where
    pub rest : List Line
    pub fits : Fits fsdi w rest

  ready : Completion Watching.Ready
  ready = record { rest = []; fits = NoLine [] refl }

  -- silence is heard
  by_silence : (w v : Watch) (ask : Ask) → asks w ≡ Some ask → HasLeft fsdi w → hears w Silence ≡ Some v → Completion v → Completion w
  by_silence w v ask e left h c = record {
    rest = silent ask ∷ c.rest;
    fits = asked_back fsdi w (silent ask) c.rest left
        (subst (λ (o : Option Watch). MayFit fsdi o c.rest) (sym (steps_asked w ask (silent ask) e (silent_sends ask)))
        (subst (λ (o : Option Watch). MayFit fsdi o c.rest) (sym h) c.fits));
  }

  -- ---- a link

  sending_by : (t : Tally) (p : Parts) (b : Bool) → (b ≡ true → Completion (Watching.Sending (lost t) p)) → Completion (if b then Watching.Sending (lost t) p else Watching.Ready)
  sending_by t p true c = c refl
  sending_by t p false c = ready

  sending_silent : (t : Tally) (p : Parts) → SomeLeft (t.set.frames.card - 3) p → (nat_lt (suc t.bad) 3 ≡ true → Completion (Watching.Sending (lost t) p)) → Completion (Watching.Sending t p)
  sending_silent t p left c =
      by_silence (Watching.Sending t p) (after_bad t (Watching.Sending (lost t) p)) (block_ask t.set.kind t.set.fwi (part_block t p)) refl left refl
      (sending_by t p (nat_lt (suc t.bad) 3) c)

  sending_ends : (k : ℕ) (t : Tally) (p : Parts) → 3 ≤ k + t.bad → SomeLeft (t.set.frames.card - 3) p → Completion (Watching.Sending t p)
  sending_ends zero t p enough left = sending_silent t p left (λ e. let few : suc t.bad < 3 = leb-true _ _ e in absurd (omega arith))
  sending_ends (suc k) t p enough left = sending_silent t p left (λ e. sending_ends k (lost t) p (omega arith) left)

  receiving_by : (t : Tally) (got : ℕ) (b : Bool) → (b ≡ true → Completion (Watching.Receiving (lost t) got)) → Completion (if b then Watching.Receiving (lost t) got else Watching.Ready)
  receiving_by t got true c = c refl
  receiving_by t got false c = ready

  receiving_silent : (t : Tally) (got : ℕ) → (nat_lt (suc t.bad) 3 ≡ true → Completion (Watching.Receiving (lost t) got)) → Completion (Watching.Receiving t got)
  receiving_silent t got c =
      by_silence (Watching.Receiving t got) (after_bad t (Watching.Receiving (lost t) got)) (block_ask t.set.kind t.set.fwi (ack_block t)) refl tt refl
      (receiving_by t got (nat_lt (suc t.bad) 3) c)

  receiving_ends : (k : ℕ) (t : Tally) (got : ℕ) → 3 ≤ k + t.bad → Completion (Watching.Receiving t got)
  receiving_ends zero t got enough = receiving_silent t got (λ e. let few : suc t.bad < 3 = leb-true _ _ e in absurd (omega arith))
  receiving_ends (suc k) t got enough = receiving_silent t got (λ e. receiving_ends k (lost t) got (omega arith))

  between_ends : (set : LinkSetting) (number : Bool) (sent : List ℕ) → Wide set → may_go_on sent ≡ true → Completion (Watching.Between set number sent)
  between_ends set number sent wide may =
      let g : Rest sent = test_goes_on sent may in
      let c : Cut = cut (set.frames.card - 3) g.more in
      let n : IsNext (set.frames.card - 3) sent c = is_next (set.frames.card - 3) sent g.more (omega (arith, wide)) g.some g.is in
      let e : Completion (Watching.Sending (fresh set number) (record { sent = sent; part = c.first; chained = more c.others })) =
      sending_ends 3 (fresh set number) (record { sent = sent; part = c.first; chained = more c.others }) (omega arith) (record { left = c.others; is = n.left }) in
      record { rest = e.rest; fits = next_by fsdi set number sent (first_inf c) e.rest wide n.is e.fits }

  -- ---- a round

  in_round : (stage : Stage) (v : Watch) → hears (Watching.InRound (record { fsdi = fsdi; stage = stage })) Silence ≡ Some v → Completion v → Completion (Watching.InRound (record { fsdi = fsdi; stage = stage }))
  in_round stage v h c = by_silence (Watching.InRound (record { fsdi = fsdi; stage = stage })) v (round_asks fsdi stage) refl refl h c

  round_ends : (stage : Stage) → Completion (Watching.InRound (record { fsdi = fsdi; stage = stage }))
  round_ends Waking = in_round Waking (Watching.InRound (record { fsdi = fsdi; stage = WakingB false })) refl (in_round (WakingB false) Watching.Ready refl ready)
  round_ends Halting =
      in_round Halting (Watching.InRound (record { fsdi = fsdi; stage = WakingB true })) refl
      (in_round (WakingB true) (Watching.InRound (record { fsdi = fsdi; stage = InA Woken })) refl (in_round (InA Woken) Watching.Ready refl ready))
  round_ends (WakingB true) = in_round (WakingB true) (Watching.InRound (record { fsdi = fsdi; stage = InA Woken })) refl (in_round (InA Woken) Watching.Ready refl ready)
  round_ends (WakingB false) = in_round (WakingB false) Watching.Ready refl ready
  round_ends (InA stage) = in_round (InA stage) Watching.Ready refl ready
  round_ends (InB stage) = in_round (InB stage) Watching.Ready refl ready

  pub completes : (w : Watch) → Lawful fsdi w → Completion w
  completes Watching.Ready h = ready
  completes (Watching.InRound round) h = subst (λ (n : ℕ). Completion (Watching.InRound (record { fsdi = n; stage = round.stage }))) (sym h.0) (round_ends round.stage)
  completes (Watching.Resting set number) h =
      record { rest = silent (block_ask set.kind set.fwi Deselect) ∷ []; fits = to_rest_closed (IsCut fsdi) set (rested number) (silent (block_ask set.kind set.fwi Deselect)) [] (silent_sends _) (NoLine [] refl) }
  completes (Watching.Closing set) h = record { rest = silent (block_ask set.kind set.fwi Deselect) ∷ []; fits = (silent_sends _, NoLine [] refl) }
  completes (Watching.Between set number sent) h = between_ends set number sent h.0 h.1
  completes (Watching.Sending t p) h = sending_ends 3 t p (omega arith) (some_left (t.set.frames.card - 3) p.sent p.part p.chained h.1)
  completes (Watching.Receiving t got) h = receiving_ends 3 t got (omega arith)
