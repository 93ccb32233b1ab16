-- A line takes the checker on exactly where lines that can be cut go on with it.
use Rattle.std.proofs.Common.{◌≡◌, ℕ, ◌-◌, ◌==◌, ◌&&◌, Bool, true, false, List, [], ◌∷◌, Option, Some, None, refl, sym, ap, ◌∙◌, subst}
use Rattle.std.specs.Prelude.{if◌then◌else◌}
use Rattle.std.proofs.lemmas.Bool.{and_parts, eqb-true, eq-eqb}
use Rattle.ep_base.specs.declared.air.Wave.{Wave}
use Rattle.ep_base.specs.declared.air.Wave.TheVariants.{AShort, ABare, A, B}
use Rattle.ep_base.specs.Air.Heard.{Ask, Activated, RoundTurn, Goes, Ends, same_wave}
use Rattle.ep_base.specs.Cards.Apdu.{same_bytes}
use Rattle.ep_base.specs.Link.Block.{Block}
use Rattle.ep_base.specs.Link.LinkFrames.{block_ask, heard_block}
use Rattle.ep_base.specs.Link.Dialogue.{opened_reader}
use Rattle.ep_base.specs.Poll.Round.{Stage, round_asks, round_hears}
use Rattle.ep_base.specs.Poll.Polling.{card_in}
use Rattle.ep_base.specs.Poll.Radio.{setting_of}
use Rattle.trace_check.specs.Lines.{Line}
use Rattle.trace_check.specs.Allowed.{Sends, IsCut}
use Rattle.trace_check.specs.declared.watch.Watch.{Watch}
use Rattle.trace_check.specs.declared.watch.Watch.TheVariants as Watching
use Rattle.trace_check.specs.Held.{RoundAt}
use Rattle.trace_check.specs.Watch.{asks, hears, after_end, after_round, hears_receiving, part_block, ack_block, is_frame, is_wait, steps_settled}
use Rattle.trace_check.proofs.Cuts.{FromRest, FromRound, AfterEnd}
use Rattle.trace_check.proofs.Futures.{FromRoundAt, SomeLeft, Follows, MayFollow, Fits, MayFit}
use Rattle.trace_check.proofs.Hearing.{sends_part, sends_ack, receiving_forward, receiving_back}
use Rattle.trace_check.proofs.Sendings.{HearsEach, sending_forward, sending_back}

-- ---- what is sent is what is asked

wave_is : (a b : Wave) → same_wave a b ≡ true → a ≡ b
wave_is AShort AShort e = refl
wave_is AShort ABare e = cc
wave_is AShort A e = cc
wave_is AShort B e = cc
wave_is ABare AShort e = cc
wave_is ABare ABare e = refl
wave_is ABare A e = cc
wave_is ABare B e = cc
wave_is A AShort e = cc
wave_is A ABare e = cc
wave_is A A e = refl
wave_is A B e = cc
wave_is B AShort e = cc
wave_is B ABare e = cc
wave_is B A e = cc
wave_is B B e = refl

is_wave : (a : Wave) → same_wave a a ≡ true
is_wave AShort = refl
is_wave ABare = refl
is_wave A = refl
is_wave B = refl

bytes_are : (xs ys : List ℕ) → same_bytes xs ys ≡ true → xs ≡ ys
bytes_are [] [] e = refl
bytes_are [] (y ∷ ys) e = cc
bytes_are (x ∷ xs) [] e = cc
bytes_are (x ∷ xs) (y ∷ ys) e =
    let p = and_parts (x == y) (same_bytes xs ys) e in
    let h : x ≡ y = eqb-true x y p.0 in
    let t : xs ≡ ys = bytes_are xs ys p.1 in
    cc (h, t)

pub and_both : (a b : Bool) → a ≡ true → b ≡ true → (a && b) ≡ true
and_both true b p q = q
and_both false b p q = p

are_bytes : (xs : List ℕ) → same_bytes xs xs ≡ true
are_bytes [] = refl
are_bytes (x ∷ xs) = and_both (x == x) (same_bytes xs xs) (eq-eqb x x refl) (are_bytes xs)

-- the frame of a line is the one that is asked
pub record HasFrame (l : Line) (ask : Ask) : Type 0 where
  pub wave : l.wave ≡ ask.wave
  pub frame : l.frame ≡ ask.bytes

pub frame_has : (ask : Ask) (l : Line) → is_frame (Some ask) l ≡ true → HasFrame l ask
frame_has ask l e =
    let p = and_parts (same_wave l.wave ask.wave) (same_bytes l.frame ask.bytes) e in
    record { wave = wave_is l.wave ask.wave p.0; frame = bytes_are l.frame ask.bytes p.1 }

pub has_frame : (ask : Ask) (l : Line) → HasFrame l ask → is_frame (Some ask) l ≡ true
has_frame ask l h =
    and_both (same_wave l.wave ask.wave) (same_bytes l.frame ask.bytes)
    (subst (λ (w : Wave). same_wave l.wave w ≡ true) h.wave (is_wave l.wave))
    (subst (λ (f : List ℕ). same_bytes l.frame f ≡ true) h.frame (are_bytes l.frame))

pub test_sends : (ask : Ask) (l : Line) → (is_frame (Some ask) l && is_wait (Some ask) l) ≡ true → Sends l ask
test_sends ask l e =
    let p = and_parts (is_frame (Some ask) l) (is_wait (Some ask) l) e in
    let h : HasFrame l ask = frame_has ask l p.0 in
    record { wave = h.wave; frame = h.frame; wait = eqb-true l.wait ask.wait p.1 }

pub sends_test : (ask : Ask) (l : Line) → Sends l ask → (is_frame (Some ask) l && is_wait (Some ask) l) ≡ true
sends_test ask l s =
    and_both (is_frame (Some ask) l) (is_wait (Some ask) l) (has_frame ask l (record { wave = s.wave; frame = s.frame })) (eq-eqb l.wait ask.wait s.wait)

-- a line that is sent as asked is heard
pub steps_asked : (w : Watch) (ask : Ask) (l : Line) → asks w ≡ Some ask → Sends l ask → steps_settled w l ≡ hears w l.heard
steps_asked w ask l e s =
    ap (λ (o : Option Ask). if is_frame o l && is_wait o l then hears w l.heard else None) e
    ∙ ap (λ (b : Bool). if b then hears w l.heard else None) (sends_test ask l s)

-- ---- forward

end_after : (fsdi other : ℕ) (o : Option Activated) (ls : List Line) → other ≡ fsdi → AfterEnd fsdi o ls → Fits fsdi (after_end other o) ls
end_after fsdi other None ls e f = f
end_after fsdi other (Some card) ls e f = subst (λ (n : ℕ). Fits fsdi (after_end n (Some card)) ls) (sym e) f

pub round_after : (fsdi other : ℕ) (turn : RoundTurn Stage) (ls : List Line) → other ≡ fsdi → FromRound fsdi turn ls → Fits fsdi (after_round other turn) ls
round_after fsdi other (Goes stage) ls e f = (e, f)
round_after fsdi other (Ends end) ls e f = end_after fsdi other (card_in end) ls e f

-- both ways of what can follow are one outside an open command
follows_end : (fsdi other : ℕ) (o : Option Activated) (ls : List Line) → Fits fsdi (after_end other o) ls → Follows (IsCut fsdi) (FromRoundAt fsdi) (after_end other o) ls
follows_end fsdi other None ls f = f
follows_end fsdi other (Some card) ls f = f

pub follows_round : (fsdi other : ℕ) (turn : RoundTurn Stage) (ls : List Line) → Fits fsdi (after_round other turn) ls → Follows (IsCut fsdi) (FromRoundAt fsdi) (after_round other turn) ls
follows_round fsdi other (Goes stage) ls f = f
follows_round fsdi other (Ends end) ls f = follows_end fsdi other (card_in end) ls f

module _ (After : List Line → Type 0) (Round : RoundAt → List Line → Type 0) where
  -- a round goes on, or a link follows it
  abbrev pub RoundsOn : Type 0
  RoundsOn = (round : RoundAt) (l : Line) (ls : List Line) → Round round (l ∷ ls) → Sends l (round_asks round.fsdi round.stage) × Follows After Round (after_round round.fsdi (round_hears round.stage l.heard)) ls

  -- what is asked is settled
  abbrev pub IsSettled : Watch → Type 0
  IsSettled Watching.Ready = ⊥
  IsSettled (Watching.InRound round) = Unit {0}
  IsSettled (Watching.Resting set number) = ⊥
  IsSettled (Watching.Closing set) = Unit {0}
  IsSettled (Watching.Between set number sent) = ⊥
  IsSettled (Watching.Sending t p) = Unit {0}
  IsSettled (Watching.Receiving t got) = Unit {0}

  by_ask : (w : Watch) (ask : Ask) (l : Line) (ls : List Line) → asks w ≡ Some ask → Sends l ask → MayFollow After Round (hears w l.heard) ls → MayFollow After Round (steps_settled w l) ls
  by_ask w ask l ls e s f = subst (λ (o : Option Watch). MayFollow After Round o ls) (sym (steps_asked w ask l e s)) f

  pub asked_forward : RoundsOn → (w : Watch) (l : Line) (ls : List Line) → IsSettled w → Follows After Round w (l ∷ ls) → MayFollow After Round (steps_settled w l) ls
  asked_forward on Watching.Ready l ls s f = absurd s
  asked_forward on (Watching.InRound round) l ls s f = by_ask (Watching.InRound round) (round_asks round.fsdi round.stage) l ls refl (on round l ls f).0 (on round l ls f).1
  asked_forward on (Watching.Resting set number) l ls s f = absurd s
  asked_forward on (Watching.Closing set) l ls s f = by_ask (Watching.Closing set) _ l ls refl f.0 f.1
  asked_forward on (Watching.Between set number sent) l ls s f = absurd s
  asked_forward on (Watching.Sending t p) l ls s f =
      by_ask (Watching.Sending t p) (block_ask t.set.kind t.set.fwi (part_block t p)) l ls refl
      (subst (λ (b : Block). Sends l (block_ask t.set.kind t.set.fwi b)) (sends_part t p f.left f.since f.is f.matches) f.goes.0)
      (sending_forward After Round t ls p f.left f.since (heard_block t.set.kind t.set.frames.reader l.heard) f.is f.matches f.goes.1)
  asked_forward on (Watching.Receiving t got) l ls s f =
      by_ask (Watching.Receiving t got) (block_ask t.set.kind t.set.fwi (ack_block t)) l ls refl
      (subst (λ (b : Block). Sends l (block_ask t.set.kind t.set.fwi b)) (sends_ack t f.bytes f.since f.matches) f.goes.0)
      (subst (λ (n : ℕ). MayFollow After Round (hears_receiving t n (heard_block t.set.kind t.set.frames.reader l.heard)) ls) f.len
      (receiving_forward After Round t ls f.bytes f.since (heard_block t.set.kind t.set.frames.reader l.heard) f.matches f.goes.1))

-- ---- back

-- a line is sent as asked, if anything is asked
abbrev pub SendsSome : Line → Option Ask → Type 0
SendsSome l None = ⊥
SendsSome l (Some ask) = Sends l ask

module _ (fsdi : ℕ) where
  -- some command goes on so, where one is sent
  abbrev pub HasLeft : Watch → Type 0
  HasLeft Watching.Ready = Unit {0}
  HasLeft (Watching.InRound round) = round.fsdi ≡ fsdi
  HasLeft (Watching.Resting set number) = Unit {0}
  HasLeft (Watching.Closing set) = Unit {0}
  HasLeft (Watching.Between set number sent) = Unit {0}
  HasLeft (Watching.Sending t p) = SomeLeft (t.set.frames.card - 3) p
  HasLeft (Watching.Receiving t got) = Unit {0}

  end_back : (other : ℕ) (o : Option Activated) (ls : List Line) → other ≡ fsdi → Fits fsdi (after_end other o) ls → AfterEnd fsdi o ls
  end_back other None ls e f = f
  end_back other (Some card) ls e f = subst (λ (n : ℕ). FromRest (IsCut fsdi) (setting_of n card) opened_reader ls) e f

  after_back : (other : ℕ) (turn : RoundTurn Stage) (ls : List Line) → other ≡ fsdi → Fits fsdi (after_round other turn) ls → FromRound fsdi turn ls
  after_back other (Goes stage) ls e f = f.1
  after_back other (Ends end) ls e f = end_back other (card_in end) ls e f

  heard_back : (w : Watch) (ask : Ask) (l : Line) (ls : List Line) → asks w ≡ Some ask → HasLeft w → Sends l ask → MayFit fsdi (hears w l.heard) ls → Fits fsdi w (l ∷ ls)
  heard_back Watching.Ready ask l ls e h s f = absurd f
  heard_back (Watching.InRound round) ask l ls e h s f =
      let s' : Sends l (round_asks round.fsdi round.stage) = subst (λ (o : Option Ask). SendsSome l o) (sym e) s in
      (h, (subst (λ (n : ℕ). Sends l (round_asks n round.stage)) h s', after_back round.fsdi (round_hears round.stage l.heard) ls h f))
  heard_back (Watching.Resting set number) ask l ls e h s f = absurd f
  heard_back (Watching.Closing set) ask l ls e h s f = (subst (λ (o : Option Ask). SendsSome l o) (sym e) s, f)
  heard_back (Watching.Between set number sent) ask l ls e h s f = absurd f
  heard_back (Watching.Sending t p) ask l ls e h s f =
      let s' : Sends l (block_ask t.set.kind t.set.fwi (part_block t p)) = subst (λ (o : Option Ask). SendsSome l o) (sym e) s in
      let b : HearsEach fsdi t ls p (heard_block t.set.kind t.set.frames.reader l.heard) = sending_back fsdi t ls p (heard_block t.set.kind t.set.frames.reader l.heard) h f in
      record {
        left = b.left;
        is = b.is;
        goes = λ since m. (subst (λ (x : Block). Sends l (block_ask t.set.kind t.set.fwi x)) (sym (sends_part t p b.left since b.is m)) s', b.goes since m);
      }
  heard_back (Watching.Receiving t got) ask l ls e h s f =
      let s' : Sends l (block_ask t.set.kind t.set.fwi (ack_block t)) = subst (λ (o : Option Ask). SendsSome l o) (sym e) s in
      λ bytes since len m. (
        subst (λ (x : Block). Sends l (block_ask t.set.kind t.set.fwi x)) (sym (sends_ack t bytes since m)) s',
        receiving_back fsdi t ls bytes since (heard_block t.set.kind t.set.frames.reader l.heard) m
            (subst (λ (n : ℕ). MayFit fsdi (hears_receiving t n (heard_block t.set.kind t.set.frames.reader l.heard)) ls) (sym len) f),
      )

  test_back : (w : Watch) (l : Line) (ls : List Line) (o : Option Ask) (b : Bool) → asks w ≡ o → (is_frame o l && is_wait o l) ≡ b → HasLeft w → MayFit fsdi (if b then hears w l.heard else None) ls → Fits fsdi w (l ∷ ls)
  test_back w l ls None b e t h f = absurd (subst (λ (x : Bool). MayFit fsdi (if x then hears w l.heard else None) ls) (sym t) f)
  test_back w l ls (Some ask) true e t h f = heard_back w ask l ls e h (test_sends ask l t) f
  test_back w l ls (Some ask) false e t h f = absurd f

  pub asked_back : (w : Watch) (l : Line) (ls : List Line) → HasLeft w → MayFit fsdi (steps_settled w l) ls → Fits fsdi w (l ∷ ls)
  asked_back w l ls h f = test_back w l ls (asks w) (is_frame (asks w) l && is_wait (asks w) l) refl refl h f
