-- What the cards of a field do with a frame in a round.
use Rattle.std.proofs.Common.{◌≡◌, ℕ, nat_lt, ◌&&◌, ◌⊎◌, inl, inr, Bool, true, false, List, [], ◌∷◌, ◌++◌, length, Option, None, sym, ap, ◌∙◌, subst, refl, append-nil, if◌then◌else◌}
use Rattle.ep_base.specs.declared.air.Wave.{Wave}
use Rattle.ep_base.specs.Air.Frame.{opened}
use Rattle.ep_base.specs.Air.FrameSize.{frame_size}
use Rattle.ep_base.specs.Air.Heard.{Sent, Heard, Silence, RoundTurn, Goes, CardHear, Mute, Sends, Opens, Passes}
use Rattle.ep_base.specs.Cards.TypeA.{Woken, Level, Select, Complete, APlan, AState, Idle, Ready, Active, Protocol, Halted, a_opened, a_card}
use Rattle.ep_base.specs.Cards.TypeB.{BPlan, BState, BIdle, BReady, BProtocol, b_opened, b_card}
use Rattle.ep_base.specs.Poll.Round.{Stage, Waking, Halting, WakingB, InA, InB, round_asks, round_hears}
use Rattle.ep_base.specs.Link.CardEnd.{fresh_card}
use Rattle.ep_base.specs.Cards.Field.{Outside, OfA, OfB, outside_after, outside_reply, outside_reset, Placed, CardAfter, untouched, by_reply, hears_frame, one_hears, CardsHeard, maybe_answer, and_then, all_hear}
use Rattle.ep_base.specs.Cards.Inside.{is_inside}
use Rattle.ep_base.specs.Cards.Lawful.{IsFormed, ArePlaced, faces}
use Rattle.law_round.proofs.Fitting.{Chosen, NotOpen, NotOpenB, FitsA, Next}
use Rattle.law_round.proofs.Presenting.{step_a, early_closed, level_closed}
use Rattle.law_round.proofs.PresentingB.{step_b}
use Rattle.law_round.proofs.Doing.{is_last, Does, does, four_long}
use Rattle.law_round.proofs.Muteness.{still, either_way, skips}

-- ---- one card

pub next_after : (fsdi : ℕ) (stage : Stage) (heard : Heard) (o : Outside) → IsFormed o → Next (Goes stage) o
    → Next (round_hears stage heard) (outside_after (round_asks fsdi stage).wave (round_asks fsdi stage).bytes o)
next_after fsdi stage heard (OfA p s) u h = step_a fsdi p u stage s heard h
next_after fsdi stage heard (OfB p s) f h = step_b fsdi p (four_long p.pupi f) stage s heard h

chosen_closed : (uid read : List ℕ) (s : AState) → Chosen uid read s → NotOpen s
chosen_closed uid read Idle e = tt
chosen_closed uid read (Ready level) e = absurd e
chosen_closed uid read Active e = tt
chosen_closed uid read Protocol e = absurd e
chosen_closed uid read Halted e = tt

closed_a : (stage : Stage) (uid : List ℕ) (s : AState) → FitsA stage uid s → NotOpen s
closed_a Waking uid s h = early_closed s h
closed_a Halting uid s h = early_closed s h
closed_a (WakingB woke) uid s h = early_closed s h
closed_a (InA Woken) uid s h = early_closed s h
closed_a (InA (Level n before)) uid s h = level_closed uid n before s h
closed_a (InA (Select n before part)) uid s h = level_closed uid n before s h
closed_a (InA (Complete read)) uid s h = chosen_closed uid read s h
closed_a (InB stage) uid s h = h

silent_one : (stage : Stage) (o : Outside) → Next (Goes stage) o → Next (round_hears stage Silence) o
silent_one Waking (OfA p s) h = h
silent_one Halting (OfA p s) h = h
silent_one (WakingB true) (OfA p s) h = h
silent_one (WakingB false) (OfA p s) h = tt
silent_one (InA Woken) (OfA p s) h = tt
silent_one (InA (Level n before)) (OfA p s) h = tt
silent_one (InA (Select n before part)) (OfA p s) h = tt
silent_one (InA (Complete read)) (OfA p s) h = tt
silent_one (InB stage) (OfA p s) h = tt
silent_one Waking (OfB p s) h = h
silent_one Halting (OfB p s) h = h
silent_one (WakingB true) (OfB p s) h = h
silent_one (WakingB false) (OfB p s) h = tt
silent_one (InA Woken) (OfB p s) h = tt
silent_one (InA (Level n before)) (OfB p s) h = tt
silent_one (InA (Select n before part)) (OfB p s) h = tt
silent_one (InA (Complete read)) (OfB p s) h = tt
silent_one (InB stage) (OfB p s) h = tt

a_unopened : (p : APlan) (s : AState) (w : Wave) (b : List ℕ) → NotOpen s → opened w b ≡ None → a_card p s w b ≡ (s, Mute)
a_unopened p Idle w b o e = ap (λ x. a_opened p Idle w x) e
a_unopened p Halted w b o e = ap (λ x. a_opened p Halted w x) e
a_unopened p (Ready level) w b o e = ap (λ x. a_opened p (Ready level) w x) e
a_unopened p Active w b o e = ap (λ x. a_opened p Active w x) e
a_unopened p Protocol w b o e = absurd o

b_unopened : (p : BPlan) (s : BState) (w : Wave) (b : List ℕ) → NotOpenB s → opened w b ≡ None → b_card p s w b ≡ (s, Mute)
b_unopened p BIdle w b o e = ap (λ x. b_opened p BIdle w x) e
b_unopened p BReady w b o e = ap (λ x. b_opened p BReady w x) e
b_unopened p BProtocol w b o e = absurd o

-- a damaged frame moves no card and is answered by none
unopened_card : (stage : Stage) (w : Wave) (b : List ℕ) (o : Outside) → opened w b ≡ None → Next (Goes stage) o → (outside_after w b o ≡ o) × (outside_reply w b o ≡ Mute)
unopened_card stage w b (OfA p s) e h =
    let q = a_unopened p s w b (closed_a stage p.uid s h) e in (ap (λ (x : AState × CardHear). OfA p x.0) q, ap (λ (x : AState × CardHear). x.1) q)
unopened_card stage w b (OfB p s) e h =
    let q = b_unopened p s w b h e in (ap (λ (x : BState × CardHear). OfB p x.0) q, ap (λ (x : BState × CardHear). x.1) q)

plan_stays : (w : Wave) (b : List ℕ) (o : Outside) → outside_reset (outside_after w b o) ≡ outside_reset o
plan_stays w b (OfA p s) = refl
plan_stays w b (OfB p s) = refl

-- ---- one card of the field

-- a card fits where the round is: by what it heard if it is present, out of the block protocol if it isn't; its end of the link is fresh
pub record CardFits (fsdi : ℕ) (turn : RoundTurn Stage) (p : Placed) : Type 0 where
  pub next : p.present ≡ true → Next turn p.outside
  pub absent : p.present ≡ false → is_inside p.outside ≡ false
  pub fresh : p.party.card ≡ fresh_card
  pub frame : is_inside p.outside ≡ true → p.party.fsd ≡ frame_size fsdi

abbrev pub AllFits : ℕ → RoundTurn Stage → List Placed → Type 0
AllFits fsdi turn [] = Unit {0}
AllFits fsdi turn (p ∷ ps) = CardFits fsdi turn p × AllFits fsdi turn ps

-- some card is in the block protocol
abbrev pub AnyInside : List Placed → Type 0
AnyInside [] = ⊥
AnyInside (p ∷ ps) = (is_inside p.outside ≡ true) ⊎ AnyInside ps

-- what a card did with a frame of a round
pub record Heeds (fsdi : ℕ) (last : Bool) (turn : RoundTurn Stage) (p : Placed) (t : CardAfter) : Type 0 where
  pub executed : t.executed ≡ []
  fits : CardFits fsdi turn t.card
  answer : last ≡ true → (t.answer ≡ None) ⊎ (is_inside t.card.outside ≡ true)
  plan : outside_reset t.card.outside ≡ outside_reset p.outside
  kind : t.card.party.kind ≡ p.party.kind
  image : t.card.party.image ≡ p.party.image

by_does : (fsdi : ℕ) (last : Bool) (turn : RoundTurn Stage) (p : Placed) (o : Outside) (w : Wave) (b : List ℕ) (r : CardHear)
    → p.present ≡ true → p.party.card ≡ fresh_card → Next turn o → outside_reset o ≡ outside_reset p.outside → Does fsdi last (is_inside o) r
    → Heeds fsdi last turn p (by_reply p o w b r)
by_does fsdi last turn p o w b Mute here fresh n plan d = record {
  executed = refl;
  fits = record { next = λ e. n; absent = λ e. d; fresh = fresh; frame = λ i. let clash : true ≡ false = sym i ∙ d in cc };
  answer = λ l. inl refl;
  plan = plan;
  kind = refl;
  image = refl;
}
by_does fsdi last turn p o w b (Sends f) here fresh n plan d = record {
  executed = refl;
  fits = record { next = λ e. n; absent = λ e. d.0; fresh = fresh; frame = λ i. let clash : true ≡ false = sym i ∙ d.0 in cc };
  answer = λ l. let clash : true ≡ false = sym l ∙ d.1 in cc;
  plan = plan;
  kind = refl;
  image = refl;
}
by_does fsdi last turn p o w b (Opens f fsd) here fresh n plan d = record {
  executed = refl;
  fits = record { next = λ e. n; absent = λ e. let clash : true ≡ false = sym here ∙ e in cc; fresh = refl; frame = λ i. d.1 };
  answer = λ l. inr d.0;
  plan = plan;
  kind = refl;
  image = refl;
}
by_does fsdi last turn p o w b Passes here fresh n plan d = absurd d

absent_heeds : (fsdi : ℕ) (last : Bool) (stage : Stage) (turn : RoundTurn Stage) (p : Placed) → p.present ≡ false → CardFits fsdi (Goes stage) p → Heeds fsdi last turn p (untouched p)
absent_heeds fsdi last stage turn p gone h = record {
  executed = refl;
  fits = record { next = λ e. let clash : true ≡ false = sym e ∙ gone in absurd cc; absent = h.absent; fresh = h.fresh; frame = h.frame };
  answer = λ l. inl refl;
  plan = refl;
  kind = refl;
  image = refl;
}

module _ (fsdi : ℕ) (stage : Stage) where
  abbrev wave : Wave
  wave = (round_asks fsdi stage).wave

  abbrev bytes : List ℕ
  bytes = (round_asks fsdi stage).bytes

  pub by_present : (heard : Heard) (room : ℕ) (log : List (ℕ × List ℕ)) (p : Placed) (present : Bool) → p.present ≡ present → nat_lt (length log) room ≡ true
      → IsFormed p.outside → CardFits fsdi (Goes stage) p → Heeds fsdi (is_last stage) (round_hears stage heard) p (one_hears room wave bytes log p)
  by_present heard room log p true here free f h =
      let hears : (p.present && nat_lt (length log) room) ≡ true = rw (here, free) refl in
      subst (λ x. Heeds fsdi (is_last stage) (round_hears stage heard) p (if x then hears_frame p wave bytes else untouched p)) (sym hears)
      (by_does fsdi (is_last stage) (round_hears stage heard) p (outside_after wave bytes p.outside) wave bytes (outside_reply wave bytes p.outside) here h.fresh
      (next_after fsdi stage heard p.outside f (h.next here)) (plan_stays wave bytes p.outside) (does fsdi stage p.outside f (h.next here)))
  by_present heard room log p false gone free f h =
      let deaf : (p.present && nat_lt (length log) room) ≡ false = rw gone refl in
      subst (λ x. Heeds fsdi (is_last stage) (round_hears stage heard) p (if x then hears_frame p wave bytes else untouched p)) (sym deaf)
      (absent_heeds fsdi (is_last stage) stage (round_hears stage heard) p gone h)

  -- ---- all cards

  pub record AllHeed (turn : RoundTurn Stage) (log : List (ℕ × List ℕ)) (ps : List Placed) (h : CardsHeard) : Type 0 where
    pub log_stays : h.log ≡ log
    pub fits : AllFits fsdi turn h.cards
    pub answered : is_last stage ≡ true → (h.answers ≡ []) ⊎ AnyInside h.cards
    pub faces_stay : faces h.cards ≡ faces ps

  both_quiet : (a : Option Sent) (more : List Sent) → a ≡ None → more ≡ [] → maybe_answer a more ≡ []
  both_quiet a more e f = ap (λ x. maybe_answer x more) e ∙ f

  joins : (p : Placed) (ps : List Placed) (t : CardAfter) (h : CardsHeard)
      → (t.answer ≡ None) ⊎ (is_inside t.card.outside ≡ true) → (h.answers ≡ []) ⊎ AnyInside h.cards
      → ((and_then t h).answers ≡ []) ⊎ AnyInside (and_then t h).cards
  joins p ps t h (inl none) (inl nil) = inl (both_quiet t.answer h.answers none nil)
  joins p ps t h (inl none) (inr any) = inr (inr any)
  joins p ps t h (inr inside) rest = inr (inl inside)

  face_cons : (p q : Placed) (ps qs : List Placed) → outside_reset q.outside ≡ outside_reset p.outside → q.party.kind ≡ p.party.kind → q.party.image ≡ p.party.image → faces qs ≡ faces ps
      → faces (q ∷ qs) ≡ faces (p ∷ ps)
  face_cons p q ps qs plan kind image rest =
      ap (λ x. record { plan = x; kind = q.party.kind; image = q.party.image } ∷ faces qs) plan
      ∙ ap (λ x. record { plan = outside_reset p.outside; kind = x; image = q.party.image } ∷ faces qs) kind
      ∙ ap (λ x. record { plan = outside_reset p.outside; kind = p.party.kind; image = x } ∷ faces qs) image
      ∙ ap (λ l. record { plan = outside_reset p.outside; kind = p.party.kind; image = p.party.image } ∷ l) rest

  heed_cons : (turn : RoundTurn Stage) (log : List (ℕ × List ℕ)) (p : Placed) (ps : List Placed) (t : CardAfter) (h : CardsHeard) → Heeds fsdi (is_last stage) turn p t → AllHeed turn log ps h
      → AllHeed turn log (p ∷ ps) (and_then t h)
  heed_cons turn log p ps t h one all = record {
    log_stays = all.log_stays;
    fits = (one.fits, all.fits);
    answered = λ l. joins p ps t h (one.answer l) (all.answered l);
    faces_stay = face_cons p t.card ps h.cards one.plan one.kind one.image all.faces_stay;
  }

  pub all_heed : (heard : Heard) (room : ℕ) (log : List (ℕ × List ℕ)) (ps : List Placed) → nat_lt (length log) room ≡ true → ArePlaced ps → AllFits fsdi (Goes stage) ps
      → AllHeed (round_hears stage heard) log ps (all_hear room wave bytes log ps)
  all_heed heard room log [] free f h = record { log_stays = refl; fits = tt; answered = λ l. inl refl; faces_stay = refl }
  all_heed heard room log (p ∷ ps) free f h =
      let t = one_hears room wave bytes log p in
      let one = by_present heard room log p p.present refl free f.0.formed h.0 in
      let same : log ++ t.executed ≡ log = ap (λ e. log ++ e) one.executed ∙ append-nil log in
      subst (λ l. AllHeed (round_hears stage heard) log (p ∷ ps) (and_then t (all_hear room wave bytes l ps))) (sym same)
      (heed_cons (round_hears stage heard) log p ps t (all_hear room wave bytes log ps) one (all_heed heard room log ps free f.1 h.1))

-- ---- cards that do nothing

abbrev pub Quiet : ℕ → Wave → List ℕ → List (ℕ × List ℕ) → List Placed → Type 0
Quiet room w b log ps = all_hear room w b log ps ≡ record { cards = ps; log = log; answers = [] }

quiet_cons : (room : ℕ) (w : Wave) (b : List ℕ) (log : List (ℕ × List ℕ)) (p : Placed) (ps : List Placed) → one_hears room w b log p ≡ untouched p → Quiet room w b log ps → Quiet room w b log (p ∷ ps)
quiet_cons room w b log p ps e q = skips room w b log p ps e ∙ ap (λ (x : CardsHeard). and_then (untouched p) x) q

skip_false : (b : Bool) (x y : CardAfter) → (if b && false then x else y) ≡ y
skip_false true x y = refl
skip_false false x y = refl

-- a log without a free record
pub full_hear : (room : ℕ) (w : Wave) (b : List ℕ) (log : List (ℕ × List ℕ)) (ps : List Placed) → nat_lt (length log) room ≡ false → Quiet room w b log ps
full_hear room w b log [] full = refl
full_hear room w b log (p ∷ ps) full =
    quiet_cons room w b log p ps (ap (λ x. if p.present && x then hears_frame p w b else untouched p) full ∙ skip_false p.present (hears_frame p w b) (untouched p)) (full_hear room w b log ps full)

abbrev pub AllAway : List Placed → Type 0
AllAway [] = Unit {0}
AllAway (p ∷ ps) = (p.present ≡ false) × AllAway ps

pub away_one : (room : ℕ) (w : Wave) (b : List ℕ) (log : List (ℕ × List ℕ)) (p : Placed) → p.present ≡ false → one_hears room w b log p ≡ untouched p
away_one room w b log p e = ap (λ x. if x && nat_lt (length log) room then hears_frame p w b else untouched p) e

-- no card there
pub away_hear : (room : ℕ) (w : Wave) (b : List ℕ) (log : List (ℕ × List ℕ)) (ps : List Placed) → AllAway ps → Quiet room w b log ps
away_hear room w b log [] a = refl
away_hear room w b log (p ∷ ps) a = quiet_cons room w b log p ps (away_one room w b log p a.0) (away_hear room w b log ps a.1)

damaged_one : (stage : Stage) (room : ℕ) (w : Wave) (b : List ℕ) (log : List (ℕ × List ℕ)) (p : Placed) (present : Bool) → p.present ≡ present → opened w b ≡ None
    → (p.present ≡ true → Next (Goes stage) p.outside) → one_hears room w b log p ≡ untouched p
damaged_one stage room w b log p true here e h =
    let k = unopened_card stage w b p.outside e (h here) in
    either_way (p.present && nat_lt (length log) room) (hears_frame p w b) (untouched p) (still w b p k.0 k.1)
damaged_one stage room w b log p false gone e h = away_one room w b log p gone

-- a damaged frame
pub damaged_hear : (fsdi : ℕ) (stage : Stage) (room : ℕ) (w : Wave) (b : List ℕ) (log : List (ℕ × List ℕ)) (ps : List Placed) → opened w b ≡ None → AllFits fsdi (Goes stage) ps → Quiet room w b log ps
damaged_hear fsdi stage room w b log [] e h = refl
damaged_hear fsdi stage room w b log (p ∷ ps) e h =
    quiet_cons room w b log p ps (damaged_one stage room w b log p p.present refl e h.0.next) (damaged_hear fsdi stage room w b log ps e h.1)

-- nothing is heard
pub silent_fits : (fsdi : ℕ) (stage : Stage) (ps : List Placed) → AllFits fsdi (Goes stage) ps → AllFits fsdi (round_hears stage Silence) ps
silent_fits fsdi stage [] h = tt
silent_fits fsdi stage (p ∷ ps) h =
    (record { next = λ e. silent_one stage p.outside (h.0.next e); absent = h.0.absent; fresh = h.0.fresh; frame = h.0.frame }, silent_fits fsdi stage ps h.1)
