-- A field in which one card is present.
use Rattle.std.proofs.Common.{◌≡◌, ℕ, zero, suc, nat_lt, le-leb, ◌&&◌, ◌||◌, Bool, true, false, List, [], ◌∷◌, ◌++◌, length, Option, Some, sym, ap, ◌∙◌, subst, refl, append-nil, if◌then◌else◌}
use Rattle.ep_base.specs.declared.limits.TheConstants.{ROUND_EXCHANGES}
use Rattle.ep_base.specs.declared.air.Wave.{Wave}
use Rattle.ep_base.specs.Air.Heard.{Sent, Heard, RoundEnd, RoundTurn, Goes, Ends, CardHear, Mute, Sends, Opens}
use Rattle.ep_base.specs.Air.Heard as replies
use Rattle.ep_base.specs.Poll.Round.{Stage, Waking, round_asks, round_hears}
use Rattle.ep_base.specs.Air.Fates.{Passes, Fate, AllPass, next_fate, fates_after}
use Rattle.ep_base.specs.Air.Medium.{told}
use Rattle.ep_base.specs.Poll.Polling.{AfterExchange, Plays, PlaysRound}
use Rattle.ep_base.specs.Link.Wire.{comes_down, comes_back}
use Rattle.ep_base.specs.Cards.Field.{Outside, OfA, OfB, outside_after, outside_reply, Placed, CardAfter, untouched, by_reply, hears_frame, one_hears, CardsHeard, maybe_answer, and_then, all_hear, joined, left_by, leaves, away, Field, field_reset, all_take, field_hears, field_send, field}
use Rattle.ep_base.specs.Cards.Inside.{is_inside}
use Rattle.ep_base.specs.Cards.Lawful.{IsFormed}
use Rattle.law_round.specs.Alone.{AreAbsent, IsAlone, AloneIn}
use Rattle.law_round.proofs.Fitting.{Next}
use Rattle.law_round.proofs.Doing.{is_last, Does, does}
use Rattle.law_round.proofs.Muteness.{skips}
use Rattle.law_round.proofs.Hearing.{Quiet, away_hear, away_one, next_after}
use Rattle.law_round.proofs.Rounds.{Awake, stays_awake, no_reset, sends_only, first_sent}

-- what a card sends outside the block protocol
abbrev pub sent : CardHear → List Sent
sent Mute = []
sent (Sends f) = f ∷ []
sent (Opens f fsd) = f ∷ []
sent replies.Passes = []

-- what the reader hears of one card
abbrev pub lone : Wave → List ℕ → Outside → Heard
lone wave bytes o = joined (sent (outside_reply wave bytes o))

-- what the card tells
record Tells (p : Placed) (o : Outside) (r : CardHear) (t : CardAfter) : Type 0 where
  executed : t.executed ≡ []
  answer : maybe_answer t.answer [] ≡ sent r
  outside : t.card.outside ≡ o
  present : t.card.present ≡ p.present

tells : (fsdi : ℕ) (last : Bool) (p : Placed) (o : Outside) (w : Wave) (b : List ℕ) (r : CardHear) → Does fsdi last (is_inside o) r → Tells p o r (by_reply p o w b r)
tells fsdi last p o w b Mute d = record { executed = refl; answer = refl; outside = refl; present = refl }
tells fsdi last p o w b (Sends f) d = record { executed = refl; answer = refl; outside = refl; present = refl }
tells fsdi last p o w b (Opens f fsd) d = record { executed = refl; answer = refl; outside = refl; present = refl }
tells fsdi last p o w b replies.Passes d = absurd d

-- one card is there, in this state
record LoneCard (o : Outside) (ps : List Placed) : Type 0 where
  before : List Placed
  one : Placed
  after : List Placed
  are : ps ≡ before ++ one ∷ after
  present : one.present ≡ true
  outside : one.outside ≡ o
  absent_before : AreAbsent before
  absent_after : AreAbsent after

module _ (room : ℕ) (w : Wave) (b : List ℕ) (log : List (ℕ × List ℕ)) (free : nat_lt (length log) room ≡ true) where
  -- the cards, the log and the answers after a frame that the lone card hears
  abbrev After : Outside → List Placed → CardsHeard → Type 0
  After o ps h = LoneCard (outside_after w b o) h.cards × (h.log ≡ log) × (h.answers ≡ sent (outside_reply w b o))

  hears_it : (p : Placed) → p.present ≡ true → one_hears room w b log p ≡ hears_frame p w b
  hears_it p here =
      let on : (p.present && nat_lt (length log) room) ≡ true = rw (here, free) refl in
      ap (λ x. if x then hears_frame p w b else untouched p) on

  first_hears : (o : Outside) (p : Placed) (ps : List Placed) → p.present ≡ true → p.outside ≡ o → AreAbsent ps → Tells p (outside_after w b p.outside) (outside_reply w b p.outside) (hears_frame p w b)
      → After o (p ∷ ps) (all_hear room w b log (p ∷ ps))
  first_hears o p ps here is absent t =
      let told_one = hears_frame p w b in
      let rest : Quiet room w b (log ++ told_one.executed) ps = away_hear room w b (log ++ told_one.executed) ps absent in
      let result : After p.outside (p ∷ ps) (and_then told_one (record { cards = ps; log = log ++ told_one.executed; answers = [] })) = (
        record { before = []; one = told_one.card; after = ps; are = refl; present = t.present ∙ here; outside = t.outside; absent_before = tt; absent_after = absent },
        ap (λ e. log ++ e) t.executed ∙ append-nil log,
        t.answer,
      ) in
      let heard : After p.outside (p ∷ ps) (and_then told_one (all_hear room w b (log ++ told_one.executed) ps)) =
      subst (λ (h : CardsHeard). After p.outside (p ∷ ps) (and_then told_one h)) (sym rest) result in
      let mine : After p.outside (p ∷ ps) (all_hear room w b log (p ∷ ps)) =
      subst (λ (x : CardAfter). After p.outside (p ∷ ps) (and_then x (all_hear room w b (log ++ x.executed) ps))) (sym (hears_it p here)) heard in
      subst (λ x. After x (p ∷ ps) (all_hear room w b log (p ∷ ps))) is mine

  later_hears : (o : Outside) (p : Placed) (ps : List Placed) → p.present ≡ false → After o ps (all_hear room w b log ps) → After o (p ∷ ps) (all_hear room w b log (p ∷ ps))
  later_hears o p ps gone a =
      let c = a.0 in
      let x : LoneCard (outside_after w b o) (p ∷ (all_hear room w b log ps).cards) =
      record { before = p ∷ c.before; one = c.one; after = c.after; are = ap (λ l. p ∷ l) c.are; present = c.present; outside = c.outside; absent_before = (gone, c.absent_before); absent_after = c.absent_after } in
      subst (λ (h : CardsHeard). After o (p ∷ ps) h) (sym (skips room w b log p ps (away_one room w b log p gone))) (x, a.1, a.2)

  lone_hears : (o : Outside) (before : List Placed) (one : Placed) (after : List Placed) → one.present ≡ true → one.outside ≡ o → AreAbsent before → AreAbsent after
      → Tells one (outside_after w b one.outside) (outside_reply w b one.outside) (hears_frame one w b) → After o (before ++ one ∷ after) (all_hear room w b log (before ++ one ∷ after))
  lone_hears o [] one after here is hb ha t = first_hears o one after here is ha t
  lone_hears o (p ∷ before) one after here is hb ha t = later_hears o p (before ++ one ∷ after) hb.0 (lone_hears o before one after here is hb.1 ha t)

-- ---- a field in which a card is alone, while the round goes on

record Lone (turn : RoundTurn Stage) (o : Outside) (f : Field) : Type 0 where
  card : LoneCard o f.cards
  fates : AllPass f.air.fates
  free : nat_lt (length f.log) f.room ≡ true
  formed : IsFormed o
  fits : Next turn o

next_pass : (fates : List Fate) → AllPass fates → ((next_fate fates).down ≡ Passes) × ((next_fate fates).up ≡ Passes) × AllPass (fates_after fates)
next_pass [] h = (refl, refl, tt)
next_pass (f ∷ fates) h = h

formed_after : (w : Wave) (b : List ℕ) (o : Outside) → IsFormed o → IsFormed (outside_after w b o)
formed_after w b (OfA p s) u = u
formed_after w b (OfB p s) u = u

module _ (fsdi : ℕ) (stage : Stage) where
  abbrev wave : Wave
  wave = (round_asks fsdi stage).wave

  abbrev bytes : List ℕ
  bytes = (round_asks fsdi stage).bytes

  at_list : (f : Field) (o : Outside) (l : Lone (Goes stage) o f) → After f.room wave bytes f.log l.free o f.cards (all_hear f.room wave bytes f.log f.cards)
  at_list f o l =
      let c = l.card in
      let formed : IsFormed c.one.outside = subst (λ x. IsFormed x) (sym c.outside) l.formed in
      let fits : Next (Goes stage) c.one.outside = subst (λ x. Next (Goes stage) x) (sym c.outside) l.fits in
      let t = tells fsdi (is_last stage) c.one (outside_after wave bytes c.one.outside) wave bytes (outside_reply wave bytes c.one.outside) (does fsdi stage c.one.outside formed fits) in
      subst (λ ps. After f.room wave bytes f.log l.free o ps (all_hear f.room wave bytes f.log ps)) (sym c.are)
      (lone_hears f.room wave bytes f.log l.free o c.before c.one c.after c.present c.outside c.absent_before c.absent_after t)

  abbrev heard : Outside → Heard
  heard o = lone wave bytes o

  -- one exchange
  sends_lone : (f : Field) (o : Outside) → Lone (Goes stage) o f
      → ((field_send f wave bytes).0 ≡ Some (heard o)) × Lone (round_hears stage (heard o)) (outside_after wave bytes o) (field_send f wave bytes).1
  sends_lone f o l =
      let fate = next_fate f.air.fates in
      let pass = next_pass f.air.fates l.fates in
      let all = all_hear f.room wave bytes f.log f.cards in
      let a = at_list f o l in
      let hears : field_hears f wave bytes ≡ all = ap (λ d. all_take f wave (comes_down d wave bytes)) pass.0 in
      let stays : away fate ≡ false = ap (λ d. leaves d || leaves fate.up) pass.0 ∙ ap leaves pass.1 in
      let cards_are : (field_send f wave bytes).1.cards ≡ all.cards =
      ap (λ x. if x then left_by (field_hears f wave bytes).cards else (field_hears f wave bytes).cards) stays ∙ ap (λ (h : CardsHeard). h.cards) hears in
      let log_is : (field_send f wave bytes).1.log ≡ f.log = ap (λ (h : CardsHeard). h.log) hears ∙ a.1 in
      let says : (field_send f wave bytes).0 ≡ Some (heard o) =
      ap (λ u. Some (comes_back u (joined (field_hears f wave bytes).answers))) pass.1 ∙ ap (λ (h : CardsHeard). Some (joined h.answers)) hears ∙ ap (λ x. Some (joined x)) a.2 in (
        says,
        record {
          card = subst (λ ps. LoneCard (outside_after wave bytes o) ps) (sym cards_are) a.0;
          fates = pass.2;
          free = ap (λ (log : List (ℕ × List ℕ)). nat_lt (length log) f.room) log_is ∙ l.free;
          formed = formed_after wave bytes o l.formed;
          fits = next_after fsdi stage (heard o) o l.formed l.fits;
        },
      )

-- ---- a round with a card alone, by its own rules only

unfoldable pub solo : ℕ → ℕ → Outside → RoundTurn Stage → RoundTurn Stage
solo zero fsdi o turn = turn
solo (suc n) fsdi o (Ends e) = Ends e
solo (suc n) fsdi o (Goes stage) = let a = round_asks fsdi stage in solo n fsdi (outside_after a.wave a.bytes o) (round_hears stage (lone a.wave a.bytes o))

-- the round ends as that one
pub record Follows (n : ℕ) (fsdi : ℕ) (o : Outside) (turn : RoundTurn Stage) (ending : Option RoundEnd) : Type 0 where
  pub end : RoundEnd
  pub is : ending ≡ Some end
  pub solo_ends : solo n fsdi o turn ≡ Ends end

module _ (fsdi : ℕ) where
  rest_of : (n : ℕ) (stage : Stage) (f : Field) (o : Outside) (h : Option Heard) (u : Field) (ending : Option RoundEnd) (t : Field)
      → ((turn : RoundTurn Stage) (g : Field) (x : Outside) → Awake turn → Lone turn x g → Plays (told field) fsdi n turn g ending t → Follows n fsdi x turn ending)
      → Lone (Goes stage) o f → field_send f (wave fsdi stage) (bytes fsdi stage) ≡ (h, u)
      → AfterExchange (told field) fsdi (λ x. Plays (told field) fsdi n (round_hears stage x)) h u ending t → Follows (suc n) fsdi o (Goes stage) ending
  unfolding solo
  rest_of n stage f o h u ending t more l sends rest =
      let x = sends_lone fsdi stage f o l in
      let g = (field_send f (wave fsdi stage) (bytes fsdi stage)).1 in
      let heard_is : h ≡ Some (heard fsdi stage o) = sym (ap (λ (p : Option Heard × Field). p.0) sends) ∙ x.0 in
      let field_is : u ≡ g = sym (ap (λ (p : Option Heard × Field). p.1) sends) in
      let going : Plays (told field) fsdi n (round_hears stage (heard fsdi stage o)) g ending t =
      subst (λ a. AfterExchange (told field) fsdi (λ y. Plays (told field) fsdi n (round_hears stage y)) a g ending t) heard_is
      (subst (λ v. AfterExchange (told field) fsdi (λ y. Plays (told field) fsdi n (round_hears stage y)) h v ending t) field_is rest) in
      let e = more (round_hears stage (heard fsdi stage o)) g (outside_after (wave fsdi stage) (bytes fsdi stage) o) (stays_awake stage (heard fsdi stage o)) x.1 going in
      record { end = e.end; is = e.is; solo_ends = e.solo_ends }

  plays_solo : (n : ℕ) (turn : RoundTurn Stage) (f : Field) (o : Outside) (ending : Option RoundEnd) (t : Field) → Awake turn → Lone turn o f → Plays (told field) fsdi n turn f ending t → Follows n fsdi o turn ending
  unfolding Plays solo
  plays_solo zero (Goes stage) f o ending t awake l x = absurd x
  plays_solo zero (Ends e) f o ending t awake l x = record { end = e; is = x.0; solo_ends = refl }
  plays_solo (suc n) (Ends e) f o ending t awake l x = record { end = e; is = x.0; solo_ends = refl }
  plays_solo (suc n) (Goes stage) f o ending t awake l x =
      rest_of n stage f o x.0 x.1 ending t (λ turn g y a h p. plays_solo n turn g y ending t a h p) l
      (sends_only (told field) f (round_asks fsdi stage) x.0 x.1 (no_reset fsdi stage awake) x.2) x.3

  alone_list : (o : Outside) (ps : List Placed) → IsAlone o ps → LoneCard o ps
  alone_list o ps a = record { before = a.0; one = a.1; after = a.2; are = a.3; present = a.4; outside = a.5; absent_before = a.6; absent_after = a.7 }

  pub round_solo : (s t : Field) (ending : Option RoundEnd) (o : Outside) → IsFormed o → Next (Goes Waking) o → AloneIn o s → PlaysRound (told field) fsdi s ending t → Follows ROUND_EXCHANGES fsdi o (Goes Waking) ending
  unfolding Plays
  round_solo s t ending o formed fits a x =
      let l : Lone (Goes Waking) o (field_reset s) = record {
        card = alone_list o (field_reset s).cards a.alone;
        fates = a.fates;
        free = le-leb _ _ a.room;
        formed = formed;
        fits = fits;
      } in
      rest_of 10 Waking (field_reset s) o x.0 x.1 ending t (λ turn g y w h p. plays_solo 10 turn g y ending t w h p) l
      (first_sent fsdi s x.2.0 x.2.1 x.0 x.1 x.2.2 x.2.3) x.3
