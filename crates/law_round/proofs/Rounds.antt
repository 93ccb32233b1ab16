-- A whole round over a field.
use Rattle.std.proofs.Common.{◌≡◌, ℕ, zero, suc, ◌+◌, ◌*◌, nat_lt, ◌||◌, ◌⊎◌, inl, inr, Bool, true, false, List, [], ◌∷◌, length, Option, Some, None, sym, ap, ◌∙◌, subst, refl, arith, if◌then◌else◌}
use Rattle.std.specs.Prelude.{slice_index, Result, Ok, Err, ◌==◌}
use Rattle.ep_base.specs.declared.air.Wave.{Wave}
use Rattle.ep_base.specs.declared.air.Wave.TheVariants.{ABare, A, B}
use Rattle.ep_base.specs.declared.activation.Atqb.{Atqb}
use Rattle.ep_base.specs.declared.activation.AtqbFault.{AtqbFault}
use Rattle.ep_base.specs.Cards.Activation.{atqb, bit}
use Rattle.ep_base.specs.Air.Frame.{is_good}
use Rattle.ep_base.specs.Air.Heard.{Ask, Heard, Silence, RoundEnd, Empty, Collision, Unsupported, Broken, Found, RoundTurn, Goes, Ends, is_silent}
use Rattle.ep_base.specs.Cards.TypeA.{AStage, Woken, Level, Select, Complete, sel, hlta, is_level, continues, a_asks, a_says, a_hears, after_sak}
use Rattle.ep_base.specs.Cards.TypeB.{BStage, wupb, attrib_of, after_atqb, b_found, b_hears}
use Rattle.ep_base.specs.Poll.Round.{Stage, Waking, Halting, WakingB, InA, InB, round_asks, round_hears, in_a, in_b}
use Rattle.ep_base.specs.Air.Fates.{Way, Passes, Loses, Bursts, Leaves, IsWay, next_fate, gone_by}
use Rattle.ep_base.specs.Air.Medium.{MediumSteps, told, Exchanges, ExchangesBy, AfterReset}
use Rattle.ep_base.specs.Poll.Polling.{AfterExchange, Plays, PlaysRound}
use Rattle.ep_base.specs.Link.Wire.{comes_down, comes_back}
use Rattle.ep_base.specs.Cards.Field.{Outside, OfA, OfB, outside_reset, Placed, CardsHeard, joined, all_hear, left_by, leaves, away, is_present, placed_reset, all_reset, Field, field_reset, all_take, field_hears, field_send, field}
use Rattle.rf_frame.proofs.Opening.{ends_sealed}
use Rattle.law_wire.proofs.Passing.{next_ways}
use Rattle.ep_base.specs.Cards.Inside.{is_inside}
use Rattle.ep_base.specs.Cards.Lawful.{ArePlaced, Lawful, faces, reset_faces}
use Rattle.law_round.proofs.Arriving.{Arrival, Lost, Whole, Damaged, arrives}
use Rattle.law_round.proofs.Fitting.{Next}
use Rattle.law_round.proofs.Presenting.{either, answered}
use Rattle.law_round.proofs.Doing.{is_last}
use Rattle.law_round.proofs.Lawfulness.{lawful_reset, lawful_send}
use Rattle.law_round.proofs.Hearing.{AllFits, AnyInside, all_heed, full_hear, AllAway, away_hear, damaged_hear, silent_fits}

-- ---- turns that end with a card

-- the turn isn't an end with a card
abbrev pub NoCard : RoundTurn Stage → Type 0
NoCard (Goes stage) = Unit {0}
NoCard (Ends Empty) = Unit {0}
NoCard (Ends Collision) = Unit {0}
NoCard (Ends Unsupported) = Unit {0}
NoCard (Ends Broken) = Unit {0}
NoCard (Ends (Found card)) = ⊥

-- where it is one, some card is in the block protocol
abbrev pub HasOpen : RoundTurn Stage → List Placed → Type 0
HasOpen (Goes stage) ps = Unit {0}
HasOpen (Ends Empty) ps = Unit {0}
HasOpen (Ends Collision) ps = Unit {0}
HasOpen (Ends Unsupported) ps = Unit {0}
HasOpen (Ends Broken) ps = Unit {0}
HasOpen (Ends (Found card)) ps = AnyInside ps

no_card_open : (t : RoundTurn Stage) (ps : List Placed) → NoCard t → HasOpen t ps
no_card_open (Goes stage) ps h = tt
no_card_open (Ends Empty) ps h = tt
no_card_open (Ends Collision) ps h = tt
no_card_open (Ends Unsupported) ps h = tt
no_card_open (Ends Broken) ps h = tt
no_card_open (Ends (Found card)) ps h = absurd h

any_open : (t : RoundTurn Stage) (ps : List Placed) → AnyInside ps → HasOpen t ps
any_open (Goes stage) ps h = tt
any_open (Ends Empty) ps h = tt
any_open (Ends Collision) ps h = tt
any_open (Ends Unsupported) ps h = tt
any_open (Ends Broken) ps h = tt
any_open (Ends (Found card)) ps h = h

silent_none : (stage : Stage) → NoCard (round_hears stage Silence)
silent_none Waking = tt
silent_none Halting = tt
silent_none (WakingB true) = tt
silent_none (WakingB false) = tt
silent_none (InA Woken) = tt
silent_none (InA (Level n before)) = tt
silent_none (InA (Select n before part)) = tt
silent_none (InA (Complete read)) = tt
silent_none (InB stage) = tt

atqb_none : (r : Result Atqb AtqbFault) → NoCard (in_b (after_atqb r))
atqb_none (Ok a) = either (λ t. NoCard (in_b t)) a.iso4 _ _ tt tt
atqb_none (Err e) = tt

sak_none : (n : ℕ) (before part : List ℕ) (sak : ℕ) → NoCard (in_a (after_sak n before part sak))
sak_none n before part sak =
    let P : RoundTurn AStage → Type 0 = λ t. NoCard (in_a t) in
    either P (bit sak 4 == 1) _ _ (either P (continues n part) _ _ tt tt) (either P (continues n part) _ _ tt (either P (bit sak 32 == 1) _ _ tt tt))

-- only the answer to RATS or ATTRIB ends a round with a card
early_none : (stage : Stage) (heard : Heard) → is_last stage ≡ false → NoCard (round_hears stage heard)
early_none Waking heard l = tt
early_none Halting heard l = tt
early_none (WakingB true) heard l = either NoCard (is_silent heard) _ _ tt tt
early_none (WakingB false) heard l =
    either NoCard (is_silent heard) _ _ tt (answered (λ t. NoCard (in_b t)) (λ m. after_atqb (atqb m)) B heard tt tt (λ m. atqb_none (atqb m)))
early_none (InA Woken) heard l = answered (λ t. NoCard (in_a t)) (a_says Woken) ABare heard tt tt (λ m. either (λ t. NoCard (in_a t)) (length m == 2) _ _ tt tt)
early_none (InA (Level n before)) heard l = answered (λ t. NoCard (in_a t)) (a_says (Level n before)) ABare heard tt tt (λ m. either (λ t. NoCard (in_a t)) (is_level m) _ _ tt tt)
early_none (InA (Select n before part)) heard l =
    answered (λ t. NoCard (in_a t)) (a_says (Select n before part)) A heard tt tt
    (λ m. either (λ t. NoCard (in_a t)) (length m == 1) _ _ (sak_none n before part (slice_index m 0)) tt)
early_none (InA (Complete read)) heard l = cc
early_none (InB stage) heard l = cc

-- ---- one exchange

pub silent_back : (u : Way) → comes_back u Silence ≡ Silence
silent_back Passes = refl
silent_back Loses = refl
silent_back (Bursts start mask) = refl
silent_back Leaves = refl

pub good_frame : (fsdi : ℕ) (stage : Stage) → is_good (round_asks fsdi stage).wave (round_asks fsdi stage).bytes ≡ true
good_frame fsdi Waking = refl
good_frame fsdi Halting = ends_sealed A hlta (omega arith)
good_frame fsdi (WakingB woke) = ends_sealed B wupb (omega arith)
good_frame fsdi (InA Woken) = refl
good_frame fsdi (InA (Level n before)) = refl
good_frame fsdi (InA (Select n before part)) = ends_sealed A (sel n ∷ 0x70 ∷ part) (omega arith)
good_frame fsdi (InA (Complete read)) = ends_sealed A (0xe0 ∷ 16 * fsdi ∷ []) (omega arith)
good_frame fsdi (InB stage) = ends_sealed B (attrib_of stage.pupi fsdi) (omega arith)

pub faces_left : (ps : List Placed) → faces (left_by ps) ≡ faces ps
faces_left [] = refl
faces_left (p ∷ ps) = ap (λ l. record { plan = outside_reset p.outside; kind = p.party.kind; image = p.party.image } ∷ l) (faces_left ps)

left_away : (ps : List Placed) → AllAway (left_by ps)
left_away [] = tt
left_away (p ∷ ps) = (refl, left_away ps)

module _ (fsdi : ℕ) (stage : Stage) where
  abbrev wave : Wave
  wave = (round_asks fsdi stage).wave

  abbrev bytes : List ℕ
  bytes = (round_asks fsdi stage).bytes

  -- what follows the cards' answers, by the fate of what they sent
  abbrev follows : Way → CardsHeard → RoundTurn Stage
  follows u h = round_hears stage (comes_back u (joined h.answers))

  -- the cards after a frame, whatever comes back of their answers
  record Outcome (f : Field) (h : CardsHeard) : Type 0 where
    fits : (u : Way) → AllFits fsdi (follows u h) h.cards
    opens : (u : Way) → HasOpen (follows u h) h.cards
    log : h.log ≡ f.log
    faces_stay : faces h.cards ≡ faces f.cards

  abbrev unmoved : Field → CardsHeard
  unmoved f = record { cards = f.cards; log = f.log; answers = [] }

  nothing : (f : Field) → AllFits fsdi (Goes stage) f.cards → Outcome f (unmoved f)
  nothing f h = record {
    fits = λ u. subst (λ x. AllFits fsdi (round_hears stage x) f.cards) (sym (silent_back u)) (silent_fits fsdi stage f.cards h);
    opens = λ u. subst (λ x. HasOpen (round_hears stage x) f.cards) (sym (silent_back u)) (no_card_open (round_hears stage Silence) f.cards (silent_none stage));
    log = refl;
    faces_stay = refl;
  }

  by_answers : (u : Way) (h : CardsHeard) → (h.answers ≡ []) ⊎ AnyInside h.cards → HasOpen (follows u h) h.cards
  by_answers u h (inl none) =
      subst (λ l. HasOpen (round_hears stage (comes_back u (joined l))) h.cards) (sym none)
      (subst (λ x. HasOpen (round_hears stage x) h.cards) (sym (silent_back u)) (no_card_open (round_hears stage Silence) h.cards (silent_none stage)))
  by_answers u h (inr any) = any_open (follows u h) h.cards any

  by_last : (u : Way) (h : CardsHeard) (last : Bool) → is_last stage ≡ last → (is_last stage ≡ true → (h.answers ≡ []) ⊎ AnyInside h.cards) → HasOpen (follows u h) h.cards
  by_last u h true e a = by_answers u h (a e)
  by_last u h false e a = no_card_open (follows u h) h.cards (early_none stage (comes_back u (joined h.answers)) e)

  by_room : (f : Field) (free : Bool) → nat_lt (length f.log) f.room ≡ free → ArePlaced f.cards → AllFits fsdi (Goes stage) f.cards → Outcome f (all_hear f.room wave bytes f.log f.cards)
  by_room f false full c h = subst (λ x. Outcome f x) (sym (full_hear f.room wave bytes f.log f.cards full)) (nothing f h)
  by_room f true free c h =
      let x = all_hear f.room wave bytes f.log f.cards in
      let any = all_heed fsdi stage Silence f.room f.log f.cards free c h in
      record {
        fits = λ u. (all_heed fsdi stage (comes_back u (joined x.answers)) f.room f.log f.cards free c h).fits;
        opens = λ u. by_last u x (is_last stage) refl any.answered;
        log = any.log_stays;
        faces_stay = any.faces_stay;
      }

  by_arrival : (f : Field) (o : Option (List ℕ)) → Arrival wave bytes o → ArePlaced f.cards → AllFits fsdi (Goes stage) f.cards → Outcome f (all_take f wave o)
  by_arrival f _ Lost c h = nothing f h
  by_arrival f _ Whole c h = by_room f (nat_lt (length f.log) f.room) refl c h
  by_arrival f _ (Damaged x e) c h = subst (λ x. Outcome f x) (sym (damaged_hear fsdi stage f.room wave x f.log f.cards e h)) (nothing f h)

  away_take : (f : Field) (o : Option (List ℕ)) → AllAway f.cards → all_take f wave o ≡ unmoved f
  away_take f None a = refl
  away_take f (Some b) a = away_hear f.room wave b f.log f.cards a

-- cards that are there fit, and one is in the block protocol where the round ended with a card; if they are gone, it doesn't end so
abbrev pub Mode : ℕ → RoundTurn Stage → Bool → List Placed → Type 0
Mode fsdi turn true ps = AllAway ps × NoCard turn
Mode fsdi turn false ps = AllFits fsdi turn ps × HasOpen turn ps

-- the records and faces stay
pub record Kept (f g : Field) : Type 0 where
  pub log : g.log ≡ f.log
  pub room : g.room ≡ f.room
  pub faces_stay : faces g.cards ≡ faces f.cards

abbrev pub Fit : ℕ → RoundTurn Stage → Field → Type 0
Fit fsdi turn f = Lawful f × Mode fsdi turn f.air.gone f.cards

module _ (fsdi : ℕ) (stage : Stage) where
  -- what becomes of the cards with the fate of their answers
  after_up : (f : Field) (u : Way) (h : CardsHeard) → Outcome fsdi stage f h → Mode fsdi (follows fsdi stage u h) (gone_by false u) (if leaves u then left_by h.cards else h.cards)
  after_up f Passes h o = (o.fits Passes, o.opens Passes)
  after_up f Loses h o = (o.fits Loses, o.opens Loses)
  after_up f (Bursts start mask) h o = (o.fits (Bursts start mask), o.opens (Bursts start mask))
  after_up f Leaves h o = (left_away h.cards, silent_none stage)

  here_after : (f : Field) (d u : Way) → IsWay d → ArePlaced f.cards → AllFits fsdi (Goes stage) f.cards
      → let h = all_take f (wave fsdi stage) (comes_down d (wave fsdi stage) (bytes fsdi stage)) in
      Mode fsdi (follows fsdi stage u h) (gone_by (gone_by false d) u) (if leaves d || leaves u then left_by h.cards else h.cards)
  here_after f Passes u l c h = after_up f u _ (by_arrival fsdi stage f _ Whole c h)
  here_after f Loses u l c h = after_up f u _ (by_arrival fsdi stage f _ Lost c h)
  here_after f (Bursts start mask) u l c h =
      after_up f u _ (by_arrival fsdi stage f _ (arrives (Bursts start mask) (wave fsdi stage) (bytes fsdi stage) l (good_frame fsdi stage)) c h)
  here_after f Leaves u l c h = (left_away f.cards, subst (λ x. NoCard (round_hears stage x)) (sym (silent_back u)) (silent_none stage))

  kept_here : (f : Field) (d : Way) → IsWay d → ArePlaced f.cards → AllFits fsdi (Goes stage) f.cards → Outcome fsdi stage f (all_take f (wave fsdi stage) (comes_down d (wave fsdi stage) (bytes fsdi stage)))
  kept_here f d l c h = by_arrival fsdi stage f _ (arrives d (wave fsdi stage) (bytes fsdi stage) l (good_frame fsdi stage)) c h

  left_or : (gone : Bool) (ps qs : List Placed) → faces ps ≡ faces qs → faces (if gone then left_by ps else ps) ≡ faces qs
  left_or true ps qs e = faces_left ps ∙ e
  left_or false ps qs e = e

  away_or : (gone : Bool) (ps : List Placed) → AllAway ps → AllAway (if gone then left_by ps else ps)
  away_or true ps a = left_away ps
  away_or false ps a = a

  abbrev pub taken : Field → CardsHeard
  taken f = field_hears f (wave fsdi stage) (bytes fsdi stage)

  abbrev pub sent : Field → Field
  sent f = (field_send f (wave fsdi stage) (bytes fsdi stage)).1

  abbrev pub heard : Field → Heard
  heard f = comes_back (next_fate f.air.fates).up (joined (taken f).answers)

  pub by_gone : (f : Field) (gone : Bool) → Lawful f → Mode fsdi (Goes stage) gone f.cards
      → Mode fsdi (round_hears stage (heard f)) (gone_by (gone_by gone (next_fate f.air.fates).down) (next_fate f.air.fates).up) (sent f).cards × Kept f (sent f)
  by_gone f false l m =
      let ways = next_ways f.air.fates l.fates in
      let o = kept_here f (next_fate f.air.fates).down ways.0 l.cards m.0 in (
        here_after f (next_fate f.air.fates).down (next_fate f.air.fates).up ways.0 l.cards m.0,
        record { log = o.log; room = refl; faces_stay = left_or (away (next_fate f.air.fates)) (taken f).cards f.cards o.faces_stay },
      )
  by_gone f true l m =
      let u = (next_fate f.air.fates).up in
      let e : taken f ≡ unmoved fsdi stage f = away_take fsdi stage f (comes_down (next_fate f.air.fates).down (wave fsdi stage) (bytes fsdi stage)) m.0 in (
        (
          away_or (away (next_fate f.air.fates)) (taken f).cards (subst (λ (h : CardsHeard). AllAway h.cards) (sym e) m.0),
          subst (λ (h : CardsHeard). NoCard (round_hears stage (comes_back u (joined h.answers)))) (sym e) (subst (λ x. NoCard (round_hears stage x)) (sym (silent_back u)) (silent_none stage)),
        ),
        record { log = ap (λ (h : CardsHeard). h.log) e; room = refl; faces_stay = left_or (away (next_fate f.air.fates)) (taken f).cards f.cards (ap (λ (h : CardsHeard). faces h.cards) e) },
      )

  pub sends_fit : (f : Field) → Fit fsdi (Goes stage) f → Fit fsdi (round_hears stage (heard f)) (sent f) × Kept f (sent f)
  sends_fit f h =
      let m = by_gone f f.air.gone h.0 h.1 in
      ((lawful_send f (wave fsdi stage) (bytes fsdi stage) h.0, m.0), m.1)

-- ---- a round

-- no reset is asked next
abbrev pub Awake : RoundTurn Stage → Type 0
Awake (Ends e) = Unit {0}
Awake (Goes Waking) = ⊥
Awake (Goes Halting) = Unit {0}
Awake (Goes (WakingB woke)) = Unit {0}
Awake (Goes (InA stage)) = Unit {0}
Awake (Goes (InB stage)) = Unit {0}

awake_a : (t : RoundTurn AStage) → Awake (in_a t)
awake_a (Goes s) = tt
awake_a (Ends e) = tt

awake_b : (t : RoundTurn BStage) → Awake (in_b t)
awake_b (Goes s) = tt
awake_b (Ends e) = tt

awake_woken : (b : Bool) → Awake (Goes (if b then WakingB false else Halting))
awake_woken true = tt
awake_woken false = tt

pub stays_awake : (stage : Stage) (heard : Heard) → Awake (round_hears stage heard)
stays_awake Waking heard = awake_woken (is_silent heard)
stays_awake Halting heard = tt
stays_awake (WakingB true) heard = either Awake (is_silent heard) _ _ tt tt
stays_awake (WakingB false) heard = either Awake (is_silent heard) _ _ tt (awake_b (b_found heard))
stays_awake (InA stage) heard = awake_a (a_hears stage heard)
stays_awake (InB stage) heard = awake_b (b_hears stage heard)

a_no_reset : (fsdi : ℕ) (stage : AStage) → (a_asks fsdi stage).reset ≡ false
a_no_reset fsdi Woken = refl
a_no_reset fsdi (Level level uid) = refl
a_no_reset fsdi (Select level uid part) = refl
a_no_reset fsdi (Complete uid) = refl

pub no_reset : (fsdi : ℕ) (stage : Stage) → Awake (Goes stage) → (round_asks fsdi stage).reset ≡ false
no_reset fsdi Waking h = absurd h
no_reset fsdi Halting h = refl
no_reset fsdi (WakingB woke) h = refl
no_reset fsdi (InA stage) h = a_no_reset fsdi stage
no_reset fsdi (InB stage) h = refl

-- without a reset the exchange is one frame
pub sends_only : {S : Type 0} (steps : MediumSteps S) (s : S) (ask : Ask) (heard : Option Heard) (t : S) → ask.reset ≡ false → Exchanges steps s ask heard t
    → steps.sends s ask.wave ask.bytes ask.wait heard t
sends_only steps s ask heard t e x = subst (λ r. ExchangesBy steps r s ask heard t) e x

-- a round over a field ends, and its state fits then
pub record Ended (fsdi : ℕ) (f : Field) (ending : Option RoundEnd) (t : Field) : Type 0 where
  pub end : RoundEnd
  pub is : ending ≡ Some end
  pub fit : Fit fsdi (Ends end) t
  pub kept : Kept f t

kept_chain : (f g h : Field) → Kept f g → Kept g h → Kept f h
kept_chain f g h a b = record { log = b.log ∙ a.log; room = b.room ∙ a.room; faces_stay = b.faces_stay ∙ a.faces_stay }

module _ (fsdi : ℕ) where
  is_over : (f : Field) (e : RoundEnd) (ending : Option RoundEnd) (t : Field) → Fit fsdi (Ends e) f → ending ≡ Some e → t ≡ f → Ended fsdi f ending t
  is_over f e ending t h is same = record {
    end = e;
    is = is;
    fit = subst (λ g. Fit fsdi (Ends e) g) (sym same) h;
    kept = record { log = ap (λ (g : Field). g.log) same; room = ap (λ (g : Field). g.room) same; faces_stay = ap (λ (g : Field). faces g.cards) same };
  }

  -- after an exchange the rest of the round follows
  rest_of : (n : ℕ) (stage : Stage) (f : Field) (h : Option Heard) (u : Field) (ending : Option RoundEnd) (t : Field)
      → ((turn : RoundTurn Stage) (g : Field) → Awake turn → Fit fsdi turn g → Plays (told field) fsdi n turn g ending t → Ended fsdi g ending t)
      → Fit fsdi (Goes stage) f → field_send f (wave fsdi stage) (bytes fsdi stage) ≡ (h, u)
      → AfterExchange (told field) fsdi (λ x. Plays (told field) fsdi n (round_hears stage x)) h u ending t → Ended fsdi f ending t
  rest_of n stage f h u ending t more fit sends rest =
      let x = sends_fit fsdi stage f fit in
      let g = sent fsdi stage f in
      let heard_is : h ≡ Some (heard fsdi stage f) = sym (ap (λ (p : Option Heard × Field). p.0) sends) in
      let field_is : u ≡ g = sym (ap (λ (p : Option Heard × Field). p.1) sends) in
      let going : Plays (told field) fsdi n (round_hears stage (heard fsdi stage f)) g ending t =
      subst (λ o. AfterExchange (told field) fsdi (λ x. Plays (told field) fsdi n (round_hears stage x)) o g ending t) heard_is
      (subst (λ v. AfterExchange (told field) fsdi (λ x. Plays (told field) fsdi n (round_hears stage x)) h v ending t) field_is rest) in
      let e = more (round_hears stage (heard fsdi stage f)) g (stays_awake stage (heard fsdi stage f)) x.0 going in
      record { end = e.end; is = e.is; fit = e.fit; kept = kept_chain f g t x.1 e.kept }

  plays_on : (n : ℕ) (turn : RoundTurn Stage) (f : Field) (ending : Option RoundEnd) (t : Field) → Awake turn → Fit fsdi turn f → Plays (told field) fsdi n turn f ending t → Ended fsdi f ending t
  unfolding Plays
  plays_on zero (Goes stage) f ending t awake fit x = absurd x
  plays_on zero (Ends e) f ending t awake fit x = is_over f e ending t fit x.0 x.1
  plays_on (suc n) (Ends e) f ending t awake fit x = is_over f e ending t fit x.0 x.1
  plays_on (suc n) (Goes stage) f ending t awake fit x =
      rest_of n stage f x.0 x.1 ending t (λ turn g a h p. plays_on n turn g ending t a h p) fit
      (sends_only (told field) f (round_asks fsdi stage) x.0 x.1 (no_reset fsdi stage awake) x.2) x.3

  -- ---- from the reset on

  fresh_next : (o : Outside) → Next (Goes Waking) (outside_reset o)
  fresh_next (OfA p s) = tt
  fresh_next (OfB p s) = tt

  reset_outside : (o : Outside) → is_inside (outside_reset o) ≡ false
  reset_outside (OfA p s) = refl
  reset_outside (OfB p s) = refl

  reset_mode : (gone : Bool) (presence : List (List ℕ)) (n : ℕ) (ps : List Placed) → Mode fsdi (Goes Waking) gone (all_reset gone presence n ps)
  reset_mode true presence n [] = (tt, tt)
  reset_mode true presence n (p ∷ ps) = ((refl, (reset_mode true presence (n + 1) ps).0), tt)
  reset_mode false presence n [] = (tt, tt)
  reset_mode false presence n (p ∷ ps) = (
    (
      record {
        next = λ e. fresh_next p.outside;
        absent = λ e. reset_outside p.outside;
        fresh = refl;
        frame = λ i. let clash : true ≡ false = sym i ∙ reset_outside p.outside in cc;
      },
      (reset_mode false presence (n + 1) ps).0,
    ),
    tt,
  )

  twice : (o : Outside) → outside_reset (outside_reset o) ≡ outside_reset o
  twice (OfA p s) = refl
  twice (OfB p s) = refl

  faces_reset : (gone : Bool) (presence : List (List ℕ)) (n : ℕ) (ps : List Placed) → faces (all_reset gone presence n ps) ≡ reset_faces ps
  faces_reset gone presence n [] = refl
  faces_reset gone presence n (p ∷ ps) =
      let q = placed_reset (is_present gone presence n) p in
      ap (λ x. record { plan = x; kind = q.party.kind; image = q.party.image } ∷ faces (all_reset gone presence (n + 1) ps)) (twice p.outside)
      ∙ ap (λ l. record { plan = outside_reset p.outside; kind = q.party.kind; image = q.party.image } ∷ l) (faces_reset gone presence (n + 1) ps)

  pub reset_fits : (s : Field) → Lawful s → Fit fsdi (Goes Waking) (field_reset s)
  reset_fits s l = (lawful_reset s l, reset_mode s.air.gone s.presence 1 s.cards)

  pub first_sent : (s : Field) (well : Bool) (v : Field) (h : Option Heard) (u : Field) → (told field).resets s well v → AfterReset (told field) well v (round_asks fsdi Waking) h u
      → field_send (field_reset s) (wave fsdi Waking) (bytes fsdi Waking) ≡ (h, u)
  first_sent s well v h u e x =
      let well_is : well ≡ true = sym (ap (λ (p : Bool × Field). p.0) e) in
      let field_is : v ≡ field_reset s = sym (ap (λ (p : Bool × Field). p.1) e) in
      subst (λ g. AfterReset (told field) true g (round_asks fsdi Waking) h u) field_is (subst (λ b. AfterReset (told field) b v (round_asks fsdi Waking) h u) well_is x)

  pub round_ends : (s : Field) (ending : Option RoundEnd) (t : Field) → Lawful s → PlaysRound (told field) fsdi s ending t → Ended fsdi (field_reset s) ending t
  unfolding Plays
  round_ends s ending t l x =
      rest_of 10 Waking (field_reset s) x.0 x.1 ending t (λ turn g a h p. plays_on 10 turn g ending t a h p) (reset_fits s l)
      (first_sent s x.2.0 x.2.1 x.0 x.1 x.2.2 x.2.3) x.3

  pub round_faces : (s : Field) → faces (field_reset s).cards ≡ reset_faces s.cards
  round_faces s = faces_reset s.air.gone s.presence 1 s.cards
