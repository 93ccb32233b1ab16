-- The exchanges that a round has left, and how it runs from one to the next.
use Rattle.std.proofs.Common.{◌≡◌, ◌+◌, ◌*◌, ◌-◌, ◌<◌, ◌≤◌, ℕ, zero, suc, Bool, true, false, ◌&&◌, List, [], if◌then◌else◌, nat_lt, refl, arith, subst, ◌∙◌, ap}
use Rattle.std.specs.Prelude.{Option, Some, None, Result, Ok, Err}
use Rattle.ep_base.specs.declared.activation.Ats.{Ats}
use Rattle.ep_base.specs.declared.activation.AtsFault.{AtsFault}
use Rattle.ep_base.specs.Cards.Activation.{ats}
use Rattle.ep_base.specs.Air.Heard.{Ask, Heard, is_silent, RoundEnd, Empty, Collision, Unsupported, Broken, RoundTurn, Goes, Ends, place_of, end_of, RoundAnswer, Says, Fails, awaited, on_answer}
use Rattle.ep_base.specs.Cards.TypeA.{AStage, Woken, Level, Select, Complete, a_says, a_wave, after_ats}
use Rattle.ep_base.specs.Cards.TypeB.{BStage, b_says, b_found}
use Rattle.ep_base.specs.Poll.Round.{Stage, Waking, Halting, WakingB, InA, InB, round_asks, round_hears, in_a, in_b}
use Rattle.ep_base.specs.Air.Medium.{MediumSteps, Exchanges}
use Rattle.ep_base.specs.Poll.Polling.{Plays, PlaysRound}
use Rattle.ep_base.specs.declared.limits.TheConstants.{ROUND_EXCHANGES}
use Rattle.poll_activate.specs.Poll.{asked_in, turn_in}

-- How many exchanges a round still has at most, with the one whose frame is sent next.
abbrev pub left : Stage → ℕ
left Waking = ROUND_EXCHANGES
left Halting = 10
left (WakingB woke) = 9
left (InA Woken) = 8
left (InA (Level level uid)) = 2 * (3 - level) + 3
left (InA (Select level uid part)) = 2 * (3 - level) + 2
left (InA (Complete uid)) = 1
left (InB stage) = 1

abbrev pub left_at : Option Stage → ℕ
left_at (Some stage) = left stage
left_at None = 0

abbrev Fewer : RoundTurn Stage → ℕ → Type 0
Fewer (Goes stage) n = left stage < n
Fewer (Ends e) n = Unit {0}

woken : (silent : Bool) → Fewer (Goes (if silent then WakingB false else Halting)) ROUND_EXCHANGES
woken true = omega arith
woken false = omega arith

woken_too : (silent : Bool) → Fewer (if silent then Goes (InA Woken) else Ends Collision) 9
woken_too true = omega arith
woken_too false = tt

woken_b : (silent : Bool) (t : RoundTurn BStage) → Fewer (if silent then Ends Empty else in_b t) 9
woken_b true t = tt
woken_b false (Goes s) = omega arith
woken_b false (Ends e) = tt

first_level : (well : Bool) → Fewer (in_a (if well then Goes (Level 1 []) else Ends Broken)) 8
first_level true = omega arith
first_level false = tt

a_level : (well : Bool) (level : ℕ) (uid part : List ℕ) → Fewer (in_a (if well then Goes (Select level uid part) else Ends Broken)) (2 * (3 - level) + 3)
a_level true level uid part = omega arith
a_level false level uid part = tt

a_sak : (well more low first last : Bool) (level : ℕ) (uid whole : List ℕ) → (low ≡ true → level < 3) → Fewer (in_a (
    if well then (if more
    then (if low && first then Goes (Level (level + 1) uid) else Ends Broken)
    else (if low && first then Ends Broken
    else (if last then Goes (Complete whole) else Ends Unsupported)))
    else Ends Broken)) (2 * (3 - level) + 2)
a_sak false more low first last level uid whole lt = tt
a_sak true true true true last level uid whole lt = omega (arith, lt refl)
a_sak true true true false last level uid whole lt = tt
a_sak true true false first last level uid whole lt = tt
a_sak true false true true last level uid whole lt = tt
a_sak true false true false true level uid whole lt = omega arith
a_sak true false true false false level uid whole lt = tt
a_sak true false false first true level uid whole lt = omega arith
a_sak true false false first false level uid whole lt = tt

an_ats : (uid : List ℕ) (r : Result Ats AtsFault) → Fewer (in_a (after_ats uid r)) 1
an_ats uid (Ok a) = tt
an_ats uid (Err e) = tt

says_a : (s : AStage) (message : List ℕ) → Fewer (in_a (a_says s message)) (left (InA s))
says_a Woken message = first_level _
says_a (Level level uid) message = a_level _ level uid message
says_a (Select level uid part) message = a_sak _ _ (nat_lt level 3) _ _ level _ _ (λ e. grind arith)
says_a (Complete uid) message = an_ats uid (ats message)

answered_a : (s : AStage) (w : RoundAnswer) → Fewer (in_a (on_answer (a_says s) w)) (left (InA s))
answered_a s (Says message) = says_a s message
answered_a s (Fails e) = tt

says_b : (s : BStage) (well : Bool) (a b : RoundEnd) → Fewer (in_b (if well then Ends a else Ends b)) 1
says_b s true a b = tt
says_b s false a b = tt

answered_b : (s : BStage) (w : RoundAnswer) → Fewer (in_b (on_answer (b_says s) w)) 1
answered_b s (Says message) = says_b s _ _ _
answered_b s (Fails e) = tt

fewer : (stage : Stage) (heard : Heard) → Fewer (round_hears stage heard) (left stage)
fewer Waking heard = woken (is_silent heard)
fewer Halting heard = omega arith
fewer (WakingB true) heard = woken_too (is_silent heard)
fewer (WakingB false) heard = woken_b (is_silent heard) (b_found heard)
fewer (InA s) heard = answered_a s (awaited (a_wave s) heard)
fewer (InB s) heard = answered_b s (awaited _ heard)

some_left : (stage : Stage) → 0 < left stage
some_left Waking = omega arith
some_left Halting = omega arith
some_left (WakingB woke) = omega arith
some_left (InA Woken) = omega arith
some_left (InA (Level level uid)) = omega arith
some_left (InA (Select level uid part)) = omega arith
some_left (InA (Complete uid)) = omega arith
some_left (InB s) = omega arith

pub goes_at : (t : RoundTurn Stage) → None ≡ end_of t → (s : Stage) × (t ≡ Goes s)
goes_at (Goes s) e = (s, refl)
goes_at (Ends x) e = cc

pub ends_at : (t : RoundTurn Stage) (x : RoundEnd) → Some x ≡ end_of t → t ≡ Ends x
ends_at (Goes s) x e = cc
ends_at (Ends y) x e = cc

-- A round that is over stays so.
over_in : {S : Type 0} → (steps : MediumSteps S) (fsdi n : ℕ) (turn : RoundTurn Stage) (s : S) (ending : RoundEnd) → turn ≡ Ends ending → Plays steps fsdi n turn s (Some ending) s
unfolding Plays
over_in steps fsdi zero turn s ending e = rw e (refl, refl)
over_in steps fsdi (suc n) turn s ending e = rw e (refl, refl)

module _ {S : Type 0} (steps : MediumSteps S) (fsdi : ℕ) (Whole : Option RoundEnd → S → Type 0) where
  -- A round that stands at this stage, with enough exchanges left, leads to the whole.
  pub record From (p : Option Stage) (s : S) : Type 0 where
    pub stage : Stage
    pub at : p ≡ Some stage
    pub n : ℕ
    pub enough : left stage ≤ n
    pub whole : (ending : Option RoundEnd) (t : S) → Plays steps fsdi n (Goes stage) s ending t → Whole ending t

  next_at : (n : ℕ) (stage : Stage) (q : Option Stage) (s u : S) (h : Heard) → left stage ≤ n
      → ((ending : Option RoundEnd) (t : S) → Plays steps fsdi n (Goes stage) s ending t → Whole ending t)
      → Exchanges steps s (round_asks fsdi stage) (Some h) u
      → q ≡ place_of (round_hears stage h) → None ≡ end_of (round_hears stage h) → From q u
  unfolding Plays
  next_at zero stage q s u h le whole x e over = absurd (omega (arith, some_left stage))
  next_at (suc n) stage q s u h le whole x e over =
      let g = goes_at (round_hears stage h) over in
      let less : left g.0 < left stage = subst (λ t. Fewer t (left stage)) g.1 (fewer stage h) in
      record {
        stage = g.0;
        at = e ∙ ap place_of g.1;
        n = n;
        enough = omega (arith, less, le);
        whole = λ ending t plays. whole ending t (Some h, u, x, rw g.1 plays);
      }

  -- What is asked at a stage.
  asks_at : (p : Option Stage) (s : S) (f : From p s) (ask : Ask) (k : ℕ) → ask ≡ asked_in k p → k ≡ fsdi → ask ≡ round_asks fsdi f.stage
  asks_at p s f ask k a e = a ∙ ap (λ x. asked_in k x) f.at ∙ ap (λ n. round_asks n f.stage) e

  -- One exchange more, after which the round goes on.
  pub next : (p q : Option Stage) (s u : S) (ask : Ask) (h : Heard) (k : ℕ) → From p s → ask ≡ asked_in k p → k ≡ fsdi
      → Exchanges steps s ask (Some h) u → q ≡ place_of (turn_in p h) → None ≡ end_of (turn_in p h) → From q u
  next p q s u ask h k f a same x e over =
      next_at f.n f.stage q s u h f.enough f.whole (rw (asks_at p s f ask k a same) at x) (rw f.at at e) (rw f.at at over)

  last_at : (n : ℕ) (stage : Stage) (s u : S) (h : Heard) (ending : RoundEnd) → left stage ≤ n
      → ((ending : Option RoundEnd) (t : S) → Plays steps fsdi n (Goes stage) s ending t → Whole ending t)
      → Exchanges steps s (round_asks fsdi stage) (Some h) u
      → Some ending ≡ end_of (round_hears stage h) → Whole (Some ending) u
  unfolding Plays
  last_at zero stage s u h ending le whole x over = absurd (omega (arith, some_left stage))
  last_at (suc n) stage s u h ending le whole x over =
      whole (Some ending) u (Some h, u, x, over_in steps fsdi n (round_hears stage h) u ending (ends_at (round_hears stage h) ending over))

  -- The last exchange.
  pub last : (p : Option Stage) (s u : S) (ask : Ask) (h : Heard) (k : ℕ) (ending : RoundEnd) → From p s → ask ≡ asked_in k p → k ≡ fsdi
      → Exchanges steps s ask (Some h) u → Some ending ≡ end_of (turn_in p h) → Whole (Some ending) u
  last p s u ask h k ending f a same x over =
      last_at f.n f.stage s u h ending f.enough f.whole (rw (asks_at p s f ask k a same) at x) (rw f.at at over)

  lost_at : (n : ℕ) (stage : Stage) (s u : S) → left stage ≤ n
      → ((ending : Option RoundEnd) (t : S) → Plays steps fsdi n (Goes stage) s ending t → Whole ending t)
      → Exchanges steps s (round_asks fsdi stage) None u → Whole None u
  unfolding Plays
  lost_at zero stage s u le whole x = absurd (omega (arith, some_left stage))
  lost_at (suc n) stage s u le whole x = whole None u (None, u, x, (refl, refl))

  -- A call that fails.
  pub lost : (p : Option Stage) (s u : S) (ask : Ask) (k : ℕ) → From p s → ask ≡ asked_in k p → k ≡ fsdi → Exchanges steps s ask None u → Whole None u
  lost p s u ask k f a same x = lost_at f.n f.stage s u f.enough f.whole (rw (asks_at p s f ask k a same) at x)

-- A round begins.
pub begins : {S : Type 0} → (steps : MediumSteps S) (fsdi : ℕ) (s : S) → From steps fsdi (λ ending t. PlaysRound steps fsdi s ending t) (Some Waking) s
begins steps fsdi s = record { stage = Waking; at = refl; n = ROUND_EXCHANGES; enough = omega arith; whole = λ ending t plays. plays }
