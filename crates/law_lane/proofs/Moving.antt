-- Where exchanges lead a lane: through a poll round, an open command, and the closing of a link.
use Rattle.std.proofs.Common.{◌≡◌, ℕ, zero, suc, ◌+◌, ◌≤◌, Bool, true, false, List, [], ◌∷◌, ◌++◌, length, refl, sym, ap, subst, ◌∙◌, arith, Option, Some, None}
use Rattle.std.specs.Prelude.{if◌then◌else◌}
use Rattle.ep_base.specs.Air.Heard.{Ask, Heard, RoundEnd, RoundTurn, Goes, Ends}
use Rattle.ep_base.specs.Poll.Round.{Stage, round_asks, round_hears}
use Rattle.ep_base.specs.Link.Block.{Deselect}
use Rattle.ep_base.specs.Link.ReaderEnd as reader
use Rattle.ep_base.specs.Link.ReaderEnd.{Reader, Asks, Gives, Spends, Breaks, asked}
use Rattle.ep_base.specs.Link.LinkFrames.{LinkSetting}
use Rattle.ep_base.specs.Air.Medium.{told, Exchanges, ExchangesBy}
use Rattle.ep_base.specs.Poll.Polling.{AfterExchange, Plays}
use Rattle.ep_base.specs.Link.Carry.{SendsBlock, turn_on, FollowsOn, Follows}
use Rattle.ep_base.specs.Cards.Field.{Field, field, field_reset, field_send}
use Rattle.ep_claim.specs.Lanes.Steps.{times}
use Rattle.ep_base.specs.Poll.Radio.{OpenLink}
use Rattle.ep_rules.specs.EntryPoint.Talk.{Talk, Result, Round, Closed}
use Rattle.ep_claim.specs.Lanes.Standing.{Standing, Closing, standing, asks_block, asked_by, link_by, after_stage, after_turn, after_hearing}
use Rattle.ep_claim.specs.Lanes.Exchanges.{Exchange, Lane, field_answers, exchanged, goes_by, lane_step, lane_after}

pub times_more : {A : Type 0} (step : A → A) (m n : ℕ) (a : A) → times step (m + n) a ≡ times step n (times step m a)
times_more step zero n a = let e : 0 + n ≡ n = omega arith in ap (λ k. times step k a) e
times_more step (suc m) n a =
    let e : suc m + n ≡ suc (m + n) = omega arith in
    ap (λ k. times step k a) e ∙ times_more step m n (step a)

-- a field's reset comes about
no_failure : true ≡ false → ⊥
no_failure e = cc

-- what a field answers to an exchange
by_reset : (r : Bool) (ask : Ask) (f g : Field) (h : Heard) → ExchangesBy (told field) r f ask (Some h) g → field_send (if r then field_reset f else f) ask.wave ask.bytes ≡ (Some h, g)
by_reset false ask f g h x = x
by_reset true ask f g h (true, u, is, x) =
    let e : (true, field_reset f) ≡ (true, u) = is in
    let same : field_reset f ≡ u = ap (λ (p : Bool × Field). p.1) e in
    subst (λ v. field_send v ask.wave ask.bytes ≡ (Some h, g)) (sym same) x
by_reset true ask f g h (false, u, is, x) =
    let e : (true, field_reset f) ≡ (false, u) = is in
    absurd (no_failure (ap (λ (p : Bool × Field). p.0) e))

abbrev or_else : RoundEnd → Option RoundEnd → RoundEnd
or_else e None = e
or_else e (Some d) = d

module _ (fsdi : ℕ) (talk : Talk) where
  abbrev at : Standing → Field → List Exchange → Lane
  at s f xs = record { standing = s; field = f; exchanges = xs }

  -- so many exchanges lead from one standing and field to another
  abbrev pub Leads : ℕ → Standing → Field → Standing → Field → Type 0
  Leads n s f t g = (xs : List Exchange) → (ys : List Exchange) × (lane_after fsdi talk n (at s f xs) ≡ at t g ys)

  pub leads_nowhere : (s : Standing) (f : Field) → Leads 0 s f s f
  leads_nowhere s f = λ xs. (xs, refl)

  pub leads_on : (m n : ℕ) (s t u : Standing) (f g h : Field) → Leads m s f t g → Leads n t g u h → Leads (m + n) s f u h
  leads_on m n s t u f g h x y = λ xs.
      let a = x xs in
      let b = y a.0 in
      (b.0, times_more (lane_step fsdi talk) m n (at s f xs) ∙ (ap (λ l. lane_after fsdi talk n l) a.1 ∙ b.1))

  -- one exchange
  leads_once : (s : Standing) (f g : Field) (ask : Ask) (h : Heard) → asked_by fsdi s.doing ≡ Some ask → field_answers ask f ≡ (Some h, g)
      → Leads 1 s f (after_hearing fsdi talk h s) g
  leads_once s f g ask h asks answers = λ xs. (
    xs ++ record { asked = ask; heard = h } ∷ [],
    ap (λ o. goes_by fsdi talk o (at s f xs)) asks ∙ ap (λ a. exchanged fsdi talk ask a (at s f xs)) answers,
  )

  -- at most n exchanges lead there
  abbrev pub LeadsIn : ℕ → Standing → Field → Standing → Field → Type 0
  LeadsIn n s f t g = (k : ℕ) × (k ≤ n) × Leads k s f t g

  stays_in : (n : ℕ) (s : Standing) (f : Field) → LeadsIn n s f s f
  stays_in n s f = (0, omega arith, leads_nowhere s f)

  then_in : (n : ℕ) (s t u : Standing) (f g h : Field) → Leads 1 s f t g → LeadsIn n t g u h → LeadsIn (suc n) s f u h
  then_in n s t u f g h a b = let few : b.0 ≤ n = b.1 in (1 + b.0, omega (arith, few), leads_on 1 b.0 s t u f g h a b.2)

  module _ (results : List Result) where
    -- ---- a poll round

    abbrev round_over : RoundEnd → Standing
    round_over e = standing talk (results ++ Round e ∷ []) (link_by fsdi e)

    abbrev LeadsFrom : ℕ → RoundTurn Stage → Field → RoundEnd → Field → Type 0
    LeadsFrom n turn f e g = LeadsIn n (after_stage fsdi talk results turn) f (round_over e) g

    ended : (n : ℕ) (f g : Field) (e d : RoundEnd) → Some e ≡ Some d → g ≡ f → LeadsFrom n (Ends d) f e g
    ended n f g e d is same =
        let ends : e ≡ d = ap (λ o. or_else e o) is in
        subst (λ v. LeadsFrom n (Ends d) f e v) (sym same) (subst (λ c. LeadsFrom n (Ends d) f c f) (sym ends) (stays_in n (round_over d) f))

    staged : (n : ℕ) (stage : Stage) (f u g : Field) (e : RoundEnd) (heard : Option Heard) (Then : Heard → Field → Option RoundEnd → Field → Type 0)
        → ((h : Heard) → Then h u (Some e) g → LeadsFrom n (round_hears stage h) u e g)
        → Exchanges (told field) f (round_asks fsdi stage) heard u → AfterExchange (told field) fsdi Then heard u (Some e) g → LeadsFrom (suc n) (Goes stage) f e g
    staged n stage f u g e None Then more x after = let clash : Some e ≡ None = after.0 in absurd (let b : ⊥ = cc in b)
    staged n stage f u g e (Some h) Then more x after =
        let s = after_stage fsdi talk results (Goes stage) in
        let ask = round_asks fsdi stage in
        then_in n s (after_hearing fsdi talk h s) (round_over e) f u g (leads_once s f u ask h refl (by_reset ask.reset ask f u h x)) (more h after)

    pub plays_lead : (n : ℕ) (turn : RoundTurn Stage) (f g : Field) (e : RoundEnd) → Plays (told field) fsdi n turn f (Some e) g → LeadsFrom n turn f e g
    unfolding Plays
    plays_lead zero (Goes stage) f g e x = absurd x
    plays_lead zero (Ends d) f g e x = ended zero f g e d x.0 x.1
    plays_lead (suc n) (Ends d) f g e x = ended (suc n) f g e d x.0 x.1
    plays_lead (suc n) (Goes stage) f g e x =
        staged n stage f x.1 g e x.0 (λ h. Plays (told field) fsdi n (round_hears stage h)) (λ h y. plays_lead n (round_hears stage h) x.1 g e y) x.2 x.3

    -- ---- a command

    abbrev LeadsBy : ℕ → LinkSetting → reader.ReaderTurn → Field → reader.ReaderTurn → Field → Type 0
    LeadsBy n set turn f last g = LeadsIn n (after_turn talk results set turn) f (after_turn talk results set last) g

    last_turn : (n : ℕ) (set : LinkSetting) (turn last : reader.ReaderTurn) (f g : Field) → last ≡ turn → g ≡ f → LeadsBy n set turn f last g
    last_turn n set turn last f g is same =
        subst (λ v. LeadsBy n set turn f last v) (sym same) (subst (λ z. LeadsBy n set turn f z f) (sym is) (stays_in n (after_turn talk results set turn) f))

    turned : (n : ℕ) (set : LinkSetting) (hs : List Heard) (turn last : reader.ReaderTurn) (f g : Field) → ((q : Reader) → Follows (told field) set hs q f last g → LeadsBy n set (Asks q) f last g)
        → FollowsOn (λ q v. Follows (told field) set hs q v last g) turn hs f last g → LeadsBy n set turn f last g
    turned n set hs (Asks q) last f g more x = more q x
    turned n set hs (Gives response q) last f g more x = last_turn n set (Gives response q) last f g x.1 x.2
    turned n set hs (Spends q) last f g more x = last_turn n set (Spends q) last f g x.1 x.2
    turned n set hs (Breaks q) last f g more x = last_turn n set (Breaks q) last f g x.1 x.2

    pub follows_lead : (set : LinkSetting) (hs : List Heard) (r : Reader) (f g : Field) (last : reader.ReaderTurn) → Follows (told field) set hs r f last g → LeadsBy (length hs) set (Asks r) f last g
    follows_lead set [] r f g last x = last_turn 0 set (Asks r) last f g x.0 x.1
    follows_lead set (h ∷ hs) r f g last (u, is, x) =
        let s = after_turn talk results set (Asks r) in
        let ask = asks_block set (asked r) in
        then_in (length hs) s (after_hearing fsdi talk h s) (after_turn talk results set last) f u g (leads_once s f u ask h refl is)
        (turned (length hs) set hs (turn_on set r h) last u g (λ q y. follows_lead set hs q u g last y) x)

    -- ---- the closing of a link

    pub closing_leads : (l : OpenLink) (f g : Field) (h : Heard) → SendsBlock (told field) l.set f Deselect (Some h) g
        → Leads 1 (record { results = results; doing = Closing l }) f (standing talk (results ++ Closed ∷ []) None) g
    closing_leads l f g h is = leads_once (record { results = results; doing = Closing l }) f g (asks_block l.set Deselect) h refl is
