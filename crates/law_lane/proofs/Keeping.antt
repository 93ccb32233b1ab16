-- A transaction that is over, or astray, stays so; hence what holds at its end holds whenever it is over.
use Rattle.std.proofs.Common.{◌≡◌, ◌≢◌, ℕ, zero, suc, ◌+◌, List, ◌++◌, refl, sym, ap, subst, ◌∙◌, arith, Option, Some, None}
use Rattle.ep_base.specs.Air.Heard.{Activated, RoundEnd}
use Rattle.ep_base.specs.Cards.CardAnswer.{Image}
use Rattle.ep_base.specs.Air.Medium.{told}
use Rattle.ep_base.specs.Cards.Field.{Field, field}
use Rattle.ep_base.specs.Poll.Radio.{Radio}
use Rattle.ep_rules.specs.EntryPoint.Talk.{Talk, ends_of}
use Rattle.ep_rules.specs.EntryPoint.TransportRun.{HearEnd, Whole}
use Rattle.ep_base.specs.Cards.Direct.{image_rules}
use Rattle.ep_rules.specs.EntryPoint.Perfect.{perfect, channel}
use Rattle.ep_claim.specs.Promise.Perfection.{Keeps}
use Rattle.ep_claim.specs.Lanes.Standing.{Doing, Rounds, Carries, Closing, Stopped, Astray, asked_by, ending_of}
use Rattle.law_lane.specs.Hearing.{HearsRounds}
use Rattle.ep_claim.specs.Lanes.Exchanges.{Lane, goes_by, lane_step, lane_after, opened_lane}
use Rattle.law_lane.specs.LaneLaw.{LaneEnds, LanesKeep}
use Rattle.law_lane.proofs.Moving.{times_more}
use Rattle.law_lane.specs.Lossless.{NoLoss}
use Rattle.law_lane.proofs.Ending.{whole_ends, lanes_end_law}

module _ (fsdi : ℕ) (talk : Talk) where
  -- a lane of which nothing is asked stays
  stays : (n : ℕ) (l : Lane) → asked_by fsdi l.standing.doing ≡ None → lane_after fsdi talk n l ≡ l
  stays zero l e = refl
  stays (suc n) l e = ap (λ o. lane_after fsdi talk n (goes_by fsdi talk o l)) e ∙ stays n l e

  -- two places of one lane at which nothing is asked are one
  one_end : (m n : ℕ) (l : Lane) → asked_by fsdi (lane_after fsdi talk m l).standing.doing ≡ None → asked_by fsdi (lane_after fsdi talk n l).standing.doing ≡ None
      → lane_after fsdi talk m l ≡ lane_after fsdi talk n l
  one_end m n l a b =
      let step = lane_step fsdi talk in
      let e : m + n ≡ n + m = omega arith in
      sym (stays n (lane_after fsdi talk m l) a) ∙ (sym (times_more step m n l) ∙ (ap (λ k. lane_after fsdi talk k l) e ∙ (times_more step n m l ∙ stays m (lane_after fsdi talk n l) b)))

none_asked : (fsdi : ℕ) (doing : Doing) (ending : HearEnd) → doing ≡ Stopped ending → asked_by fsdi doing ≡ None
none_asked fsdi doing ending e = ap (λ d. asked_by fsdi d) e

not_both : (doing : Doing) (ending : HearEnd) → doing ≡ Stopped ending → doing ≡ Astray → ⊥
not_both doing ending e d = let clash : Some ending ≡ None = ap (λ x. ending_of x) (sym e ∙ d) in cc

over_or_astray : (fsdi : ℕ) (doing : Doing) → doing ≢ Astray → asked_by fsdi doing ≡ None → (ending : HearEnd) × (doing ≡ Stopped ending)
over_or_astray fsdi (Rounds stage) led e = absurd (let g : ⊥ = cc in g)
over_or_astray fsdi (Carries l) led e = absurd (let g : ⊥ = cc in g)
over_or_astray fsdi (Closing l) led e = absurd (let g : ⊥ = cc in g)
over_or_astray fsdi (Stopped ending) led e = (ending, refl)
over_or_astray fsdi Astray led e = absurd (led refl)

ending_or : HearEnd → Option HearEnd → HearEnd
ending_or e None = e
ending_or e (Some d) = d

same_ending : (doing : Doing) (e d : HearEnd) → doing ≡ Stopped e → doing ≡ Stopped d → e ≡ d
unfolding ending_or
same_ending doing e d x y = ap (λ z. ending_or e (ending_of z)) (sym x ∙ y)

module _ (number_of : Activated → ℕ) (images : ℕ → Image) (talk : Talk) (s : Radio Field) where
  abbrev start : Lane
  start = opened_lane talk s.medium

  abbrev KeepsAt : Lane → HearEnd → Type 0
  KeepsAt l ending =
      HearsRounds (told field) s.fsdi talk None s.medium l.standing.results ending l.field
      × ((later : List RoundEnd) → Keeps talk l.standing.results l.field (perfect (image_rules number_of) talk (ends_of l.standing.results ++ later) (channel images)) ending)

  led : (n : ℕ) → LaneEnds number_of images talk s → (lane_after s.fsdi talk n start).standing.doing ≢ Astray
  led n r = λ astray.
      let l = lane_after s.fsdi talk n start in
      let none : asked_by s.fsdi l.standing.doing ≡ None = ap (λ d. asked_by s.fsdi d) astray in
      let same : l ≡ lane_after s.fsdi talk r.count start = one_end s.fsdi talk n r.count start none (none_asked s.fsdi (lane_after s.fsdi talk r.count start).standing.doing r.ending r.stopped) in
      not_both l.standing.doing r.ending (ap (λ k. k.standing.doing) same ∙ r.stopped) astray

  -- wherever it is over, it is over with that ending
  ends_same : (n : ℕ) (ending : HearEnd) (r : LaneEnds number_of images talk s) → (lane_after s.fsdi talk n start).standing.doing ≡ Stopped ending → ending ≡ r.ending
  ends_same n ending r is =
      let l = lane_after s.fsdi talk n start in
      let last = lane_after s.fsdi talk r.count start in
      let same : l ≡ last =
      one_end s.fsdi talk n r.count start (none_asked s.fsdi l.standing.doing ending is) (none_asked s.fsdi last.standing.doing r.ending r.stopped) in
      same_ending l.standing.doing ending r.ending is (ap (λ k. k.standing.doing) same ∙ r.stopped)

  kept : (n : ℕ) (ending : HearEnd) → LaneEnds number_of images talk s → (lane_after s.fsdi talk n start).standing.doing ≡ Stopped ending → KeepsAt (lane_after s.fsdi talk n start) ending
  kept n ending r is =
      let l = lane_after s.fsdi talk n start in
      let last = lane_after s.fsdi talk r.count start in
      let same : l ≡ last =
      one_end s.fsdi talk n r.count start (none_asked s.fsdi l.standing.doing ending is) (none_asked s.fsdi last.standing.doing r.ending r.stopped) in
      let ends : ending ≡ r.ending = ends_same n ending r is in
      subst (λ e. KeepsAt l e) (sym ends) (subst (λ k. KeepsAt k r.ending) (sym same) (r.hears, r.keeps))

pub no_loss_law : NoLoss
no_loss_law number_of images talk s new carried closes all =
    let r = whole_ends number_of images talk s new carried closes in
    let whole : (n : ℕ) (ending : HearEnd) → (lane_after s.fsdi talk n (opened_lane talk s.medium)).standing.doing ≡ Stopped ending → ending ≡ Whole =
    λ n ending is. ends_same number_of images talk s n ending r.0 is ∙ r.1 all in
    record { ends = λ e. whole e.count e.ending e.stopped; stays = whole }

pub lanes_keep_law : LanesKeep
lanes_keep_law number_of images talk s n new carried closes =
    let r = lanes_end_law number_of images talk s new carried closes in
    let not_astray = led number_of images talk s n r in
    record {
      led = not_astray;
      over = λ e. over_or_astray s.fsdi (lane_after s.fsdi talk n (opened_lane talk s.medium)).standing.doing not_astray e;
      hears = λ ending is. (kept number_of images talk s n ending r is).0;
      keeps = λ ending later is. (kept number_of images talk s n ending r is).1 later;
    }
