-- The exchanges of a transaction that is over can be cut, and those of one that isn't can be completed.
use Rattle.std.proofs.Common.{◌≡◌, ℕ, zero, suc, ◌+◌, false, List, [], ◌∷◌, ◌++◌, Option, Some, None, refl, sym, ap, ◌∙◌, subst, append_assoc, append-nil, arith}
use Rattle.ep_base.specs.Air.Heard.{Ask}
use Rattle.ep_rules.specs.EntryPoint.Talk.{Talk}
use Rattle.ep_rules.specs.EntryPoint.TransportRun.{HearEnd, Whole, AtLink, AtBreach, AtDevice}
use Rattle.ep_claim.specs.Promise.Perfection.{Keeps}
use Rattle.ep_claim.specs.Promise.Transaction.{Cards, cards_in, radio_of, perfect_at}
use Rattle.ep_claim.specs.Lanes.Standing.{Doing, Stopped, asked_by}
use Rattle.ep_claim.specs.Lanes.Exchanges.{Exchange, Lane, field_answers, or_silence, opened_lane, goes_by, lane_step, lane_after}
use Rattle.ep_claim.specs.Lanes.LaneText.{Job}
use Rattle.ep_claim.specs.Lanes.Telling.{job_after, IsOverAt}
use Rattle.law_lane.proofs.Ending.{lanes_end_law}
use Rattle.law_lane.proofs.Following.{exchanges_made_law}
use Rattle.law_lane.proofs.Keeping.{lanes_keep_law}
use Rattle.law_lane.proofs.Moving.{times_more}
use Rattle.trace_check.specs.Lines.{Line}
use Rattle.trace_check.specs.Allowed.{IsCut, NoLine}
use Rattle.law_check.specs.Allowing.{MayBeTraced, exchange_lines, TransactionsAreCut}
use Rattle.law_check.proofs.Following.{Orderly, Completes, all_cut}

pub lines_append : (xs ys : List Exchange) → exchange_lines (xs ++ ys) ≡ exchange_lines xs ++ exchange_lines ys
lines_append [] ys = refl
lines_append (x ∷ xs) ys = ap (λ (ls : List Line). record { wave = x.asked.wave; frame = x.asked.bytes; wait = x.asked.wait; heard = x.heard } ∷ ls) (lines_append xs ys)

module _ (fsdi : ℕ) (talk : Talk) where
  -- a lane of which nothing is asked stays
  stays : (n : ℕ) (l : Lane) → asked_by fsdi l.standing.doing ≡ None → lane_after fsdi talk n l ≡ l
  stays zero l e = refl
  stays (suc n) l e = ap (λ o. lane_after fsdi talk n (goes_by fsdi talk o l)) e ∙ stays n l e

  -- the exchanges so far stay
  abbrev Grows : Lane → Lane → Type 0
  Grows l m = (more : List Exchange) × (m.exchanges ≡ l.exchanges ++ more)

  grows_by : (o : Option Ask) (l : Lane) → Grows l (goes_by fsdi talk o l)
  grows_by None l = ([], sym (append-nil l.exchanges))
  grows_by (Some ask) l = (record { asked = ask; heard = or_silence (field_answers ask l.field).0 } ∷ [], refl)

  grows : (n : ℕ) (l : Lane) → Grows l (lane_after fsdi talk n l)
  grows zero l = ([], sym (append-nil l.exchanges))
  grows (suc n) l =
      let next = lane_step fsdi talk l in
      let now : Grows l next = grows_by (asked_by fsdi l.standing.doing) l in
      let later = grows n next in
      (now.0 ++ later.0, later.1 ∙ (ap (λ (xs : List Exchange). xs ++ later.0) now.1 ∙ append_assoc l.exchanges now.0 later.0))

module _ (fsdi : ℕ) (j : Job) (may : MayBeTraced fsdi j) where
  abbrev cards : Cards
  cards = cards_in j

  -- it ends whole, or with a link that failed
  by_ending : (ending : HearEnd) (n : ℕ) (rest : List Line) → Keeps j.talk (job_after fsdi j n).standing.results (job_after fsdi j n).field (perfect_at fsdi j cards n []) ending
      → IsCut fsdi rest → Completes fsdi (Stopped ending) rest
  by_ending Whole n rest keeps cut = cut
  by_ending AtLink n rest keeps cut = cut
  by_ending AtBreach n rest keeps cut = absurd keeps
  by_ending AtDevice n rest keeps cut = absurd keeps

  orderly : Orderly false j.talk
  orderly = record { legal = may.ready.carried.legal; closes = may.ready.closes; opened = may.closes }

  -- once it is over, what can be cut can follow
  pub over_cut : (n : ℕ) (rest : List Line) → IsOverAt fsdi j n → IsCut fsdi rest → IsCut fsdi (exchange_lines (job_after fsdi j n).exchanges ++ rest)
  over_cut n rest over cut =
      let l = job_after fsdi j n in
      let laws = lanes_keep_law cards.number_of cards.images j.talk (radio_of fsdi j) n may.ready.new may.ready.carried may.ready.closes in
      let ends = laws.over over in
      let here : Completes fsdi (Stopped ends.0) rest = by_ending ends.0 n rest (laws.keeps ends.0 [] ends.1) cut in
      all_cut fsdi j.talk l.exchanges l.standing j.field l.field rest orderly (exchanges_made_law fsdi j.talk j.field n)
      (subst (λ (d : Doing). Completes fsdi d rest) (sym ends.1) here)

  -- after any count of exchanges some lines complete them
  pub completed : (n : ℕ) → (more : List Line) × IsCut fsdi (exchange_lines (job_after fsdi j n).exchanges ++ more)
  completed n =
      let start = opened_lane j.talk j.field in
      let ends = lanes_end_law cards.number_of cards.images j.talk (radio_of fsdi j) may.ready.new may.ready.carried may.ready.closes in
      let last = job_after fsdi j ends.count in
      let none : asked_by fsdi last.standing.doing ≡ None = ap (λ (d : Doing). asked_by fsdi d) ends.stopped in
      let e : n + ends.count ≡ ends.count + n = omega arith in
      let same : job_after fsdi j (n + ends.count) ≡ last =
      ap (λ k. job_after fsdi j k) e ∙ (times_more (lane_step fsdi j.talk) ends.count n start ∙ stays fsdi j.talk n last none) in
      let grown = grows fsdi j.talk ends.count (job_after fsdi j n) in
      let is : last.exchanges ≡ (job_after fsdi j n).exchanges ++ grown.0 =
      ap (λ (l : Lane). l.exchanges) (sym same ∙ times_more (lane_step fsdi j.talk) n ends.count start) ∙ grown.1 in
      let whole : IsCut fsdi (exchange_lines last.exchanges ++ []) = over_cut ends.count [] none (NoLine [] refl) in
      let lines : exchange_lines last.exchanges ++ [] ≡ exchange_lines (job_after fsdi j n).exchanges ++ exchange_lines grown.0 =
      append-nil (exchange_lines last.exchanges) ∙ (ap exchange_lines is ∙ lines_append (job_after fsdi j n).exchanges grown.0) in
      (exchange_lines grown.0, subst (λ ls. IsCut fsdi ls) lines whole)

pub transactions_cut_law : TransactionsAreCut
transactions_cut_law fsdi j n may over =
    subst (λ ls. IsCut fsdi ls) (append-nil (exchange_lines (job_after fsdi j n).exchanges)) (over_cut fsdi j may n [] over (NoLine [] refl))
