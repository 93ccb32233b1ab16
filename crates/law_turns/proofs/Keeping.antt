-- The transactions that a lane tells have the promise, and so has the lane.
use Rattle.std.proofs.Common.{◌≡◌, ◌≢◌, ◌⊎◌, inl, inr, ℕ, ◌+◌, Bool, false, List, [], ◌∷◌, ◌++◌, All, refl, sym, ap, subst, ◌∙◌}
use Rattle.std.proofs.lemmas.List.Elements.{All-head, All-tail}
use Rattle.ep_base.specs.Air.Fates.{AllPass}
use Rattle.ep_base.specs.Air.Heard.{RoundEnd}
use Rattle.ep_rules.specs.EntryPoint.Event.{Event as EventData}
use Rattle.ep_rules.specs.EntryPoint.Talk.{Nothing, so_far}
use Rattle.ep_rules.specs.EntryPoint.TransportRun.{HearEnd, Whole, AtLink, AtBreach, AtDevice, said_for}
use Rattle.ep_claim.specs.Text.WrittenText.{event_lines, log_lines, lane_text_from}
use Rattle.ep_claim.specs.Promise.Perfection.{EndsInLink, Keeps}
use Rattle.ep_claim.specs.Lanes.Exchanges.{Lane, opened_lane}
use Rattle.ep_claim.specs.Lanes.Standing.{Doing, Stopped, events_by, ending_of}
use Rattle.law_lane.proofs.Keeping.{lanes_keep_law, no_loss_law}
use Rattle.ep_claim.specs.Lanes.LaneText.{Job}
use Rattle.ep_claim.specs.Lanes.Telling.{job_after, IsOverAt, job_text, whole_text, AreTold}
use Rattle.ep_claim.specs.Promise.Transaction.{Cards, radio_of, IsReady, events_at, log_at, perfect_at, perfect_said, TransactionPromise, TransactionsKeep}
use Rattle.ep_claim.specs.Promise.Lane.{AreReady, AreKept, lane_lines, ends_at, perfect_ends, EveryFramePasses, ToldKeep}
use Rattle.law_turns.proofs.Least.{Least, least}
use Rattle.law_turns.proofs.Telling.{exchanges_tell_events}
use Rattle.law_turns.proofs.Thirds.{third_lem, only_third_lem, two_bad_lem}

-- ---- by what ended it

module _ (fsdi : ℕ) (j : Job) (cards : Cards) (n : ℕ) where
  abbrev last : Lane
  last = job_after fsdi j n

  abbrev KeepsFor : HearEnd → Type 0
  KeepsFor ending = (later : List RoundEnd) → Keeps j.talk last.standing.results last.field (perfect_at fsdi j cards n later) ending

  -- the events are those that are said with this end
  said_is : (ending : HearEnd) → last.standing.doing ≡ Stopped ending → events_at fsdi j n ≡ said_for j.talk last.standing.results ending
  said_is ending e = ap (λ (d : Doing). events_by j.talk last.standing.results (ending_of d)) e

  reported_by : (ending : HearEnd) → last.standing.doing ≡ Stopped ending → KeepsFor ending → ending ≢ AtLink → (later : List RoundEnd)
      → events_at fsdi j n ≡ perfect_said j (perfect_at fsdi j cards n later)
  reported_by Whole e keeps other later = let k = keeps later in said_is Whole e ∙ k.events
  reported_by AtLink e keeps other later = absurd (other refl)
  reported_by AtBreach e keeps other later = absurd (keeps later)
  reported_by AtDevice e keeps other later = absurd (keeps later)

  executed_by : (ending : HearEnd) → KeepsFor ending → ending ≢ AtLink → (later : List RoundEnd)
      → log_at fsdi j n ≡ (perfect_at fsdi j cards n later).commands
  executed_by Whole keeps other later = let k = keeps later in k.executed
  executed_by AtLink keeps other later = absurd (other refl)
  executed_by AtBreach keeps other later = absurd (keeps later)
  executed_by AtDevice keeps other later = absurd (keeps later)

  finished_by : (ending : HearEnd) → KeepsFor ending → ending ≢ AtLink → (so_far j.talk last.standing.results).wish ≡ Nothing
  finished_by Whole keeps other = let k = keeps [] in k.over
  finished_by AtLink keeps other = absurd (other refl)
  finished_by AtBreach keeps other = absurd (keeps [])
  finished_by AtDevice keeps other = absurd (keeps [])

  abbrev IsFirstPart : List EventData → List RoundEnd → Type 0
  IsFirstPart events later = EndsInLink j.talk last.standing.results events (log_at fsdi j n) (perfect_at fsdi j cards n later)

  first_by : (ending : HearEnd) → last.standing.doing ≡ Stopped ending → KeepsFor ending → ending ≡ AtLink → (later : List RoundEnd)
      → IsFirstPart (events_at fsdi j n) later
  first_by ending e keeps is later =
      let at : last.standing.doing ≡ Stopped AtLink = e ∙ ap (λ (x : HearEnd). Stopped x) is in
      let k : KeepsFor AtLink = subst KeepsFor is keeps in
      subst (λ events. IsFirstPart events later) (sym (said_is AtLink at)) (k later)

  no_breach_by : (ending : HearEnd) → KeepsFor ending → (ending ≡ Whole) ⊎ (ending ≡ AtLink)
  no_breach_by Whole keeps = inl refl
  no_breach_by AtLink keeps = inr refl
  no_breach_by AtBreach keeps = absurd (keeps [])
  no_breach_by AtDevice keeps = absurd (keeps [])

-- ---- one transaction

abbrev Counted : Bool → (fsdi lane txn : ℕ) → Job → ℕ → Type 0
Counted traced fsdi lane txn j n = Least traced fsdi lane txn j.talk (opened_lane j.talk j.field) n

counted : (traced : Bool) (fsdi lane txn : ℕ) (j : Job) (n : ℕ) → IsOverAt fsdi j n → Counted traced fsdi lane txn j n
counted traced fsdi lane txn j n over = least traced fsdi lane txn j.talk n (opened_lane j.talk j.field) over

promised_at : (traced : Bool) (fsdi lane txn : ℕ) (j : Job) (c : Cards) (n : ℕ) → IsReady fsdi j c → (least : Counted traced fsdi lane txn j n)
    → TransactionPromise fsdi j c least.count
promised_at traced fsdi lane txn j c n ready least =
    let count = least.count in
    let laws = lanes_keep_law c.number_of c.images j.talk (radio_of fsdi j) count ready.new ready.carried ready.closes in
    let ends = laws.over least.none in
    let keeps : KeepsFor fsdi j c count ends.0 = λ later. laws.keeps ends.0 later ends.1 in
    record {
      goes_on = least.goes_on;
      over = least.none;
      ending = ends.0;
      stopped = ends.1;
      reported = reported_by fsdi j c count ends.0 ends.1 keeps;
      executed = executed_by fsdi j c count ends.0 keeps;
      finished = finished_by fsdi j c count ends.0 keeps;
      first_part = first_by fsdi j c count ends.0 ends.1 keeps;
      third = third_lem fsdi j;
      only_third = only_third_lem fsdi j;
      at_most_two = two_bad_lem fsdi j;
      no_breach = no_breach_by fsdi j c count ends.0 keeps;
      lossless = λ all.
          let whole = no_loss_law c.number_of c.images j.talk (radio_of fsdi j) ready.new ready.carried ready.closes all in
          whole.stays count ends.0 ends.1;
    }

pub transactions_keep_law : TransactionsKeep
transactions_keep_law fsdi j cards n ready over =
    let least = counted false fsdi 1 1 j n over in
    (least.count, promised_at false fsdi 1 1 j cards n ready least, least.same_lane)

-- ---- a lane

abbrev Kept : Bool → (fsdi lane txn : ℕ) → List Job → List Cards → List ℕ → Type 0
Kept traced fsdi lane txn jobs cards text =
    (counts : List ℕ) × AreKept fsdi jobs cards counts × (text ≡ lane_lines traced fsdi lane txn jobs counts)

-- the text of a transaction is that of its least count
same_whole : (traced : Bool) (fsdi lane txn : ℕ) (j : Job) (n : ℕ) → (least : Counted traced fsdi lane txn j n)
    → whole_text traced fsdi lane txn j n ≡ whole_text traced fsdi lane txn j least.count
same_whole traced fsdi lane txn j n least =
    let opening = event_lines lane txn (events_at fsdi j 0) in
    ap (λ t. (opening ++ t) ++ log_lines lane txn (log_at fsdi j n)) (sym least.same_text)
    ∙ ap (λ (l : Lane). job_text traced fsdi lane txn j least.count ++ log_lines lane txn l.field.log) (sym least.same_lane)

kept_from : (traced : Bool) (fsdi lane : ℕ) (jobs : List Job) (cards : List Cards) (txn : ℕ) (text : List ℕ) → AreReady fsdi jobs cards
    → AreTold traced fsdi lane txn jobs text → Kept traced fsdi lane txn jobs cards text
kept_from traced fsdi lane [] [] txn text ready told = ([], (refl, refl), told)
kept_from traced fsdi lane [] (c ∷ cs) txn text ready told = absurd ready
kept_from traced fsdi lane (j ∷ js) [] txn text ready told = absurd ready
kept_from traced fsdi lane (j ∷ js) (c ∷ cs) txn text ready (n, rest, over, is, told) =
    let least = counted traced fsdi lane txn j n over in
    let more = kept_from traced fsdi lane js cs (txn + 1) rest ready.1 told in (
      least.count ∷ more.0,
      (promised_at traced fsdi lane txn j c n ready.0 least, more.1),
      is ∙ (ap (λ t. t ++ rest) (same_whole traced fsdi lane txn j n least)
          ∙ ap (λ t. whole_text traced fsdi lane txn j least.count ++ t) more.2),
    )

-- without trace lines it is the report of the events and logs
untraced_from : (fsdi lane : ℕ) (jobs : List Job) (counts : List ℕ) (txn : ℕ)
    → lane_lines false fsdi lane txn jobs counts ≡ lane_text_from lane txn (ends_at fsdi jobs counts)
untraced_from fsdi lane [] counts txn = refl
untraced_from fsdi lane (j ∷ js) [] txn = refl
untraced_from fsdi lane (j ∷ js) (n ∷ ns) txn =
    let events = exchanges_tell_events fsdi lane txn j.talk n (opened_lane j.talk j.field) in
    let log = log_lines lane txn (log_at fsdi j n) in
    ap (λ t. (t ++ log) ++ lane_lines false fsdi lane (txn + 1) js ns) events
    ∙ ap (λ t. (event_lines lane txn (events_at fsdi j n) ++ log) ++ t) (untraced_from fsdi lane js ns (txn + 1))

-- where every frame passes these are those of the perfect runs
whole_is_no_link : (ending : HearEnd) → ending ≡ Whole → ending ≢ AtLink
whole_is_no_link ending whole = λ link. let clash : Whole ≡ AtLink = sym whole ∙ link in cc

abbrev Passes : Job → Type 0
Passes j = AllPass j.field.air.fates

perfect_from : (fsdi : ℕ) (jobs : List Job) (cards : List Cards) (counts : List ℕ) → AreKept fsdi jobs cards counts → EveryFramePasses jobs
    → ends_at fsdi jobs counts ≡ perfect_ends fsdi jobs cards counts
perfect_from fsdi [] cards counts kept all = refl
perfect_from fsdi (j ∷ js) [] counts kept all = absurd kept
perfect_from fsdi (j ∷ js) (c ∷ cs) [] kept all = absurd kept
perfect_from fsdi (j ∷ js) (c ∷ cs) (n ∷ ns) (p, kept) all =
    let no_link = whole_is_no_link p.ending (p.lossless (All-head Passes j js all)) in
    let run = perfect_at fsdi j c n [] in
    let rest = ends_at fsdi js ns in
    ap (λ events. (events, log_at fsdi j n) ∷ rest) (p.reported no_link [])
    ∙ (ap (λ log. (perfect_said j run, log) ∷ rest) (p.executed no_link [])
    ∙ ap (λ more. (perfect_said j run, run.commands) ∷ more) (perfect_from fsdi js cs ns kept (All-tail Passes j js all)))

pub told_keep_law : ToldKeep
told_keep_law traced fsdi lane jobs cards text ready told =
    let kept = kept_from traced fsdi lane jobs cards 1 text ready told in
    let untraced = untraced_from fsdi lane jobs kept.0 1 in
    record {
      counts = kept.0;
      transactions = kept.1;
      lines = kept.2;
      untraced = untraced;
      lossless = λ all. untraced ∙ ap (λ ends. lane_text_from lane 1 ends) (perfect_from fsdi jobs cards kept.0 kept.1 all);
    }
