-- What is written when a transaction is begun, and what of a lane's text comes after it.
use Rattle.std.proofs.Common.{◌≡◌, ℕ, ◌+◌, List, [], ◌∷◌, ◌++◌, map, refl, sym, ap, subst, ◌∙◌, true, false}
use Rattle.std.specs.Prelude.{Option, Some, None, is_some}
use Rattle.std.proofs.lemmas.List.{append-nil}
use Rattle.ep_rules.specs.EntryPoint.Configuration.{Config}
use Rattle.ep_base.specs.Air.Heard.{Ask}
use Rattle.ep_base.specs.Cards.Field.{Field}
use Rattle.ep_rules.specs.EntryPoint.Kernel.{Scripted}
use Rattle.ep_rules.specs.EntryPoint.PreProcessing.{prepared}
use Rattle.ep_rules.specs.EntryPoint.Event.{Event as EventData}
use Rattle.ep_rules.specs.EntryPoint.Talk.{Talk}
use Rattle.ep_claim.specs.Text.WrittenText.{event_lines}
use Rattle.entry_session.specs.Perfect.{talk_of}
use Rattle.ep_claim.specs.Lanes.Standing.{asked_by, events_of, started}
use Rattle.ep_claim.specs.Lanes.LaneText.{Job, Piece, opens, opens_by}
use Rattle.ep_lanes.specs.Lanes.{LaneHeld, no_lane}
use Rattle.ep_lanes.specs.Turns.{Tells}
use Rattle.ep_lanes.specs.declared.exchange.Turned.{Turned}
use Rattle.ep_lanes.specs.declared.exchange.Turned.TheVariants.{Goes, Ended}
use Rattle.pre_processing.specs.Preparation.{Preparation}
use Rattle.scenario.specs.Jobs.{job_of, talk_in}
use Rattle.scenario.specs.Scenario.{Work}
use Rattle.lane_run.proofs.Talks.{same_talk}
use Rattle.lane_run.specs.Begun.{BegunLane, asked_first, begun_text, closing_text}
use Rattle.lane_run.specs.Shows.{FitsLane, ShowsLane}
use Rattle.lane_run.specs.Works.{LaneWork, jobs_of}

-- Nothing is asked where the transaction ended, and else something is.
pub asked_when : (fsdi : ℕ) (talk : Talk) (end : _) → Tells (Ended end) fsdi talk (started talk) → asked_by fsdi (started talk).doing ≡ None
asked_when fsdi talk end h = ap (λ d. asked_by fsdi d) h.stopped

module _ (lane txn : ℕ) (j : Job) where
  goes_text : (o : Option Ask) → is_some o ≡ true → begun_text lane txn j o ≡ event_lines lane txn (events_of j.talk (started j.talk)) ++ []
  goes_text (Some ask) e = sym (append-nil (event_lines lane txn (events_of j.talk (started j.talk))))
  goes_text None e = let never : false ≡ true = e in cc

  said_first : (fsdi : ℕ) (turned : Turned) → Tells turned fsdi j.talk (started j.talk)
      → begun_text lane txn j (asked_first fsdi j) ≡ event_lines lane txn (events_of j.talk (started j.talk)) ++ closing_text turned lane txn j.field.log
  said_first fsdi Goes h = goes_text (asked_first fsdi j) h
  said_first fsdi (Ended end) h = ap (λ o. begun_text lane txn j o) (asked_when fsdi j.talk end h)

  -- what comes after what is written when the transaction is begun
  abbrev pub begun_more : Option Ask → Piece → List ℕ
  begun_more (Some ask) rest = []
  begun_more None rest = rest.text

  pub opens_split : (left : List Job) (rest : Piece) (o : Option Ask)
      → (opens_by lane txn j left rest o).text ≡ begun_text lane txn j o ++ begun_more o rest
  opens_split left rest (Some ask) = sym (append-nil (event_lines lane txn (events_of j.talk (started j.talk))))
  opens_split left rest None = refl

  pub more_passed : (rest : Piece) (o : Option Ask) → false ≡ is_some o → begun_more o rest ≡ rest.text
  more_passed rest None e = refl
  more_passed rest (Some ask) e = let never : false ≡ true = e in cc

  pub more_none : (rest : Piece) (o : Option Ask) → true ≡ is_some o → begun_more o rest ≡ []
  more_none rest (Some ask) e = refl
  more_none rest None e = let never : true ≡ false = e in cc

  pub going_passed : (left : List Job) (rest : Piece) (o : Option Ask) → false ≡ is_some o → (opens_by lane txn j left rest o).going ≡ rest.going
  going_passed left rest None e = refl
  going_passed left rest (Some ask) e = let never : false ≡ true = e in cc

-- The text of a transaction that is begun: the lines of its events, and those of its log where it has ended.
pub first_text : (settings : Config) (fsdi lane n txn : ℕ) (w v : Work) (p : Preparation) (turned : Turned) (said : List EventData) → w ≡ v
    → p.list ≡ prepared settings w.txn_type w.amount → p.txn_type ≡ w.txn_type → p.amount ≡ w.amount → n ≡ txn
    → said ≡ events_of (talk_of p w.scripts) (started (talk_of p w.scripts)) → Tells turned fsdi (talk_of p w.scripts) (started (talk_of p w.scripts))
    → begun_text lane txn (job_of settings v) (asked_first fsdi (job_of settings v)) ≡ event_lines lane n said ++ closing_text turned lane n w.field.log
first_text settings fsdi lane n txn w v p turned said e l t a number told tells =
    let talk = same_talk settings w v p e l t a in
    said_first lane txn (job_of settings v) fsdi turned (subst (λ (x : Talk). Tells turned fsdi x (started x)) talk tells)
    ∙ ap (λ log. event_lines lane txn (events_of (talk_in settings v) (started (talk_in settings v))) ++ closing_text turned lane txn log)
    (ap (λ (x : Work). x.field.log) (sym e))
    ∙ ap (λ said. event_lines lane txn said ++ closing_text turned lane txn w.field.log) (sym (told ∙ ap (λ (x : Talk). events_of x (started x)) talk))
    ∙ ap (λ k. event_lines lane k said ++ closing_text turned lane k w.field.log) (sym number)

module _ (settings : Config) (fsdi lane : ℕ) where
  -- the piece with which a lane's next transactions are opened
  abbrev pub here : LaneWork → Piece
  here work = opens fsdi lane (work.txn + 1) (jobs_of settings work)

  module _ (w : Work) (work taken : LaneWork) (left : work.left ≡ w ∷ taken.left) (number : taken.txn ≡ work.txn + 1) where
    next_is : here work ≡ opens_by lane taken.txn (job_of settings w) (jobs_of settings taken) (here taken) (asked_first fsdi (job_of settings w))
    next_is =
        ap (λ ws. opens fsdi lane (work.txn + 1) (map (job_of settings) ws)) left
        ∙ ap (λ n. opens_by lane n (job_of settings w) (jobs_of settings taken) (opens fsdi lane (n + 1) (jobs_of settings taken))
        (asked_first fsdi (job_of settings w))) (sym number)

    pub text_split : (here work).text ≡ begun_text lane taken.txn (job_of settings w) (asked_first fsdi (job_of settings w))
        ++ begun_more lane taken.txn (job_of settings w) (asked_first fsdi (job_of settings w)) (here taken)
    text_split =
        ap (λ (p : Piece). p.text) next_is
        ∙ opens_split lane taken.txn (job_of settings w) (jobs_of settings taken) (here taken) (asked_first fsdi (job_of settings w))

    module _ (plays : Option Field → Field → Type 0) (held : LaneHeld Scripted) (begun : LaneWork) where
      same_rest : BegunLane plays settings fsdi w held taken begun false → here taken ≡ here begun
      same_rest b =
          ap (λ ws. opens fsdi lane (taken.txn + 1) (map (job_of settings) ws)) (sym b.left)
          ∙ ap (λ n. opens fsdi lane (n + 1) (jobs_of settings begun)) (sym b.number)

      -- one that asks nothing is passed over
      pub text_passed : BegunLane plays settings fsdi w held taken begun false
          → (here work).text ≡ begun_text lane taken.txn (job_of settings w) (asked_first fsdi (job_of settings w)) ++ (here begun).text
      text_passed b =
          text_split
          ∙ ap (λ l. begun_text lane taken.txn (job_of settings w) (asked_first fsdi (job_of settings w)) ++ l)
          (more_passed lane taken.txn (job_of settings w) (here taken) (asked_first fsdi (job_of settings w)) b.asked
          ∙ ap (λ (p : Piece). p.text) (same_rest b))

      pub going_after : BegunLane plays settings fsdi w held taken begun false → (here work).going ≡ (here begun).going
      going_after b =
          ap (λ (p : Piece). p.going) next_is
          ∙ going_passed lane taken.txn (job_of settings w) (jobs_of settings taken) (here taken) (asked_first fsdi (job_of settings w)) b.asked
          ∙ ap (λ (p : Piece). p.going) (same_rest b)

      -- one that asks something is where the lane stands
      pub text_begun : BegunLane plays settings fsdi w held taken begun true
          → (here work).text ≡ begun_text lane taken.txn (job_of settings w) (asked_first fsdi (job_of settings w)) ++ []
      text_begun b =
          text_split
          ∙ ap (λ l. begun_text lane taken.txn (job_of settings w) (asked_first fsdi (job_of settings w)) ++ l)
          (more_none lane taken.txn (job_of settings w) (here taken) (asked_first fsdi (job_of settings w)) b.asked)

      shows_by : BegunLane plays settings fsdi w held taken begun true → held.live ≡ true → (o : Option Ask) → true ≡ is_some o
          → ShowsLane plays settings fsdi held begun (opens_by lane taken.txn (job_of settings w) (jobs_of settings taken) (here taken) o).going
      shows_by b live (Some ask) e = record {
        live = live;
        opened = b.opened;
        stands = b.stands;
        field = b.field.1;
        number = b.number;
        left = ap (λ ws. map (job_of settings) ws) b.left;
      }
      shows_by b live None e = let never : true ≡ false = e in cc

      pub shows_begun : BegunLane plays settings fsdi w held taken begun true → held.live ≡ true → ShowsLane plays settings fsdi held begun (here work).going
      shows_begun b live =
          subst (λ (p : Piece). ShowsLane plays settings fsdi held begun p.going) (sym next_is) (shows_by b live (asked_first fsdi (job_of settings w)) b.asked)

      pub fits_begun : BegunLane plays settings fsdi w held taken begun true → held.live ≡ true → FitsLane held begun
      fits_begun b live = record { opened = b.opened ∙ sym live; field = b.field.0 ∙ sym live }

  -- none is left
  pub nothing_here : (work : LaneWork) → work.left ≡ [] → here work ≡ record { text = []; going = None }
  nothing_here work none = ap (λ ws. opens fsdi lane (work.txn + 1) (map (job_of settings) ws)) none

-- A lane that has ended has nothing open.
pub fits_ended : (held : LaneHeld Scripted) (work : LaneWork) → held ≡ no_lane → work.field ≡ None → FitsLane held work
fits_ended held work ended none = record {
  opened = ap (λ (l : LaneHeld Scripted). is_some l.transaction) ended ∙ sym (ap (λ (l : LaneHeld Scripted). l.live) ended);
  field = ap is_some none ∙ sym (ap (λ (l : LaneHeld Scripted). l.live) ended);
}
