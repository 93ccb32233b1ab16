-- What follows once a transaction has ended.
use Rattle.std.proofs.Common.{◌≡◌, ℕ, ◌+◌, List, ◌++◌, map, sym, ap, subst, ◌∙◌}
use Rattle.std.specs.Prelude.{Option, Result, Ok, Err, OnOk, OnErr}
use Rattle.std.specs.Io.KnownBytes.{Appends}
use Rattle.ep_rules.specs.EntryPoint.Configuration.{Config}
use Rattle.ep_base.specs.Cards.Field.{Field}
use Rattle.ep_base.specs.Streams.Io.{AppendsPrefix}
use Rattle.ep_rules.specs.EntryPoint.Kernel.{Scripted}
use Rattle.ep_claim.specs.Text.WrittenText.{log_lines}
use Rattle.ep_base.proofs.Known.{appends_more}
use Rattle.ep_claim.specs.Lanes.Exchanges.{Lane}
use Rattle.ep_claim.specs.Lanes.Standing.{asked_by}
use Rattle.ep_claim.specs.Lanes.LaneText.{Going, Piece, after_text, goes_on, opens}
use Rattle.ep_lanes.specs.Lanes.{LaneHeld}
use Rattle.ep_lanes.specs.declared.exchange.Turned.{Turned}
use Rattle.ep_lanes.specs.declared.exchange.Turned.TheVariants.{Ended}
use Rattle.lane_run.specs.Shows.{ShowsLane}
use Rattle.lane_run.specs.Turned.{IsAfter, Wrote}
use Rattle.scenario.specs.Jobs.{job_of}
use Rattle.lane_run.specs.Works.{LaneWork, jobs_of}
use Rattle.lane_run.proofs.Appending.{prefix_front, prefix_more}
use Rattle.lane_run.proofs.Beginning.{here}

module _ (plays : Option Field → Field → Type 0) (settings : Config) (fsdi lane n : ℕ) (work taken : LaneWork) (left : taken.left ≡ work.left) (same : taken.txn ≡ work.txn)
    (number : n ≡ taken.txn)
    (records : List (ℕ × List ℕ)) (log_is : (f : Field) → plays work.field f → records ≡ f.log) where
  same_here : here settings fsdi lane taken ≡ here settings fsdi lane work
  same_here =
      ap (λ ws. opens fsdi lane (taken.txn + 1) (map (job_of settings) ws)) left
      ∙ ap (λ k. opens fsdi lane (k + 1) (jobs_of settings work)) same

  lines_are : (f : Field) → plays work.field f → log_lines lane n records ≡ log_lines lane work.txn f.log
  lines_are f e = ap (λ k. log_lines lane k records) (number ∙ same) ∙ ap (λ l. log_lines lane work.txn l) (log_is f e)

  -- the log was written, and then the lane's next transactions were opened
  pub closed_whole : {T E : Type 0} (r : Result T E) (held : LaneHeld Scripted) (begun : LaneWork) (a b w : Option (List ℕ))
      → Appends a b (log_lines lane n records)
      → OnOk r (Appends b w (here settings fsdi lane taken).text) → OnOk r (ShowsLane plays settings fsdi held begun (here settings fsdi lane taken).going)
      → OnOk r ((f : Field) → plays work.field f
      → Wrote plays settings fsdi held begun a w (after_text (log_lines lane work.txn f.log) (here settings fsdi lane work)))
  closed_whole (Err e) held begun a b w log text shows = tt
  closed_whole (Ok v) held begun a b w log text shows = λ f e. record {
    text =
        appends_more a b w (log_lines lane work.txn f.log) (here settings fsdi lane work).text
        (subst (λ l. Appends a b l) (lines_are f e) log)
        (subst (λ (p : Piece). Appends b w p.text) same_here text);
    shows = subst (λ (p : Piece). ShowsLane plays settings fsdi held begun p.going) same_here shows;
  }

  pub closed_part : {T E : Type 0} (r : Result T E) (a b w : Option (List ℕ)) → Appends a b (log_lines lane n records)
      → OnErr r (AppendsPrefix b w (here settings fsdi lane taken).text)
      → OnErr r ((f : Field) → plays work.field f → AppendsPrefix a w (log_lines lane work.txn f.log ++ (here settings fsdi lane work).text))
  closed_part (Ok v) a b w log text = tt
  closed_part (Err x) a b w log text = λ f e.
      prefix_more a b w (log_lines lane work.txn f.log) (here settings fsdi lane work).text
      (subst (λ l. Appends a b l) (lines_are f e) log)
      (subst (λ (p : Piece). AppendsPrefix b w p.text) same_here text)

  -- the log wasn't written whole
  pub closed_front : (a w : Option (List ℕ)) → AppendsPrefix a w (log_lines lane n records)
      → (f : Field) → plays work.field f → AppendsPrefix a w (log_lines lane work.txn f.log ++ (here settings fsdi lane work).text)
  closed_front a w part f e =
      prefix_front a w (log_lines lane work.txn f.log) (here settings fsdi lane work).text (subst (λ l. AppendsPrefix a w l) (lines_are f e) part)

module _ (plays : Option Field → Field → Type 0) (settings : Config) (fsdi lane : ℕ) (held : LaneHeld Scripted) (work : LaneWork) (g : Going) (l : Lane) where
  -- what follows the end is the log and what comes next
  ended_piece : (end : _) → IsAfter plays settings fsdi held work (Ended end) g l
      → goes_on fsdi lane g l (asked_by fsdi l.standing.doing) ≡ after_text (log_lines lane work.txn l.field.log) (here settings fsdi lane work)
  ended_piece end h =
      ap (λ o. goes_on fsdi lane g l o) (ap (λ d. asked_by fsdi d) h.tells.stopped)
      ∙ ap (λ js. after_text (log_lines lane g.txn l.field.log) (opens fsdi lane (g.txn + 1) js)) (sym h.left)
      ∙ ap (λ k. after_text (log_lines lane k l.field.log) (opens fsdi lane (k + 1) (jobs_of settings work))) (sym h.number)

  pub ended_wrote : (turned : Turned) (end : _) → turned ≡ Ended end → (held' : LaneHeld Scripted) (work' : LaneWork) (a w : Option (List ℕ))
      → ((f : Field) → plays work.field f
      → Wrote plays settings fsdi held' work' a w (after_text (log_lines lane work.txn f.log) (here settings fsdi lane work)))
      → IsAfter plays settings fsdi held work turned g l → Wrote plays settings fsdi held' work' a w (goes_on fsdi lane g l (asked_by fsdi l.standing.doing))
  ended_wrote turned end is held' work' a w wrote h =
      subst (λ (p : Piece). Wrote plays settings fsdi held' work' a w p)
      (sym (ended_piece end (subst (λ t. IsAfter plays settings fsdi held work t g l) is h)))
      (wrote l.field h.field)

  pub ended_part : (turned : Turned) (end : _) → turned ≡ Ended end → (a w : Option (List ℕ))
      → ((f : Field) → plays work.field f → AppendsPrefix a w (log_lines lane work.txn f.log ++ (here settings fsdi lane work).text))
      → IsAfter plays settings fsdi held work turned g l → AppendsPrefix a w (goes_on fsdi lane g l (asked_by fsdi l.standing.doing)).text
  ended_part turned end is a w part h =
      subst (λ (p : Piece). AppendsPrefix a w p.text)
      (sym (ended_piece end (subst (λ t. IsAfter plays settings fsdi held work t g l) is h)))
      (part l.field h.field)
