-- The text of lanes whose transactions may begin has the promise, where the probe gives on what it gets.
use Rattle.std.proofs.Common.{◌≡◌, ℕ, zero, suc, ◌+◌, Bool, true, false, List, [], ◌∷◌, length, map, All, refl, sym, ap, subst, ◌∙◌}
use Rattle.std.specs.Prelude.{◌==◌, if◌then◌else◌}
use Rattle.std.proofs.lemmas.List.Elements.{All-nil, All-head, All-tail}
use Rattle.ep_rules.specs.EntryPoint.Configuration.{Config}
use Rattle.ep_rules.specs.EntryPoint.Kernel.{scripted}
use Rattle.ep_claim.specs.Lanes.Steps.{times}
use Rattle.ep_claim.specs.Lanes.Exchanges.{field_answers, or_silence}
use Rattle.law_radio.proofs.Closings.{transaction_closes_law}
use Rattle.ep_rules.specs.EntryPoint.Bounds.{log_bound}
use Rattle.law_run.proofs.Bounding.{few_commands_lem}
use Rattle.law_run.proofs.Scripting.{scripts_fall_lem}
use Rattle.law_run.proofs.Legal.{scripted_lem}
use Rattle.ep_claim.specs.Lanes.LaneText.{Job}
use Rattle.ep_claim.specs.Lanes.WholeRun.{ProbeSteps, open_probe, Run, hears, makes_exchange, turn_of, takes_turn, run_step, opened_run, run_after}
use Rattle.ep_claim.specs.Lanes.Telling.{jobs_of}
use Rattle.ep_claim.specs.Lanes.Ending.{HasEnded}
use Rattle.ep_claim.specs.Promise.Transaction.{cards_in, IsReady}
use Rattle.ep_claim.specs.Promise.Lane.{AreReady}
use Rattle.law_turns.proofs.Apart.{lanes_apart_law}
use Rattle.law_turns.proofs.Ending.{one_end_law}
use Rattle.law_turns.proofs.Keeping.{told_keep_law}
use Rattle.law_turns.proofs.Stepping.{by_step}
use Rattle.law_turns.proofs.Telling.{runs_tell_law}
use Rattle.law_turns.proofs.Writing.{pieces_are_text_law}
use Rattle.scenario.specs.Jobs.{job_of}
use Rattle.scenario.specs.Scenario.{Work}
use Rattle.lane_run.specs.Works.{preparation}
use Rattle.ep_program.specs.Headline.{IsFresh}
use Rattle.ep_claim.specs.Promise.Run.{GivesOn, HasPromise}

-- ---- a run with a probe that gives on what it gets is one with the open probe

-- The run with the open probe in place of its own.
abbrev pub opened : {P : Type 0} → Run P → Run (Unit {0})
opened run = record { lanes = run.lanes; order = run.order; probe = tt; text = run.text }

module _ {P : Type 0} (steps : ProbeSteps P) (gives : GivesOn steps) (traced : Bool) (fsdi count : ℕ) where
  opened_step : (run : Run P) → opened (run_step traced steps fsdi count run) ≡ run_step traced open_probe fsdi count (opened run)
  opened_step run =
      by_step traced steps fsdi count run (λ t after. opened after ≡ takes_turn traced open_probe fsdi t (opened run))
      (λ e. refl)
      (λ n o e d. ap (λ l. turn_of traced open_probe fsdi n o l (opened run)) (sym d))
      (λ n o g e d x.
      ap (λ a. makes_exchange traced open_probe fsdi n o g a (opened run)) (sym x)
      ∙ ap (λ l. turn_of traced open_probe fsdi n o l (opened run)) (sym d))
      (λ n o g ask e d x.
      let answer = field_answers ask g.lane.field in
      ap (λ heard. opened (hears traced fsdi n o g ask answer.1 heard run)) (gives run.probe n ask (or_silence answer.0))
      ∙ (ap (λ a. makes_exchange traced open_probe fsdi n o g a (opened run)) (sym x)
      ∙ ap (λ l. turn_of traced open_probe fsdi n o l (opened run)) (sym d)))

  pub opened_after : (n : ℕ) (run : Run P)
      → opened (times (run_step traced steps fsdi count) n run) ≡ times (run_step traced open_probe fsdi count) n (opened run)
  opened_after zero run = refl
  opened_after (suc n) run =
      opened_after n (run_step traced steps fsdi count run)
      ∙ ap (λ r. times (run_step traced open_probe fsdi count) n r) (opened_step run)

-- ---- lanes whose transactions may begin

-- A transaction that may begin, with the cards of its field.
abbrev pub MayBegin : ℕ → Job → Type 0
MayBegin fsdi j = IsReady fsdi j (cards_in j)

pub may_begin : (settings : Config) (fsdi : ℕ) (w : Work) → IsFresh settings fsdi w → MayBegin fsdi (job_of settings w)
may_begin settings fsdi w fresh =
    let p = preparation settings w in
    record {
      new = fresh.new;
      carried = record {
        legal = scripted_lem p.txn_type p.amount p.list w.scripts fresh.few.sends;
        commands = log_bound (scripted.restarts w.scripts) (length p.list) (scripted.commands w.scripts);
        most = few_commands_lem scripted scripts_fall_lem p.txn_type p.amount p.list w.scripts;
        free = fresh.room;
      };
      closes = transaction_closes_law scripted p.txn_type p.amount p.list w.scripts;
    }

are_ready : (fsdi : ℕ) (jobs : List Job) → All (MayBegin fsdi) jobs → AreReady fsdi jobs (map cards_in jobs)
are_ready fsdi [] all = tt
are_ready fsdi (j ∷ js) all = (All-head (MayBegin fsdi) j js all, are_ready fsdi js (All-tail (MayBegin fsdi) j js all))

jobs_ready : (fsdi : ℕ) (lanes : List (List Job)) (first lane : ℕ) → All (All (MayBegin fsdi)) lanes → All (MayBegin fsdi) (jobs_of first lanes lane)
jobs_ready fsdi [] first lane all = All-nil (MayBegin fsdi)
jobs_ready fsdi (jobs ∷ rest) first lane all =
    elim (lane == first) as (λ b. All (MayBegin fsdi) (if b then jobs else jobs_of (first + 1) rest lane)) [
      | true ↦ All-head (All (MayBegin fsdi)) jobs rest all
      | false ↦ jobs_ready fsdi rest (first + 1) lane (All-tail (All (MayBegin fsdi)) jobs rest all)
    ]

-- ---- the promise

open_promise : (traced : Bool) (fsdi : ℕ) (turns : List ℕ) (lanes : List (List Job)) (n : ℕ) → All (All (MayBegin fsdi)) lanes
    → HasEnded (length lanes) (run_after traced open_probe fsdi turns tt lanes n)
    → HasPromise traced fsdi turns lanes (run_after traced open_probe fsdi turns tt lanes n).text
open_promise traced fsdi turns lanes n ready over = record {
  exchanges = n;
  over = over;
  text_is = sym (pieces_are_text_law open_probe traced fsdi turns tt lanes n);
  only = λ m ended. ap (λ (r : Run (Unit {0})). r.text) (one_end_law open_probe traced fsdi turns tt lanes m n ended over);
  keeps = λ lane is.
      told_keep_law traced fsdi lane _ _ _ (are_ready fsdi _ (jobs_ready fsdi lanes 1 lane ready))
      (runs_tell_law traced fsdi turns lanes n lane is over);
  apart = λ lane is. lanes_apart_law traced fsdi turns lanes n lane is;
}

-- A run that is over has the promise, where its probe gives on what it gets.
pub promised : {P : Type 0} (steps : ProbeSteps P) (traced : Bool) (fsdi : ℕ) (turns : List ℕ) (p : P) (lanes : List (List Job)) (n : ℕ)
    → GivesOn steps → All (All (MayBegin fsdi)) lanes
    → HasEnded (length lanes) (run_after traced steps fsdi turns p lanes n)
    → HasPromise traced fsdi turns lanes (run_after traced steps fsdi turns p lanes n).text
promised steps traced fsdi turns p lanes n gives ready over =
    let same = opened_after steps gives traced fsdi (length lanes) n (opened_run fsdi turns p lanes) in
    subst (λ t. HasPromise traced fsdi turns lanes t) (sym (ap (λ (r : Run (Unit {0})). r.text) same))
    (open_promise traced fsdi turns lanes n ready (subst (λ (r : Run (Unit {0})). HasEnded (length lanes) r) same over))
