-- From opened lanes and their turns to the report.
use Rattle.std.proofs.Common.{◌≡◌, ℕ, ◌≤◌, Bool, true, false, List, length, All, Option, refl, sym, ◌∙◌, arith}
use Rattle.ep_rules.specs.EntryPoint.Configuration.{Config}
use Rattle.ep_base.specs.declared.limits.TheConstants.{LANES}
use Rattle.ep_base.specs.Cards.Field.{Field}
use Rattle.ep_base.specs.Streams.Io.{AppendsPrefix}
use Rattle.ep_rules.specs.EntryPoint.Kernel.{Scripted}
use Rattle.ep_lanes.specs.Lanes.{Held}
use Rattle.ep_claim.specs.Lanes.Probing.{ProbeAnswers, Tells}
use Rattle.ep_claim.specs.Lanes.LaneText.{Job}
use Rattle.ep_claim.specs.Lanes.WholeRun.{ProbeSteps, opening_text, run_after}
use Rattle.lane_run.specs.Ends.{RunEnds, state_then}
use Rattle.lane_run.specs.Made.{ShownRun, TurnsMade, TurnsCut}
use Rattle.lane_run.specs.Reports.{IsNewWork, LanesOpened, Reports, ReportsPart, RunsPart, RunsTo}
use Rattle.ep_claim.specs.Lanes.Ending.{HasRun}
use Rattle.lane_run.specs.Shows.{ReportState}
use Rattle.lane_run.specs.Works.{LaneWork, all_jobs}
use Rattle.lane_run.proofs.Appending.{wrote_since}
use Rattle.lane_run.proofs.Halting.{part_of_end}
use Rattle.lane_run.proofs.Few.{all_short, all_count}

-- the lanes, what they have to do, and the bytes written, beside the state of who answers
abbrev pub state_of : {P : Type 0} → P → Held Scripted → List LaneWork → Option (List ℕ) → ReportState P
state_of p lanes works written = record { lanes = lanes; works = works; probe = p; written = written }

module _ {P : Type 0} (answers : ProbeAnswers P) (failed : P → Bool) (plays : Option Field → Field → Type 0) (settings : Config) (traced : Bool) (fsdi : ℕ) (turns : List ℕ) (p : P)
    (lanes : Held Scripted) (works : List LaneWork) (written : Option (List ℕ)) (few : length works ≤ LANES) (new : All (IsNewWork settings) works) where
  abbrev jobs : List (List Job)
  jobs = all_jobs settings works

  -- the run whose lanes were opened
  module _ (held : Held Scripted) (left : List LaneWork) (said : Option (List ℕ)) (size : length left ≡ length works)
      (opened : LanesOpened plays settings fsdi turns (state_of (tt {0}) lanes works written) (state_of (tt {0}) held left said)) where
    abbrev begun : (steps : ProbeSteps P) → Tells answers steps → ShownRun answers plays settings fsdi (state_of p held left said)
    begun steps tells = record {
      steps = steps;
      tells = tells;
      start = written;
      turns = turns;
      probe = p;
      lanes = jobs;
      short = all_short settings works few new;
      count = all_count settings works ∙ sym size;
      shows = record { each = opened.each; order = opened.order; probe = refl; text = opened.text };
    }

    pub run_whole : (after : ReportState P) (over : Bool) → TurnsMade answers failed plays settings traced fsdi (state_of p held left said) after over
        → RunsTo answers failed settings traced fsdi turns (state_of p lanes works written) after over
    run_whole after over made = λ steps tells.
        let e = made (begun steps tells) in
        let run = run_after traced steps fsdi turns p jobs e.exchanges in (
          run.text,
          record { exchanges = e.exchanges; answered = e.answered; ends = e.ends; text_is = refl; state_is = e.state },
          wrote_since written after.written run.text e.text,
        )

    pub run_part : (now : Option (List ℕ)) → TurnsCut answers failed plays settings traced fsdi (state_of p held left said) now
        → RunsPart answers failed settings traced fsdi turns (state_of p lanes works written) now
    run_part now cut = λ steps tells.
        let e = cut (begun steps tells) in
        let run = run_after traced steps fsdi turns p jobs e.exchanges in (
          e.over,
          run.text,
          state_then e.over traced steps fsdi (length jobs) run,
          record { exchanges = e.exchanges; answered = e.answered; ends = e.ends; text_is = refl; state_is = refl },
          e.part,
        )

  -- where the lanes weren't all opened
  pub run_unopened : (now : Option (List ℕ)) → AppendsPrefix written now (opening_text fsdi 1 jobs)
      → RunsPart answers failed settings traced fsdi turns (state_of p lanes works written) now
  run_unopened now part = λ steps tells.
      let e =
      part_of_end failed traced fsdi turns p jobs steps written now (all_short settings works few new) 0 (omega arith)
      (λ k less. absurd (omega (arith, less))) part in
      let run = run_after traced steps fsdi turns p jobs e.exchanges in (
        e.over,
        run.text,
        state_then e.over traced steps fsdi (length jobs) run,
        record { exchanges = e.exchanges; answered = e.answered; ends = e.ends; text_is = refl; state_is = refl },
        e.part,
      )

-- ---- who never fails

module _ {P : Type 0} (traced : Bool) (steps : ProbeSteps P) (fsdi : ℕ) (turns : List ℕ) (p : P) (lanes : List (List Job)) where
  never_stops : (over : Bool) (text : List ℕ) (q : P) → RunEnds (λ _. false) traced steps fsdi turns p lanes over text q
      → HasRun traced steps fsdi turns p lanes text q
  never_stops true text q e = record { exchanges = e.exchanges; over = e.ends; text_is = e.text_is; probe_is = e.state_is }
  never_stops false text q e = let never : false ≡ true = e.ends.fails in cc

pub never_fails : {P : Type 0} (answers : ProbeAnswers P) (settings : Config) (traced : Bool) (fsdi : ℕ) (turns : List ℕ) (before after : ReportState P)
    (over : Bool) → RunsTo answers (λ _. false) settings traced fsdi turns before after over → Reports answers settings traced fsdi turns before after
never_fails answers settings traced fsdi turns before after over runs = λ steps tells.
    let r = runs steps tells in
    (r.0, never_stops traced steps fsdi turns before.probe (all_jobs settings before.works) over r.0 after.probe r.1, r.2)

pub never_fails_part : {P : Type 0} (answers : ProbeAnswers P) (settings : Config) (traced : Bool) (fsdi : ℕ) (turns : List ℕ) (before : ReportState P)
    (written : Option (List ℕ)) → RunsPart answers (λ _. false) settings traced fsdi turns before written
    → ReportsPart answers settings traced fsdi turns before written
never_fails_part answers settings traced fsdi turns before written runs = λ steps tells.
    let r = runs steps tells in
    (r.1, r.2, never_stops traced steps fsdi turns before.probe (all_jobs settings before.works) r.0 r.1 r.2 r.3, r.4)
