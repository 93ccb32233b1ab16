-- How a session stands after an exchange.
use Rattle.std.proofs.Common.{◌≡◌, ℕ, Bool, List, Option, Some, None, refl, sym, subst, ◌∙◌}
use Rattle.block_reader.specs.Stands as links
use Rattle.ep_base.specs.Objects.Arena.{Object}
use Rattle.ep_base.specs.Air.Heard.{Ask, Heard, RoundEnd}
use Rattle.ep_rules.specs.EntryPoint.Kernel.{KernelSteps}
use Rattle.ep_rules.specs.EntryPoint.PreProcessing.{PreparedOne}
use Rattle.ep_rules.specs.EntryPoint.Event.{Event as EventData}
use Rattle.ep_rules.specs.EntryPoint.Talk.{Talk}
use Rattle.ep_claim.specs.Lanes.Standing.{Doing, Standing, events_of}
use Rattle.kernel_port.specs.declared.event.End.{End}
use Rattle.kernel_port.specs.declared.event.End.TheVariants as ending
use Rattle.session_phases.specs.Shown.{rounds_of, FailedThen, FitsThen, IsDone}
use Rattle.session_phases.specs.Stands.{EndsSo, StepStands, Turned}
use Rattle.session_phases.specs.Plain as plain
use Rattle.session_phases.specs.Plain.{Step}
use Rattle.session_phases.proofs.Shown.{turned_events}
use Rattle.entry_session.specs.Turns.{Work, View, StandsFor, EndedBy, CauseShows, BeginCauseShows}

-- An open transaction, in plain data.
abbrev pub work_at : {S : Type 0} → List PreparedOne → S → Bool → Bool → ℕ → Step → Work S
work_at ones s opened fresh fsdi step = record { ones = ones; kernels = s; opened = opened; fresh = fresh; fsdi = fsdi; step = step }

abbrev pub view_at : {S : Type 0} → List Object → Option links.Held → List RoundEnd → Option (Work S) → View S
view_at objects link rounds work = record { objects = objects; link = link; rounds = rounds; work = work }

module _ {S : Type 0} (k : KernelSteps S) (ones : List PreparedOne) (s : S) (objects : List Object) (opened fresh : Bool) (fsdi : ℕ) (link : Option links.Held) (rounds : List RoundEnd) where
  -- Where another exchange comes.
  pub asks_stand : (step : Step) (ask : Ask) (talk : Talk) (st : Standing) (said : List EventData) → Turned k ones s objects fsdi link (plain.Ask ask step) talk st said
      → FitsThen (plain.Ask ask step) rounds → rounds ≡ rounds_of st
      → StandsFor k (view_at objects link rounds (Some (work_at ones s opened fresh fsdi step))) talk fsdi st
  asks_stand step ask talk st said h fits same = record {
    work = record {
      fsdi_is = refl;
      step = subst (λ (said : List EventData). StepStands k ones s objects fsdi link step talk st said) (sym (turned_events k ones s objects fsdi link (plain.Ask ask step) talk st said h)) h.0;
    };
    rounds = same;
    fits = fits;
  }

  -- Where it has ended.
  pub end_stands : (end : End) (talk : Talk) (st : Standing) (said : List EventData) → Turned k ones s objects fsdi link (plain.Ended end) talk st said → rounds ≡ rounds_of st
      → StandsFor k (view_at objects link rounds None) talk fsdi st
  end_stands end talk st said h same = record {
    work = record { ending = h.ending; stopped = h.stopped };
    rounds = same;
    fits = tt;
  }

  pub ended_by : (end : End) (talk : Talk) (st : Standing) (said : List EventData) → Turned k ones s objects fsdi link (plain.Ended end) talk st said → EndedBy end talk st
  ended_by end talk st said h = record { ending = h.ending; stopped = h.stopped; before = h.before; last = h.said_is ∙ h.last; decided = h.decided }

-- The cause of an end shows after the exchange.
pub cause_shows : (end : End) (heard : Heard) (doing : Doing) (rounds : List RoundEnd) (link : Option links.Held) (talk : Talk) (st : Standing) (said : List EventData)
    → FitsThen (plain.Ended end) rounds → FailedThen (plain.Ended end) heard doing link → EndsSo end talk st said → CauseShows end heard doing rounds link (events_of talk st)
cause_shows ending.Done heard doing rounds link talk st said fits failed h = record { before = h.before; last = h.said_is ∙ h.last; outcome = h.decided }
cause_shows ending.Link heard doing rounds link talk st said fits failed h = failed
cause_shows ending.NoCard heard doing rounds link talk st said fits failed h = fits
cause_shows ending.Breach heard doing rounds link talk st said fits failed h = failed

-- The same before the first exchange.
pub begin_cause : (end : End) (talk : Talk) (st : Standing) (said : List EventData) → IsDone end → EndsSo end talk st said → BeginCauseShows end said
begin_cause ending.Done talk st said done h = record { before = h.before; last = h.last; outcome = h.decided }
begin_cause ending.Link talk st said done h = done
begin_cause ending.NoCard talk st said done h = done
begin_cause ending.Breach talk st said done h = done
