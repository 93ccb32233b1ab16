-- The replay of an accepted document's lanes.
use Rattle.std.proofs.Common.{◌≡◌, ◌≢◌, ℕ, List, [], ◌∷◌, map, refl, ap, subst, ◌∙◌, Option, Some, None, Result, Ok, Err}
use Rattle.std.specs.Prelude.{IfSome}
use Rattle.std.specs.Io.KnownBytes.{Appends, Keeps}
use Rattle.toml.specs.Data.{Members}
use Rattle.doc_table.specs.Fault.{Fault}
use Rattle.doc_table.specs.Read.{◌>>=◌}
use Rattle.ep_rules.specs.EntryPoint.Configuration.{Config}
use Rattle.ep_base.specs.Streams.Io.{AppendsPrefix}
use Rattle.ep_claim.specs.Lanes.ReplayRun as traces
use Rattle.ep_rules.specs.EntryPoint.Talk.{Talk}
use Rattle.ep_claim.specs.Text.TraceLine.{TraceLine}
use Rattle.lane_run.specs.Talks.{all_talks}
use Rattle.ep_claim.specs.Lanes.WholeReplay.{ReplayEnds}
use Rattle.lane_run.proofs.Differing.{mismatches_differ_law}
use Rattle.lane_run.proofs.Stopping.{one_end_law}
use Rattle.lane_run.specs.Works.{LaneWork, new_work}
use Rattle.scenario.specs.Jobs.{talk_in, talks_in}
use Rattle.scenario.specs.Plan.{Plan, plan}
use Rattle.scenario.specs.Scenario.{Work, Scenario, scenario_of}
use Rattle.ep_program.specs.Input.{Gives, Opens, Refuses}
use Rattle.ep_program.specs.Replay.{trace_lines, replay_plan, IsReplayText, WritesReplay, WritesReplayPart, Plays, Replays}
use Rattle.ep_program.specs.declared.status.Status.{Status}
use Rattle.ep_program.specs.declared.status.Status.TheVariants.{Done, ReadFault, WriteFault, NoMemory, Usage, TooLong, NotToml, BadDocument, Mismatch}

-- ---- lanes before their first transactions

module _ {V : Type 0} (items : V → List Work) where
  talks : (settings : Config) (lanes : List V)
      → all_talks settings (map (λ lane. new_work (items lane)) lanes) ≡ map (λ lane. map (talk_in settings) lane) (map items lanes)
  talks settings [] = refl
  talks settings (lane ∷ rest) = ap (λ ts. map (talk_in settings) (items lane) ∷ ts) (talks settings rest)

  pub talks_to_come : (settings : Config) (lanes : List V) (works : List LaneWork) → works ≡ map (λ lane. new_work (items lane)) lanes
      → all_talks settings works ≡ map (λ lane. map (talk_in settings) lane) (map items lanes)
  talks_to_come settings lanes works is = ap (all_talks settings) is ∙ talks settings lanes

-- ---- a replay's text

differ_by : (s : Scenario) (lines : List TraceLine) (mismatch : Option traces.Mismatch) (text : List ℕ)
    → ReplayEnds s.fsdi s.turns lines (talks_in s) mismatch text → IfSome mismatch (λ (m : traces.Mismatch). m.wanted ≢ m.got)
differ_by s lines None text ends = tt
differ_by s lines (Some m) text ends = mismatches_differ_law s.fsdi s.turns lines (talks_in s) m text ends

is_text : (s : Scenario) (lines : List TraceLine) (mismatch : Option traces.Mismatch) (text : List ℕ)
    → ReplayEnds s.fsdi s.turns lines (talks_in s) mismatch text → IsReplayText s lines mismatch text
is_text s lines mismatch text ends = record {
  ends = ends;
  differ = differ_by s lines mismatch text ends;
  only = λ other said x. one_end_law s.fsdi s.turns lines (talks_in s) other mismatch said text x ends;
}

-- What was written of a scenario's lanes, where its turn list, its trace lines and its transactions are these.
module _ (s : Scenario) (lines : List TraceLine) (before after : Option (List ℕ)) (turns : List ℕ) (trace : List TraceLine) (jobs : List (List Talk))
    (same_turns : turns ≡ s.turns) (same_trace : trace ≡ lines) (same_jobs : jobs ≡ talks_in s) where
  ends_in : (mismatch : Option traces.Mismatch) (text : List ℕ) → ReplayEnds s.fsdi turns trace jobs mismatch text
      → ReplayEnds s.fsdi s.turns lines (talks_in s) mismatch text
  ends_in mismatch text ends =
      subst (λ js. ReplayEnds s.fsdi s.turns lines js mismatch text) same_jobs
      (subst (λ ls. ReplayEnds s.fsdi s.turns ls jobs mismatch text) same_trace
      (subst (λ ts. ReplayEnds s.fsdi ts trace jobs mismatch text) same_turns ends))

  pub writes_replay : (mismatch : Option traces.Mismatch)
      → (text : List ℕ) × ReplayEnds s.fsdi turns trace jobs mismatch text × Appends before after text → WritesReplay s lines before after mismatch
  writes_replay mismatch wrote =
      let (text, ends, appended) = wrote in
      (text, is_text s lines mismatch text (ends_in mismatch text ends), appended)

  pub writes_replay_part : (mismatch : Option traces.Mismatch) × (text : List ℕ) × ReplayEnds s.fsdi turns trace jobs mismatch text × AppendsPrefix before after text
      → WritesReplayPart s lines before after
  writes_replay_part wrote =
      let (mismatch, text, ends, part) = wrote in
      (mismatch, text, is_text s lines mismatch text (ends_in mismatch text ends), part)

-- ---- a document that was read

pub with_lines : (members : Members) (p : Plan) (r : Result (List TraceLine) Fault) → plan members ≡ Ok p → trace_lines p.trace ≡ r
    → replay_plan members ≡ (r >>= λ ls. Ok (p, ls))
with_lines members p r read is =
    ap (λ (x : Result Plan Fault). x >>= λ q. trace_lines q.trace >>= λ ls. Ok (q, ls)) read ∙ ap (λ (x : Result (List TraceLine) Fault). x >>= λ ls. Ok (p, ls)) is

module _ (input : Option (List ℕ)) (before after : Option (List ℕ)) where
  of_plan : (p : Plan) → Gives input p → (status : Status) → Plays (scenario_of p) before after status → Replays input before after status
  of_plan p gives Done r = (p, r.0, (gives.0, with_lines gives.0 p (Ok r.0) gives.1 r.1, gives.2), r.2)
  of_plan p gives (Mismatch m) r = (p, r.0, (gives.0, with_lines gives.0 p (Ok r.0) gives.1 r.1, gives.2), r.2)
  of_plan p gives WriteFault r = (p, r.0, (gives.0, with_lines gives.0 p (Ok r.0) gives.1 r.1, gives.2), r.2)
  of_plan p gives (BadDocument f) r = (gives.0, with_lines gives.0 p (Err f) gives.1 r.0, gives.2, r.1)
  of_plan p gives NoMemory r = (tt, r)
  of_plan p gives ReadFault r = absurd r
  of_plan p gives Usage r = absurd r
  of_plan p gives TooLong r = absurd r
  of_plan p gives NotToml r = absurd r

  -- A scenario that was read and replayed is answered.
  pub replayed : (s : Scenario) → Opens input s → (status : Status) → Plays s before after status → Replays input before after status
  replayed s opens status r =
      let says = opens.1 in
      of_plan says.document (opens.0, says.reads, opens.2) status (subst (λ (t : Scenario). Plays t before after status) says.scene r)

  -- So is an input that gave nothing.
  pub refused : (status : Status) → Refuses input status → Keeps before after → Replays input before after status
  refused Done why keeps = absurd why
  refused (Mismatch m) why keeps = absurd why
  refused WriteFault why keeps = absurd why
  refused Usage why keeps = absurd why
  refused ReadFault why keeps = (why, keeps)
  refused NoMemory why keeps = (why, keeps)
  refused TooLong why keeps = (why, keeps)
  refused NotToml why keeps = (why, keeps)
  refused (BadDocument f) why keeps =
      (why.0, ap (λ (x : Result Plan Fault). x >>= λ q. trace_lines q.trace >>= λ ls. Ok (q, ls)) why.1, why.2, keeps)
