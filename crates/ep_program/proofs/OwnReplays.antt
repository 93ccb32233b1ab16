-- A replay of the trace of a document's own run.
use Rattle.std.proofs.Common.{◌≡◌, ◌≤◌, ℕ, true, false, List, [], ◌∷◌, length, map, refl, sym, ap, subst, ◌∙◌, arith, unwrap_or, Option, Some, None, Result, Ok, Err}
use Rattle.std.specs.Io.KnownBytes.{Appends}
use Rattle.std.proofs.KnownBytes.{Keeps-refl}
use Rattle.toml.specs.Data.{Members}
use Rattle.doc_table.specs.Fault.{Fault}
use Rattle.ep_rules.specs.EntryPoint.Configuration.{Config}
use Rattle.ep_base.specs.Streams.Io.{AppendsPrefix}
use Rattle.ep_base.specs.declared.limits.TheConstants.{INPUT}
use Rattle.ep_claim.specs.Lanes.Ending.{HasRun}
use Rattle.ep_claim.specs.Lanes.LaneText.{Job}
use Rattle.ep_claim.specs.Lanes.ReplayRun as traces
use Rattle.ep_claim.specs.Lanes.WholeReplay.{ReplayEnds}
use Rattle.ep_claim.specs.Lanes.WholeRun.{open_probe}
use Rattle.ep_claim.specs.Text.TraceLine.{TraceLine, trace_text}
use Rattle.law_documents.specs.Traced.{with_trace}
use Rattle.law_documents.proofs.Tracing.{written_traces_are_read_law}
use Rattle.lane_run.specs.OwnTrace.{own_run, talks_of_lanes}
use Rattle.lane_run.specs.ReportLines.{without_log}
use Rattle.lane_run.proofs.Matching.{own_trace_law}
use Rattle.lane_run.proofs.Telling.{runs_tell_traces_law}
use Rattle.scenario.specs.Jobs.{job_of, jobs_in, talk_in, talks_in}
use Rattle.scenario.specs.Plan.{Plan, plan}
use Rattle.scenario.specs.Scenario.{Work, Scenario, scenario_of}
use Rattle.scenario.proofs.Accepted.{accepted_plan}
use Rattle.ep_program.specs.Input.{Gives, IsInput, Refuses}
use Rattle.ep_program.specs.OwnReplay.{AnswersByRun, AnswersOwn, IsOwnTrace, ReplaysOwnTrace, ReplaysRecorded}
use Rattle.ep_program.specs.Replay.{GivesTrace, Replays, WritesReplay, WritesReplayPart, replay_plan, trace_lines}
use Rattle.ep_program.specs.RunTrace.{exchanges_in}
use Rattle.ep_program.specs.declared.status.Status.{Status}
use Rattle.ep_program.specs.declared.status.Status.TheVariants.{Done, ReadFault, WriteFault, NoMemory, Usage, TooLong, NotToml, BadDocument, Mismatch}
use Rattle.ep_program.proofs.Ready.{exchanges_held, is_ready, is_text}
use Rattle.ep_program.proofs.Replaying.{refused, with_lines}

-- ---- the talks of a scenario's lanes

talks_of : (settings : Config) (works : List Work) → map (λ (j : Job). j.talk) (map (job_of settings) works) ≡ map (talk_in settings) works
talks_of settings [] = refl
talks_of settings (w ∷ works) = ap (λ ts. talk_in settings w ∷ ts) (talks_of settings works)

lanes_talk : (settings : Config) (lanes : List (List Work))
    → talks_of_lanes (map (λ lane. map (job_of settings) lane) lanes) ≡ map (λ lane. map (talk_in settings) lane) lanes
lanes_talk settings [] = refl
lanes_talk settings (lane ∷ rest) =
    ap (λ ts. ts ∷ talks_of_lanes (map (λ lane. map (job_of settings) lane) rest)) (talks_of settings lane)
    ∙ ap (λ ts. map (talk_in settings) lane ∷ ts) (lanes_talk settings rest)

-- ---- the run whose trace it is

module _ (s : Scenario) (lines : List TraceLine) (own : IsOwnTrace s lines) where
  -- what the run writes that doesn't tell its trace
  abbrev run_text : List ℕ
  run_text = (own_run false s.fsdi s.turns (jobs_in s) own.exchanges).text

  has_run : HasRun false open_probe s.fsdi s.turns tt (jobs_in s) run_text tt
  has_run = record {
    exchanges = own.exchanges;
    over = (runs_tell_traces_law s.fsdi s.turns (jobs_in s) own.exchanges).over.0 own.over;
    text_is = refl;
    probe_is = refl;
  }

  replay_ends : ReplayEnds s.fsdi s.turns lines (talks_in s) None (without_log run_text)
  replay_ends =
      subst (λ ts. ReplayEnds s.fsdi s.turns lines ts None (without_log run_text)) (lanes_talk s.config s.lanes)
      (subst (λ ls. ReplayEnds s.fsdi s.turns ls (talks_of_lanes (jobs_in s)) None (without_log run_text)) (sym own.lines_are)
      (own_trace_law true s.fsdi s.turns (jobs_in s) own.exchanges own.over))

  -- ---- what a replay of it comes to

  module _ (before after : Option (List ℕ)) where
    wrote : WritesReplay s lines before after None → Appends before after (without_log run_text)
    wrote w =
        let (text, is, appended) = w in
        subst (λ t. Appends before after t) (sym (is.only None (without_log run_text) replay_ends).1) appended

    wrote_part : WritesReplayPart s lines before after → AppendsPrefix before after (without_log run_text)
    wrote_part w =
        let (mismatch, text, is, part) = w in
        subst (λ t. AppendsPrefix before after t) (sym (is.only None (without_log run_text) replay_ends).1) part

    never_else : (m : traces.Mismatch) → WritesReplay s lines before after (Some m) → ⊥
    never_else m w =
        let (text, is, appended) = w in
        let same : ◌≡◌ {A = Option traces.Mismatch} None (Some m) = (is.only None (without_log run_text) replay_ends).0 in
        cc same

-- ---- the document

abbrev plan_or : Plan × List TraceLine → Result (Plan × List TraceLine) Fault → Plan × List TraceLine
plan_or d (Ok x) = x
plan_or d (Err f) = d

module _ (bytes : List ℕ) (before after : Option (List ℕ)) (p : Plan) (lines : List TraceLine) (gives : Gives (Some bytes) p) (trace : p.trace ≡ Some lines)
    (own : IsOwnTrace (scenario_of p) lines) where
  -- bytes are one document
  members_same : (members : Members) → IsInput (Some bytes) members → members ≡ gives.0
  members_same members is = ap (λ (o : Option Members). unwrap_or o members) (sym is.1.1 ∙ gives.2.1.1)

  whole_plan : replay_plan gives.0 ≡ Ok (p, lines)
  whole_plan = with_lines gives.0 p (Ok lines) gives.1 (ap trace_lines trace)

  plan_is : (members : Members) → IsInput (Some bytes) members → replay_plan members ≡ Ok (p, lines)
  plan_is members is = ap replay_plan (members_same members is) ∙ whole_plan

  -- so are the plan and the lines that it gives
  same_plan : (q : Plan) (other : List TraceLine) → GivesTrace (Some bytes) q other → ◌≡◌ {A = Plan × List TraceLine} (q, other) (p, lines)
  same_plan q other has = ap (plan_or (q, other)) (sym has.1 ∙ plan_is has.0 has.2)

  abbrev text : List ℕ
  text = run_text (scenario_of p) lines own

  answers : (status : Status) → Replays (Some bytes) before after status → AnswersOwn text before after status
  answers Done r =
      wrote (scenario_of p) lines own before after
      (subst (λ (d : Plan × List TraceLine). WritesReplay (scenario_of d.0) d.1 before after None) (same_plan r.0 r.1 r.2) r.3)
  answers WriteFault r =
      wrote_part (scenario_of p) lines own before after
      (subst (λ (d : Plan × List TraceLine). WritesReplayPart (scenario_of d.0) d.1 before after) (same_plan r.0 r.1 r.2) r.3)
  answers (Mismatch m) r =
      never_else (scenario_of p) lines own before after m
      (subst (λ (d : Plan × List TraceLine). WritesReplay (scenario_of d.0) d.1 before after (Some m)) (same_plan r.0 r.1 r.2) r.3)
  answers NoMemory r = r.1
  answers ReadFault r = r.1
  answers Usage r = r
  answers TooLong r = let much = r.0 in let few : length bytes ≤ INPUT = gives.2.0 in omega (arith, much, few)
  answers NotToml r = r.0.1 gives.0 gives.2.1
  answers (BadDocument f) r =
      let clash : ◌≡◌ {A = Result (Plan × List TraceLine) Fault} (Err f) (Ok (p, lines)) = sym r.1 ∙ plan_is r.0 r.2 in
      cc clash

  by_run : (status : Status) → Replays (Some bytes) before after status → AnswersByRun (scenario_of p) before after status
  by_run status r = (
    text,
    is_text open_probe false (scenario_of p) tt text tt (is_ready gives.0 p gives.1 (accepted_plan gives.0 p gives.1)) (has_run (scenario_of p) lines own),
    answers status r,
  )

-- A replay of a document's own trace is answered by the document's run.
pub own_replay : (input before after : Option (List ℕ)) (status : Status) → Replays input before after status → ReplaysOwnTrace input before after status
own_replay None before after status r = tt
own_replay (Some bytes) before after status r = λ p lines gives trace own. by_run bytes before after p lines gives trace own status r

-- So is a replay of a document that was given the written trace of its run.
pub recorded_replay : (input before after : Option (List ℕ)) (status : Status) → Replays input before after status → ReplaysRecorded input before after status
recorded_replay None before after status r = tt
recorded_replay (Some bytes) before after status r = λ members p n reads over few short document.
    let ready = is_ready members p reads (accepted_plan members p reads) in
    let lines = exchanges_in (scenario_of p) n in
    let q : Plan = record p { trace = Some lines } in
    let means : plan (with_trace members (map trace_text lines)) ≡ Ok q =
    written_traces_are_read_law members p lines reads (exchanges_held (scenario_of p) ready n) few in
    let gives : Gives (Some bytes) q = (with_trace members (map trace_text lines), means, (short, document)) in
    let own : IsOwnTrace (scenario_of q) lines = record { exchanges = n; over = over; lines_are = refl } in
    let (text, is, answered) = by_run bytes before after q lines gives refl own status r in
    (text, is_text open_probe false (scenario_of p) tt text tt ready is.run, answered)

-- So it is of an input that gave nothing.
pub refused_replay : (input written : Option (List ℕ)) (status : Status) → Refuses input status → Replays input written written status
refused_replay input written status why = refused input written written status why (Keeps-refl written)
