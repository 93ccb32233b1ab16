-- A transaction is legal: each command comes after a card was found, and before it is closed.
use Rattle.std.proofs.Common.{◌≡◌, ◌==◌, ◌&&◌, if◌then◌else◌, ℕ, zero, suc, ◌+◌, ◌≤◌, nat_le, Bool, true, false, cond, List, [], ◌∷◌, ◌++◌, length, length-append, refl, arith, Some, None, Option}
use Rattle.std.proofs.lemmas.Bool.Decides.{nat_tests}
use Rattle.std.proofs.lemmas.Bool.{cond_both, and_parts, leb-true}
use Rattle.ep_base.specs.declared.limits.TheConstants.{ROUNDS}
use Rattle.ep_base.specs.declared.outcome.OutcomeKind.{OutcomeKind}
use Rattle.ep_base.specs.declared.outcome.OutcomeKind.TheVariants.{SelectNext, TryAgain, Approved, Declined, OnlineRequest, TryAnother, EndApplication}
use Rattle.ep_base.specs.declared.outcome.Message.{Message}
use Rattle.ep_base.specs.declared.outcome.Message.TheVariants.{PresentCard, InsertOrSwipe, OneCardOnly}
use Rattle.ep_base.specs.Air.Heard.{Activated, RoundEnd, Empty, Collision, Unsupported, Broken, Found}
use Rattle.ep_rules.specs.EntryPoint.PreProcessing.{PreparedOne, any_allowed}
use Rattle.ep_base.specs.Cards.Apdu.{is_command, select, ppse_name, is_9000}
use Rattle.ep_base.specs.Objects.Directory.{directory}
use Rattle.ep_rules.specs.EntryPoint.Candidates.{Candidate, candidates, extended_name, final_command}
use Rattle.ep_rules.specs.EntryPoint.Event.{Verdict, Notice, Outcome, Finished}
use Rattle.ep_rules.specs.EntryPoint.Kernel.{KernelStep, Send, Done, KernelSteps, Step, Script, Awaited, Running, script_for, without_script, begun, scripted, next_step, answered, running_step}
use Rattle.ep_rules.specs.EntryPoint.KernelCommands.{IsSent, Begins, Steps, SendsCommands, StepsSend, ScriptsSend, RunningSends, ScriptedSends}
use Rattle.ep_rules.specs.EntryPoint.Talk.{Talk, Over, Say, IsLegal, is_found, say_collision, by_end, rounds}
use Rattle.ep_rules.specs.EntryPoint.Transaction.{start_b, say_message, after_kind, after_verdict, after_move, kernel_runs, activates, given_to, selects, presented, starts, say_ready}
use Rattle.law_run.specs.CandidateFacts.{IsCandidate}
use Rattle.law_run.specs.Legality.{Passes, SendsOnly, SelectsPass, Legality, Legal, ScriptedLegal}
use Rattle.law_run.proofs.Picking.{Each, each_candidate}

module _ (test : List ℕ → Bool) where
  -- The rounds of a Start B.
  module _ (message : Message) (next : Activated → Talk) (legal : (card : Activated) → IsLegal test true (next card)) where
    collision_legal : (collided : Bool) (t : Talk) → IsLegal test false t → IsLegal test false (say_collision collided message t)
    collision_legal true t h = h
    collision_legal false t h = h

    end_legal : (collided : Bool) (again : Bool → Talk) → ((c : Bool) → IsLegal test false (again c)) → (e : RoundEnd) → IsLegal test (is_found e) (by_end message collided again next e)
    end_legal collided again h Empty = h collided
    end_legal collided again h Collision = collision_legal collided (again true) (h true)
    end_legal collided again h Unsupported = h collided
    end_legal collided again h Broken = h collided
    end_legal collided again h (Found card) = legal card

    rounds_legal : (n : ℕ) (collided found : Bool) → IsLegal test found (rounds message n collided next)
    unfolding rounds
    rounds_legal zero collided found = tt
    rounds_legal (suc n) collided found = end_legal collided (λ c. rounds message n c next) (λ c. rounds_legal n c false)

  module _ {S : Type 0} (k : KernelSteps S) (Good : S → Type 0) (sent : SendsOnly test Good k) (passes : SelectsPass test) where
    extended_passes : (name : List ℕ) (supported : Bool) (o : Option (List ℕ)) → 5 ≤ length name → length name ≤ 16 → test (select (extended_name name supported o)) ≡ true
    extended_passes name supported None five sixteen = passes.names name five sixteen
    extended_passes name supported (Some extension) five sixteen =
        cond_both (supported && nat_le (length name + length extension) 16) (name ++ extension) name (λ n. test (select n) ≡ true)
        (λ h.
        let room : length name + length extension ≤ 16 = leb-true (length name + length extension) 16 (and_parts supported (nat_le (length name + length extension) 16) h).1 in
        passes.names (name ++ extension) (omega (arith, length-append name extension)) (omega (arith, length-append name extension)))
        (λ h. passes.names name five sixteen)

    abbrev AllLegal : Bool → (S → Talk) → Type 0
    AllLegal found next = (s : S) → Good s → IsLegal test found (next s)

    final_passes : (c : Candidate) → 5 ≤ length c.name → length c.name ≤ 16 → test (final_command c) ≡ true
    final_passes c five sixteen = extended_passes c.name c.one.combination.extended c.extension five sixteen

    module _ (again : S → Talk) (again_legal : AllLegal false again) where
      kind_legal : (more : S → Talk) → AllLegal true more → (kind : OutcomeKind) → AllLegal true (after_kind again more kind)
      kind_legal more h SelectNext s g = h s g
      kind_legal more h TryAgain s g = again_legal s g
      kind_legal more h Approved s g = tt
      kind_legal more h Declined s g = tt
      kind_legal more h OnlineRequest s g = tt
      kind_legal more h TryAnother s g = tt
      kind_legal more h EndApplication s g = tt

      message_legal : (o : Option Message) (t : Talk) → IsLegal test true t → IsLegal test true (say_message o t)
      message_legal None t h = h
      message_legal (Some message) t h = h

      verdict_legal : (more : S → Talk) → AllLegal true more → (v : Verdict) → AllLegal true (after_verdict again more v)
      verdict_legal more h v s g = message_legal v.message (after_kind again more v.kind s) (kind_legal more h v.kind s g)

      move_legal : (more : S → Talk) → AllLegal true more → (go : S → Option (List ℕ) → Talk) → ((last : Option (List ℕ)) → AllLegal true (λ s. go s last))
          → (p : KernelStep × S) → Passes test p.0 → Good p.1 → IsLegal test true (after_move (after_verdict again more) go p)
      move_legal more h go l ((Send command), t) is g = (refl, is, λ r. l (Some r) t g)
      move_legal more h go l ((Done verdict), t) is g = verdict_legal more h verdict t g

      kernel_legal : (more : S → Talk) → AllLegal true more → (n : ℕ) (last : Option (List ℕ)) → AllLegal true (λ s. kernel_runs k (after_verdict again more) n s last)
      kernel_legal more h zero last s g = tt
      kernel_legal more h (suc n) last s g =
          move_legal more h (kernel_runs k (after_verdict again more) n) (kernel_legal more h n) (k.step s last) (sent.sends s last g) (sent.step_good s last g)

      selects_legal : (ones : List PreparedOne) (cs : List Candidate) → Each (IsCandidate ones) cs → AllLegal true (selects k again cs)
      selects_legal ones [] are s g = tt
      selects_legal ones (c ∷ cs) are s g = (
        refl,
        final_passes c are.0.five are.0.sixteen,
        λ r.
            let t = k.begin s (given_to c r) in
            cond_both (is_9000 r) (activates k (after_verdict again (selects k again cs)) (given_to c r) s) (selects k again cs s) (IsLegal test true)
            (λ h. kernel_legal (selects k again cs) (selects_legal ones cs are.1) (k.commands t + 1) None t (sent.begin_good s (given_to c r) g)) (λ h. selects_legal ones cs are.1 s g),
      )

      presented_legal : (ones : List PreparedOne) (s : S) (card : Activated) → Good s → IsLegal test true (presented k again ones s card)
      presented_legal ones s card g = (refl, passes.directory, λ r. selects_legal ones (candidates ones (directory r)) (each_candidate ones (directory r)) s g)

    starts_legal : (ones : List PreparedOne) (n : ℕ) → AllLegal false (starts k ones n)
    unfolding start_b
    starts_legal ones zero s g = rounds_legal OneCardOnly (presented k (λ t. Over Finished) ones s) (λ card. presented_legal (λ t. Over Finished) (λ t h. tt) ones s card g) ROUNDS false false
    starts_legal ones (suc n) s g = rounds_legal OneCardOnly (presented k (starts k ones n) ones s) (λ card. presented_legal (starts k ones n) (starts_legal ones n) ones s card g) ROUNDS false false

  ready_legal : (n : ℕ) (ones : List PreparedOne) (t : Talk) → IsLegal test false t → IsLegal test false (say_ready n ones t)
  ready_legal n [] t h = h
  ready_legal n (one ∷ ones) t h = ready_legal (n + 1) ones t h

pub legality_lem : {S : Type 0} (k : KernelSteps S) → Legality k
legality_lem k test Good sent passes txn_type amount ones s g =
    ready_legal test 1 ones
    (cond (any_allowed ones) (Say (Notice PresentCard) (starts k ones (k.restarts s) s)) (Say (Outcome TryAnother) (Say (Notice InsertOrSwipe) (Over Finished))))
    (cond_both (any_allowed ones) (Say (Notice PresentCard) (starts k ones (k.restarts s) s)) (Say (Outcome TryAnother) (Say (Notice InsertOrSwipe) (Over Finished))) (IsLegal test false)
    (λ h. starts_legal test k Good sent passes ones (k.restarts s) s g) (λ h. tt))

passed : (move : KernelStep) → IsSent move → Passes is_command move
passed (Send command) is = is
passed (Done verdict) is = tt

-- SELECT of a name of 5 to 16 bytes is a command, and so is SELECT PPSE.
select_passes : (name : List ℕ) → 5 ≤ length name → length name ≤ 16 → is_command (select name) ≡ true
unfolding is_command
select_passes name five sixteen = grind (arith, nat_tests, length-append name (0 ∷ []))

commands_pass : SelectsPass is_command
commands_pass = record { directory = select_passes ppse_name (omega arith) (omega arith); names = select_passes }

pub legal_lem : {S : Type 0} (k : KernelSteps S) → Legal k
legal_lem k txn_type amount ones s sends =
    legality_lem k is_command (SendsCommands k) (record {
      begin_good = λ s g good. λ calls. good (Begins g ∷ calls);
      step_good = λ s last good. λ calls. good (Steps last ∷ calls);
      sends = λ s last good. passed (k.step s last).0 (good [] last);
    }) commands_pass txn_type amount ones s sends

-- scripts
script_sends : (kernel : ℕ) (scripts : List Script) → ScriptsSend scripts → RunningSends (begun (script_for kernel scripts)) × ScriptsSend (without_script kernel scripts)
script_sends kernel [] all = (tt, tt)
script_sends kernel (s ∷ scripts) all =
    let more = script_sends kernel scripts all.1 in
    elim (s.kernel == kernel) as (λ (b : Bool). RunningSends (begun (if b then Some s else script_for kernel scripts)) × ScriptsSend (if b then scripts else s ∷ without_script kernel scripts)) [
      | true ↦ (all.0, all.1)
      | false ↦ (more.0, (all.0, more.1))
    ]

abbrev Goes : KernelStep × Option Running → Type 0
Goes m = Passes is_command m.0 × RunningSends m.1

goes_send : (verdict : Verdict) (steps : List Step) → StepsSend steps → Goes (next_step verdict steps)
goes_send verdict [] all = (tt, tt)
goes_send verdict (x ∷ steps) all = all

answers_send : (verdict : Verdict) (steps : List Step) → StepsSend steps → (awaited : Option Awaited) (last : Option (List ℕ)) → Goes (answered verdict steps awaited last)
answers_send verdict steps all None last = goes_send verdict steps all
answers_send verdict steps all (Some x) None = goes_send verdict steps all
answers_send verdict steps all (Some x) (Some r) =
    elim (_ == x.want) as (λ (b : Bool). Goes (if b then next_step verdict steps else (Done x.other, None))) [ true ↦ goes_send verdict steps all | false ↦ (tt, tt) ]

step_sends : (o : Option Running) → RunningSends o → (last : Option (List ℕ)) → Goes (running_step o last)
step_sends None all last = (tt, tt)
step_sends (Some r) all last = answers_send r.verdict r.steps all r.awaited last

pub scripted_lem : ScriptedLegal
scripted_lem txn_type amount ones s all =
    legality_lem scripted is_command ScriptedSends (record {
      begin_good = λ s g good. let x = script_sends g.kernel s.scripts good.0 in (x.1, x.0);
      step_good = λ s last good. (good.0, (step_sends s.running good.1 last).1);
      sends = λ s last good. (step_sends s.running good.1 last).0;
    }) commands_pass txn_type amount ones s all
