-- All commands of a transaction are bytes, where the responses are, and the kernels send bytes.
use Rattle.std.proofs.Common.{◌==◌, ℕ, zero, suc, ◌+◌, ◌<◌, ◌≤◌, nat_le, ◌&&◌, Bool, true, false, List, [], ◌∷◌, ◌++◌, length, length-append, refl, ◌≡◌, arith, cond, Some, None, Option}
use Rattle.std.specs.Prelude.{All}
use Rattle.std.proofs.lemmas.Bool.{cond_both, and_parts, leb-true}
use Rattle.std.proofs.lemmas.List.Elements.{All-cons, All-head, All-tail}
use Rattle.hex.specs.Hex.{IsBytes}
use Rattle.ep_base.specs.declared.limits.TheConstants.{ROUNDS}
use Rattle.ep_base.specs.declared.outcome.OutcomeKind.{OutcomeKind}
use Rattle.ep_base.specs.declared.outcome.OutcomeKind.TheVariants.{SelectNext, TryAgain, Approved, Declined, OnlineRequest, TryAnother, EndApplication}
use Rattle.ep_base.specs.declared.outcome.Message.{Message}
use Rattle.ep_base.specs.declared.outcome.Message.TheVariants.{PresentCard, InsertOrSwipe, OneCardOnly}
use Rattle.ep_base.specs.Air.Heard.{Activated, RoundEnd, Empty, Collision, Unsupported, Broken, Found}
use Rattle.ep_base.specs.Cards.Apdu.{select, ppse_name, is_9000}
use Rattle.ep_base.specs.Objects.Directory.{directory}
use Rattle.ep_rules.specs.EntryPoint.Candidates.{Candidate, candidates, extended_name, final_command}
use Rattle.ep_rules.specs.EntryPoint.Event.{Activation, Verdict, Notice, Outcome, Finished}
use Rattle.ep_rules.specs.EntryPoint.Kernel.{KernelStep, Send, Done, KernelSteps, Step, Script, Awaited, Running, Scripted, script_for, without_script, begun, scripted, next_step, answered, running_step}
use Rattle.ep_rules.specs.EntryPoint.PreProcessing.{PreparedOne, any_allowed}
use Rattle.ep_rules.specs.EntryPoint.Talk.{Talk, Over, Say, say_collision, by_end, rounds}
use Rattle.ep_rules.specs.EntryPoint.Transaction.{start_b, say_message, after_kind, after_verdict, after_move, kernel_runs, activates, given_to, selects, presented, starts, say_ready, transaction}
use Rattle.law_lines.specs.Bytes.{AsksBytes}
use Rattle.law_run.proofs.Picking.{candidates_lem}
use Rattle.law_run.specs.CandidateFacts.{IsCandidate}
use Rattle.law_documents.proofs.Names.{CandidateOfBytes, candidates_read}
use Rattle.law_documents.proofs.Parts.{IfThere, either, no_bytes, one_more, appended}

-- SELECT of a name of bytes.
select_asks : (name : List ℕ) → length name < 256 → IsBytes name → IsBytes (select name)
select_asks name short h =
    one_more 0x00 (0xa4 ∷ 0x04 ∷ 0x00 ∷ length name ∷ name ++ 0x00 ∷ []) (omega arith)
    (one_more 0xa4 (0x04 ∷ 0x00 ∷ length name ∷ name ++ 0x00 ∷ []) (omega arith)
    (one_more 0x04 (0x00 ∷ length name ∷ name ++ 0x00 ∷ []) (omega arith)
    (one_more 0x00 (length name ∷ name ++ 0x00 ∷ []) (omega arith)
    (one_more (length name) (name ++ 0x00 ∷ []) short
    (appended name (0x00 ∷ []) h (one_more 0x00 [] (omega arith) no_bytes))))))

-- A list of small numbers, as a computed test.
abbrev all_small : List ℕ → Bool
all_small [] = true
all_small (b ∷ bs) = nat_le b 255 && all_small bs

small_bytes : (bs : List ℕ) → all_small bs ≡ true → IsBytes bs
small_bytes [] e = no_bytes
small_bytes (b ∷ bs) e =
    let both = and_parts (nat_le b 255) (all_small bs) e in
    let least : b ≤ 255 = leb-true b 255 both.0 in
    one_more b bs (omega (arith, least)) (small_bytes bs both.1)

ppse_asks : IsBytes (select ppse_name)
ppse_asks = small_bytes (select ppse_name) refl

-- The name of a final SELECT.
extended_asks : (name : List ℕ) (supported : Bool) (o : Option (List ℕ)) → length name ≤ 16 → IsBytes name → IfThere IsBytes o
    → IsBytes (select (extended_name name supported o))
extended_asks name supported None sixteen h g = select_asks name (omega (arith, sixteen)) h
extended_asks name supported (Some extension) sixteen h g =
    cond_both (supported && nat_le (length name + length extension) 16) (name ++ extension) name (λ n. IsBytes (select n))
    (λ e.
    let room : length name + length extension ≤ 16 = leb-true (length name + length extension) 16 (and_parts supported (nat_le (length name + length extension) 16) e).1 in
    select_asks (name ++ extension) (omega (arith, length-append name extension, room)) (appended name extension h g))
    (λ e. select_asks name (omega (arith, sixteen)) h)

final_asks : (c : Candidate) → length c.name ≤ 16 → CandidateOfBytes c → IsBytes (final_command c)
final_asks c sixteen h = extended_asks c.name c.one.combination.extended c.extension sixteen h.0 h.1

-- The rounds of a Start B.
module _ (message : Message) (next : Activated → Talk) (asks : (card : Activated) → AsksBytes (next card)) where
  collision_asks : (collided : Bool) (t : Talk) → AsksBytes t → AsksBytes (say_collision collided message t)
  collision_asks true t h = h
  collision_asks false t h = h

  end_asks : (collided : Bool) (again : Bool → Talk) → ((c : Bool) → AsksBytes (again c)) → (e : RoundEnd) → AsksBytes (by_end message collided again next e)
  end_asks collided again h Empty = h collided
  end_asks collided again h Collision = collision_asks collided (again true) (h true)
  end_asks collided again h Unsupported = h collided
  end_asks collided again h Broken = h collided
  end_asks collided again h (Found card) = asks card

  rounds_ask : (n : ℕ) (collided : Bool) → AsksBytes (rounds message n collided next)
  unfolding rounds
  rounds_ask zero collided = tt
  rounds_ask (suc n) collided = end_asks collided (λ c. rounds message n c next) (λ c. rounds_ask n c)

-- What a kernel does next, with bytes alone.
abbrev SendsBytes : KernelStep → Type 0
SendsBytes (Send command) = IsBytes command
SendsBytes (Done verdict) = Unit {0}

-- From a good state on, kernels send bytes alone.
record KernelsSend {S : Type 0} (Good : S → Type 0) (k : KernelSteps S) : Type 0 where
  begin_good : (s : S) (g : Activation) → Good s → Good (k.begin s g)
  step_good : (s : S) (last : Option (List ℕ)) → Good s → Good (k.step s last).1
  sends : (s : S) (last : Option (List ℕ)) → Good s → SendsBytes (k.step s last).0

module _ {S : Type 0} (k : KernelSteps S) (Good : S → Type 0) (sent : KernelsSend Good k) where
  abbrev AllAsk : (S → Talk) → Type 0
  AllAsk next = (s : S) → Good s → AsksBytes (next s)

  module _ (again : S → Talk) (again_asks : AllAsk again) where
    kind_asks : (more : S → Talk) → AllAsk more → (kind : OutcomeKind) → AllAsk (after_kind again more kind)
    kind_asks more h SelectNext s g = h s g
    kind_asks more h TryAgain s g = again_asks s g
    kind_asks more h Approved s g = tt
    kind_asks more h Declined s g = tt
    kind_asks more h OnlineRequest s g = tt
    kind_asks more h TryAnother s g = tt
    kind_asks more h EndApplication s g = tt

    message_asks : (o : Option Message) (t : Talk) → AsksBytes t → AsksBytes (say_message o t)
    message_asks None t h = h
    message_asks (Some message) t h = h

    verdict_asks : (more : S → Talk) → AllAsk more → (v : Verdict) → AllAsk (after_verdict again more v)
    verdict_asks more h v s g = message_asks v.message (after_kind again more v.kind s) (kind_asks more h v.kind s g)

    move_asks : (more : S → Talk) → AllAsk more → (go : S → Option (List ℕ) → Talk) → ((last : Option (List ℕ)) → AllAsk (λ s. go s last))
        → (p : KernelStep × S) → SendsBytes p.0 → Good p.1 → AsksBytes (after_move (after_verdict again more) go p)
    move_asks more h go l ((Send command), t) is g = (is, λ r _. l (Some r) t g)
    move_asks more h go l ((Done verdict), t) is g = verdict_asks more h verdict t g

    kernel_asks : (more : S → Talk) → AllAsk more → (n : ℕ) (last : Option (List ℕ)) → AllAsk (λ s. kernel_runs k (after_verdict again more) n s last)
    kernel_asks more h zero last s g = tt
    kernel_asks more h (suc n) last s g =
        move_asks more h (kernel_runs k (after_verdict again more) n) (kernel_asks more h n) (k.step s last) (sent.sends s last g) (sent.step_good s last g)

    -- The candidates in turn.
    selects_ask : (ones : List PreparedOne) (cs : List Candidate) → All (IsCandidate ones) cs → All CandidateOfBytes cs → AllAsk (selects k again cs)
    selects_ask ones [] are h s g = tt
    selects_ask ones (c ∷ cs) are h s g =
        let more = selects_ask ones cs (All-tail (IsCandidate ones) c cs are) (All-tail CandidateOfBytes c cs h) in (
          final_asks c (All-head (IsCandidate ones) c cs are).sixteen (All-head CandidateOfBytes c cs h),
          λ r _.
              let t = k.begin s (given_to c r) in
              either AsksBytes (is_9000 r) (activates k (after_verdict again (selects k again cs)) (given_to c r) s) (selects k again cs s)
              (kernel_asks (selects k again cs) more (k.commands t + 1) None t (sent.begin_good s (given_to c r) g)) (more s g),
        )

    presented_asks : (ones : List PreparedOne) (s : S) (card : Activated) → Good s → AsksBytes (presented k again ones s card)
    presented_asks ones s card g =
        (ppse_asks, λ r is. selects_ask ones (candidates ones (directory r)) (candidates_lem ones (directory r)) (candidates_read ones r is) s g)

  starts_ask : (ones : List PreparedOne) (n : ℕ) → AllAsk (starts k ones n)
  unfolding start_b
  starts_ask ones zero s g = rounds_ask OneCardOnly (presented k (λ t. Over Finished) ones s) (λ card. presented_asks (λ t. Over Finished) (λ t h. tt) ones s card g) ROUNDS false
  starts_ask ones (suc n) s g = rounds_ask OneCardOnly (presented k (starts k ones n) ones s) (λ card. presented_asks (starts k ones n) (starts_ask ones n) ones s card g) ROUNDS false

ready_asks : (n : ℕ) (ones : List PreparedOne) (t : Talk) → AsksBytes t → AsksBytes (say_ready n ones t)
ready_asks n [] t h = h
ready_asks n (one ∷ ones) t h = ready_asks (n + 1) ones t h

transaction_asks : {S : Type 0} (k : KernelSteps S) (Good : S → Type 0) → KernelsSend Good k → (txn_type amount : ℕ) (ones : List PreparedOne) (s : S) → Good s
    → AsksBytes (transaction k txn_type amount ones s)
transaction_asks k Good sent txn_type amount ones s g =
    ready_asks 1 ones
    (cond (any_allowed ones) (Say (Notice PresentCard) (starts k ones (k.restarts s) s)) (Say (Outcome TryAnother) (Say (Notice InsertOrSwipe) (Over Finished))))
    (either AsksBytes (any_allowed ones) (Say (Notice PresentCard) (starts k ones (k.restarts s) s)) (Say (Outcome TryAnother) (Say (Notice InsertOrSwipe) (Over Finished)))
    (starts_ask k Good sent ones (k.restarts s) s g) tt)

-- Scripts whose commands are bytes.
abbrev pub StepOfBytes : Step → Type 0
StepOfBytes x = IsBytes x.send

abbrev pub ScriptOfBytes : Script → Type 0
ScriptOfBytes s = All StepOfBytes s.steps

abbrev RunningOfBytes : Running → Type 0
RunningOfBytes r = All StepOfBytes r.steps

abbrev ScriptsOfBytes : Scripted → Type 0
ScriptsOfBytes s = All ScriptOfBytes s.scripts × IfThere RunningOfBytes s.running

module _ (kernel : ℕ) where
  script_begins : (scripts : List Script) → All ScriptOfBytes scripts → IfThere RunningOfBytes (begun (script_for kernel scripts))
  script_begins [] all = tt
  script_begins (s ∷ scripts) all =
      either (λ o. IfThere RunningOfBytes (begun o)) (s.kernel == kernel) (Some s) (script_for kernel scripts)
      (All-head ScriptOfBytes s scripts all) (script_begins scripts (All-tail ScriptOfBytes s scripts all))

  scripts_stay : (scripts : List Script) → All ScriptOfBytes scripts → All ScriptOfBytes (without_script kernel scripts)
  scripts_stay [] all = all
  scripts_stay (s ∷ scripts) all =
      let more = All-tail ScriptOfBytes s scripts all in
      either (All ScriptOfBytes) (s.kernel == kernel) _ _
      more (All-cons ScriptOfBytes s (without_script kernel scripts) (All-head ScriptOfBytes s scripts all) (scripts_stay scripts more))

abbrev Goes : KernelStep × Option Running → Type 0
Goes m = SendsBytes m.0 × IfThere RunningOfBytes m.1

next_goes : (verdict : Verdict) (steps : List Step) → All StepOfBytes steps → Goes (next_step verdict steps)
next_goes verdict [] all = (tt, tt)
next_goes verdict (x ∷ steps) all = (All-head StepOfBytes x steps all, All-tail StepOfBytes x steps all)

answered_goes : (verdict : Verdict) (steps : List Step) → All StepOfBytes steps → (awaited : Option Awaited) (last : Option (List ℕ)) → Goes (answered verdict steps awaited last)
answered_goes verdict steps all None last = next_goes verdict steps all
answered_goes verdict steps all (Some x) None = next_goes verdict steps all
answered_goes verdict steps all (Some x) (Some r) = either Goes (_ == x.want) _ _ (next_goes verdict steps all) (tt, tt)

step_goes : (o : Option Running) → IfThere RunningOfBytes o → (last : Option (List ℕ)) → Goes (running_step o last)
step_goes None all last = (tt, tt)
step_goes (Some r) all last = answered_goes r.verdict r.steps all r.awaited last

scripts_send : KernelsSend ScriptsOfBytes scripted
scripts_send = record {
  begin_good = λ s g good. (scripts_stay g.kernel s.scripts good.0, script_begins g.kernel s.scripts good.0);
  step_good = λ s last good. (good.0, (step_goes s.running good.1 last).1);
  sends = λ s last good. (step_goes s.running good.1 last).0;
}

-- A transaction whose kernels follow scripts of bytes.
pub scripted_asks : (txn_type amount : ℕ) (ones : List PreparedOne) (scripts : List Script) → All ScriptOfBytes scripts
    → AsksBytes (transaction scripted txn_type amount ones (record { scripts = scripts; running = None }))
scripted_asks txn_type amount ones scripts all = transaction_asks scripted ScriptsOfBytes scripts_send txn_type amount ones (record { scripts = scripts; running = None }) (all, tt)
