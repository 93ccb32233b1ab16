-- The transaction of Entry Point, starts A to D, as a talk (after EMV Contactless Book B, with this project's profile).
use Rattle.std.specs.Prelude.{ℕ, zero, suc, ◌+◌, false, List, [], ◌∷◌, length, Some, None, if◌then◌else◌}
use Rattle.std.specs.declared.option.Option.{Option}
use Rattle.ep_base.specs.declared.outcome.OutcomeKind.{OutcomeKind}
use Rattle.ep_base.specs.declared.outcome.OutcomeKind.TheVariants.{SelectNext, TryAgain, Approved, Declined, OnlineRequest, TryAnother, EndApplication}
use Rattle.ep_base.specs.declared.outcome.Message.{Message}
use Rattle.ep_base.specs.declared.outcome.Message.TheVariants.{PresentCard, InsertOrSwipe, OneCardOnly, TryAnotherCard}
use Rattle.ep_base.specs.Cards.Apdu.{select, ppse_name, data_of, is_9000}
use Rattle.ep_rules.specs.EntryPoint.PreProcessing.{PreparedOne, any_allowed}
use Rattle.ep_base.specs.Objects.Directory.{directory}
use Rattle.ep_rules.specs.EntryPoint.Candidates.{Candidate, candidates, final_command}
use Rattle.ep_base.specs.Air.Heard.{Activated}
use Rattle.ep_rules.specs.EntryPoint.Event.{Activation, Verdict, Start, Pre, Notice, Card, Candidates, Activate, Outcome, Finished}
use Rattle.ep_rules.specs.EntryPoint.Kernel.{KernelStep, Send, Done, KernelSteps}
use Rattle.ep_rules.specs.EntryPoint.Talk.{Talk, Over, Say, Command, Close, rounds}
use Rattle.ep_base.specs.declared.limits.TheConstants.{ROUNDS}

-- Start B: the card that a round finds, or the end after the last of at most `ROUNDS` rounds (their number is this project's profile).
unfoldable pub start_b : (Activated → Talk) → Talk
start_b next = rounds OneCardOnly ROUNDS false next

abbrev pub say_message : Option Message → Talk → Talk
say_message None next = next
say_message (Some message) next = Say (Notice message) next

-- The presentation is closed and the transaction ends.
abbrev pub ends : Talk
ends = Close (Over Finished)

-- After an outcome: the rest of the list, a new Start B, or the end.
abbrev pub after_kind : {S : Type 0} → (again more : S → Talk) → OutcomeKind → S → Talk
after_kind again more SelectNext s = more s
after_kind again more TryAgain s = Close (again s)
after_kind again more Approved s = ends
after_kind again more Declined s = ends
after_kind again more OnlineRequest s = ends
after_kind again more TryAnother s = ends
after_kind again more EndApplication s = ends

abbrev pub after_verdict : {S : Type 0} → (again more : S → Talk) → Verdict → S → Talk
after_verdict again more v s = Say (Outcome v.kind) (say_message v.message (after_kind again more v.kind s))

abbrev pub after_move : {S : Type 0} → (Verdict → S → Talk) → (S → Option (List ℕ) → Talk) → KernelStep × S → Talk
after_move next more ((Send command), s) = Command command (λ r. more s (Some r))
after_move next more ((Done verdict), s) = next verdict s

-- A kernel's commands, of which it has fewer than n left, and then its verdict.
abbrev pub kernel_runs : {S : Type 0} → KernelSteps S → (Verdict → S → Talk) → ℕ → S → Option (List ℕ) → Talk
kernel_runs k next zero s last = Over Finished
kernel_runs k next (suc n) s last = after_move next (kernel_runs k next n) (k.step s last)

-- Start D: a kernel, from its activation to its verdict.
abbrev pub activates : {S : Type 0} → KernelSteps S → (Verdict → S → Talk) → Activation → S → Talk
activates k next g s = Say (Activate g) (kernel_runs k next (k.commands (k.begin s g) + 1) (k.begin s g) None)

-- What a candidate's kernel is given after the answer to its final SELECT.
abbrev pub given_to : Candidate → List ℕ → Activation
given_to c response = record {
  kernel = c.one.combination.kernel;
  combination = c.combination;
  name = c.name;
  indicators = c.one.indicators;
  ttq = c.one.ttq;
  fci = data_of response;
}

-- Final Selection: the candidates in turn, up to one whose SELECT is answered 9000. After Select Next the list goes on behind it.
abbrev pub selects : {S : Type 0} → KernelSteps S → (again : S → Talk) → List Candidate → S → Talk
selects k again [] s = Say (Outcome EndApplication) (Say (Notice TryAnotherCard) ends)
selects k again (c ∷ cs) s =
    Command (final_command c) (λ r.
    if is_9000 r then activates k (after_verdict again (selects k again cs)) (given_to c r) s else selects k again cs s)

-- Start C, from SELECT PPSE on.
abbrev pub start_c : {S : Type 0} → KernelSteps S → (again : S → Talk) → List PreparedOne → S → Talk
start_c k again ones s =
    Command (select ppse_name) (λ r.
    Say (Candidates (length (candidates ones (directory r)))) (selects k again (candidates ones (directory r)) s))

-- The card that was found, and what it is presented for.
abbrev pub presented : {S : Type 0} → KernelSteps S → (again : S → Talk) → List PreparedOne → S → Activated → Talk
presented k again ones s card = Say (Card card.kind card.id) (start_c k again ones s)

-- The Start Bs, with at most n restarts.
abbrev pub starts : {S : Type 0} → KernelSteps S → List PreparedOne → ℕ → S → Talk
starts k ones zero s = start_b (presented k (λ _. Over Finished) ones s)
starts k ones (suc n) s = start_b (presented k (starts k ones n) ones s)

-- Each Combination of Pre-Processing, numbered from n.
abbrev pub say_ready : ℕ → List PreparedOne → Talk → Talk
say_ready n [] next = next
say_ready n (one ∷ ones) next = Say (Pre n one) (say_ready (n + 1) ones next)

-- The transaction, from Pre-Processing's list on.
abbrev pub transaction : {S : Type 0} → KernelSteps S → (txn_type amount : ℕ) → List PreparedOne → S → Talk
transaction k txn_type amount ones s =
    Say (Start txn_type amount) (say_ready 1 ones
    (if any_allowed ones then Say (Notice PresentCard) (starts k ones (k.restarts s) s)
    else Say (Outcome TryAnother) (Say (Notice InsertOrSwipe) (Over Finished))))
