-- The transaction of Entry Point is bounded.
use Rattle.std.proofs.Common.{◌≡◌, ℕ, zero, suc, ◌+◌, ◌-◌, Bool, true, false, cond, List, [], ◌∷◌, sym, subst, arith, Some, None, Option}
use Rattle.std.proofs.lemmas.Bool.{cond_both}
use Rattle.ep_base.specs.declared.limits.TheConstants.{ROUNDS}
use Rattle.ep_base.specs.declared.outcome.OutcomeKind.{OutcomeKind}
use Rattle.ep_base.specs.declared.outcome.OutcomeKind.TheVariants.{SelectNext, TryAgain, Approved, Declined, OnlineRequest, TryAnother, EndApplication}
use Rattle.ep_base.specs.declared.outcome.Message.{Message}
use Rattle.ep_base.specs.declared.outcome.Message.TheVariants.{PresentCard, InsertOrSwipe, OneCardOnly}
use Rattle.ep_base.specs.Air.Heard.{Activated, RoundEnd, Empty, Collision, Unsupported, Broken, Found}
use Rattle.ep_rules.specs.EntryPoint.PreProcessing.{PreparedOne, any_allowed}
use Rattle.ep_base.specs.Cards.Apdu.{is_9000}
use Rattle.ep_base.specs.Objects.Directory.{directory}
use Rattle.ep_rules.specs.EntryPoint.Candidates.{Candidate, candidates}
use Rattle.ep_rules.specs.EntryPoint.Event.{Verdict, Notice, Outcome, Finished}
use Rattle.ep_rules.specs.EntryPoint.Kernel.{KernelStep, Send, Done, KernelSteps}
use Rattle.ep_rules.specs.EntryPoint.Talk.{Talk, Over, Say, say_collision, by_end, rounds}
use Rattle.ep_rules.specs.EntryPoint.Transaction.{start_b, say_message, after_kind, after_verdict, after_move, kernel_runs, activates, given_to, selects, presented, starts, say_ready, transaction}
use Rattle.law_run.proofs.Bounding.{few_commands_lem, few_starts_lem}
use Rattle.law_run.proofs.Legal.{legal_lem}
use Rattle.ep_claim.specs.Lanes.Counting.{rounds_left, AtMostRounds, TransactionsAreBounded}

-- a Start B with all of its rounds left
abbrev IsFew : Talk → Type 0
IsFew talk = AtMostRounds ROUNDS ROUNDS talk

-- each round takes one of those that are left
module _ (message : Message) (next : Activated → Talk) (few : (card : Activated) → IsFew (next card)) where
  one_less : (n : ℕ) (t : Talk) → AtMostRounds ROUNDS n t → AtMostRounds ROUNDS (suc n - 1) t
  one_less n t h = let e : suc n - 1 ≡ n = omega arith in subst (λ k. AtMostRounds ROUNDS k t) (sym e) h

  collision_few : (n : ℕ) (collided : Bool) (t : Talk) → AtMostRounds ROUNDS n t → AtMostRounds ROUNDS n (say_collision collided message t)
  collision_few n true t h = h
  collision_few n false t h = h

  end_few : (n : ℕ) (collided : Bool) (again : Bool → Talk) → ((c : Bool) → AtMostRounds ROUNDS n (again c)) → (e : RoundEnd)
      → AtMostRounds ROUNDS (rounds_left ROUNDS (suc n) e) (by_end message collided again next e)
  end_few n collided again h Empty = one_less n (again collided) (h collided)
  end_few n collided again h Collision = one_less n (say_collision collided message (again true)) (collision_few n collided (again true) (h true))
  end_few n collided again h Unsupported = one_less n (again collided) (h collided)
  end_few n collided again h Broken = one_less n (again collided) (h collided)
  end_few n collided again h (Found card) = few card

  rounds_few : (n : ℕ) (collided : Bool) → AtMostRounds ROUNDS n (rounds message n collided next)
  unfolding rounds
  rounds_few zero collided = tt
  rounds_few (suc n) collided = (omega arith, end_few n collided (λ c. rounds message n c next) (λ c. rounds_few n c))

module _ {S : Type 0} (k : KernelSteps S) where
  module _ (again : S → Talk) (few : (s : S) → IsFew (again s)) where
    kind_few : (more : S → Talk) → ((s : S) → IsFew (more s)) → (kind : OutcomeKind) (s : S) → IsFew (after_kind again more kind s)
    kind_few more h SelectNext s = h s
    kind_few more h TryAgain s = few s
    kind_few more h Approved s = tt
    kind_few more h Declined s = tt
    kind_few more h OnlineRequest s = tt
    kind_few more h TryAnother s = tt
    kind_few more h EndApplication s = tt

    message_few : (o : Option Message) (t : Talk) → IsFew t → IsFew (say_message o t)
    message_few None t h = h
    message_few (Some message) t h = h

    verdict_few : (more : S → Talk) → ((s : S) → IsFew (more s)) → (v : Verdict) (s : S) → IsFew (after_verdict again more v s)
    verdict_few more h v s = message_few v.message (after_kind again more v.kind s) (kind_few more h v.kind s)

    move_few : (more : S → Talk) → ((s : S) → IsFew (more s)) → (go : S → Option (List ℕ) → Talk) → ((s : S) (last : Option (List ℕ)) → IsFew (go s last)) → (p : KernelStep × S)
        → IsFew (after_move (after_verdict again more) go p)
    move_few more h go g ((Send command), t) = λ r. g t (Some r)
    move_few more h go g ((Done verdict), t) = verdict_few more h verdict t

    kernel_few : (more : S → Talk) → ((s : S) → IsFew (more s)) → (n : ℕ) (s : S) (last : Option (List ℕ)) → IsFew (kernel_runs k (after_verdict again more) n s last)
    kernel_few more h zero s last = tt
    kernel_few more h (suc n) s last = move_few more h (kernel_runs k (after_verdict again more) n) (kernel_few more h n) (k.step s last)

    selects_few : (cs : List Candidate) (s : S) → IsFew (selects k again cs s)
    selects_few [] s = tt
    selects_few (c ∷ cs) s = λ r.
        let t = k.begin s (given_to c r) in
        cond_both (is_9000 r) (activates k (after_verdict again (selects k again cs)) (given_to c r) s) (selects k again cs s) IsFew
        (λ h. kernel_few (selects k again cs) (selects_few cs) (k.commands t + 1) t None) (λ h. selects_few cs s)

    presented_few : (ones : List PreparedOne) (s : S) (card : Activated) → IsFew (presented k again ones s card)
    presented_few ones s card = λ r. selects_few (candidates ones (directory r)) s

  starts_few : (ones : List PreparedOne) (n : ℕ) (s : S) → IsFew (starts k ones n s)
  unfolding start_b
  starts_few ones zero s =
      rounds_few OneCardOnly (presented k (λ t. Over Finished) ones s) (λ card. presented_few (λ t. Over Finished) (λ t. tt) ones s card) ROUNDS false
  starts_few ones (suc n) s =
      rounds_few OneCardOnly (presented k (starts k ones n) ones s) (λ card. presented_few (starts k ones n) (λ t. starts_few ones n t) ones s card) ROUNDS false

ready_few : (n : ℕ) (ones : List PreparedOne) (t : Talk) → IsFew t → IsFew (say_ready n ones t)
ready_few n [] t h = h
ready_few n (one ∷ ones) t h = ready_few (n + 1) ones t h

pub transaction_few : {S : Type 0} (k : KernelSteps S) (txn_type amount : ℕ) (ones : List PreparedOne) (s : S) → IsFew (transaction k txn_type amount ones s)
transaction_few k txn_type amount ones s =
    let polls = Say (Notice PresentCard) (starts k ones (k.restarts s) s) in
    let refuses = Say (Outcome TryAnother) (Say (Notice InsertOrSwipe) (Over Finished)) in
    ready_few 1 ones (cond (any_allowed ones) polls refuses) (cond_both (any_allowed ones) polls refuses IsFew (λ h. starts_few k ones (k.restarts s) s) (λ h. tt))

pub transactions_are_bounded_law : {S : Type 0} (k : KernelSteps S) → TransactionsAreBounded k
transactions_are_bounded_law k txn_type amount ones kernel falls sends = record {
  legal = legal_lem k txn_type amount ones kernel sends;
  few_commands = few_commands_lem k falls txn_type amount ones kernel;
  few_starts = few_starts_lem k txn_type amount ones kernel;
  few_rounds = transaction_few k txn_type amount ones kernel;
}
