-- How many commands and Start Bs a transaction has at most.
use Rattle.std.proofs.Common.{◌≡◌, ℕ, zero, suc, ◌+◌, ◌-◌, ◌*◌, ◌≤◌, Bool, true, false, cond, List, [], ◌∷◌, length, ap, ◌∙◌, arith, Some, None, Option}
use Rattle.std.proofs.lemmas.Bool.{cond_both}
use Rattle.std.proofs.Math.Nat.{add-mul}
use Rattle.ep_base.specs.declared.limits.TheConstants.{NAMED, ROUNDS}
use Rattle.ep_base.specs.declared.outcome.OutcomeKind.{OutcomeKind}
use Rattle.ep_base.specs.declared.outcome.OutcomeKind.TheVariants.{SelectNext, TryAgain, Approved, Declined, OnlineRequest, TryAnother, EndApplication}
use Rattle.ep_base.specs.declared.outcome.Message.{Message}
use Rattle.ep_base.specs.declared.outcome.Message.TheVariants.{PresentCard, InsertOrSwipe, OneCardOnly}
use Rattle.ep_base.specs.Air.Heard.{Activated, RoundEnd, Empty, Collision, Unsupported, Broken, Found}
use Rattle.ep_rules.specs.EntryPoint.PreProcessing.{PreparedOne, any_allowed}
use Rattle.ep_base.specs.Cards.Apdu.{is_9000}
use Rattle.ep_base.specs.Objects.Directory.{directory}
use Rattle.ep_rules.specs.EntryPoint.Candidates.{Candidate, candidates}
use Rattle.ep_rules.specs.EntryPoint.Event.{Activation, Verdict, Notice, Outcome, Finished}
use Rattle.ep_rules.specs.EntryPoint.Kernel.{KernelStep, Send, Done, KernelSteps}
use Rattle.ep_rules.specs.EntryPoint.KernelCounts.{CountsFall, FallingCounts}
use Rattle.ep_rules.specs.EntryPoint.Talk.{Talk, Over, Say, Poll, Command, Close, Round, Response, Closed, say_collision, by_end, rounds}
use Rattle.ep_rules.specs.EntryPoint.Transaction.{start_b, say_message, after_kind, after_verdict, after_move, kernel_runs, activates, given_to, selects, start_c, presented, starts, say_ready, transaction}
use Rattle.ep_rules.specs.EntryPoint.Bounds.{AtMost, starts_left, AtMostStarts, log_bound, FewApdus}
use Rattle.law_run.proofs.Picking.{few_lem}

pub most_more : (talk : Talk) (m n : ℕ) → m ≤ n → AtMost m talk → AtMost n talk
most_more (Over ending) m n le most = tt
most_more (Say x next) m n le most = most_more next m n le most
most_more (Poll next) m n le most = λ e. most_more (next e) m n le (most e)
most_more (Command c next) m n le most = (omega (arith, most.0), λ r. most_more (next r) (m - 1) (n - 1) (omega arith) (most.1 r))
most_more (Close next) m n le most = most_more next m n le most

left_more : (m n : ℕ) (e : RoundEnd) → m ≤ n → starts_left m e ≤ starts_left n e
left_more m n Empty le = le
left_more m n Collision le = le
left_more m n Unsupported le = le
left_more m n Broken le = le
left_more m n (Found card) le = omega arith

pub starts_more : (talk : Talk) (m n : ℕ) → m ≤ n → AtMostStarts m talk → AtMostStarts n talk
starts_more (Over ending) m n le most = tt
starts_more (Say x next) m n le most = starts_more next m n le most
starts_more (Poll next) m n le most = (omega (arith, most.0), λ e. starts_more (next e) (starts_left m e) (starts_left n e) (left_more m n e le) (most.1 e))
starts_more (Command c next) m n le most = λ r. starts_more (next r) m n le (most r)
starts_more (Close next) m n le most = starts_more next m n le most

-- The rounds of a Start B have no command of their own.
module _ (message : Message) (next : Activated → Talk) (m : ℕ) (most : (card : Activated) → AtMost m (next card)) where
  collision_most : (collided : Bool) (t : Talk) → AtMost m t → AtMost m (say_collision collided message t)
  collision_most true t h = h
  collision_most false t h = h

  end_most : (collided : Bool) (again : Bool → Talk) → ((c : Bool) → AtMost m (again c)) → (e : RoundEnd) → AtMost m (by_end message collided again next e)
  end_most collided again h Empty = h collided
  end_most collided again h Collision = collision_most collided (again true) (h true)
  end_most collided again h Unsupported = h collided
  end_most collided again h Broken = h collided
  end_most collided again h (Found card) = most card

  pub rounds_most : (n : ℕ) (collided : Bool) → AtMost m (rounds message n collided next)
  unfolding rounds
  rounds_most zero collided = tt
  rounds_most (suc n) collided = end_most collided (λ c. rounds message n c next) (λ c. rounds_most n c)

module _ {S : Type 0} (k : KernelSteps S) (falls : FallingCounts k) where
  -- What follows a verdict: a talk that goes on from the kernels' state s has at most rest + k.commands s commands.
  abbrev Follows : ℕ → (S → Talk) → Type 0
  Follows rest next = (s : S) → AtMost (rest + k.commands s) (next s)

  kind_most : (again more : S → Talk) (rest : ℕ) → Follows rest again → Follows rest more → (kind : OutcomeKind) → Follows rest (after_kind again more kind)
  kind_most again more rest a m SelectNext s = m s
  kind_most again more rest a m TryAgain s = a s
  kind_most again more rest a m Approved s = tt
  kind_most again more rest a m Declined s = tt
  kind_most again more rest a m OnlineRequest s = tt
  kind_most again more rest a m TryAnother s = tt
  kind_most again more rest a m EndApplication s = tt

  message_most : (o : Option Message) (m : ℕ) (t : Talk) → AtMost m t → AtMost m (say_message o t)
  message_most None m t h = h
  message_most (Some message) m t h = h

  verdict_most : (again more : S → Talk) (rest : ℕ) → Follows rest again → Follows rest more → (v : Verdict) → Follows rest (after_verdict again more v)
  verdict_most again more rest a m v s = message_most v.message (rest + k.commands s) (after_kind again more v.kind s) (kind_most again more rest a m v.kind s)

  -- A kernel's commands come out of those that are left.
  module _ (next : Verdict → S → Talk) (rest : ℕ) (most : (v : Verdict) → Follows rest (next v)) where
    move_most : (more : S → Option (List ℕ) → Talk) → ((last : Option (List ℕ)) → Follows rest (λ s. more s last)) → (s : S) (p : KernelStep × S) → CountsFall k p.0 s p.1 → AtMost (rest + k.commands s) (after_move next more p)
    move_most more h s ((Send command), t) fall =
        (omega (arith, fall.0), λ r. most_more (more t (Some r)) (rest + k.commands t) (rest + k.commands s - 1) (omega (arith, fall.0)) (h (Some r) t))
    move_most more h s ((Done verdict), t) fall = most_more (next verdict t) (rest + k.commands t) (rest + k.commands s) (omega (arith, fall.0)) (most verdict t)

    kernel_most : (n : ℕ) (last : Option (List ℕ)) → Follows rest (λ s. kernel_runs k next n s last)
    kernel_most zero last s = tt
    kernel_most (suc n) last s = move_most (kernel_runs k next n) (λ l. kernel_most n l) s (k.step s last) (falls.step s last)

    activates_most : (g : Activation) → Follows rest (activates k next g)
    activates_most g s =
        let t = k.begin s g in
        let le = falls.begin_commands s g in
        most_more (kernel_runs k next (k.commands t + 1) t None) (rest + k.commands t) (rest + k.commands s) (omega arith) (kernel_most (k.commands t + 1) None t)

  -- The candidates in turn: one command for each.
  selects_most : (again : S → Talk) (rest : ℕ) → Follows rest again → (cs : List Candidate) → Follows (length cs + rest) (selects k again cs)
  selects_most again rest a [] s = tt
  selects_most again rest a (c ∷ cs) s =
      let more = selects_most again rest a cs in
      let n = length cs + rest + k.commands s in
      let later : Follows (length cs + rest) again = λ t. most_more (again t) (rest + k.commands t) (length cs + rest + k.commands t) (omega arith) (a t) in (
        omega arith,
        λ r.
            most_more (cond (is_9000 r) (activates k (after_verdict again (selects k again cs)) (given_to c r) s) (selects k again cs s)) n (length (c ∷ cs) + rest + k.commands s - 1) (omega arith)
            (cond_both (is_9000 r) (activates k (after_verdict again (selects k again cs)) (given_to c r) s) (selects k again cs s) (AtMost n)
            (λ h. activates_most (after_verdict again (selects k again cs)) (length cs + rest) (verdict_most again (selects k again cs) (length cs + rest) later more) (given_to c r) s)
            (λ h. more s)),
      )

  start_c_most : (again : S → Talk) (rest : ℕ) → Follows rest again → (ones : List PreparedOne) → Follows (1 + NAMED * length ones + rest) (start_c k again ones)
  start_c_most again rest a ones s = (
    omega arith,
    λ r.
        let cs = candidates ones (directory r) in
        let few : length cs ≤ 28 * length ones = few_lem ones (directory r) in
        most_more (selects k again cs s) (length cs + rest + k.commands s) (1 + 28 * length ones + rest + k.commands s - 1) (omega arith) (selects_most again rest a cs s),
  )

  once_more : (n combinations : ℕ) → (1 + suc n) * (1 + NAMED * combinations) ≡ 1 + NAMED * combinations + (1 + n) * (1 + NAMED * combinations)
  once_more n combinations =
      let e : 1 + suc n ≡ 1 + (1 + n) = omega arith in
      ap (λ m. m * (1 + NAMED * combinations)) e ∙ (let d = add-mul 1 (1 + n) (1 + NAMED * combinations) in omega arith)

  starts_most : (ones : List PreparedOne) (n : ℕ) (s : S) → AtMost (log_bound n (length ones) (k.commands s)) (starts k ones n s)
  unfolding start_b
  starts_most ones zero s =
      rounds_most OneCardOnly (presented k (λ t. Over Finished) ones s) (log_bound zero (length ones) (k.commands s))
      (λ card. most_more (start_c k (λ t. Over Finished) ones s) (1 + NAMED * length ones + 0 + k.commands s) (log_bound zero (length ones) (k.commands s)) (omega arith) (start_c_most (λ t. Over Finished) 0 (λ t. tt) ones s)) ROUNDS false
  starts_most ones (suc n) s =
      let rest = (1 + n) * (1 + NAMED * length ones) in
      let e = once_more n (length ones) in
      rounds_most OneCardOnly (presented k (starts k ones n) ones s) (log_bound (suc n) (length ones) (k.commands s))
      (λ card. most_more (start_c k (starts k ones n) ones s) (1 + NAMED * length ones + rest + k.commands s) (log_bound (suc n) (length ones) (k.commands s)) (omega arith) (start_c_most (starts k ones n) rest (λ t. starts_most ones n t) ones s)) ROUNDS false

ready_most : (n : ℕ) (ones : List PreparedOne) (m : ℕ) (t : Talk) → AtMost m t → AtMost m (say_ready n ones t)
ready_most n [] m t h = h
ready_most n (one ∷ ones) m t h = ready_most (n + 1) ones m t h

pub few_commands_lem : {S : Type 0} (k : KernelSteps S) → FallingCounts k → (txn_type amount : ℕ) (ones : List PreparedOne) (s : S)
    → AtMost (log_bound (k.restarts s) (length ones) (k.commands s)) (transaction k txn_type amount ones s)
few_commands_lem k falls txn_type amount ones s =
    let m = log_bound (k.restarts s) (length ones) (k.commands s) in
    ready_most 1 ones m
    (cond (any_allowed ones) (Say (Notice PresentCard) (starts k ones (k.restarts s) s)) (Say (Outcome TryAnother) (Say (Notice InsertOrSwipe) (Over Finished))))
    (cond_both (any_allowed ones) (Say (Notice PresentCard) (starts k ones (k.restarts s) s)) (Say (Outcome TryAnother) (Say (Notice InsertOrSwipe) (Over Finished))) (AtMost m)
    (λ h. starts_most k falls ones (k.restarts s) s) (λ h. tt))

-- Each Start B takes one of those that are left.
module _ (message : Message) (next : Activated → Talk) (m : ℕ) (most : (card : Activated) → AtMostStarts m (next card)) where
  collision_starts : (collided : Bool) (t : Talk) → AtMostStarts (1 + m) t → AtMostStarts (1 + m) (say_collision collided message t)
  collision_starts true t h = h
  collision_starts false t h = h

  end_starts : (collided : Bool) (again : Bool → Talk) → ((c : Bool) → AtMostStarts (1 + m) (again c)) → (e : RoundEnd) → AtMostStarts (starts_left (1 + m) e) (by_end message collided again next e)
  end_starts collided again h Empty = h collided
  end_starts collided again h Collision = collision_starts collided (again true) (h true)
  end_starts collided again h Unsupported = h collided
  end_starts collided again h Broken = h collided
  end_starts collided again h (Found card) = starts_more (next card) m (1 + m - 1) (omega arith) (most card)

  pub rounds_starts : (n : ℕ) (collided : Bool) → AtMostStarts (1 + m) (rounds message n collided next)
  unfolding rounds
  rounds_starts zero collided = tt
  rounds_starts (suc n) collided = (omega arith, end_starts collided (λ c. rounds message n c next) (λ c. rounds_starts n c))

module _ {S : Type 0} (k : KernelSteps S) where
  module _ (m : ℕ) (again : S → Talk) (most : (s : S) → AtMostStarts m (again s)) where
    kind_starts : (more : S → Talk) → ((s : S) → AtMostStarts m (more s)) → (kind : OutcomeKind) (s : S) → AtMostStarts m (after_kind again more kind s)
    kind_starts more h SelectNext s = h s
    kind_starts more h TryAgain s = most s
    kind_starts more h Approved s = tt
    kind_starts more h Declined s = tt
    kind_starts more h OnlineRequest s = tt
    kind_starts more h TryAnother s = tt
    kind_starts more h EndApplication s = tt

    message_starts : (o : Option Message) (t : Talk) → AtMostStarts m t → AtMostStarts m (say_message o t)
    message_starts None t h = h
    message_starts (Some message) t h = h

    verdict_starts : (more : S → Talk) → ((s : S) → AtMostStarts m (more s)) → (v : Verdict) (s : S) → AtMostStarts m (after_verdict again more v s)
    verdict_starts more h v s = message_starts v.message (after_kind again more v.kind s) (kind_starts more h v.kind s)

    move_starts : (more : S → Talk) → ((s : S) → AtMostStarts m (more s)) → (go : S → Option (List ℕ) → Talk) → ((s : S) (last : Option (List ℕ)) → AtMostStarts m (go s last)) → (p : KernelStep × S) → AtMostStarts m (after_move (after_verdict again more) go p)
    move_starts more h go g ((Send command), t) = λ r. g t (Some r)
    move_starts more h go g ((Done verdict), t) = verdict_starts more h verdict t

    kernel_starts : (more : S → Talk) → ((s : S) → AtMostStarts m (more s)) → (n : ℕ) (s : S) (last : Option (List ℕ)) → AtMostStarts m (kernel_runs k (after_verdict again more) n s last)
    kernel_starts more h zero s last = tt
    kernel_starts more h (suc n) s last = move_starts more h (kernel_runs k (after_verdict again more) n) (kernel_starts more h n) (k.step s last)

    selects_starts : (cs : List Candidate) (s : S) → AtMostStarts m (selects k again cs s)
    selects_starts [] s = tt
    selects_starts (c ∷ cs) s = λ r.
        let t = k.begin s (given_to c r) in
        cond_both (is_9000 r) (activates k (after_verdict again (selects k again cs)) (given_to c r) s) (selects k again cs s) (AtMostStarts m)
        (λ h. kernel_starts (selects k again cs) (selects_starts cs) (k.commands t + 1) t None) (λ h. selects_starts cs s)

    presented_starts : (ones : List PreparedOne) (s : S) (card : Activated) → AtMostStarts m (presented k again ones s card)
    presented_starts ones s card = λ r. selects_starts (candidates ones (directory r)) s

  starts_starts : (ones : List PreparedOne) (n : ℕ) (s : S) → AtMostStarts (1 + n) (starts k ones n s)
  unfolding start_b
  starts_starts ones zero s =
      rounds_starts OneCardOnly (presented k (λ t. Over Finished) ones s) 0 (λ card. presented_starts 0 (λ t. Over Finished) (λ t. tt) ones s card) ROUNDS false
  starts_starts ones (suc n) s =
      rounds_starts OneCardOnly (presented k (starts k ones n) ones s) (suc n)
      (λ card. presented_starts (suc n) (starts k ones n) (λ t. starts_more (starts k ones n t) (1 + n) (suc n) (omega arith) (starts_starts ones n t)) ones s card) ROUNDS false

ready_starts : (n : ℕ) (ones : List PreparedOne) (m : ℕ) (t : Talk) → AtMostStarts m t → AtMostStarts m (say_ready n ones t)
ready_starts n [] m t h = h
ready_starts n (one ∷ ones) m t h = ready_starts (n + 1) ones m t h

pub few_starts_lem : {S : Type 0} (k : KernelSteps S) (txn_type amount : ℕ) (ones : List PreparedOne) (s : S) → AtMostStarts (1 + k.restarts s) (transaction k txn_type amount ones s)
few_starts_lem k txn_type amount ones s =
    ready_starts 1 ones (1 + k.restarts s)
    (cond (any_allowed ones) (Say (Notice PresentCard) (starts k ones (k.restarts s) s)) (Say (Outcome TryAnother) (Say (Notice InsertOrSwipe) (Over Finished))))
    (cond_both (any_allowed ones) (Say (Notice PresentCard) (starts k ones (k.restarts s) s)) (Say (Outcome TryAnother) (Say (Notice InsertOrSwipe) (Over Finished))) (AtMostStarts (1 + k.restarts s))
    (λ h. starts_starts k ones (k.restarts s) s) (λ h. tt))

pub few_apdus_lem : FewApdus
few_apdus_lem (Over ending) n results most = omega arith
few_apdus_lem (Say x next) n results most = few_apdus_lem next n results most
few_apdus_lem (Poll next) n [] most = omega arith
few_apdus_lem (Poll next) n ((Round e) ∷ results) most = few_apdus_lem (next e) n results (most e)
few_apdus_lem (Poll next) n ((Response r) ∷ results) most = omega arith
few_apdus_lem (Poll next) n (Closed ∷ results) most = omega arith
few_apdus_lem (Command c next) n [] most = omega (arith, most.0)
few_apdus_lem (Command c next) n ((Round e) ∷ results) most = omega (arith, most.0)
few_apdus_lem (Command c next) n ((Response r) ∷ results) most = let rest = few_apdus_lem (next r) (n - 1) results (most.1 r) in omega (arith, most.0)
few_apdus_lem (Command c next) n (Closed ∷ results) most = omega (arith, most.0)
few_apdus_lem (Close next) n [] most = omega arith
few_apdus_lem (Close next) n ((Round e) ∷ results) most = omega arith
few_apdus_lem (Close next) n ((Response r) ∷ results) most = omega arith
few_apdus_lem (Close next) n (Closed ∷ results) most = few_apdus_lem next n results most
