-- What is wished after each part of a presentation.
use Rattle.std.proofs.Common.{◌≡◌, ℕ, zero, suc, ◌+◌, ◌<◌, ◌≤◌, Bool, true, false, List, [], ◌∷◌, ◌++◌, length, slice_get, drop, Some, None, refl, ap, sym, subst, ◌∙◌, arith, add-one}
use Rattle.std.specs.Prelude.{if◌then◌else◌}
use Rattle.std.specs.Option.{option_map}
use Rattle.ep_base.specs.declared.outcome.OutcomeKind.{OutcomeKind}
use Rattle.ep_base.specs.declared.outcome.OutcomeKind.TheVariants as kinds
use Rattle.ep_base.specs.declared.outcome.Message.TheVariants.{TryAnotherCard}
use Rattle.ep_base.specs.Cards.Apdu.{is_9000}
use Rattle.ep_base.specs.Objects.Arena.{Object}
use Rattle.ep_rules.specs.EntryPoint.Candidates.{Candidate, candidates, final_command}
use Rattle.ep_base.specs.Objects.Directory.{Entry, directory, entries_held}
use Rattle.ep_rules.specs.EntryPoint.Kernel.{KernelSteps, KernelStep, Send, Done}
use Rattle.ep_rules.specs.EntryPoint.PreProcessing.{PreparedOne}
use Rattle.ep_rules.specs.EntryPoint.Event.{Event as EventData, Activation, Verdict, Tells, Apdu, Notice, Outcome, Candidates, Activate}
use Rattle.ep_rules.specs.EntryPoint.Talk.{Talk, Result, Response, Say, Command, Close}
use Rattle.ep_rules.specs.EntryPoint.Transaction.{ends, selects, activates, after_verdict, after_kind, after_move, kernel_runs, given_to}
use Rattle.ep_rules.specs.EntryPoint.KernelCounts.{CountsFall, RestartsFall}
use Rattle.select_rules.specs.Left.{StandsFor}
use Rattle.select_rules.specs.declared.pair.Pair.{Pair}
use Rattle.session_phases.specs.Offers.{offered}
use Rattle.session_phases.specs.Told.{Comes, outcome_said}
use Rattle.session_phases.specs.Wishes.{Lasts, CommandsLeft, RestartsLeft, next_start, Within, Before, Selects, Decides, Activates, Moves, Hears, Chosen, Offers, Sends, Lists, Looks, Wished}
use Rattle.session_phases.specs.Plain as plain
use Rattle.session_phases.specs.Causes.{HasOutcome}
use Rattle.session_phases.proofs.Failing.{outcome_before}
use Rattle.session_phases.proofs.Coming.{notes, notes_response, notes_outcome, same_rest}

-- What is offered is the first candidate's, and nothing is offered only where none is left.
pub first_left : (left : List Candidate) (command : List ℕ) (given : Activation) → Some (command, given) ≡ option_map offered (slice_get left 0)
    → (x : Candidate) × (more : List Candidate) × (left ≡ x ∷ more) × (command ≡ final_command x) × (given ≡ given_to x [])
first_left [] command given h = absurd (let g : ⊥ = cc in g)
first_left (x ∷ more) command given h =
    let same : (command, given) ≡ offered x = cc in
    (x, more, refl, ap (λ (p : List ℕ × Activation). p.0) same, ap (λ (p : List ℕ × Activation). p.1) same)

pub none_left : (left : List Candidate) → None ≡ option_map offered (slice_get left 0) → left ≡ []
none_left [] h = refl
none_left (x ∷ more) h = absurd (let g : ⊥ = cc in g)

module _ {S : Type 0} (k : KernelSteps S) (ones : List PreparedOne) (objects : List Object) (talk : Talk) (results : List Result) (before old : List EventData) (s : S) where
  -- The first candidate that is left is offered.
  pub offers : (pairs others : List Pair) (command : List ℕ) (given : Activation)
      → ((count : ℕ) (left : List Candidate) → StandsFor ones (entries_held count objects) pairs left → Some (command, given) ≡ option_map offered (slice_get left 0))
      → ((all : List PreparedOne) (entries : List Entry) (left : List Candidate) → StandsFor all entries pairs left → StandsFor all entries others (drop 1 left))
      → Within k ones objects pairs (λ n. k.restarts s ≤ n) (Selects k ones s) talk results (before ++ old)
      → Within k ones objects others (λ n. k.restarts s ≤ n) (Offers k ones s command given) talk results (before ++ old)
  offers pairs others command given offer rest h =
      let first : (x : Candidate) × (more : List Candidate) × (h.left ≡ x ∷ more) × (command ≡ final_command x) × (given ≡ given_to x []) = first_left h.left command given (offer h.count h.left h.stands) in
      let there : StandsFor ones (entries_held h.count objects) others (drop 1 h.left) = rest ones (entries_held h.count objects) h.left h.stands in
      record {
        n = h.n;
        restarts = h.restarts;
        count = h.count;
        left = first.1;
        stands = subst (λ (left : List Candidate). StandsFor ones (entries_held h.count objects) others (drop 1 left)) first.2 there;
        rest = h.rest;
        rest_is = (first.0, first.3, first.4, h.rest_is ∙ ap (λ (left : List Candidate). selects k (next_start k ones h.n) left s) first.2);
        comes = h.comes;
      }

  -- No candidate is left.
  pub offers_none : (pairs : List Pair) (middle new : List EventData)
      → ((count : ℕ) (left : List Candidate) → StandsFor ones (entries_held count objects) pairs left → None ≡ option_map offered (slice_get left 0))
      → middle ≡ old ++ Tells (Outcome kinds.EndApplication) ∷ [] → new ≡ middle ++ Tells (Notice TryAnotherCard) ∷ []
      → Within k ones objects pairs (λ n. k.restarts s ≤ n) (Selects k ones s) talk results (before ++ old)
      → Wished k ones s objects talk results (before ++ new) (plain.Close false)
  offers_none pairs middle new offer e f h =
      let empty : h.left ≡ [] = none_left h.left (offer h.count h.left h.stands) in
      let here : Comes talk results (before ++ old) (selects k (next_start k ones h.n) [] s) =
      same_rest talk results (before ++ old) h.rest (selects k (next_start k ones h.n) [] s) (h.rest_is ∙ ap (λ (left : List Candidate). selects k (next_start k ones h.n) left s) empty) h.comes in (
        record {
          n = h.n;
          restarts = h.restarts;
          rest = ends;
          rest_is = refl;
          comes = notes talk results before middle (Notice TryAnotherCard) ends new f (notes talk results before old (Outcome kinds.EndApplication) (Say (Notice TryAnotherCard) ends) middle e here);
        },
        outcome_before before old middle new kinds.EndApplication (Tells (Notice TryAnotherCard)) e f,
      )

  -- An outcome is noted, and what follows its kind is the rest.
  pub decided : (pairs : List Pair) (v : Verdict) (new : List EventData) → new ≡ old ++ outcome_said v
      → Within k ones objects pairs (λ n. RestartsFall v.kind n (k.restarts s)) (Decides k ones s v) talk results (before ++ old)
      → Within k ones objects pairs (λ n. RestartsFall v.kind n (k.restarts s)) (λ again left t. t ≡ after_kind again (selects k again left) v.kind s) talk results (before ++ new)
  decided pairs v new e h = record {
    n = h.n;
    restarts = h.restarts;
    count = h.count;
    left = h.left;
    stands = h.stands;
    rest = after_kind (next_start k ones h.n) (selects k (next_start k ones h.n) h.left) v.kind s;
    rest_is = refl;
    comes = notes_outcome talk results before old new (next_start k ones h.n) (selects k (next_start k ones h.n) h.left) v s e
        (same_rest talk results (before ++ old) h.rest (after_verdict (next_start k ones h.n) (selects k (next_start k ones h.n) h.left) v s) h.rest_is h.comes);
  }

  -- A kernel's command is sent.
  pub sends : (pairs : List Pair) (command : List ℕ)
      → Within k ones objects pairs (λ n. RestartsLeft (Send command) n (k.restarts s)) (Moves k ones s (Send command)) talk results (before ++ old)
      → Within k ones objects pairs (λ n. k.restarts s ≤ n) (Sends k ones s command) talk results (before ++ old)
  sends pairs command h = record {
    n = h.n;
    restarts = h.restarts;
    count = h.count;
    left = h.left;
    stands = h.stands;
    rest = h.rest;
    rest_is = h.rest_is;
    comes = h.comes;
  }

  -- A kernel has decided.
  pub decides : (pairs : List Pair) (v : Verdict)
      → Within k ones objects pairs (λ n. RestartsLeft (Done v) n (k.restarts s)) (Moves k ones s (Done v)) talk results (before ++ old)
      → Within k ones objects pairs (λ n. RestartsFall v.kind n (k.restarts s)) (Decides k ones s v) talk results (before ++ old)
  decides pairs v h = record {
    n = h.n;
    restarts = h.restarts;
    count = h.count;
    left = h.left;
    stands = h.stands;
    rest = h.rest;
    rest_is = h.rest_is.2;
    comes = h.comes;
  }

-- After a command, fewer than n are left.
first_lasts : {S : Type 0} (k : KernelSteps S) (m : KernelStep) (s1 s2 : S) → CountsFall k m s1 s2 → Lasts k (k.commands s1) m s2
first_lasts k (Send c) s1 s2 h = h.0
first_lasts k (Done v) s1 s2 h = tt

more_lasts : {S : Type 0} (k : KernelSteps S) (m : KernelStep) (n : ℕ) (s1 s2 : S) → k.commands s1 < suc n → CountsFall k m s1 s2 → Lasts k n m s2
more_lasts k (Send c) n s1 s2 lt h = omega (arith, h.0)
more_lasts k (Done v) n s1 s2 lt h = tt

-- The commands that are left after a move.
pub commands_left : {S : Type 0} (k : KernelSteps S) (m : KernelStep) (n : ℕ) (s1 s2 : S) → k.commands s1 ≤ n → CountsFall k m s1 s2 → CommandsLeft m n (k.commands s2)
commands_left k (Send c) n s1 s2 le h = omega (arith, h.0)
commands_left k (Done v) n s1 s2 le h = omega (arith, h.0)

-- The restarts that are left after a move.
restarts_left : {S : Type 0} (k : KernelSteps S) (m : KernelStep) (n : ℕ) (s1 s2 : S) → k.restarts s1 ≤ n → CountsFall k m s1 s2 → RestartsLeft m n (k.restarts s2)
restarts_left k (Send c) n s1 s2 le h = omega (arith, h.1)
restarts_left k (Done v) n s1 s2 le h = restarts_fall v.kind h.1
  where
    restarts_fall : (d : OutcomeKind) → RestartsFall d (k.restarts s1) (k.restarts s2) → RestartsFall d n (k.restarts s2)
    restarts_fall kinds.SelectNext h = omega (arith, h)
    restarts_fall kinds.TryAgain h = omega (arith, h)
    restarts_fall kinds.Approved h = omega (arith, h)
    restarts_fall kinds.Declined h = omega (arith, h)
    restarts_fall kinds.OnlineRequest h = omega (arith, h)
    restarts_fall kinds.TryAnother h = omega (arith, h)
    restarts_fall kinds.EndApplication h = omega (arith, h)

module _ {S : Type 0} (k : KernelSteps S) (ones : List PreparedOne) (objects : List Object) (talk : Talk) (results : List Result) (before old : List EventData) (s : S) where
  -- A kernel is activated, and makes its first move.
  pub activated : (pairs : List Pair) (g : Activation) (s1 s2 : S) (m : KernelStep) (new : List EventData)
      → s1 ≡ k.begin s g → k.restarts s1 ≤ k.restarts s → k.step s1 None ≡ (m, s2) → CountsFall k m s1 s2 → new ≡ old ++ Tells (Activate g) ∷ []
      → Within k ones objects pairs (λ n. k.restarts s ≤ n) (Activates k ones s g) talk results (before ++ old)
      → Within k ones objects pairs (λ n. RestartsLeft m n (k.restarts s2)) (Moves k ones s2 m) talk results (before ++ new)
  activated pairs g s1 s2 m new begun fewer stepped counts e h =
      let again : S → Talk = next_start k ones h.n in
      let next : Verdict → S → Talk = after_verdict again (selects k again h.left) in
      let noted : Comes talk results (before ++ new) (kernel_runs k next (k.commands (k.begin s g) + 1) (k.begin s g) None) =
      notes talk results before old (Activate g) (kernel_runs k next (k.commands (k.begin s g) + 1) (k.begin s g) None) new e
      (same_rest talk results (before ++ old) h.rest (activates k next g s) h.rest_is h.comes) in
      record {
        n = h.n;
        restarts = restarts_left k m h.n s1 s2 (omega (arith, h.restarts)) counts;
        count = h.count;
        left = h.left;
        stands = h.stands;
        rest = after_move next (kernel_runs k next (k.commands s1)) (m, s2);
        rest_is = (k.commands s1, first_lasts k m s1 s2 counts, refl);
        comes = subst (λ (p : KernelStep × S). Comes talk results (before ++ new) (after_move next (kernel_runs k next (k.commands s1)) p)) stepped
            (subst (λ (s1 : S). Comes talk results (before ++ new) (kernel_runs k next (suc (k.commands s1)) s1 None)) (sym begun) (rw add-one at noted));
      }

  -- A kernel's command was answered, and it makes its next move.
  pub moved : (pairs : List Pair) (answer : List ℕ) (s2 : S) (m : KernelStep)
      → k.step s (Some answer) ≡ (m, s2) → CountsFall k m s s2
      → Within k ones objects pairs (λ n. k.restarts s ≤ n) (Hears k ones s answer) talk results (before ++ old)
      → Within k ones objects pairs (λ n. RestartsLeft m n (k.restarts s2)) (Moves k ones s2 m) talk results (before ++ old)
  moved pairs answer s2 m stepped counts h = more h.rest_is.0 h.rest_is.1 h.rest_is.2
    where
      more : (fuel : ℕ) → k.commands s < fuel → h.rest ≡ kernel_runs k (after_verdict (next_start k ones h.n) (selects k (next_start k ones h.n) h.left)) fuel s (Some answer)
          → Within k ones objects pairs (λ n. RestartsLeft m n (k.restarts s2)) (Moves k ones s2 m) talk results (before ++ old)
      more zero lt is = absurd (omega (arith, lt))
      more (suc fuel) lt is = record {
        n = h.n;
        restarts = restarts_left k m h.n s s2 h.restarts counts;
        count = h.count;
        left = h.left;
        stands = h.stands;
        rest = h.rest;
        rest_is = (fuel, more_lasts k m fuel s s2 lt counts, subst (λ (p : KernelStep × S). h.rest ≡ after_move (after_verdict (next_start k ones h.n) (selects k (next_start k ones h.n) h.left)) (kernel_runs k (after_verdict (next_start k ones h.n) (selects k (next_start k ones h.n) h.left)) fuel) p) stepped is);
        comes = h.comes;
      }

  -- A final SELECT was answered 9000.
  pub chosen : (pairs : List Pair) (given g : Activation) (answer : List ℕ) → is_9000 answer ≡ true → ((x : Candidate) → given ≡ given_to x [] → g ≡ given_to x answer)
      → Within k ones objects pairs (λ n. k.restarts s ≤ n) (Chosen k ones s given answer) talk results (before ++ old)
      → Within k ones objects pairs (λ n. k.restarts s ≤ n) (Activates k ones s g) talk results (before ++ old)
  chosen pairs given g answer good is h =
      let again : S → Talk = next_start k ones h.n in
      let x : Candidate = h.rest_is.0 in
      let rest_is : h.rest ≡ (if is_9000 answer then activates k (after_verdict again (selects k again h.left)) (given_to x answer) s else selects k again h.left s) = h.rest_is.2 in
      record {
        n = h.n;
        restarts = h.restarts;
        count = h.count;
        left = h.left;
        stands = h.stands;
        rest = h.rest;
        rest_is = rest_is
            ∙ ap (λ (c : Bool). if c then activates k (after_verdict again (selects k again h.left)) (given_to x answer) s else selects k again h.left s) good
            ∙ ap (λ (g : Activation). activates k (after_verdict again (selects k again h.left)) g s) (sym (is x h.rest_is.1));
        comes = h.comes;
      }

  -- A final SELECT was answered otherwise.
  pub passed : (pairs : List Pair) (given : Activation) (answer : List ℕ) → is_9000 answer ≡ false
      → Within k ones objects pairs (λ n. k.restarts s ≤ n) (Chosen k ones s given answer) talk results (before ++ old)
      → Within k ones objects pairs (λ n. k.restarts s ≤ n) (Selects k ones s) talk results (before ++ old)
  passed pairs given answer bad h =
      let again : S → Talk = next_start k ones h.n in
      let x : Candidate = h.rest_is.0 in
      let rest_is : h.rest ≡ (if is_9000 answer then activates k (after_verdict again (selects k again h.left)) (given_to x answer) s else selects k again h.left s) = h.rest_is.2 in
      record {
        n = h.n;
        restarts = h.restarts;
        count = h.count;
        left = h.left;
        stands = h.stands;
        rest = h.rest;
        rest_is = rest_is ∙ ap (λ (c : Bool). if c then activates k (after_verdict again (selects k again h.left)) (given_to x answer) s else selects k again h.left s) bad;
        comes = h.comes;
      }

  -- The directory was answered, and its candidates are counted.
  pub listed : (pairs : List Pair) (answer : List ℕ) (count number : ℕ) (entries : List Entry) (new : List EventData)
      → entries_held count objects ≡ entries → entries ≡ directory answer
      → StandsFor ones (entries_held count objects) pairs (candidates ones (entries_held count objects))
      → number ≡ length (candidates ones (entries_held count objects)) → new ≡ old ++ Tells (Candidates number) ∷ []
      → Before k ones (λ n. k.restarts s ≤ n) (Lists k ones s answer) talk results (before ++ old)
      → Within k ones objects pairs (λ n. k.restarts s ≤ n) (Selects k ones s) talk results (before ++ new)
  listed pairs answer count number entries new held found stands counted e h =
      let again : S → Talk = next_start k ones h.n in
      let all : List Candidate = candidates ones (directory answer) in
      let same : candidates ones (entries_held count objects) ≡ all = ap (λ (es : List Entry). candidates ones es) (held ∙ found) in
      let told : new ≡ old ++ Tells (Candidates (length all)) ∷ [] = e ∙ ap (λ (n : ℕ). old ++ Tells (Candidates n) ∷ []) (counted ∙ ap (λ (cs : List Candidate). length cs) same) in
      record {
        n = h.n;
        restarts = h.restarts;
        count = count;
        left = all;
        stands = subst (λ (cs : List Candidate). StandsFor ones (entries_held count objects) pairs cs) same stands;
        rest = selects k again all s;
        rest_is = refl;
        comes = notes talk results before old (Candidates (length all)) (selects k again all s) new told
            (same_rest talk results (before ++ old) h.rest (Say (Candidates (length all)) (selects k again all s)) h.rest_is h.comes);
      }

  -- The response to a command is noted with it.
  pub looked : (command answer : List ℕ) (new : List EventData) → new ≡ old ++ Apdu command answer ∷ []
      → Before k ones (λ n. k.restarts s ≤ n) (Looks k ones s command) talk results (before ++ old)
      → Before k ones (λ n. k.restarts s ≤ n) (Lists k ones s answer) talk (results ++ Response answer ∷ []) (before ++ new)
  looked command answer new e h =
      let again : S → Talk = next_start k ones h.n in
      let next : List ℕ → Talk = λ r. Say (Candidates (length (candidates ones (directory r)))) (selects k again (candidates ones (directory r)) s) in
      record {
        n = h.n;
        restarts = h.restarts;
        rest = next answer;
        rest_is = refl;
        comes = notes_response talk results before old command next answer new e
            (same_rest talk results (before ++ old) h.rest (Command command next) (h.rest_is.1 ∙ ap (λ (c : List ℕ). Command c next) (sym h.rest_is.0)) h.comes);
      }

  pub selected : (pairs : List Pair) (given : Activation) (command answer : List ℕ) (new : List EventData) → new ≡ old ++ Apdu command answer ∷ []
      → Within k ones objects pairs (λ n. k.restarts s ≤ n) (Offers k ones s command given) talk results (before ++ old)
      → Within k ones objects pairs (λ n. k.restarts s ≤ n) (Chosen k ones s given answer) talk (results ++ Response answer ∷ []) (before ++ new)
  selected pairs given command answer new e h =
      let again : S → Talk = next_start k ones h.n in
      let x : Candidate = h.rest_is.0 in
      let next : List ℕ → Talk = λ r. if is_9000 r then activates k (after_verdict again (selects k again h.left)) (given_to x r) s else selects k again h.left s in
      record {
        n = h.n;
        restarts = h.restarts;
        count = h.count;
        left = h.left;
        stands = h.stands;
        rest = next answer;
        rest_is = (x, h.rest_is.2, refl);
        comes = notes_response talk results before old command next answer new e
            (same_rest talk results (before ++ old) h.rest (Command command next) (h.rest_is.3 ∙ ap (λ (c : List ℕ). Command c next) (sym h.rest_is.1)) h.comes);
      }

  pub heard : (pairs : List Pair) (command answer : List ℕ) (new : List EventData) → new ≡ old ++ Apdu command answer ∷ []
      → Within k ones objects pairs (λ n. k.restarts s ≤ n) (Sends k ones s command) talk results (before ++ old)
      → Within k ones objects pairs (λ n. k.restarts s ≤ n) (Hears k ones s answer) talk (results ++ Response answer ∷ []) (before ++ new)
  heard pairs command answer new e h =
      let again : S → Talk = next_start k ones h.n in
      let next : List ℕ → Talk = λ r. kernel_runs k (after_verdict again (selects k again h.left)) h.rest_is.0 s (Some r) in
      record {
        n = h.n;
        restarts = h.restarts;
        count = h.count;
        left = h.left;
        stands = h.stands;
        rest = next answer;
        rest_is = (h.rest_is.0, h.rest_is.1, refl);
        comes = notes_response talk results before old command next answer new e
            (same_rest talk results (before ++ old) h.rest (Command command next) h.rest_is.2 h.comes);
      }

  -- What follows an outcome of this kind.
  pub by_kind : (pairs : List Pair) (c d : OutcomeKind) → c ≡ d
      → Within k ones objects pairs (λ n. RestartsFall c n (k.restarts s)) (λ again left t. t ≡ after_kind again (selects k again left) c s) talk results (before ++ old)
      → Within k ones objects pairs (λ n. RestartsFall d n (k.restarts s)) (λ again left t. t ≡ after_kind again (selects k again left) d s) talk results (before ++ old)
  by_kind pairs c d is h =
      subst (λ (d : OutcomeKind). Within k ones objects pairs (λ n. RestartsFall d n (k.restarts s)) (λ again left t. t ≡ after_kind again (selects k again left) d s) talk results (before ++ old)) is h

  -- A new Start B is wished.
  pub wishes_again : (pairs : List Pair) → Within k ones objects pairs (λ n. k.restarts s < n) (λ again left t. t ≡ Close (again s)) talk results (before ++ old)
      → Wished k ones s objects talk results (before ++ old) (plain.Close true)
  wishes_again pairs h = (record { n = h.n; restarts = h.restarts; rest = h.rest; rest_is = h.rest_is; comes = h.comes }, tt)

  -- The end is wished.
  pub wishes_end : (pairs : List Pair) → Within k ones objects pairs (λ n. k.restarts s ≤ n) (λ again left t. t ≡ ends) talk results (before ++ old)
      → HasOutcome (before ++ old) → Wished k ones s objects talk results (before ++ old) (plain.Close false)
  wishes_end pairs h outcome = (record { n = h.n; restarts = h.restarts; rest = h.rest; rest_is = h.rest_is; comes = h.comes }, outcome)
