-- How a run over a transport goes on by what the phases wish.
use Rattle.std.proofs.Common.{◌≡◌, ℕ, zero, suc, ◌<◌, ◌≤◌, Bool, true, false, List, [], ◌∷◌, ◌++◌, refl, ap, sym, subst, ◌∙◌, arith}
use Rattle.std.specs.Prelude.{if◌then◌else◌}
use Rattle.ep_base.specs.Air.Heard.{Activated}
use Rattle.ep_base.specs.Cards.Apdu.{select, ppse_name, is_9000}
use Rattle.ep_base.specs.Objects.Arena.{Object}
use Rattle.ep_base.specs.Poll.Transport.{TransportSteps, Reply, Answered}
use Rattle.ep_rules.specs.EntryPoint.Candidates.{Candidate}
use Rattle.ep_rules.specs.EntryPoint.Event.{Event as EventData}
use Rattle.ep_rules.specs.EntryPoint.EventSteps.{EventSteps}
use Rattle.ep_rules.specs.EntryPoint.Kernel.{KernelSteps}
use Rattle.ep_rules.specs.EntryPoint.PreProcessing.{PreparedOne}
use Rattle.ep_rules.specs.EntryPoint.Talk.{Talk, Result, Response}
use Rattle.ep_rules.specs.EntryPoint.Talk as talks
use Rattle.ep_rules.specs.EntryPoint.Transaction.{ends, selects, activates, after_verdict, given_to, presented, start_b, start_c, starts}
use Rattle.ep_rules.specs.EntryPoint.TransportRun.{RunLeft, AfterReply, Runs, Onward, all_taken}
use Rattle.session_phases.specs.Plain.{Purpose, Directory, Final, Kernel, Wish, Command, Close}
use Rattle.session_phases.specs.Rounds.{presents}
use Rattle.session_phases.specs.Told.{Comes}
use Rattle.session_phases.specs.Wishes.{Before, Looks, RestartsAt, Serves, Wished, next_start}
use Rattle.session_phases.proofs.Coming.{begins, same_rest, same_said}
use Rattle.session_phases.proofs.Turning.{after_ppse}
use Rattle.entry_session.specs.declared.ran.Ran.{Ran}
use Rattle.entry_session.specs.declared.ran.Ran.TheVariants as ran
use Rattle.entry_session.specs.Driven.{WishesNow, Reaches, Closed}
use Rattle.entry_session.specs.Meaning.{left_of, run_end_of, CutsIn}
use Rattle.entry_session.proofs.Coming.{runs_from, cut_from, response_runs, response_cut}

module _ {S : Type 0} (k : KernelSteps S) (ones : List PreparedOne) (s : S) (objects : List Object) where
  -- A command that is wished is what the talk goes on with.
  pub serving : (talk : Talk) (command : List ℕ) (p : Purpose) → Serves k ones s objects talk [] [] command p → (next : List ℕ → Talk) × Comes talk [] [] (talks.Command command next)
  serving talk command Directory h = (
    after_ppse k ones s h.n,
    same_rest talk [] [] h.rest (talks.Command command (after_ppse k ones s h.n)) (h.rest_is.1 ∙ ap (λ (c : List ℕ). talks.Command c (after_ppse k ones s h.n)) (sym h.rest_is.0)) h.comes,
  )
  serving talk command (Final given rest) h =
      let again : S → Talk = next_start k ones h.n in
      let x : Candidate = h.rest_is.0 in
      let next : List ℕ → Talk = λ r. if is_9000 r then activates k (after_verdict again (selects k again h.left)) (given_to x r) s else selects k again h.left s in
      (next, same_rest talk [] [] h.rest (talks.Command command next) (h.rest_is.3 ∙ ap (λ (c : List ℕ). talks.Command c next) (sym h.rest_is.1)) h.comes)
  serving talk command (Kernel rest) h = (_, same_rest talk [] [] h.rest _ h.rest_is.2 h.comes)

  -- The same purpose, where nothing was told.
  pub serves_on : (talk : Talk) (command : List ℕ) (p q : Purpose) (told : List EventData) → p ≡ q → told ≡ [] → Serves k ones s objects talk [] [] command p → Serves k ones s objects talk [] told command q
  serves_on talk command p q told same none h =
      subst (λ (es : List EventData). Serves k ones s objects talk [] es command q) (sym none) (subst (λ (p : Purpose). Serves k ones s objects talk [] [] command p) same h)

  -- What is wished is wished by a rest of the talk.
  pub wishing : (talk : Talk) (results : List Result) (said : List EventData) (w : Wish) → Wished k ones s objects talk results said w
      → (rest : Talk) × WishesNow k ones s objects rest w × Comes talk results said rest
  wishing talk results said (Command command Directory) h =
      (h.rest, record { n = h.n; restarts = h.restarts; rest = h.rest; rest_is = h.rest_is; comes = begins h.rest }, h.comes)
  wishing talk results said (Command command (Final given rest)) h =
      (h.rest, record { n = h.n; restarts = h.restarts; count = h.count; left = h.left; stands = h.stands; rest = h.rest; rest_is = h.rest_is; comes = begins h.rest }, h.comes)
  wishing talk results said (Command command (Kernel rest)) h =
      (h.rest, record { n = h.n; restarts = h.restarts; count = h.count; left = h.left; stands = h.stands; rest = h.rest; rest_is = h.rest_is; comes = begins h.rest }, h.comes)
  wishing talk results said (Close again) h =
      (h.0.rest, record { n = h.0.n; restarts = h.0.restarts; rest = h.0.rest; rest_is = h.0.rest_is; comes = begins h.0.rest }, h.0.comes)

-- The event of a card comes first in its talk.
pub met : (card : Activated) (old new : List EventData) → old ≡ []
    → ((talk : Talk) (results : List Result) (before : List EventData) (next : List ℕ → Talk) → Comes talk results (before ++ old) (presents next card) → Comes talk results (before ++ new) (talks.Command (select ppse_name) next))
    → (next : List ℕ → Talk) → Comes (presents next card) [] new (talks.Command (select ppse_name) next)
met card old new none goes next =
    goes (presents next card) [] [] next (same_said (presents next card) [] [] old (sym none) (presents next card) (begins (presents next card)))

-- The restarts that a wish leaves, of more before.
pub restarts_on : (w : Wish) (n m l : ℕ) → m ≤ n → RestartsAt w m l → RestartsAt w n l
restarts_on (Command command purpose) n m l le h = omega (arith, le, h)
restarts_on (Close true) n m l le h = omega (arith, le, h)
restarts_on (Close false) n m l le h = omega (arith, le, h)

module _ {S T E : Type 0} (k : KernelSteps S) (ones : List PreparedOne) (link : TransportSteps T) (events : EventSteps E) where
  -- A command has its response, and all events up to the next wish were taken.
  pub answered_goes : (s s1 : S) (objects objects1 : List Object) (talk : Talk) (command answer : List ℕ) (p : Purpose) (w : Wish) (told : List EventData) (t u : T) (e f : E)
      → link.transacts t command (Answered answer) u → f ≡ all_taken events.take e told
      → Serves k ones s objects talk [] [] command p → Wished k ones s1 objects1 talk (Response answer ∷ []) told w
      → Reaches k ones link events talk t e s1 objects1 w u f
  answered_goes s s1 objects objects1 talk command answer p w told t u e f step taken h wished =
      let at : (next : List ℕ → Talk) × Comes talk [] [] (talks.Command command next) = serving k ones s objects talk command p h in
      let on : (rest : Talk) × WishesNow k ones s1 objects1 rest w × Comes talk (Response answer ∷ []) told rest = wishing k ones s1 objects1 talk (Response answer ∷ []) told w wished in (
        on.0,
        on.1,
        λ left runs. runs_from link events talk (talks.Command command at.0) [] (λ more. at.1.goes more) [] t e left (
          Answered answer,
          u,
          step,
          response_runs link events command answer told (at.0 answer) on.0 u e left (λ more. sym (at.1.goes (Response answer ∷ more)) ∙ on.2.goes more)
              (subst (λ (f : E). Runs link events on.0 [] u f left) taken runs),
        ),
      )

  -- One of these events is cut.
  pub answered_cut : (s s1 : S) (objects objects1 : List Object) (talk : Talk) (command answer : List ℕ) (p : Purpose) (w : Wish) (told : List EventData) (t u : T) (e f : E) (r : Ran)
      → link.transacts t command (Answered answer) u → CutsIn events e told r f
      → Serves k ones s objects talk [] [] command p → Wished k ones s1 objects1 talk (Response answer ∷ []) told w
      → Runs link events talk [] t e (left_of r u f)
  answered_cut s s1 objects objects1 talk command answer p w told t u e f r step cut h wished =
      let at : (next : List ℕ → Talk) × Comes talk [] [] (talks.Command command next) = serving k ones s objects talk command p h in
      let on : (rest : Talk) × WishesNow k ones s1 objects1 rest w × Comes talk (Response answer ∷ []) told rest = wishing k ones s1 objects1 talk (Response answer ∷ []) told w wished in
      runs_from link events talk (talks.Command command at.0) [] (λ more. at.1.goes more) [] t e (left_of r u f) (
        Answered answer,
        u,
        step,
        response_cut link events command answer told (at.0 answer) on.0 u e (left_of r u f) (λ more. sym (at.1.goes (Response answer ∷ more)) ∙ on.2.goes more)
            f cut.1 (ap run_end_of cut.0, refl, refl),
      )

  -- A command has none.
  pub unanswered : (s : S) (objects : List Object) (talk : Talk) (command : List ℕ) (p : Purpose) (reply : Reply) (t u : T) (e : E) (left : RunLeft T E)
      → link.transacts t command reply u → ((next : List ℕ → Talk) → AfterReply link events command (λ a. Runs link events (next a) []) reply u e left)
      → Serves k ones s objects talk [] [] command p → Runs link events talk [] t e left
  unanswered s objects talk command p reply t u e left step lost h =
      let at : (next : List ℕ → Talk) × Comes talk [] [] (talks.Command command next) = serving k ones s objects talk command p h in
      runs_from link events talk (talks.Command command at.0) [] (λ more. at.1.goes more) [] t e left (reply, u, step, lost at.0)

  -- The directory is wished.
  pub looks : (s : S) (objects : List Object) (n : ℕ) (command : List ℕ) → k.restarts s ≤ n → command ≡ select ppse_name
      → Serves k ones s objects (start_c k (next_start k ones n) ones s) [] [] command Directory
  looks s objects n command le is =
      let b : Before k ones (λ n. k.restarts s ≤ n) (Looks k ones s command) (start_c k (next_start k ones n) ones s) [] [] =
      record { n = n; restarts = le; rest = start_c k (next_start k ones n) ones s; rest_is = (is, refl); comes = begins (start_c k (next_start k ones n) ones s) } in b

  -- A transaction has begun: nothing is told before its first event.
  pub opened : (talk rest : Talk) (old told : List EventData) → old ≡ [] → (Comes talk [] old talk → Comes talk [] told rest) → Comes talk [] told rest
  opened talk rest old told none goes = goes (same_said talk [] [] old (sym none) talk (begins talk))

  start_of : (n : ℕ) (s : S) → starts k ones n s ≡ start_b (presented k (next_start k ones n) ones s)
  start_of zero s = refl
  start_of (suc n) s = refl

  -- A Start B that goes on so.
  pub start_runs : (n : ℕ) (s : S) (t : T) (e : E) (left : RunLeft T E) → ((next : Activated → Talk) → Runs link events (start_b next) [] t e left) → Runs link events (starts k ones n s) [] t e left
  start_runs n s t e left stops = subst (λ (t1 : Talk). Runs link events t1 [] t e left) (sym (start_of n s)) (stops (presented k (next_start k ones n) ones s))

  -- A card was found, and its event is taken.
  pub found : (n : ℕ) (s : S) (card : Activated) (told : List EventData) (t u : T) (e f f1 : E)
      → ((next : Activated → Talk) → Onward link events (start_b next) t e (next card) u f)
      → ((next : List ℕ → Talk) → Comes (presents next card) [] told (talks.Command (select ppse_name) next)) → f1 ≡ all_taken events.take f told
      → Onward link events (starts k ones n s) t e (start_c k (next_start k ones n) ones s) u f1
  found n s card told t u e f f1 goes meets taken left runs =
      subst (λ (t1 : Talk). Runs link events t1 [] t e left) (sym (start_of n s)) (goes (presented k (next_start k ones n) ones s) left
      (runs_from link events (presented k (next_start k ones n) ones s card) (start_c k (next_start k ones n) ones s) told (λ more. (meets (after_ppse k ones s n)).goes more) [] u f left
      (subst (λ (f : E). Runs link events (start_c k (next_start k ones n) ones s) [] u f left) taken runs)))

  -- Its event is cut.
  pub found_cut : (n : ℕ) (s : S) (card : Activated) (told : List EventData) (t u : T) (e f f1 : E) (r : Ran)
      → ((next : Activated → Talk) → Onward link events (start_b next) t e (next card) u f)
      → ((next : List ℕ → Talk) → Comes (presents next card) [] told (talks.Command (select ppse_name) next)) → CutsIn events f told r f1
      → Runs link events (starts k ones n s) [] t e (left_of r u f1)
  found_cut n s card told t u e f f1 r goes meets cut =
      subst (λ (t1 : Talk). Runs link events t1 [] t e (left_of r u f1)) (sym (start_of n s)) (goes (presented k (next_start k ones n) ones s) (left_of r u f1)
      (cut_from link events (presented k (next_start k ones n) ones s card) (start_c k (next_start k ones n) ones s) told (λ more. (meets (after_ppse k ones s n)).goes more) [] u f f1 (left_of r u f1)
      cut.1 (ap run_end_of cut.0, refl, refl)))

  -- What is reached from a later talk.
  pub reached : (first talk : Talk) (t u v : T) (e f f1 : E) (s : S) (objects : List Object) (w : Wish) → Onward link events first t e talk u f
      → Reaches k ones link events talk u f s objects w v f1 → Reaches k ones link events first t e s objects w v f1
  reached first talk t u v e f f1 s objects w onward h = (h.0, h.1, λ left runs. onward left (h.2 left runs))

  -- The card was let go.
  pub closed_on : (again : Bool) (s : S) (objects : List Object) (first : Talk) (t u v : T) (e f : E) → Reaches k ones link events first t e s objects (Close again) u f → link.closes u true v
      → Closed k ones link events first t e again s v f
  closed_on true s objects first t u v e f h closes = more h.1.n h.1.restarts h.1.rest_is
    where
      more : (n : ℕ) → k.restarts s < n → h.1.rest ≡ talks.Close (next_start k ones n s) → Closed k ones link events first t e true s v f
      more zero lt is = absurd (omega (arith, lt))
      more (suc n) lt is = (
        n,
        omega (arith, lt),
        λ left runs. h.2 left (runs_from link events h.0 (talks.Close (starts k ones n s)) [] (λ more. (same_rest h.0 [] [] h.1.rest (talks.Close (starts k ones n s)) is h.1.comes).goes more) [] u f left (true, v, closes, runs)),
      )
  closed_on false s objects first t u v e f h closes = λ left runs.
      h.2 left (runs_from link events h.0 ends [] (λ more. (same_rest h.0 [] [] h.1.rest ends h.1.rest_is h.1.comes).goes more) [] u f left (true, v, closes, runs))

  -- It wasn't.
  pub unclosed : (again : Bool) (s : S) (objects : List Object) (first : Talk) (t u v : T) (e f : E) → Reaches k ones link events first t e s objects (Close again) u f → link.closes u false v
      → Runs link events first [] t e (left_of ran.Device v f)
  unclosed true s objects first t u v e f h closes =
      h.2 (left_of ran.Device v f) (runs_from link events h.0 (talks.Close (next_start k ones h.1.n s)) [] (λ more. (same_rest h.0 [] [] h.1.rest (talks.Close (next_start k ones h.1.n s)) h.1.rest_is h.1.comes).goes more) [] u f (left_of ran.Device v f)
      (false, v, closes, (refl, refl, refl)))
  unclosed false s objects first t u v e f h closes =
      h.2 (left_of ran.Device v f) (runs_from link events h.0 ends [] (λ more. (same_rest h.0 [] [] h.1.rest ends h.1.rest_is h.1.comes).goes more) [] u f (left_of ran.Device v f)
      (false, v, closes, (refl, refl, refl)))
