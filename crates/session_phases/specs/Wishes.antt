-- How what a transaction wishes of a presented card stands for the rest of its talk.
use Rattle.std.specs.Prelude.{◌≡◌, ℕ, zero, suc, ◌+◌, ◌<◌, ◌≤◌, Bool, true, false, not, ◌&&◌, List, [], ◌∷◌, length, Some, if◌then◌else◌}
use Rattle.ep_base.specs.Cards.Apdu.{select, ppse_name, is_9000}
use Rattle.ep_base.specs.Objects.Arena.{Object}
use Rattle.ep_base.specs.declared.limits.TheConstants.{PAIRS}
use Rattle.ep_rules.specs.EntryPoint.Candidates.{Candidate, candidates, final_command}
use Rattle.ep_base.specs.Objects.Directory.{directory, entries_held}
use Rattle.ep_rules.specs.EntryPoint.Kernel.{KernelSteps, KernelStep, Send, Done}
use Rattle.ep_rules.specs.EntryPoint.PreProcessing.{PreparedOne}
use Rattle.ep_rules.specs.EntryPoint.Event.{Event as EventData, Activation, Verdict, Candidates, Finished}
use Rattle.ep_rules.specs.EntryPoint.Talk.{Talk, Result, Say, Command, Close, Over}
use Rattle.ep_rules.specs.EntryPoint.Talk as talks
use Rattle.ep_rules.specs.EntryPoint.Transaction.{ends, starts, start_c, selects, activates, after_verdict, after_move, kernel_runs, given_to}
use Rattle.ep_rules.specs.EntryPoint.KernelCounts.{RestartsFall}
use Rattle.select_rules.specs.Left.{StandsFor}
use Rattle.select_rules.specs.declared.pair.Pair.{Pair}
use Rattle.session_phases.specs.Causes.{HasOutcome}
use Rattle.session_phases.specs.Told.{Comes}
use Rattle.session_phases.specs.Plain as plain
use Rattle.session_phases.specs.Plain.{Purpose, Wish}

-- What a wish is to the talk (this project's own).
abbrev pub wished : Wish → talks.Wish
wished (plain.Command command purpose) = talks.Commands command
wished (plain.Close again) = talks.Closes

-- Whether the kernels are as a purpose needs them: for a kernel's command one is open, and its first step is past (this project's own).
abbrev pub serves : Bool → Bool → Purpose → Bool
serves is_open is_fresh plain.Directory = true
serves is_open is_fresh (plain.Final given rest) = true
serves is_open is_fresh (plain.Kernel rest) = is_open && not is_fresh

-- The same for a wish (this project's own).
abbrev pub serves_wish : Bool → Bool → Wish → Bool
serves_wish is_open is_fresh (plain.Command command purpose) = serves is_open is_fresh purpose
serves_wish is_open is_fresh (plain.Close again) = true

-- After the move of a kernel that has fewer than n commands left, so many are left (this project's own).
abbrev pub Lasts : {S : Type 0} → KernelSteps S → ℕ → KernelStep → S → Type 0
Lasts k n (Send command) s = k.commands s < n
Lasts k n (Done verdict) s = Unit {0}

-- The restarts that are left after a kernel's move, of n before (this project's own).
abbrev pub RestartsLeft : KernelStep → ℕ → ℕ → Type 0
RestartsLeft (Send command) old new = new ≤ old
RestartsLeft (Done verdict) old new = RestartsFall verdict.kind old new

-- The commands that are left after a kernel's move, of n before (this project's own).
abbrev pub CommandsLeft : KernelStep → ℕ → ℕ → Type 0
CommandsLeft (Send command) old new = new < old
CommandsLeft (Done verdict) old new = new ≤ old

-- The final SELECTs that may still follow a wish, and one more for its own answer: what falls at each response but for the commands of kernels (this
-- project's own).
abbrev pub selects_left : Wish → ℕ
selects_left (plain.Command command plain.Directory) = PAIRS + 1
selects_left (plain.Command command (plain.Final given rest)) = length rest + 1
selects_left (plain.Command command (plain.Kernel rest)) = length rest + 1
selects_left (plain.Close again) = 0

-- Before the close at which a transaction ends, an outcome was said (after EMV Contactless Book B).
abbrev pub CloseDecided : Bool → List EventData → Type 0
CloseDecided true said = Unit {0}
CloseDecided false said = HasOutcome said

-- The restarts that a wish leaves, of n before: a new Start B takes one (this project's own).
abbrev pub RestartsAt : Wish → ℕ → ℕ → Type 0
RestartsAt (plain.Command command purpose) old new = new ≤ old
RestartsAt (plain.Close true) old new = new < old
RestartsAt (plain.Close false) old new = new ≤ old

module _ {S : Type 0} (k : KernelSteps S) (ones : List PreparedOne) where
  -- What follows a close where a new Start B is wished and so many may still come (this project's own).
  abbrev pub next_start : ℕ → S → Talk
  next_start zero = λ _. Over Finished
  next_start (suc n) = starts k ones n

  -- The talk goes on as a rest that depends on how it starts again and on the candidates for which these pairs stand (this project's own).
  pub record Within (objects : List Object) (pairs : List Pair) (enough : ℕ → Type 0) (Rest : (S → Talk) → List Candidate → Talk → Type 0)
      (talk : Talk) (results : List Result) (said : List EventData) : Type 0 where
    pub n : ℕ
    pub restarts : enough n
    pub count : ℕ
    pub left : List Candidate
    pub stands : StandsFor ones (entries_held count objects) pairs left
    pub rest : Talk
    pub rest_is : Rest (next_start n) left rest
    pub comes : Comes talk results said rest

  module _ (s : S) where
    -- A candidate is to be selected (after EMV Contactless Book B).
    abbrev pub Selects : (S → Talk) → List Candidate → Talk → Type 0
    Selects again left t = t ≡ selects k again left s

    -- A kernel's verdict is to be followed (after EMV Contactless Book B).
    abbrev pub Decides : Verdict → (S → Talk) → List Candidate → Talk → Type 0
    Decides v again left t = t ≡ after_verdict again (selects k again left) v s

    -- A kernel is to be activated (after EMV Contactless Book B).
    abbrev pub Activates : Activation → (S → Talk) → List Candidate → Talk → Type 0
    Activates g again left t = t ≡ activates k (after_verdict again (selects k again left)) g s

    -- A kernel has made this move (this project's own).
    abbrev pub Moves : KernelStep → (S → Talk) → List Candidate → Talk → Type 0
    Moves m again left t =
        (n : ℕ) × Lasts k n m s × (t ≡ after_move (after_verdict again (selects k again left)) (kernel_runs k (after_verdict again (selects k again left)) n) (m, s))

    -- A kernel's command was answered so (this project's own).
    abbrev pub Hears : List ℕ → (S → Talk) → List Candidate → Talk → Type 0
    Hears answer again left t =
        (n : ℕ) × (k.commands s < n) × (t ≡ kernel_runs k (after_verdict again (selects k again left)) n s (Some answer))

    -- A candidate's final SELECT was answered so (after EMV Contactless Book B).
    abbrev pub Chosen : Activation → List ℕ → (S → Talk) → List Candidate → Talk → Type 0
    Chosen given answer again left t =
        (x : Candidate) × (given ≡ given_to x [])
        × (t ≡ (if is_9000 answer then activates k (after_verdict again (selects k again left)) (given_to x answer) s else selects k again left s))

    -- A candidate's final SELECT is to be answered (after EMV Contactless Book B).
    abbrev pub Offers : List ℕ → Activation → (S → Talk) → List Candidate → Talk → Type 0
    Offers command given again left t =
        (x : Candidate) × (command ≡ final_command x) × (given ≡ given_to x []) × (t ≡ selects k again (x ∷ left) s)

    -- A kernel's command is to be answered (this project's own).
    abbrev pub Sends : List ℕ → (S → Talk) → List Candidate → Talk → Type 0
    Sends command again left t =
        (n : ℕ) × (k.commands s < n) × (t ≡ Command command (λ r. kernel_runs k (after_verdict again (selects k again left)) n s (Some r)))

  -- The same without candidates (this project's own).
  pub record Before (enough : ℕ → Type 0) (Rest : (S → Talk) → Talk → Type 0) (talk : Talk) (results : List Result) (said : List EventData) : Type 0 where
    pub n : ℕ
    pub restarts : enough n
    pub rest : Talk
    pub rest_is : Rest (next_start n) rest
    pub comes : Comes talk results said rest

  module _ (s : S) where
    -- The directory was answered so (after EMV Contactless Book B).
    abbrev pub Lists : List ℕ → (S → Talk) → Talk → Type 0
    Lists answer again t = t ≡ Say (Candidates (length (candidates ones (directory answer)))) (selects k again (candidates ones (directory answer)) s)

    -- The directory is to be answered (after EMV Contactless Book B).
    abbrev pub Looks : List ℕ → (S → Talk) → Talk → Type 0
    Looks command again t = (command ≡ select ppse_name) × (t ≡ start_c k again ones s)

    -- The card is to be let go, before a new Start B or the end (after EMV Contactless Book B).
    abbrev pub Closes : Bool → (S → Talk) → Talk → Type 0
    Closes true again t = t ≡ Close (again s)
    Closes false again t = t ≡ ends

    module _ (objects : List Object) (talk : Talk) (results : List Result) (said : List EventData) where
      -- What a purpose stands for (this project's own).
      abbrev pub Serves : List ℕ → Purpose → Type 0
      Serves command plain.Directory = Before (λ n. k.restarts s ≤ n) (Looks command) talk results said
      Serves command (plain.Final given rest) = Within objects rest (λ n. k.restarts s ≤ n) (Offers s command given) talk results said
      Serves command (plain.Kernel rest) = Within objects rest (λ n. k.restarts s ≤ n) (Sends s command) talk results said

      -- What a wish stands for: by these results the talk has said these events, and goes on with the wish (this project's own).
      abbrev pub Wished : Wish → Type 0
      Wished (plain.Command command purpose) = Serves command purpose
      Wished (plain.Close again) = Before (λ n. RestartsAt (plain.Close again) n (k.restarts s)) (Closes again) talk results said × CloseDecided again said
