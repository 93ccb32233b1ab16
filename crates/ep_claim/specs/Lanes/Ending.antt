-- A run of several lanes comes to its end (this project's own).
use Rattle.std.specs.Prelude.{◌≡◌, ℕ, ◌+◌, Bool, List, [], ◌∷◌, length, sum, None}
use Rattle.ep_claim.specs.Lanes.Standing.{started}
use Rattle.ep_claim.specs.Lanes.Order.{next_turn}
use Rattle.ep_claim.specs.Lanes.LaneText.{Job}
use Rattle.ep_claim.specs.Lanes.WholeRun.{ProbeSteps, Run, is_live, run_after, IsOver}
use Rattle.ep_claim.specs.Lanes.Counting.{IsBounded, IsOverAfter}

-- Each of a lane's transactions is over after its count of exchanges, whatever is heard (this project's own).
abbrev pub AreOverAfter : ℕ → List Job → List ℕ → Type 0
AreOverAfter fsdi [] [] = Unit {0}
AreOverAfter fsdi [] (n ∷ ns) = ⊥
AreOverAfter fsdi (j ∷ js) [] = ⊥
AreOverAfter fsdi (j ∷ js) (n ∷ ns) = IsOverAfter fsdi j.talk n (started j.talk) × AreOverAfter fsdi js ns

-- And so in every lane (this project's own).
abbrev pub LanesOverAfter : ℕ → List (List Job) → List (List ℕ) → Type 0
LanesOverAfter fsdi [] [] = Unit {0}
LanesOverAfter fsdi [] (ns ∷ rest) = ⊥
LanesOverAfter fsdi (js ∷ lanes) [] = ⊥
LanesOverAfter fsdi (js ∷ lanes) (ns ∷ rest) = AreOverAfter fsdi js ns × LanesOverAfter fsdi lanes rest

-- The counts of all lanes together (this project's own).
abbrev pub in_all : List (List ℕ) → ℕ
in_all [] = 0
in_all (ns ∷ rest) = sum ns + in_all rest

-- No lane has an exchange left (this project's own).
abbrev pub HasEnded : {P : Type 0} → ℕ → Run P → Type 0
HasEnded count run = next_turn (is_live run) count run.order ≡ None

-- A run is over after some count of exchanges; this is its text then, and this the probe's state (this project's own).
pub record HasRun {P : Type 0} (traced : Bool) (steps : ProbeSteps P) (fsdi : ℕ) (turns : List ℕ) (p : P) (lanes : List (List Job))
    (text : List ℕ) (q : P) : Type 0 where
  pub exchanges : ℕ
  pub over : HasEnded (length lanes) (run_after traced steps fsdi turns p lanes exchanges)
  pub text_is : text ≡ (run_after traced steps fsdi turns p lanes exchanges).text
  pub probe_is : q ≡ (run_after traced steps fsdi turns p lanes exchanges).probe

-- Whatever the probe makes of the hearings, the run is over after the exchanges of all its transactions together (this project's own).
abbrev pub RunsEndWithin : {P : Type 0} → ProbeSteps P → Type 0
RunsEndWithin {P} probe =
    (traced : Bool) (fsdi : ℕ) (turns : List ℕ) (p : P) (lanes : List (List Job)) (counts : List (List ℕ)) → LanesOverAfter fsdi lanes counts →
    HasEnded (length lanes) (run_after traced probe fsdi turns p lanes (in_all counts))

-- Each of a lane's transactions has a bound on its commands and Start Bs (this project's own).
abbrev pub AreBounded : List Job → Type 0
AreBounded [] = Unit {0}
AreBounded (j ∷ js) = ((commands : ℕ) × (starts : ℕ) × IsBounded commands starts j.talk) × AreBounded js

-- And so in every lane (this project's own).
abbrev pub LanesAreBounded : List (List Job) → Type 0
LanesAreBounded [] = Unit {0}
LanesAreBounded (js ∷ lanes) = AreBounded js × LanesAreBounded lanes

-- Then the run comes to its end (this project's own).
abbrev pub RunsEnd : {P : Type 0} → ProbeSteps P → Type 0
RunsEnd {P} probe =
    (traced : Bool) (fsdi : ℕ) (turns : List ℕ) (p : P) (lanes : List (List Job)) → LanesAreBounded lanes → IsOver traced probe fsdi turns p lanes

-- A run is the same at any two counts of exchanges at which it is over (this project's own).
abbrev pub OneEnd : {P : Type 0} → ProbeSteps P → Type 0
OneEnd {P} probe =
    (traced : Bool) (fsdi : ℕ) (turns : List ℕ) (p : P) (lanes : List (List Job)) (m n : ℕ) →
    HasEnded (length lanes) (run_after traced probe fsdi turns p lanes m) → HasEnded (length lanes) (run_after traced probe fsdi turns p lanes n) →
    run_after traced probe fsdi turns p lanes m ≡ run_after traced probe fsdi turns p lanes n
