-- The first bad line of a trace, and its rule (this project's own).
use Rattle.std.specs.Prelude.{◌≡◌, ◌≢◌, ◌≤◌, ℕ, ◌+◌, List, [], ◌∷◌, ◌++◌, length}
use Rattle.ep_base.specs.Air.Heard.{Silence}
use Rattle.ep_base.specs.declared.limits.TheConstants.{LANES}
use Rattle.ep_claim.specs.Text.TraceLine.{TraceLine}
use Rattle.trace_check.specs.Lines.{Line, line_of, lines_of}
use Rattle.trace_check.specs.Allowed.{IsAllowed, IsOpenAfter}
use Rattle.trace_check.specs.declared.verdict.Rule.{Rule}
use Rattle.trace_check.specs.declared.verdict.Rule.TheVariants.{Activation, Reader, Card, Wait}
use Rattle.trace_check.specs.declared.verdict.Verdict.{Verdict}

-- A line of a lane from 1 to `LANES`.
abbrev pub HasLane : TraceLine → Type 0
HasLane l = (1 ≤ l.sent.lane) × (l.sent.lane ≤ LANES)

-- The lines of each lane are allowed.
abbrev pub AreAllowed : ℕ → List TraceLine → Type 0
AreAllowed fsdi trace = (lane : ℕ) → IsAllowed fsdi (lines_of lane trace)

-- The lines of a line's lane, up to this line.
abbrev pub lines_to : List TraceLine → TraceLine → List Line
lines_to before l = lines_of l.sent.lane before ++ line_of l ∷ []

-- The lines of its lane up to this line aren't allowed, and it is the first such line.
pub record IsFirstBad (fsdi : ℕ) (before : List TraceLine) (l : TraceLine) : Type 0 where
  pub bad : IsAllowed fsdi (lines_to before l) → ⊥
  pub first : (earlier between : List TraceLine) (m : TraceLine) → before ≡ earlier ++ m ∷ between → IsAllowed fsdi (lines_to earlier m)

-- The same line with Silence heard, and some waiting number.
abbrev pub silenced : ℕ → Line → Line
silenced wait l = record { wave = l.wave; frame = l.frame; wait = wait; heard = Silence }

-- The same line with Silence heard would be allowed.
abbrev pub IsCards : ℕ → List Line → Line → Type 0
IsCards fsdi ls l = IsAllowed fsdi (ls ++ silenced l.wait l ∷ [])

-- The same line with Silence heard and another waiting number would be allowed.
abbrev pub IsOfWait : ℕ → List Line → Line → Type 0
IsOfWait fsdi ls l = (wait : ℕ) × (wait ≢ l.wait) × IsAllowed fsdi (ls ++ silenced wait l ∷ [])

-- The first rule that applies to a bad line after these lines of its lane.
abbrev pub IsRule : ℕ → List Line → Line → Rule → Type 0
IsRule fsdi ls l Card = IsCards fsdi ls l
IsRule fsdi ls l Wait = (IsCards fsdi ls l → ⊥) × IsOfWait fsdi ls l
IsRule fsdi ls l Reader = (IsCards fsdi ls l → ⊥) × (IsOfWait fsdi ls l → ⊥) × IsOpenAfter fsdi ls
IsRule fsdi ls l Activation = (IsCards fsdi ls l → ⊥) × (IsOfWait fsdi ls l → ⊥) × (IsOpenAfter fsdi ls → ⊥)

-- A verdict names the first bad line of a trace by its place, counted from 1, with its lane and its rule.
pub record Names (fsdi : ℕ) (trace : List TraceLine) (v : Verdict) : Type 0 where
  pub before : List TraceLine
  pub line : TraceLine
  pub after : List TraceLine
  pub parts : trace ≡ before ++ line ∷ after
  pub bad : IsFirstBad fsdi before line
  pub place : v.place ≡ length before + 1
  pub lane : v.lane ≡ line.sent.lane
  pub rule : IsRule fsdi (lines_of line.sent.lane before) (line_of line) v.rule
