-- The lines of a trace, lane by lane (this project's own).
use Rattle.std.specs.Prelude.{ℕ, ◌==◌, List, [], ◌∷◌, if◌then◌else◌}
use Rattle.ep_base.specs.declared.air.Wave.{Wave}
use Rattle.ep_base.specs.Air.Heard.{Heard}
use Rattle.ep_claim.specs.Text.TraceLine.{TraceLine}

-- An exchange of one lane: the frame that was sent with its check bytes, its wave and its waiting number, and what was heard
-- (this project's own).
pub record Line : Type 0 where
  pub wave : Wave
  pub frame : List ℕ
  pub wait : ℕ
  pub heard : Heard

-- A line without its lane (this project's own).
abbrev pub line_of : TraceLine → Line
line_of l = record { wave = l.sent.wave; frame = l.sent.frame; wait = l.sent.wait; heard = l.heard }

-- The lines of a lane, in order (this project's own).
abbrev pub lines_of : ℕ → List TraceLine → List Line
lines_of lane [] = []
lines_of lane (l ∷ ls) = if l.sent.lane == lane then line_of l ∷ lines_of lane ls else lines_of lane ls
