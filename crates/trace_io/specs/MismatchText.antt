-- The text of the first place at which a run and a trace differ (this project's own).
use Rattle.std.specs.Prelude.{ℕ, List, ◌++◌, codes, decimal, Some, None}
use Rattle.std.specs.declared.option.Option.{Option}
use Rattle.ep_claim.specs.Lanes.ReplayRun.{Mismatch}
use Rattle.ep_claim.specs.Text.TraceLine.{Shown, shown_text}

-- What was sent, or the word for nothing where none is left (this project's own).
abbrev pub side_text : Option Shown → List ℕ
side_text None = codes "nothing"
side_text (Some sent) = shown_text sent

-- The place, what the trace's line wants, and what was sent, without a newline (this project's own).
unfoldable pub mismatch_text : Mismatch → List ℕ
mismatch_text m =
    codes "ep_program: mismatch at " ++ decimal m.place ++ codes ": wanted " ++ side_text m.wanted ++ codes ", got " ++ side_text m.got
