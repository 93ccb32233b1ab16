-- What the fates of frames stand for in plain data (this project's own).
use Rattle.std.specs.Prelude.{◌≤◌, List, [], ◌∷◌, ◌++◌, replicate}
use Rattle.ep_base.specs.Air.Fates.{Way as WayData, Passes, Loses, Bursts, Leaves, IsWay, Fate as FateData, clean_fate}
use Rattle.rf_field.specs.declared.fates.Way.{Way}
use Rattle.rf_field.specs.declared.fates.Way.TheVariants as way
use Rattle.rf_field.specs.declared.fates.Fate.{Fate}
use Rattle.rf_field.specs.declared.fates.FateRun.{FateRun}
use Rattle.rf_field.specs.declared.fates.FateRun.TheVariants.{Clean, One}

-- What becomes of one frame.
abbrev pub way_of : Way → WayData
way_of way.Pass = Passes
way_of way.Lose = Loses
way_of (way.Burst burst) = Bursts burst.start burst.mask
way_of way.Leave = Leaves

-- What becomes of the frames of one exchange.
abbrev pub fate_of : Fate → FateData
fate_of f = record { down = way_of f.down; up = way_of f.up }

-- The exchanges of a run, one by one.
abbrev pub run_of : FateRun → List FateData
run_of (Clean count) = replicate count clean_fate
run_of (One fate) = fate_of fate ∷ []

-- The exchanges of all runs, one by one (this project's own).
abbrev pub exchange_fates : List FateRun → List FateData
exchange_fates [] = []
exchange_fates (run ∷ runs) = run_of run ++ exchange_fates runs

-- A run has at least one exchange, and its bursts have at most sixteen bits (this project's own).
abbrev pub IsRun : FateRun → Type 0
IsRun (Clean count) = 1 ≤ count
IsRun (One fate) = IsWay (way_of fate.down) × IsWay (way_of fate.up)
