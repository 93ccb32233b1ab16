-- What lanes have to do as a run plays it, with a field for each of theirs (this project's own).
use Rattle.std.specs.Prelude.{List, map}
use Rattle.ep_base.specs.Cards.Field.{Field}
use Rattle.scenario.specs.Scenario.{Work}
use Rattle.lane_run.specs.Works.{LaneWork}

-- A transaction with the field that stands for its own one (this project's own).
abbrev pub played_job : (Field → Field) → Work → Work
played_job field_for w = record { txn_type = w.txn_type; amount = w.amount; field = field_for w.field; scripts = w.scripts }

-- What a lane has to do, with such fields in its transactions to come (this project's own).
abbrev pub played : (Field → Field) → LaneWork → LaneWork
played field_for work = record { left = map (played_job field_for) work.left; field = work.field; txn = work.txn }

-- The same of all lanes (this project's own).
abbrev pub all_played : (Field → Field) → List LaneWork → List LaneWork
all_played field_for works = map (played field_for) works
