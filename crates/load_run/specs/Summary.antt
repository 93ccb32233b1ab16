-- The summary line of a load (this project's own).
use Rattle.std.specs.Prelude.{ℕ, List, ◌++◌, codes, decimal}
use Rattle.load_run.specs.Counts.{Counts}

-- The seed and the count of transactions, and how these ended by the rules (this project's own).
abbrev pub ends_text : (seed count : ℕ) → Counts → List ℕ
ends_text seed count c =
    codes "load seed=" ++ decimal seed
    ++ codes " count=" ++ decimal count
    ++ codes " approved=" ++ decimal c.approved
    ++ codes " declined=" ++ decimal c.declined
    ++ codes " online=" ++ decimal c.online
    ++ codes " ended=" ++ decimal c.ended

-- How they ended otherwise, and what all of them did (this project's own).
abbrev pub sums_text : Counts → List ℕ
sums_text c =
    codes " link=" ++ decimal c.link
    ++ codes " nocard=" ++ decimal c.nocard
    ++ codes " apdus=" ++ decimal c.apdus
    ++ codes " executed=" ++ decimal c.executed
    ++ codes " exchanges=" ++ decimal c.exchanges

-- The summary line of a load with this seed and so many transactions, with its newline (this project's own).
unfoldable pub summary_line_of : (seed count : ℕ) → Counts → List ℕ
summary_line_of seed count c = ends_text seed count c ++ sums_text c ++ codes "\n"
