-- The transactions of a document as runs of lanes take them (this project's own).
use Rattle.std.specs.Prelude.{List, map}
use Rattle.ep_rules.specs.EntryPoint.Configuration.{Config}
use Rattle.ep_rules.specs.EntryPoint.Kernel.{scripted}
use Rattle.ep_rules.specs.EntryPoint.PreProcessing.{prepared}
use Rattle.ep_rules.specs.EntryPoint.Talk.{Talk}
use Rattle.ep_rules.specs.EntryPoint.Transaction.{transaction}
use Rattle.ep_claim.specs.Lanes.LaneText.{Job}
use Rattle.scenario.specs.Scenario.{Work, Scenario}

-- What a transaction says and asks, with its kernels (after EMV Contactless Book B).
abbrev pub talk_in : Config → Work → Talk
talk_in settings w = transaction scripted w.txn_type w.amount (prepared settings w.txn_type w.amount) w.scripts

-- A transaction before its first exchange: what it says and asks, and its field (this project's own).
abbrev pub job_of : Config → Work → Job
job_of settings w = record { talk = talk_in settings w; field = w.field }

-- The transactions of a scenario's lanes, each before its first exchange (this project's own).
abbrev pub jobs_in : Scenario → List (List Job)
jobs_in s = map (λ lane. map (job_of s.config) lane) s.lanes

-- The same as what each says and asks; their cards aren't used (after EMV Contactless Book B).
abbrev pub talks_in : Scenario → List (List Talk)
talks_in s = map (λ lane. map (talk_in s.config) lane) s.lanes
