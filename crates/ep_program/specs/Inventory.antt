-- What the program answers to the words of an inventory, and what it wrote then (this project's own).
use Rattle.std.specs.Prelude.{ℕ, ◌≤◌, All, List, length, map}
use Rattle.std.specs.declared.option.Option.{Option}
use Rattle.std.specs.Io.KnownBytes.{Appends, Keeps}
use Rattle.ep_base.specs.declared.limits.TheConstants.{LANES, TRANSACTIONS}
use Rattle.ep_base.specs.Streams.Io.{AppendsPrefix}
use Rattle.inventory_run.specs.Tagged.{CanBeListed, plan_tags, work_tags}
use Rattle.inventory_run.specs.Text.{lanes_text}
use Rattle.scenario.specs.Plan.{Plan}
use Rattle.scenario.specs.Scenario.{Work, Scenario}
use Rattle.ep_program.specs.Input.{Gives, Refuses}
use Rattle.ep_program.specs.declared.status.Status.{Status}
use Rattle.ep_program.specs.declared.status.Status.TheVariants.{Done, ReadFault, WriteFault, NoMemory, Usage, TooLong, NotToml, BadDocument, Mismatch}

-- The lines of all Type A cards of a document's transactions (this project's own).
abbrev pub document_text : Plan → List ℕ
document_text p = lanes_text (plan_tags p)

-- What an inventory answers: `Done` with the whole text of the document that the input gives, `WriteFault` with a first part of it, and every other
-- status with nothing written and with its reason (this project's own).
abbrev pub Inventories : Option (List ℕ) → (before after : Option (List ℕ)) → Status → Type 0
Inventories input before after Done = (p : Plan) × Gives input p × Appends before after (document_text p)
Inventories input before after WriteFault = (p : Plan) × Gives input p × AppendsPrefix before after (document_text p)
Inventories input before after Usage = ⊥
Inventories input before after ReadFault = Refuses input ReadFault × Keeps before after
Inventories input before after NoMemory = Refuses input NoMemory × Keeps before after
Inventories input before after TooLong = Refuses input TooLong × Keeps before after
Inventories input before after NotToml = Refuses input NotToml × Keeps before after
Inventories input before after (BadDocument f) = Refuses input (BadDocument f) × Keeps before after
Inventories input before after (Mismatch m) = ⊥

-- A scenario whose cards can be listed: at most `LANES` lanes of at most `TRANSACTIONS` such transactions (this project's own).
pub record IsListable (s : Scenario) : Type 0 where
  pub few : length s.lanes ≤ LANES
  pub short : All (λ lane. length lane ≤ TRANSACTIONS) s.lanes
  pub cards : All (All CanBeListed) s.lanes

-- The lines of all Type A cards of a scenario's transactions (this project's own).
abbrev pub scenario_text : Scenario → List ℕ
scenario_text s = lanes_text (map (λ (lane : List Work). map work_tags lane) s.lanes)

-- What listing a scenario's cards answers, and what it writes (this project's own).
abbrev pub ListsCards : Scenario → (before after : Option (List ℕ)) → Status → Type 0
ListsCards s before after Done = Appends before after (scenario_text s)
ListsCards s before after WriteFault = AppendsPrefix before after (scenario_text s)
ListsCards s before after NoMemory = Keeps before after
ListsCards s before after ReadFault = ⊥
ListsCards s before after Usage = ⊥
ListsCards s before after TooLong = ⊥
ListsCards s before after NotToml = ⊥
ListsCards s before after (BadDocument f) = ⊥
ListsCards s before after (Mismatch m) = ⊥
