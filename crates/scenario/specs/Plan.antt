-- Transactions, lanes and the root of a document (this project's own).
use Rattle.std.specs.Prelude.{codes, ℕ, List, [], ◌∷◌, length, Result, Ok}
use Rattle.std.specs.declared.option.Option.{Option}
use Rattle.ep_base.specs.declared.limits.TheConstants.{FSDI, LANES, SCRIPTS, TRANSACTIONS}
use Rattle.toml.specs.Data.{Members}
use Rattle.ep_base.specs.Air.Fates.{Fate}
use Rattle.ep_rules.specs.EntryPoint.Configuration.{Config}
use Rattle.ep_rules.specs.EntryPoint.Kernel.{Script}
use Rattle.ep_claim.specs.Text.TraceLine.{TraceLine}
use Rattle.doc_table.specs.Fault.{Fault}
use Rattle.doc_table.specs.declared.list.ElementKind.TheVariants as elements
use Rattle.doc_table.specs.Read.{◌>>=◌, Reader, Place, place_of, table_of, required, defaulted, integer_in, list_of}
use Rattle.acquirer_config.specs.Config.{config_at}
use Rattle.card_table.specs.Cards.{Card, cards_at}
use Rattle.fate_table.specs.Fates.{fates_at}
use Rattle.fate_table.specs.Presence.{presence_at}
use Rattle.trace_table.specs.Trace.{trace_at}
use Rattle.scenario.specs.Scripts.{script}
use Rattle.scenario.specs.Turns.{turns_at}

-- A transaction: its type and amount, its cards, which of them are present in each round, what becomes of the frames of each exchange, and the scripts
-- of its kernels (this project's own).
pub record Transaction : Type 0 where
  pub txn_type : ℕ
  pub amount : ℕ
  pub cards : List Card
  pub presence : List (List ℕ)
  pub fates : List Fate
  pub scripts : List Script

-- A document: the configuration, the reader's frame size code, which lanes make the first exchanges, each lane's transactions, and the trace of an
-- earlier run, where there is one (this project's own).
pub record Plan : Type 0 where
  pub config : Config
  pub fsdi : ℕ
  pub turns : List ℕ
  pub lanes : List (List Transaction)
  pub trace : Option (List TraceLine)

-- The keys of a transaction, in the order in which they are checked (this project's own).
abbrev pub transaction_keys : List (List ℕ)
transaction_keys = codes "type" ∷ codes "amount" ∷ codes "cards" ∷ codes "presence" ∷ codes "fates" ∷ codes "scripts" ∷ []

-- The scripts of a transaction's kernels (this project's own).
abbrev pub scripts_at : Place → Result (List Script) Fault
scripts_at place = defaulted [] (list_of elements.Table 0 SCRIPTS script) (codes "scripts") place

-- What a transaction's table says (this project's own).
unfoldable pub transaction_at : Place → Result Transaction Fault
transaction_at place = do
  txn_type ← required (integer_in 0 255) (codes "type") place
  amount ← required (integer_in 0 999999999999) (codes "amount") place
  cards ← cards_at place
  presence ← presence_at (length cards) place
  fates ← fates_at place
  scripts ← scripts_at place
  Ok (record { txn_type = txn_type; amount = amount; cards = cards; presence = presence; fates = fates; scripts = scripts })

-- A transaction's table (this project's own).
abbrev pub transaction : Reader Transaction
transaction path d = do
  place ← table_of transaction_keys path d
  transaction_at place

-- The keys of a lane (this project's own).
abbrev pub lane_keys : List (List ℕ)
lane_keys = codes "transactions" ∷ []

-- A lane's table (this project's own).
abbrev pub lane : Reader (List Transaction)
lane path d = do
  place ← table_of lane_keys path d
  required (list_of elements.Table 1 TRANSACTIONS transaction) (codes "transactions") place

-- The lanes, 1 to `LANES` (this project's own).
abbrev pub lanes_at : Place → Result (List (List Transaction)) Fault
lanes_at root = required (list_of elements.Table 1 LANES lane) (codes "lanes") root

-- The keys of the root, in the order in which they are checked (this project's own).
abbrev pub root_keys : List (List ℕ)
root_keys =
    codes "version" ∷ codes "fsdi" ∷ codes "exponent" ∷ codes "combinations" ∷ codes "lanes" ∷ codes "turns"
    ∷ codes "trace" ∷ []

-- What the table of the root says (this project's own; FSDI is that of ISO/IEC 14443-4).
unfoldable pub plan_at : Place → Result Plan Fault
plan_at root = do
  version ← required (integer_in 1 1) (codes "version") root
  fsdi ← defaulted FSDI (integer_in 0 FSDI) (codes "fsdi") root
  config ← config_at root
  lanes ← lanes_at root
  turns ← turns_at (length lanes) root
  trace ← trace_at root
  Ok (record { config = config; fsdi = fsdi; turns = turns; lanes = lanes; trace = trace })

-- What the members of a document's root mean (this project's own).
abbrev pub plan : Members → Result Plan Fault
plan members = do
  root ← place_of root_keys [] members
  plan_at root
