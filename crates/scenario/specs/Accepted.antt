-- What holds of a document that is accepted (this project's profile).
use Rattle.std.specs.Prelude.{◌≤◌, All, List, length}
use Rattle.std.specs.Option.{ForSome}
use Rattle.ep_base.specs.declared.limits.TheConstants.{FSDI, LANES, TRACE_LINES, TRANSACTIONS}
use Rattle.ep_base.specs.Air.Fates.{AreFates}
use Rattle.ep_rules.specs.EntryPoint.Configuration.{IsConfig}
use Rattle.ep_base.specs.Cards.Lawful.{ArePlaced, AreApart, names}
use Rattle.ep_base.specs.Cards.Numbers.{AreDistinct, numbers}
use Rattle.card_table.specs.Placing.{placed_from}
use Rattle.fate_table.specs.Presence.{ArePresences}
use Rattle.scenario.specs.Plan.{Transaction, Plan}
use Rattle.scenario.specs.Scripts.{AreScripts}
use Rattle.scenario.specs.Turns.{AreTurns}

-- A transaction: its cards are within their limits, no two of one kind have the same identifier, and each has a number of its own; presence names no
-- other cards; bursts have at most sixteen bits; and its scripts are within their limits (this project's profile).
pub record IsLawful (t : Transaction) : Type 0 where
  pub placed : ArePlaced (placed_from 1 t.cards)
  pub apart : AreApart (names (placed_from 1 t.cards))
  pub distinct : AreDistinct (numbers (placed_from 1 t.cards))
  pub presence : ArePresences (length t.cards) t.presence
  pub fates : AreFates t.fates
  pub scripts : AreScripts t.scripts

-- A lane: 1 to 64 transactions (this project's profile).
pub record IsLane (lane : List Transaction) : Type 0 where
  pub some : 1 ≤ length lane
  pub short : length lane ≤ TRANSACTIONS
  pub lawful : All IsLawful lane

-- A document: the limits of its configuration, 1 to `LANES` lanes, an FSDI of at most `FSDI`, at most 4096 turns, which are those of its lanes, and a
-- trace, where there is one, of at most `TRACE_LINES` lines (this project's profile).
pub record IsAccepted (p : Plan) : Type 0 where
  pub config : IsConfig p.config
  pub fsdi : p.fsdi ≤ FSDI
  pub some : 1 ≤ length p.lanes
  pub few : length p.lanes ≤ LANES
  pub lanes : All IsLane p.lanes
  pub turns : AreTurns (length p.lanes) p.turns
  pub trace : ForSome p.trace (λ lines. length lines ≤ TRACE_LINES)
