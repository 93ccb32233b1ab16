-- Several lanes in plain data.
use Rattle.std.specs.Prelude.{ℕ, ◌-◌, ◌==◌, Bool, true, false, if◌then◌else◌, List, length, map, replicate, drop, slice_get, unwrap_or, Option, Some, None, is_some}
use Rattle.ep_base.specs.Air.Heard.{Ask, Heard}
use Rattle.entry_session.specs.Turns.{View, view_of}
use Rattle.ep_claim.specs.Lanes.Order.{Order, next_turn, first_order}
use Rattle.rf_frame.specs.Meaning.{heard_of}
use Rattle.ep_lanes.specs.declared.exchange.Exchange.{Exchange}
use Rattle.ep_lanes.specs.declared.holding.Lane.{Lane}
use Rattle.ep_lanes.specs.declared.holding.Lanes.{Lanes}

-- An open transaction of a lane: its session, and what it asks in its next exchange (this project's own).
pub record OpenTransaction (S : Type 0) : Type 0 where
  pub session : View S
  pub asks : Ask

-- A lane: whether it is live, and its open transaction, if it has one (this project's own).
pub record LaneHeld (S : Type 0) : Type 0 where
  pub live : Bool
  pub transaction : Option (OpenTransaction S)

-- An exchange of a lane: what was asked, and what the reader heard (this project's own).
pub record Made : Type 0 where
  pub lane : ℕ
  pub asked : Ask
  pub heard : Heard

-- Lanes, of which the first has the number 1, the order of their exchanges to come, and the exchange of the last turn (this project's own).
pub record Held (S : Type 0) : Type 0 where
  pub lanes : List (LaneHeld S)
  pub order : Order
  pub last : Option Made

-- A lane that isn't there, or has ended (this project's own).
abbrev pub no_lane : {S : Type 0} → LaneHeld S
no_lane = record { live = false; transaction = None }

-- A lane before its first transaction (this project's own).
abbrev pub new_lane : {S : Type 0} → LaneHeld S
new_lane = record { live = true; transaction = None }

-- The lane with this number; one that isn't there counts as ended (this project's own).
abbrev pub lane_of : {S : Type 0} → Held S → ℕ → LaneHeld S
lane_of h n = if n == 0 then no_lane else unwrap_or (slice_get h.lanes (n - 1)) no_lane

-- Whether a lane is live (this project's own).
abbrev pub is_live : {S : Type 0} → Held S → ℕ → Bool
is_live h n = (lane_of h n).live

-- Whether a lane has an open transaction (this project's own).
abbrev pub has_open : {S : Type 0} → Held S → ℕ → Bool
has_open h n = is_some (lane_of h n).transaction

-- How many lanes there are (this project's own).
abbrev pub count_of : {S : Type 0} → Held S → ℕ
count_of h = length h.lanes

-- Which lane makes the next exchange, and the order after it (this project's own).
abbrev pub next_of : {S : Type 0} → Held S → Option (ℕ × Order)
next_of h = next_turn (is_live h) (count_of h) h.order

-- Whose turn it is, if it is anyone's (this project's own).
abbrev pub lane_in : Option (ℕ × Order) → Option ℕ
lane_in None = None
lane_in (Some t) = Some t.0

-- The lane that makes the next exchange, if any does (this project's own).
abbrev pub next_lane : {S : Type 0} → Held S → Option ℕ
next_lane h = lane_in (next_of h)

-- The order after a turn; without one it stays (this project's own).
abbrev pub order_in : Order → Option (ℕ × Order) → Order
order_in order None = order
order_in order (Some t) = t.1

-- The order after the next exchange, if there is one (this project's own).
abbrev pub order_after : {S : Type 0} → Held S → Order
order_after h = order_in h.order (next_of h)

-- So many lanes before their first transactions, with this turn list (this project's own).
abbrev pub new_lanes : {S : Type 0} → ℕ → List ℕ → Held S
new_lanes count turns = record { lanes = replicate count new_lane; order = first_order turns; last = None }

-- An exchange, in plain data (this project's own).
abbrev pub made_of : Exchange → Made
made_of e = record { lane = e.lane; asked = e.ask; heard = heard_of e.heard }

-- An exchange, if one was made (this project's own).
abbrev pub maybe_made : Bool → Exchange → Option Made
maybe_made false e = None
maybe_made true e = Some (made_of e)

-- A session's transaction with what it asks next, where one is open (this project's own).
abbrev pub open_by : {S : Type 0} → View S → Bool → Ask → Option (OpenTransaction S)
open_by v false ask = None
open_by v true ask = Some (record { session = v; asks = ask })

-- A lane, by what its kernels hold (this project's own).
abbrev pub lane_held : {K S : Type 0} {b : _} → (K → S) → (opened fresh : K → Bool) → Lane K b → LaneHeld S
lane_held state opened fresh l = record { live = l.live; transaction = open_by (view_of state opened fresh l.session) l.opened l.ask }

-- All lanes, by what their kernels hold (this project's own).
abbrev pub lanes_of : {K S : Type 0} {b : _} → (K → S) → (opened fresh : K → Bool) → Lanes K b → Held S
lanes_of state opened fresh l = record {
  lanes = map (lane_held state opened fresh) l.lanes.items;
  order = record { turns = drop l.past l.turns.items; last = l.taken };
  last = maybe_made l.told l.last;
}
