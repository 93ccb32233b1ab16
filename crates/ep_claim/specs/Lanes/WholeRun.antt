-- A whole run of several lanes, exchange by exchange (this project's own).
use Rattle.std.specs.Prelude.{◌≡◌, ℕ, ◌+◌, ◌==◌, Bool, if◌then◌else◌, List, [], ◌∷◌, ◌++◌, length, Option, Some, None, is_some}
use Rattle.ep_base.specs.Air.Heard.{Ask, Heard}
use Rattle.ep_base.specs.Cards.Field.{Field}
use Rattle.ep_claim.specs.Lanes.Steps.{times}
use Rattle.ep_claim.specs.Lanes.Standing.{asked_by}
use Rattle.ep_claim.specs.Lanes.Exchanges.{field_answers, or_silence}
use Rattle.ep_claim.specs.Lanes.Order.{Order, next_turn, first_order}
use Rattle.ep_claim.specs.Lanes.LaneText.{Job, Going, Piece, opens, trace_part, heard_lane, piece_of}

-- What a probe makes of a hearing: by the lane and what was asked, its next state and what the reader hears (this project's own).
pub record ProbeSteps (P : Type 0) : Type 0 where
  pub hear : P → (lane : ℕ) → Ask → Heard → P × Heard

-- The probe that gives on what it gets (this project's own).
abbrev pub open_probe : ProbeSteps (Unit {0})
open_probe = record { hear = λ p lane ask heard. (p, heard) }

-- The lanes that have an exchange left, the order of the exchanges to come, the probe's state, and what was written (this project's own).
pub record Run (P : Type 0) : Type 0 where
  pub lanes : ℕ → Option Going
  pub order : Order
  pub probe : P
  pub text : List ℕ

-- Whether a lane has an exchange left (this project's own).
abbrev pub is_live : {P : Type 0} → Run P → ℕ → Bool
is_live run n = is_some (run.lanes n)

-- The lanes with another one in place of lane n (this project's own).
abbrev pub with_lane : ℕ → Option Going → (ℕ → Option Going) → ℕ → Option Going
with_lane n going lanes k = if k == n then going else lanes k

-- The run after a piece of lane n (this project's own).
abbrev pub after_piece : {P : Type 0} → ℕ → Order → P → List ℕ → Piece → Run P → Run P
after_piece n order probe traced p run =
    record { lanes = with_lane n p.going run.lanes; order = order; probe = probe; text = run.text ++ (traced ++ p.text) }

-- Lane n hears this, and the field is left so (this project's own).
abbrev pub hears : {P : Type 0} → Bool → ℕ → ℕ → Order → Going → Ask → Field → P × Heard → Run P → Run P
hears traced fsdi n order g ask field heard run =
    after_piece n order heard.0 (trace_part traced n ask heard.1) (piece_of fsdi n g (heard_lane fsdi g.talk ask heard.1 field g.lane)) run

-- The exchange of a lane: the field answers what is asked, and the probe gives on what it makes of it (this project's own).
abbrev pub makes_exchange : {P : Type 0} → Bool → ProbeSteps P → ℕ → ℕ → Order → Going → Option Ask → Run P → Run P
makes_exchange traced probe fsdi n order g None run = run
makes_exchange traced probe fsdi n order g (Some ask) run =
    hears traced fsdi n order g ask (field_answers ask g.lane.field).1
    (probe.hear run.probe n ask (or_silence (field_answers ask g.lane.field).0)) run

-- The turn of lane n (this project's own).
abbrev pub turn_of : {P : Type 0} → Bool → ProbeSteps P → ℕ → ℕ → Order → Option Going → Run P → Run P
turn_of traced probe fsdi n order None run = run
turn_of traced probe fsdi n order (Some g) run = makes_exchange traced probe fsdi n order g (asked_by fsdi g.lane.standing.doing) run

-- By whose turn it is, if it is anyone's (this project's own).
abbrev pub takes_turn : {P : Type 0} → Bool → ProbeSteps P → ℕ → Option (ℕ × Order) → Run P → Run P
takes_turn traced probe fsdi None run = run
takes_turn traced probe fsdi (Some (n, order)) run = turn_of traced probe fsdi n order (run.lanes n) run

-- The run of so many lanes after its next exchange; one that is over stays (this project's own).
abbrev pub run_step : {P : Type 0} → Bool → ProbeSteps P → (fsdi count : ℕ) → Run P → Run P
run_step traced probe fsdi count run = takes_turn traced probe fsdi (next_turn (is_live run) count run.order) run

-- The pieces with which the lanes are opened, in rising order, of which the first has this number (this project's own).
abbrev pub opening_text : (fsdi lane : ℕ) → List (List Job) → List ℕ
opening_text fsdi lane [] = []
opening_text fsdi lane (jobs ∷ rest) = (opens fsdi lane 1 jobs).text ++ opening_text fsdi (lane + 1) rest

-- The lanes after that, of which the first has this number (this project's own).
abbrev pub opening_lanes : (fsdi lane : ℕ) → List (List Job) → ℕ → Option Going
opening_lanes fsdi lane [] k = None
opening_lanes fsdi lane (jobs ∷ rest) k = if k == lane then (opens fsdi lane 1 jobs).going else opening_lanes fsdi (lane + 1) rest k

-- A run whose lanes were just opened (this project's own).
abbrev pub opened_run : {P : Type 0} → ℕ → List ℕ → P → List (List Job) → Run P
opened_run fsdi turns p lanes = record { lanes = opening_lanes fsdi 1 lanes; order = first_order turns; probe = p; text = opening_text fsdi 1 lanes }

-- The run after so many exchanges, if it has as many (this project's own).
abbrev pub run_after : {P : Type 0} → Bool → ProbeSteps P → ℕ → List ℕ → P → List (List Job) → ℕ → Run P
run_after traced probe fsdi turns p lanes n = times (run_step traced probe fsdi (length lanes)) n (opened_run fsdi turns p lanes)

-- The run is over after so many exchanges: no lane has one left (this project's own).
pub record IsOver {P : Type 0} (traced : Bool) (probe : ProbeSteps P) (fsdi : ℕ) (turns : List ℕ) (p : P) (lanes : List (List Job)) : Type 0 where
  pub exchanges : ℕ
  pub over : next_turn (is_live (run_after traced probe fsdi turns p lanes exchanges)) (length lanes) (run_after traced probe fsdi turns p lanes exchanges).order ≡ None
