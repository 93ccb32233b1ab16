-- A replay of lanes step by step, as its code goes: it stops with the exchange at which the trace fails (this project's own form).
use Rattle.std.specs.Prelude.{◌≡◌, ℕ, ◌+◌, ◌-◌, ◌==◌, Bool, if◌then◌else◌, List, [], ◌∷◌, ◌++◌, length, Option, Some, None, is_some}
use Rattle.ep_base.specs.Air.Heard.{Heard}
use Rattle.ep_rules.specs.EntryPoint.Talk.{Talk}
use Rattle.ep_claim.specs.Text.TraceLine.{TraceLine}
use Rattle.ep_claim.specs.Lanes.Order.{Order, next_turn, first_order}
use Rattle.ep_claim.specs.Lanes.ReplayRun.{Mismatch, Replaying, begun_replay, finishes}
use Rattle.ep_claim.specs.Lanes.Steps.{times}
use Rattle.ep_claim.specs.Lanes.WholeReplay.{compared_at, turn_unless}
use Rattle.lane_run.specs.Waiting.{Waiting, replay_opens, heard_piece}

-- The lanes that wait for an exchange, the order of the exchanges to come, the trace, and what was written (this project's own).
pub record LaneReplay : Type 0 where
  pub lanes : ℕ → Option Waiting
  pub order : Order
  pub trace : Replaying
  pub text : List ℕ

-- Whether a lane waits for an exchange (this project's own).
abbrev pub is_waiting : LaneReplay → ℕ → Bool
is_waiting r n = is_some (r.lanes n)

-- The lanes with another one in place of lane n (this project's own).
abbrev pub with_waiting : ℕ → Option Waiting → (ℕ → Option Waiting) → ℕ → Option Waiting
with_waiting n waiting lanes k = if k == n then waiting else lanes k

-- Lane n goes on by what the line heard; where its frame isn't the line's, nothing is written, and the replay has failed (this project's own).
abbrev pub replay_hears : ℕ → ℕ → Order → Waiting → Option Heard × Replaying → LaneReplay → LaneReplay
replay_hears fsdi n order w (None, trace) r = record { lanes = r.lanes; order = r.order; trace = trace; text = r.text }
replay_hears fsdi n order w (Some heard, trace) r = record {
  lanes = with_waiting n (heard_piece fsdi n w heard).waiting r.lanes;
  order = order;
  trace = trace;
  text = r.text ++ (heard_piece fsdi n w heard).text;
}

-- The turn of lane n (this project's own).
abbrev pub replay_turn_of : ℕ → ℕ → Order → Option Waiting → LaneReplay → LaneReplay
replay_turn_of fsdi n order None r = r
replay_turn_of fsdi n order (Some w) r = replay_hears fsdi n order w (compared_at n w.asks r.trace) r

-- By whose turn it is, if it is anyone's (this project's own).
abbrev pub replay_takes : ℕ → Option (ℕ × Order) → LaneReplay → LaneReplay
replay_takes fsdi None r = r
replay_takes fsdi (Some (n, order)) r = replay_turn_of fsdi n order (r.lanes n) r

-- Whose turn it is of so many lanes, as in a run, and the order after it (this project's own).
abbrev pub turn_in : ℕ → LaneReplay → Option (ℕ × Order)
turn_in count r = turn_unless r.trace.failure (next_turn (is_waiting r) count r.order)

-- The replay of so many lanes after its next exchange; one that has stopped stays (this project's own).
abbrev pub replay_step : (fsdi count : ℕ) → LaneReplay → LaneReplay
replay_step fsdi count r = replay_takes fsdi (turn_in count r) r

-- It goes no further: it has failed, or no lane waits for an exchange (this project's own).
abbrev pub HasStopped : ℕ → LaneReplay → Type 0
HasStopped count r = turn_in count r ≡ None

-- The first mismatch of a replay that has stopped: the one at which it failed, or else the first line that is left, if one is (this project's own).
abbrev pub first_mismatch : LaneReplay → Option Mismatch
first_mismatch r = (finishes r.trace).1.failure

-- What is written as the lanes are opened in rising order, of which the first has this number (this project's own).
abbrev pub replay_opening : (fsdi lane : ℕ) → List (List Talk) → List ℕ
replay_opening fsdi lane [] = []
replay_opening fsdi lane (talks ∷ rest) = (replay_opens fsdi lane 1 talks).text ++ replay_opening fsdi (lane + 1) rest

-- The lanes after that, of which the first has this number (this project's own).
abbrev pub replay_lanes : (fsdi lane : ℕ) → List (List Talk) → ℕ → Option Waiting
replay_lanes fsdi lane [] k = None
replay_lanes fsdi lane (talks ∷ rest) k = if k == lane then (replay_opens fsdi lane 1 talks).waiting else replay_lanes fsdi (lane + 1) rest k

-- How many lines of a trace weren't taken (this project's own).
abbrev pub lines_left : Replaying → ℕ
lines_left s = length s.lines - s.taken

-- A replay of these trace lines whose lanes were just opened (this project's own).
abbrev pub opened_replay : ℕ → List ℕ → List TraceLine → List (List Talk) → LaneReplay
opened_replay fsdi turns lines lanes =
    record { lanes = replay_lanes fsdi 1 lanes; order = first_order turns; trace = begun_replay lines; text = replay_opening fsdi 1 lanes }

-- The replay after so many exchanges, if it has as many (this project's own).
abbrev pub machine_after : ℕ → List ℕ → List TraceLine → List (List Talk) → ℕ → LaneReplay
machine_after fsdi turns lines lanes n = times (replay_step fsdi (length lanes)) n (opened_replay fsdi turns lines lanes)

-- It has stopped after some count of exchanges, with this text and this first mismatch, if it has one (this project's own).
pub record MachineEnds (fsdi : ℕ) (turns : List ℕ) (lines : List TraceLine) (lanes : List (List Talk)) (mismatch : Option Mismatch) (text : List ℕ) : Type 0 where
  pub exchanges : ℕ
  pub stopped : HasStopped (length lanes) (machine_after fsdi turns lines lanes exchanges)
  pub mismatch_is : mismatch ≡ first_mismatch (machine_after fsdi turns lines lanes exchanges)
  pub text_is : text ≡ (machine_after fsdi turns lines lanes exchanges).text
