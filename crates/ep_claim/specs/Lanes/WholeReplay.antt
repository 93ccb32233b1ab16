-- Several lanes against the trace of an earlier run: the run in which the k-th exchange hears what the k-th trace line says (this project's own).
use Rattle.std.specs.Prelude.{◌≡◌, ℕ, false, List, [], length, map, Option, Some, None}
use Rattle.ep_base.specs.Air.Heard.{Ask, Heard}
use Rattle.ep_base.specs.Cards.Field.{Field, new_field}
use Rattle.ep_rules.specs.EntryPoint.Talk.{Talk}
use Rattle.ep_claim.specs.Text.TraceLine.{TraceLine}
use Rattle.ep_claim.specs.Lanes.Exchanges.{or_silence}
use Rattle.ep_claim.specs.Lanes.LaneText.{Job}
use Rattle.ep_claim.specs.Lanes.Order.{Order, next_turn}
use Rattle.ep_claim.specs.Lanes.ReplayRun.{Mismatch, Replaying, at_lane, begun_replay, finishes, replay}
use Rattle.ep_claim.specs.Lanes.WholeRun.{ProbeSteps, Run, is_live, run_step, run_after}

-- A field without cards: it answers nothing, and nothing is executed in it (this project's own).
abbrev pub no_cards : Field
no_cards = new_field [] [] [] 0

-- A transaction without its cards (this project's own).
abbrev pub without_cards : Talk → Job
without_cards talk = record { talk = talk; field = no_cards }

-- The transactions of all lanes without their cards (this project's own).
abbrev pub cardless : List (List Talk) → List (List Job)
cardless lanes = map (λ talks. map without_cards talks) lanes

-- What a lane asks is compared with the trace's next line: what that line heard, where it is the same, and the trace after it (this project's own).
abbrev pub compared_at : ℕ → Ask → Replaying → Option Heard × Replaying
compared_at lane ask s = replay.send (at_lane lane s) ask.wave ask.bytes ask.wait

-- The trace as a probe: whatever the field answers, the reader hears what the next line heard; where that line isn't of this exchange, or there is
-- none, the trace has failed (this project's own).
abbrev pub trace_probe : ProbeSteps Replaying
trace_probe = record { hear = λ s lane ask heard. ((compared_at lane ask s).1, or_silence (compared_at lane ask s).0) }

-- The replay of so many lanes after its next exchange (this project's own).
abbrev pub replay_next : (fsdi count : ℕ) → Run Replaying → Run Replaying
replay_next fsdi count run = run_step false trace_probe fsdi count run

-- The replay of these trace lines after so many exchanges, if it has as many: a run without cards and without trace lines (this project's own).
abbrev pub replay_after : ℕ → List ℕ → List TraceLine → List (List Talk) → ℕ → Run Replaying
replay_after fsdi turns lines lanes n = run_after false trace_probe fsdi turns (begun_replay lines) (cardless lanes) n

-- After a failure it is no one's turn (this project's own).
abbrev pub turn_unless : Option Mismatch → Option (ℕ × Order) → Option (ℕ × Order)
turn_unless None turn = turn
turn_unless (Some failure) turn = None

-- It goes no further: no lane has an exchange left, or the trace fails in the next one (this project's own).
abbrev pub Stops : (fsdi count : ℕ) → Run Replaying → Type 0
Stops fsdi count run = turn_unless (replay_next fsdi count run).probe.failure (next_turn (is_live run) count run.order) ≡ None

-- The mismatch at which it stops: that of the next exchange, or where there is none the first line that is left, if one is (this project's own).
abbrev pub mismatch_after : (fsdi count : ℕ) → Run Replaying → Option Mismatch
mismatch_after fsdi count run = (finishes (replay_next fsdi count run).probe).1.failure

-- A replay stops after so many exchanges, each of which had its line, and what they wrote is its text; it is matched where no mismatch is told, and
-- else this is the one at which it stops (this project's own).
pub record ReplayEnds (fsdi : ℕ) (turns : List ℕ) (lines : List TraceLine) (lanes : List (List Talk)) (mismatch : Option Mismatch) (text : List ℕ) : Type 0 where
  pub exchanges : ℕ
  pub matched : (replay_after fsdi turns lines lanes exchanges).probe.failure ≡ None
  pub stopped : Stops fsdi (length lanes) (replay_after fsdi turns lines lanes exchanges)
  pub mismatch_is : mismatch ≡ mismatch_after fsdi (length lanes) (replay_after fsdi turns lines lanes exchanges)
  pub text_is : text ≡ (replay_after fsdi turns lines lanes exchanges).text
