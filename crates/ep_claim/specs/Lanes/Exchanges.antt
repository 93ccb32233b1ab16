-- The exchanges of a transaction over a field, each by what the transaction asks then (this project's own form).
use Rattle.std.specs.Prelude.{ℕ, if◌then◌else◌, List, [], ◌∷◌, ◌++◌, Option, Some, None}
use Rattle.ep_base.specs.Air.Heard.{Ask, Heard, Silence}
use Rattle.ep_base.specs.Cards.Field.{Field, field_reset, field_send}
use Rattle.ep_claim.specs.Lanes.Steps.{times}
use Rattle.ep_rules.specs.EntryPoint.Talk.{Talk}
use Rattle.ep_claim.specs.Lanes.Standing.{Standing, started, asked_by, after_hearing}

-- An exchange: what was asked, and what the reader heard (this project's own).
pub record Exchange : Type 0 where
  pub asked : Ask
  pub heard : Heard

-- What the field answers to what is asked, and the field after it: a reset comes before the frame where one is asked (this project's own).
abbrev pub field_answers : Ask → Field → Option Heard × Field
field_answers ask f = field_send (if ask.reset then field_reset f else f) ask.wave ask.bytes

-- A call that fails would be heard as silence; that of a field never does (this project's own).
abbrev pub or_silence : Option Heard → Heard
or_silence None = Silence
or_silence (Some heard) = heard

-- A transaction with its field, and its exchanges so far (this project's own).
pub record Lane : Type 0 where
  pub standing : Standing
  pub field : Field
  pub exchanges : List Exchange

-- Before the first exchange (this project's own).
abbrev pub opened_lane : Talk → Field → Lane
opened_lane talk f = record { standing = started talk; field = f; exchanges = [] }

-- The exchange in which this is asked, and the field answers so (this project's own).
abbrev pub exchanged : ℕ → Talk → Ask → Option Heard × Field → Lane → Lane
exchanged fsdi talk ask answer l = record {
  standing = after_hearing fsdi talk (or_silence answer.0) l.standing;
  field = answer.1;
  exchanges = l.exchanges ++ record { asked = ask; heard = or_silence answer.0 } ∷ [];
}

-- By what is asked next, if anything is (this project's own).
abbrev pub goes_by : ℕ → Talk → Option Ask → Lane → Lane
goes_by fsdi talk None l = l
goes_by fsdi talk (Some ask) l = exchanged fsdi talk ask (field_answers ask l.field) l

-- The lane after its next exchange; one that is over stays (this project's own).
abbrev pub lane_step : ℕ → Talk → Lane → Lane
lane_step fsdi talk l = goes_by fsdi talk (asked_by fsdi l.standing.doing) l

-- The lane after so many exchanges, if it has as many (this project's own).
abbrev pub lane_after : ℕ → Talk → ℕ → Lane → Lane
lane_after fsdi talk n l = times (lane_step fsdi talk) n l
