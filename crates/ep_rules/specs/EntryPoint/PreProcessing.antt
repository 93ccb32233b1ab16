-- Start A, Pre-Processing (after EMV Contactless Book B; the choices on zero amounts and on the order of the TTQ bits are this project's profile).
use Rattle.std.specs.Prelude.{ℕ, ◌+◌, ◌%◌, ◌^◌, ◌==◌, ◌&&◌, ◌||◌, not, nat_le, nat_lt, Bool, false, List, map, filter, [], ◌∷◌, slice_index, slice_set, bit_and, if◌then◌else◌, Some, None}
use Rattle.std.specs.declared.option.Option.{Option}
use Rattle.ep_rules.specs.EntryPoint.Configuration.{Combination, Config}

-- The five truths of a Combination.
pub record Indicators : Type 0 where
  pub not_allowed : Bool
  pub status : Bool
  pub zero : Bool
  pub floor : Bool
  pub cvm : Bool

-- A Combination after Pre-Processing, with its own copy of the TTQ.
pub record PreparedOne : Type 0 where
  pub combination : Combination
  pub indicators : Indicators
  pub ttq : Option (List ℕ)

-- The amount is the limit or above; an absent limit makes this false.
abbrev pub reaches : ℕ → Option ℕ → Bool
reaches amount None = false
reaches amount (Some limit) = nat_le limit amount

-- The amount is above the limit; an absent limit makes this false.
abbrev pub exceeds : ℕ → Option ℕ → Bool
exceeds amount None = false
exceeds amount (Some limit) = nat_lt limit amount

-- The Reader Contactless Floor Limit, and where it is absent the Terminal Floor Limit.
abbrev pub floor_limit : Option ℕ → Option ℕ → Option ℕ
floor_limit None terminal = terminal
floor_limit (Some floor) terminal = Some floor

-- Zero Amount Allowed is present with value 0.
abbrev pub refuses_zero : Option Bool → Bool
refuses_zero None = false
refuses_zero (Some allowed) = not allowed

-- TTQ byte 1 bit 4: an offline-only reader (EMV Contactless Book A, TTQ).
abbrev pub is_offline_only : Option (List ℕ) → Bool
is_offline_only None = false
is_offline_only (Some ttq) = not (bit_and (slice_index ttq 0) 0x08 == 0)

abbrev pub is_zero : Combination → ℕ → Bool
is_zero c amount = (amount == 0) && not (refuses_zero c.zero_allowed)

abbrev pub indicators : ℕ → ℕ → Combination → Indicators
indicators exponent amount c = record {
  not_allowed = reaches amount c.limit || ((amount == 0) && refuses_zero c.zero_allowed || is_zero c amount && is_offline_only c.ttq);
  status = c.status_check && (amount == 10 ^ exponent);
  zero = is_zero c amount;
  floor = exceeds amount (floor_limit c.floor c.terminal_floor);
  cvm = reaches amount c.cvm;
}

-- An online cryptogram is required.
abbrev pub needs_online : Indicators → Option (List ℕ) → Bool
needs_online i ttq = i.floor || (i.status || i.zero && not (is_offline_only ttq))

-- Byte 2 with its bits 8 and 7 set anew: an online cryptogram is required, a cardholder verification is required.
abbrev pub second_byte : Indicators → Option (List ℕ) → ℕ → ℕ
second_byte i ttq byte = byte % 64 + (if needs_online i ttq then 128 else 0) + (if i.cvm then 64 else 0)

abbrev pub marked : Indicators → Option (List ℕ) → Option (List ℕ)
marked i None = None
marked i (Some ttq) = Some (slice_set ttq 1 (second_byte i (Some ttq) (slice_index ttq 1)))

abbrev pub prepared_one : ℕ → ℕ → Combination → PreparedOne
prepared_one exponent amount c = record {
  combination = c;
  indicators = indicators exponent amount c;
  ttq = marked (indicators exponent amount c) c.ttq;
}

-- Each Combination of the transaction type, in the configuration's order.
abbrev pub prepared : Config → ℕ → ℕ → List PreparedOne
prepared settings txn_type amount =
    map (prepared_one settings.exponent amount) (filter (λ (c : Combination). c.txn_type == txn_type) settings.list)

abbrev pub is_allowed : PreparedOne → Bool
is_allowed one = not one.indicators.not_allowed

-- Some Combination is allowed.
abbrev pub any_allowed : List PreparedOne → Bool
any_allowed [] = false
any_allowed (one ∷ ones) = is_allowed one || any_allowed ones
