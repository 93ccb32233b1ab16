-- The configuration of a load (the Combinations are this project's own; their parts are those of EMV Book A).
use Rattle.std.specs.Prelude.{ℕ, ◌==◌, false, [], ◌∷◌, Some, None, if◌then◌else◌}
use Rattle.ep_rules.specs.EntryPoint.Configuration.{Combination, Config}

-- The first Combination (this project's own).
abbrev pub first : Combination
first = record {
  txn_type = 0;
  aid = 0xa0 ∷ 0x00 ∷ 0x00 ∷ 0x00 ∷ 0x03 ∷ 0x10 ∷ 0x10 ∷ [];
  kernel = 3;
  status_check = false;
  zero_allowed = None;
  limit = Some 100000;
  floor = Some 5000;
  terminal_floor = None;
  cvm = Some 3000;
  extended = false;
  ttq = Some (0x26 ∷ 0x00 ∷ 0x40 ∷ 0x00 ∷ []);
}

-- The second Combination (this project's own).
abbrev pub second : Combination
second = record {
  txn_type = 0;
  aid = 0xa0 ∷ 0x00 ∷ 0x00 ∷ 0x00 ∷ 0x04 ∷ 0x10 ∷ 0x10 ∷ [];
  kernel = 2;
  status_check = false;
  zero_allowed = None;
  limit = Some 100000;
  floor = None;
  terminal_floor = None;
  cvm = Some 3000;
  extended = false;
  ttq = None;
}

-- The third Combination (this project's own).
abbrev pub third : Combination
third = record {
  txn_type = 0;
  aid = 0xa0 ∷ 0x00 ∷ 0x00 ∷ 0x00 ∷ 0x25 ∷ 0x01 ∷ [];
  kernel = 4;
  status_check = false;
  zero_allowed = None;
  limit = Some 100000;
  floor = Some 0;
  terminal_floor = None;
  cvm = None;
  extended = false;
  ttq = None;
}

-- The exponent, and all three of them (this project's own).
abbrev pub terms : Config
terms = record { exponent = 2; list = first ∷ second ∷ third ∷ [] }

-- The Combination of a draw below 3 (this project's own).
abbrev pub chosen : ℕ → Combination
chosen choice = if choice == 0 then first else (if choice == 1 then second else third)
