-- How pairs of numbers stand for the candidates that are left (this project's own).
use Rattle.std.specs.Prelude.{◌≡◌, ℕ, ◌+◌, true, List, map, slice_get, Some}
use Rattle.std.specs.List.{AllByRecursion}
use Rattle.ep_rules.specs.EntryPoint.PreProcessing.{PreparedOne}
use Rattle.ep_base.specs.Objects.Directory.{Entry, is_named}
use Rattle.ep_rules.specs.EntryPoint.Candidates.{Candidate}
use Rattle.select_rules.specs.declared.pair.Pair.{Pair}

-- The numbers of a candidate's entry and Combination.
abbrev pub place_of : Candidate → Pair
place_of c = record { entry = c.entry; combination = c.combination }

-- The candidate's numbers are those of its Combination in Pre-Processing's list and of its entry in the directory.
pub record IsThere (ones : List PreparedOne) (entries : List Entry) (c : Candidate) : Type 0 where
  pub index : ℕ
  pub combination : c.combination ≡ index + 1
  pub one : slice_get ones index ≡ Some c.one
  pub place : ℕ
  pub number : c.entry ≡ place + 1
  pub entry : Entry
  pub here : slice_get entries place ≡ Some entry
  pub named : is_named entry ≡ true
  pub name : entry.name ≡ Some c.name
  pub extension : entry.extension ≡ c.extension

-- The pairs are those of these candidates.
pub record StandsFor (ones : List PreparedOne) (entries : List Entry) (pairs : List Pair) (left : List Candidate) : Type 0 where
  pub are : pairs ≡ map place_of left
  pub each : AllByRecursion (IsThere ones entries) left
