-- What each candidate of a directory is (this project's own).
use Rattle.std.specs.Prelude.{◌≡◌, ◌-◌, ◌≤◌, nat_eq, true, List, length, slice_get, Some}
use Rattle.std.specs.List.{starts_with}
use Rattle.ep_rules.specs.EntryPoint.PreProcessing.{PreparedOne, is_allowed}
use Rattle.ep_rules.specs.EntryPoint.Candidates.{Candidate}

-- Its name has 5 to 16 bytes and begins with the AID, its Combination is allowed, and stands at its number among those of Pre-Processing.
pub record IsCandidate (ones : List PreparedOne) (c : Candidate) : Type 0 where
  pub five : 5 ≤ length c.name
  pub sixteen : length c.name ≤ 16
  pub begins : starts_with nat_eq c.name c.one.combination.aid ≡ true
  pub allowed : is_allowed c.one ≡ true
  pub number : 1 ≤ c.combination
  pub place : slice_get ones (c.combination - 1) ≡ Some c.one
