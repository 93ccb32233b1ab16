-- What the code keeps of an entry that can be a candidate (this project's own).
use Rattle.std.specs.Prelude.{◌≡◌, ℕ, true, false, List, if◌then◌else◌, Some, None}
use Rattle.std.specs.declared.option.Option.{Option}
use Rattle.ep_rules.specs.EntryPoint.PreProcessing.{PreparedOne}
use Rattle.ep_base.specs.Objects.Directory.{Entry, is_named}
use Rattle.ep_base.specs.declared.limits.TheConstants.{TYPE_COMBINATIONS}
use Rattle.ep_rules.specs.EntryPoint.Candidates.{fits, requested_by, priority_key}
use Rattle.select_rules.specs.declared.offer.Offer.{Offer}

-- The ADF Name of an entry that has one of 5 to 16 bytes.
abbrev pub name_of : Entry → Option (List ℕ)
name_of e = if is_named e then e.name else None

-- Its name, the kernel that it asks for, and its priority.
pub record OfferOf (e : Entry) (o : Offer) : Type 0 where
  pub named : is_named e ≡ true
  pub name : e.name ≡ Some o.name.now
  pub kernel : requested_by o.name.now e.kernel ≡ Some o.kernel
  pub priority : priority_key e.priority ≡ o.priority

-- Nothing is kept of an entry that fits no Combination.
abbrev pub Offers : Entry → Option Offer → Type 0
Offers e None = (one : PreparedOne) → fits e one ≡ false
Offers e (Some o) = OfferOf e o

-- How many pairs an entry can have with 16 Combinations.
abbrev pub most_pairs : Entry → ℕ
most_pairs e = if is_named e then TYPE_COMBINATIONS else 0
