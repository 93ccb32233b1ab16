-- What an inventory of lanes writes, and the fields that are asked (this project's own).
use Rattle.std.specs.Prelude.{ℕ, ◌≤◌, List, length, Result, Ok, Err}
use Rattle.std.specs.declared.option.Option.{Option}
use Rattle.std.specs.Io.KnownBytes.{Appends, Keeps}
use Rattle.ep_base.specs.Streams.Io.{AppendsPrefix}
use Rattle.inventory.specs.Tags.{Tag, AreTags}
use Rattle.inventory.specs.Told.{tags_of}
use Rattle.inventory.specs.declared.clean.CleanField.{CleanField}
use Rattle.inventory_run.specs.declared.run.ListingEnd.{ListingEnd}
use Rattle.inventory_run.specs.declared.run.ListingEnd.TheVariants.{NoMemory, SinkFailed}

-- The cards that a field without faults holds (this project's own).
abbrev pub held : CleanField → List Tag
held f = tags_of f.cards.items

-- A field of at most sixteen cards that can stand in one (this project's own).
pub record IsField (f : CleanField) : Type 0 where
  pub few : length (held f) ≤ 16
  pub tags : AreTags (held f)

-- The whole text comes exactly where nothing failed, a first part of it where the sink failed, and nothing where memory ran out (this project's own).
abbrev pub Lists : List ℕ → (before after : Option (List ℕ)) → Result (Unit {0}) ListingEnd → Type 0
Lists text before after (Ok done) = Appends before after text
Lists text before after (Err SinkFailed) = AppendsPrefix before after text
Lists text before after (Err NoMemory) = Keeps before after
