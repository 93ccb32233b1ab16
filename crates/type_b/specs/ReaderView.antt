-- What a reader's fields mean (this project's own).
use Rattle.std.specs.Prelude.{ℕ, ◌<◌, List}
use Rattle.ep_base.specs.Cards.CardLimits.{AreLimits}
use Rattle.type_b.specs.Reader.{ReaderState, Place, New, At, Over}
use Rattle.type_b.specs.declared.reader.BReader.TheInside.{Inside}
use Rattle.type_b.specs.declared.reader.Step.{Step}
use Rattle.type_b.specs.declared.reader.Step.TheVariants as steps

-- Where it stands, with what the ATQB said.
abbrev pub place_by : Step → List ℕ → ℕ → ℕ → Place
place_by steps.Woken pupi fsc fwi = New
place_by steps.Attrib pupi fsc fwi = At (record { pupi = pupi; fsc = fsc; fwi = fwi })
place_by steps.Over pupi fsc fwi = Over

-- The state of a reader from its fields (this project's own).
abbrev pub reader_state : Inside → ReaderState
reader_state r = record { fsdi = r.fsdi; place = place_by r.step r.pupi r.fsc r.fwi }

-- Its FSDI and what the ATQB said are within their bounds (this project's own).
abbrev pub ReaderFits : Inside → Type 0
ReaderFits r = (r.fsdi < 16) × AreLimits r.fsc r.fwi
