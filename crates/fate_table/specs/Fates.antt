-- The key `fates` of a transaction (this project's own).
use Rattle.std.specs.Prelude.{codes, pos, List, [], ◌∷◌, length, replicate, flat_map, Result, Ok, if◌then◌else◌}
use Rattle.ep_base.specs.declared.limits.TheConstants.{FATES}
use Rattle.toml.specs.Data.{as_array, as_str}
use Rattle.ep_base.specs.Air.Fates.{Fate, clean_fate}
use Rattle.doc_table.specs.Fault.{Fault}
use Rattle.doc_table.specs.declared.list.ElementKind.TheVariants.{Integer}
use Rattle.doc_table.specs.Read.{◌>>=◌, Reader, Place, of_kind, allowed, defaulted, integer_in, is_of, counted, each}
use Rattle.fate_table.specs.Tokens.{fate_of_text}

-- So many exchanges in which all frames pass, 1 to 1000000 (this project's own).
abbrev pub clean_run : Reader (List Fate)
clean_run path d = do
  count ← integer_in 1 1000000 path d
  Ok (replicate count clean_fate)

-- The one exchange that a text tells of (this project's own).
abbrev pub told_run : Reader (List Fate)
told_run path d = do
  text ← of_kind path (as_str d)
  one_fate ← allowed path (pos (length text)) (fate_of_text text)
  Ok (one_fate ∷ [])

-- An element of the list: an integer or a text (this project's own).
abbrev pub run : Reader (List Fate)
run path d = if is_of Integer d then clean_run path d else told_run path d

-- At most `FATES` elements, each read wholly before the next (this project's own).
abbrev pub runs : Reader (List (List Fate))
runs path d = do
  elements ← of_kind path (as_array d)
  few ← counted 0 FATES path elements
  each run path 1 few

-- The fates of a transaction's exchanges: those of each element, one after another, and none where the key is absent (this project's own).
abbrev pub fates_at : Place → Result (List Fate) Fault
fates_at place = do
  elements ← defaulted [] runs (codes "fates") place
  Ok (flat_map (λ exchanges. exchanges) elements)
