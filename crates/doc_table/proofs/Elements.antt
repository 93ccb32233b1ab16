-- Elements read one after the other, as a loop does.
use Rattle.std.proofs.Common.{◌≡◌, ℕ, ◌+◌, ◌<◌, List, [], ◌∷◌, ◌++◌, length, drop, get_or, Result, Ok, Err, refl, sym, ap, ◌∙◌, append_assoc}
use Rattle.std.proofs.lemmas.List.{append-nil}
use Rattle.toml.proofs.Views.{items_view-drop}
use Rattle.toml.specs.View.{view, items_view}
use Rattle.toml.specs.declared.value.Value.{Value}
use Rattle.doc_table.specs.declared.fault.TableEnd.{TableEnd}
use Rattle.doc_table.specs.declared.fault.TableEnd.TheVariants.{NoMemory}
use Rattle.doc_table.specs.declared.fault.TableEnd.TheVariants as ends
use Rattle.doc_table.specs.Fault.{Fault}
use Rattle.doc_table.specs.Path.{element_path}
use Rattle.doc_table.specs.Read.{◌>>=◌, Reader, FailsSo, each}

-- what was read before, and what is still read
abbrev pub with_front : {A : Type 0} → List A → Result (List A) Fault → Result (List A) Fault
with_front front read = read >>= λ xs. Ok (front ++ xs)

regroup : {A : Type 0} (front : List A) (x : A) (read : Result (List A) Fault) → with_front front (read >>= λ xs. Ok (x ∷ xs)) ≡ with_front (front ++ x ∷ []) read
regroup front x (Ok xs) = ap Ok (sym (append_assoc front (x ∷ []) xs))
regroup front x (Err f) = refl

-- one more element was read
pub goes_on : {A : Type 0} (read : Reader A) (path : List ℕ) (front : List A) (vs : List Value) (i : ℕ) (v : Value) (x : A) (total : Result (List A) Fault) → i < length vs
    → read (element_path path (i + 1)) (view (get_or vs i v)) ≡ Ok x
    → with_front front (each read path (i + 1) (items_view (drop i vs))) ≡ total
    → with_front (front ++ x ∷ []) (each read path (i + 1 + 1) (items_view (drop (i + 1) vs))) ≡ total
goes_on read path front vs i v x total lt ok so_far =
    let e = items_view-drop vs i v lt in
    sym (regroup front x (each read path (i + 1 + 1) (items_view (drop (i + 1) vs)))) ∙ rw (e, ok) at so_far

-- an element was not read
pub ends_there : {A : Type 0} (read : Reader A) (path : List ℕ) (front : List A) (vs : List Value) (i : ℕ) (v : Value) (e : TableEnd) (total : Result (List A) Fault) → i < length vs
    → FailsSo e (read (element_path path (i + 1)) (view (get_or vs i v)))
    → with_front front (each read path (i + 1) (items_view (drop i vs))) ≡ total
    → FailsSo e total
ends_there read path front vs i v NoMemory total lt h so_far = tt
ends_there read path front vs i v (ends.Fault f) total lt h so_far =
    let e = items_view-drop vs i v lt in
    sym (rw (e, h) at so_far)

-- all were read
pub is_done : {A : Type 0} (front : List A) (total : Result (List A) Fault) → with_front front (Ok []) ≡ total → total ≡ Ok front
is_done front total so_far = sym so_far ∙ ap Ok (append-nil front)
