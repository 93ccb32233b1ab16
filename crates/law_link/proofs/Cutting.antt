-- The parts of a message.
use Rattle.std.proofs.Common.{◌≡◌, ℕ, zero, suc, ◌+◌, ◌-◌, ◌<◌, ◌≤◌, List, [], ◌∷◌, ◌++◌, length, take, drop, ap, ◌∙◌, ⊎_elim, arith, length-drop, length-take}
use Rattle.std.specs.List.{concat}
use Rattle.std.proofs.lemmas.List.{append-nil, take-append-drop}
use Rattle.std.proofs.lemmas.Bool.Decides.{leb_tells}
use Rattle.ep_base.specs.Link.Parts.{Cut, cut_by, cut}

-- a part that fits a frame, and isn't empty
abbrev pub Fit : ℕ → List ℕ → Type 0
Fit frame p = (0 < length p) × (length p + 3 ≤ frame)

abbrev pub AllFit : ℕ → List (List ℕ) → Type 0
AllFit frame [] = Unit {0}
AllFit frame (p ∷ ps) = Fit frame p × AllFit frame ps

abbrev Joins : List ℕ → Cut → Type 0
Joins bytes c = c.first ++ concat c.others ≡ bytes

abbrev FitAll : ℕ → Cut → Type 0
FitAll frame c = AllFit frame (c.first ∷ c.others)

cut_by_joins : (k size : ℕ) (bytes : List ℕ) → Joins bytes (cut_by k size bytes)
cut_by_joins zero size bytes = append-nil bytes
cut_by_joins (suc k) size bytes =
    ⊎_elim
    (λ h. rw h.0 (append-nil bytes))
    (λ h. rw h.0 (ap (λ l. take size bytes ++ l) (cut_by_joins k size (drop size bytes)) ∙ take-append-drop size bytes))
    (leb_tells (length bytes) size)

cut_by_fits : (k size frame : ℕ) (bytes : List ℕ) → length bytes ≤ k → 0 < size → size + 3 ≤ frame → 0 < length bytes → FitAll frame (cut_by k size bytes)
cut_by_fits zero size frame bytes fuel pos room some = absurd (omega arith)
cut_by_fits (suc k) size frame bytes fuel pos room some =
    ⊎_elim
    (λ h. rw h.0 ((some, omega (arith, h.1)), tt))
    (λ h. rw h.0 ((omega (arith, h.1, length-take size bytes), omega (arith, h.1, length-take size bytes)), cut_by_fits k size frame (drop size bytes) (omega (arith, h.1, length-drop size bytes)) pos room (omega (arith, h.1, length-drop size bytes))))
    (leb_tells (length bytes) size)

pub cut_joins : (size : ℕ) (bytes : List ℕ) → (cut size bytes).first ++ concat (cut size bytes).others ≡ bytes
cut_joins size bytes = cut_by_joins (length bytes) size bytes

pub cut_fits : (frame : ℕ) (bytes : List ℕ) → 16 ≤ frame → 0 < length bytes → AllFit frame ((cut (frame - 3) bytes).first ∷ (cut (frame - 3) bytes).others)
cut_fits frame bytes room some = cut_by_fits (length bytes) (frame - 3) frame bytes (omega arith) (omega arith) (omega arith) some
