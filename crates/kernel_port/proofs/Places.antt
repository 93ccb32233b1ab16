-- The first script of a kernel, by its place.
use Rattle.std.proofs.Common.{◌≡◌, ◌==◌, ℕ, ◌+◌, ◌<◌, ◌≤◌, List, [], ◌∷◌, true, false, not, length, arith, refl, ap, remove, slice_index_or, cond, nat_lt, ltb-true, ltb-false, one-add, position, subst}
use Rattle.std.specs.Prelude.{Some, None, if◌then◌else◌}
use Rattle.std.specs.List.{position_or_len}
use Rattle.std.proofs.lemmas.Grind.{common_steps}
use Rattle.ep_rules.specs.EntryPoint.Kernel.{Script, script_for, without_script}

abbrev place_of : ℕ → List Script → ℕ
place_of kernel scripts = position_or_len (λ s. s.kernel == kernel) scripts

script_at : (kernel : ℕ) (scripts : List Script) (d : Script) → place_of kernel scripts < length scripts → script_for kernel scripts ≡ Some (slice_index_or scripts (place_of kernel scripts) d)
script_at kernel [] d = λ lt. absurd (omega arith)
script_at kernel (s ∷ scripts) d =
    elim (s.kernel == kernel) as (λ b. cond (not b) (1 + place_of kernel scripts) 0 < length (s ∷ scripts) → (if b then Some s else script_for kernel scripts) ≡ Some (slice_index_or (s ∷ scripts) (cond (not b) (1 + place_of kernel scripts) 0) d))
    [ true ↦ λ _. refl | false ↦ λ lt. grind (arith, common_steps, script_at kernel scripts d (omega arith)) ]

others_at : (kernel : ℕ) (scripts : List Script) → place_of kernel scripts < length scripts → remove scripts (place_of kernel scripts) ≡ without_script kernel scripts
others_at kernel [] = λ lt. absurd (omega arith)
others_at kernel (s ∷ scripts) =
    elim (s.kernel == kernel) as (λ b. cond (not b) (1 + place_of kernel scripts) 0 < length (s ∷ scripts) → remove (s ∷ scripts) (cond (not b) (1 + place_of kernel scripts) 0) ≡ (if b then scripts else s ∷ without_script kernel scripts))
    [ true ↦ λ _. refl | false ↦ λ lt. rw one-add (ap (λ xs. s ∷ xs) (others_at kernel scripts (omega arith))) ]

no_script_at : (kernel : ℕ) (scripts : List Script) → length scripts ≤ place_of kernel scripts → (script_for kernel scripts ≡ None) × (without_script kernel scripts ≡ scripts)
no_script_at kernel [] = λ le. (refl, refl)
no_script_at kernel (s ∷ scripts) =
    elim (s.kernel == kernel) as (λ b. length (s ∷ scripts) ≤ cond (not b) (1 + place_of kernel scripts) 0 → ((if b then Some s else script_for kernel scripts) ≡ None) × ((if b then scripts else s ∷ without_script kernel scripts) ≡ s ∷ scripts))
    [ true ↦ λ le. absurd (omega arith) | false ↦ λ le. let h = no_script_at kernel scripts (omega arith) in (h.0, ap (λ xs. s ∷ xs) h.1) ]

-- a kernel without a script
pub none_at : (kernel : ℕ) (scripts : List Script) → position (λ s. s.kernel == kernel) scripts ≡ None → (script_for kernel scripts ≡ None) × (without_script kernel scripts ≡ scripts)
none_at kernel scripts =
    elim (nat_lt (place_of kernel scripts) (length scripts)) as (λ b. nat_lt (place_of kernel scripts) (length scripts) ≡ b → cond b (Some (place_of kernel scripts)) None ≡ None → (script_for kernel scripts ≡ None) × (without_script kernel scripts ≡ scripts))
    [ true ↦ λ t e. absurd (cc) | false ↦ λ t e. no_script_at kernel scripts (ltb-false _ _ t) ] refl

-- the script at the place that was found, and the list without it
pub some_at : (kernel : ℕ) (scripts : List Script) (i : ℕ) (d : Script) → position (λ s. s.kernel == kernel) scripts ≡ Some i
    → (script_for kernel scripts ≡ Some (slice_index_or scripts i d)) × (remove scripts i ≡ without_script kernel scripts)
some_at kernel scripts i d =
    elim (nat_lt (place_of kernel scripts) (length scripts)) as (λ b. nat_lt (place_of kernel scripts) (length scripts) ≡ b → cond b (Some (place_of kernel scripts)) None ≡ Some i → (script_for kernel scripts ≡ Some (slice_index_or scripts i d)) × (remove scripts i ≡ without_script kernel scripts)) [
      | true ↦ λ t e.
          let same : place_of kernel scripts ≡ i = cc in
          let P : ℕ → Type 0 = λ k. (script_for kernel scripts ≡ Some (slice_index_or scripts k d)) × (remove scripts k ≡ without_script kernel scripts) in
          subst P same (script_at kernel scripts d (ltb-true _ _ t), others_at kernel scripts (ltb-true _ _ t))
      | false ↦ λ t e. absurd (cc)
    ] refl
