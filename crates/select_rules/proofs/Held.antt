-- What the arena holds of the first candidate that is left.
use Rattle.std.proofs.Common.{◌≡◌, ℕ, zero, suc, ◌+◌, Bool, List, [], ◌∷◌, Some, None, slice_get, refl, sym, ◌∙◌, ap, subst, arith}
use Rattle.std.proofs.lemmas.Option.{slice_get-map}
use Rattle.std.specs.declared.option.Option.{Option}
use Rattle.std.specs.Option.{option_map}
use Rattle.ep_base.specs.Cards.Apdu.{select}
use Rattle.ep_base.specs.Objects.Arena.{Object, value_in}
use Rattle.ep_rules.specs.EntryPoint.PreProcessing.{PreparedOne}
use Rattle.ep_base.specs.Objects.Directory.{Entry, entry_held, held_from, entries_held}
use Rattle.ep_rules.specs.EntryPoint.Candidates.{Candidate, extended_name, final_command}
use Rattle.select_rules.specs.declared.pair.Pair.{Pair}
use Rattle.select_rules.specs.Left.{place_of, IsThere, StandsFor}
use Rattle.select_rules.specs.Offer.{name_of}

-- an entry of those that are held
held-get : (n count : ℕ) (objects : List Object) (place : ℕ) (e : Entry) → slice_get (held_from n count objects) place ≡ Some e → e ≡ entry_held (n + place) objects
held-get n zero objects place e here = cc
held-get n (suc count) objects zero e here =
    let one : entry_held n objects ≡ e = cc in
    sym one ∙ ap (λ k. entry_held k objects) (omega arith)
held-get n (suc count) objects (suc place) e here =
    held-get (n + 1) count objects place e here ∙ ap (λ k. entry_held k objects) (omega arith)

-- the entry of a candidate that is there
entry_there : (ones : List PreparedOne) (count : ℕ) (objects : List Object) (c : Candidate) → (there : IsThere ones (entries_held count objects) c) → there.entry ≡ entry_held c.entry objects
entry_there ones count objects c there =
    held-get 1 count objects there.place there.entry there.here ∙ ap (λ k. entry_held k objects) (omega arith)

-- its name
name_there : (ones : List PreparedOne) (count : ℕ) (objects : List Object) (c : Candidate) → IsThere ones (entries_held count objects) c → name_of (entry_held c.entry objects) ≡ Some c.name
name_there ones count objects c there =
    subst (λ (e : Entry). name_of e ≡ Some c.name) (entry_there ones count objects c there) (rw there.named there.name)

-- the first pair is that of the first candidate
pub first_place : (ones : List PreparedOne) (entries : List Entry) (pairs : List Pair) (first : Option Pair) → first ≡ slice_get pairs 0 →
    (left : List Candidate) → StandsFor ones entries pairs left → first ≡ option_map place_of (slice_get left 0)
first_place ones entries pairs first is left stands = is ∙ ap (λ (ps : List Pair). slice_get ps 0) stands.are ∙ slice_get-map place_of left 0

module _ (ones : List PreparedOne) (count : ℕ) (objects : List Object) (pairs : List Pair) (pair : Pair) where
  pub first_name : (left : List Candidate) → Some pair ≡ slice_get pairs 0 → StandsFor ones (entries_held count objects) pairs left →
      name_of (entry_held pair.entry objects) ≡ option_map (λ c. c.name) (slice_get left 0)
  first_name [] first stands = let none = stands.are in cc
  first_name (c ∷ cs) first stands =
      let same : pair ≡ place_of c = let are = stands.are in cc in
      ap (λ (p : Pair). name_of (entry_held p.entry objects)) same ∙ name_there ones count objects c stands.each.0

  pub first_command : (left : List Candidate) (name : List ℕ) (one : PreparedOne) (supported : Bool) (extension : Option (List ℕ)) →
      Some pair ≡ slice_get pairs 0 → StandsFor ones (entries_held count objects) pairs left →
      Some name ≡ name_of (entry_held pair.entry objects) → Some one ≡ option_map (λ c. c.one) (slice_get left 0) →
      supported ≡ one.combination.extended → extension ≡ value_in pair.entry 0x9f29 objects →
      ◌≡◌ {A = Option (List ℕ)} (Some (select (extended_name name supported extension))) (option_map final_command (slice_get left 0))
  first_command [] name one supported extension first stands named is does held = cc
  first_command (c ∷ cs) name one supported extension first stands named is does held =
      let there = stands.each.0 in
      let same : pair ≡ place_of c = let are = stands.are in cc in
      let own : Some name ≡ Some c.name =
      named ∙ ap (λ (p : Pair). name_of (entry_held p.entry objects)) same ∙ name_there ones count objects c there in
      let own_name : name ≡ c.name = cc in
      let own_one : one ≡ c.one = cc in
      let own_support : supported ≡ c.one.combination.extended = does ∙ ap (λ (r : PreparedOne). r.combination.extended) own_one in
      let own_extension : extension ≡ c.extension =
      held ∙ ap (λ (p : Pair). value_in p.entry 0x9f29 objects) same
      ∙ sym (ap (λ (e : Entry). e.extension) (entry_there ones count objects c there)) ∙ there.extension in
      ap (λ n. Some (select (extended_name n supported extension))) own_name
      ∙ ap (λ b. Some (select (extended_name c.name b extension))) own_support
      ∙ ap (λ x. Some (select (extended_name c.name c.one.combination.extended x))) own_extension

  -- where there is no name there is no candidate
  pub no_command : (left : List Candidate) → Some pair ≡ slice_get pairs 0 → StandsFor ones (entries_held count objects) pairs left →
      None ≡ name_of (entry_held pair.entry objects) → ◌≡◌ {A = Option (List ℕ)} None (option_map final_command (slice_get left 0))
  no_command [] first stands nameless = refl
  no_command (c ∷ cs) first stands nameless =
      let some = nameless ∙ first_name (c ∷ cs) first stands in absurd cc
