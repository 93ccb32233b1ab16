-- The key `turns` of a document's root (this project's own).
use Rattle.std.specs.Prelude.{codes, ℕ, ◌≤◌, List, [], length, All, Result}
use Rattle.ep_base.specs.declared.limits.TheConstants.{TURNS}
use Rattle.doc_table.specs.Fault.{Fault}
use Rattle.doc_table.specs.declared.list.ElementKind.TheVariants.{Integer}
use Rattle.doc_table.specs.Read.{Place, defaulted, integer_in, list_of}

-- Which of so many lanes make the first exchanges, one after another: at most 4096 of their numbers, none where the key is absent (this project's own).
abbrev pub turns_at : ℕ → Place → Result (List ℕ) Fault
turns_at lanes place = defaulted [] (list_of Integer 0 TURNS (integer_in 1 lanes)) (codes "turns") place

-- At most 4096 numbers, all of them of these lanes (this project's profile).
pub record AreTurns (lanes : ℕ) (turns : List ℕ) : Type 0 where
  pub few : length turns ≤ TURNS
  pub known : All (λ n. (1 ≤ n) × (n ≤ lanes)) turns
