-- What is accepted is within its limits.
use Rattle.std.proofs.Common.{◌≡◌, ℕ, suc, zero, ◌+◌, ◌≤◌, ◌<◌, ◌==◌, inl, inr, List, [], ◌∷◌, length, codes, Bool, true, false, Option, Some, None, Ok, nat_lt, if◌then◌else◌, refl, subst, arith}
use Rattle.std.proofs.Math.Nat.{eq-or-lt_of_le}
use Rattle.std.specs.Prelude.{All}
use Rattle.std.proofs.lemmas.List.Elements.{All-nil, All-head, All-tail}
use Rattle.std.proofs.lemmas.Bool.Decides.{nat_tests, leb_tells}
use Rattle.ep_base.specs.declared.limits.TheConstants.{COMBINATIONS, TYPE_COMBINATIONS}
use Rattle.ep_rules.specs.EntryPoint.Configuration.{Combination, Config, IsAmount, IsCombination, AreCombinations, IsConfig, count_of}
use Rattle.doc_table.specs.declared.list.ElementKind.TheVariants.{Table}
use Rattle.doc_table.specs.Read.{Place, list_of, integer_in, byte_text, table_of, optional, required, defaulted, truth}
use Rattle.doc_table.proofs.Accepted.{Accepts, after, accepted_integer, accepted_bytes, accepted_optional, accepted_required, accepted_defaulted, accepted_list}
use Rattle.acquirer_config.specs.Combination.{amount, combination_keys, combination_at, combination}
use Rattle.acquirer_config.specs.Config.{crowd_from, crowd, uncrowded, combinations, config_at}

accepted_amount : Accepts amount IsAmount
accepted_amount = record { is = λ path d n e. ((accepted_integer 0 999999999999).is path d n e).1 }

accepted_ttq : Accepts (byte_text 4 4) (λ bytes. length bytes ≡ 4)
accepted_ttq = record { is = λ path d bytes e. let h = (accepted_bytes 4 4).is path d bytes e in omega (arith, h.0, h.1) }

accepted_at : (place : Place) (c : Combination) → combination_at place ≡ Ok c → IsCombination c
unfolding combination_at
accepted_at place c e =
    after (required (integer_in 0 255) (codes "type") place) _ c e (λ txn_type is_type e1.
    after (required (byte_text 5 16) (codes "aid") place) _ c e1 (λ aid is_aid e2.
    after (required (integer_in 1 16777215) (codes "kernel") place) _ c e2 (λ kernel is_kernel e3.
    after (defaulted false truth (codes "status_check") place) _ c e3 (λ status_check _ e4.
    after (optional truth (codes "zero_allowed") place) _ c e4 (λ zero_allowed _ e5.
    after (optional amount (codes "limit") place) _ c e5 (λ limit is_limit e6.
    after (optional amount (codes "floor") place) _ c e6 (λ floor is_floor e7.
    after (optional amount (codes "terminal_floor") place) _ c e7 (λ terminal_floor is_terminal e8.
    after (optional amount (codes "cvm") place) _ c e8 (λ cvm is_cvm e9.
    after (defaulted false truth (codes "extended") place) _ c e9 (λ extended _ e10.
    after (optional (byte_text 4 4) (codes "ttq") place) _ c e10 (λ ttq is_ttq e11.
    let made : Combination = record {
      txn_type = txn_type;
      aid = aid;
      kernel = kernel;
      status_check = status_check;
      zero_allowed = zero_allowed;
      limit = limit;
      floor = floor;
      terminal_floor = terminal_floor;
      cvm = cvm;
      extended = extended;
      ttq = ttq;
    } in
    let same : made ≡ c = cc in
    let of_type = accepted_required _ _ (codes "type") place _ (accepted_integer 0 255) is_type in
    let of_aid = accepted_required _ _ (codes "aid") place _ (accepted_bytes 5 16) is_aid in
    let of_kernel = accepted_required _ _ (codes "kernel") place _ (accepted_integer 1 16777215) is_kernel in
    subst IsCombination same (record {
      txn_type = of_type.1;
      aid_least = of_aid.0;
      aid_most = of_aid.1;
      kernel_least = of_kernel.0;
      kernel_most = of_kernel.1;
      limit = accepted_optional _ _ (codes "limit") place _ accepted_amount is_limit;
      floor = accepted_optional _ _ (codes "floor") place _ accepted_amount is_floor;
      terminal_floor = accepted_optional _ _ (codes "terminal_floor") place _ accepted_amount is_terminal;
      cvm = accepted_optional _ _ (codes "cvm") place _ accepted_amount is_cvm;
      ttq = accepted_optional _ _ (codes "ttq") place _ accepted_ttq is_ttq;
    }))))))))))))

pub accepted_combination : Accepts combination IsCombination
accepted_combination = record { is = λ path d c e. after (table_of combination_keys path d) _ c e (λ place _ is. accepted_at place c is) }

over_most : (n : ℕ) (rest : Option ℕ) → (if nat_lt TYPE_COMBINATIONS n then Some n else rest) ≡ None → (n ≤ TYPE_COMBINATIONS) × (rest ≡ None)
over_most n rest h = by_test (nat_lt TYPE_COMBINATIONS n) refl h where
  by_test : (b : Bool) → nat_lt TYPE_COMBINATIONS n ≡ b → (if b then Some n else rest) ≡ None → (n ≤ TYPE_COMBINATIONS) × (rest ≡ None)
  by_test true is h = cc
  by_test false is h = (grind (arith, nat_tests), h)

-- No type from t on has more than sixteen.
no_crowd_from : (t types : ℕ) (list : List Combination) → crowd_from t types list ≡ None → (u : ℕ) → t ≤ u → u < t + types → count_of u list ≤ TYPE_COMBINATIONS
unfolding crowd_from
no_crowd_from t zero list h u low high = absurd (omega arith)
no_crowd_from t (suc types) list h u low high =
    let here = over_most (count_of t list) (crowd_from (t + 1) types list) h in
    elim (eq-or-lt_of_le low) [
      | inl same ↦ subst (λ (n : ℕ). count_of n list ≤ TYPE_COMBINATIONS) same here.0
      | inr above ↦ no_crowd_from (t + 1) types list here.1 u (omega arith) (omega arith)
    ]

-- No Combination is of a type that isn't a byte.
none_of : (t : ℕ) (list : List Combination) → All IsCombination list → 255 < t → count_of t list ≡ 0
none_of t [] all h = refl
none_of t (c ∷ list) all h =
    let least : c.txn_type ≤ 255 = (All-head IsCombination c list all).txn_type in
    let other : (c.txn_type == t) ≡ false = grind (arith, nat_tests) in
    rw other (none_of t list (All-tail IsCombination c list all) h)

no_crowd : (list : List Combination) → All IsCombination list → crowd list ≡ None → (t : ℕ) → count_of t list ≤ TYPE_COMBINATIONS
unfolding crowd
no_crowd list all h t =
    elim (leb_tells 256 t) [
      | inl above ↦ let none = none_of t list all above.1 in omega arith
      | inr byte ↦ no_crowd_from 0 256 list h t (omega arith) byte.1
    ]

uncrowded_ok : (path : List ℕ) (cs list : List Combination) (r : Option ℕ) → uncrowded path cs r ≡ Ok list → (r ≡ None) × (cs ≡ list)
uncrowded_ok path cs list None e = (refl, cc)
uncrowded_ok path cs list (Some n) e = cc

accepted_combinations : Accepts combinations AreCombinations
accepted_combinations = record {
  is = λ path d list e.
      after (list_of Table 0 COMBINATIONS combination path d) _ list e (λ cs ok is.
      let all = (accepted_list Table 0 COMBINATIONS combination IsCombination accepted_combination).is path d cs ok in
      let few = uncrowded_ok path cs list (crowd cs) is in
      subst AreCombinations few.1 (record { each = all.each; count = all.most; of_a_type = no_crowd cs all.each few.0 }));
}

no_combinations : AreCombinations []
no_combinations = record { each = All-nil IsCombination; count = omega arith; of_a_type = λ t. omega arith }

pub accepted_list_at : (root : Place) (list : List Combination) → defaulted [] combinations (codes "combinations") root ≡ Ok list → AreCombinations list
accepted_list_at root list e = accepted_defaulted combinations AreCombinations [] (codes "combinations") root list accepted_combinations no_combinations e

-- An accepted configuration is within its limits.
pub accepted_config : (root : Place) (s : Config) → config_at root ≡ Ok s → IsConfig s
unfolding config_at
accepted_config root s e =
    after (defaulted 2 (integer_in 0 4) (codes "exponent") root) _ s e (λ exponent is_exponent e1.
    after (defaulted [] combinations (codes "combinations") root) _ s e1 (λ list is_list e2.
    let made : Config = record { exponent = exponent; list = list } in
    let same : made ≡ s = cc in
    let small = accepted_defaulted (integer_in 0 4) _ 2 (codes "exponent") root exponent (accepted_integer 0 4) (omega arith, omega arith) is_exponent in
    subst IsConfig same (record { exponent = small.1; list = accepted_list_at root list is_list })))
