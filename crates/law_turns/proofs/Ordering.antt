-- Whose turn it is: a lane that has an exchange left.
use Rattle.std.proofs.Common.{◌≡◌, ◌⊎◌, inl, inr, ⊎_elim, ℕ, zero, suc, ◌+◌, ◌-◌, ◌<◌, ◌≤◌, Bool, true, false, List, [], ◌∷◌, refl, sym, subst, arith, Option, Some, None}
use Rattle.std.specs.Prelude.{All, if◌then◌else◌}
use Rattle.std.proofs.lemmas.Bool.Decides.{leb_tells, eqb_tells}
use Rattle.std.proofs.lemmas.List.Elements.{All-nil, All-cons, All-head, All-tail}
use Rattle.ep_claim.specs.Lanes.Order.{Order, listed, lowest, or_else, in_round, round_turn, turn_by, next_turn}
use Rattle.ep_claim.specs.Lanes.Turning.{IsLane, TurnIs, TurnsAreLive}

module _ (live : ℕ → Bool) where
  -- ---- in rising order

  abbrev LowestIs : (first many : ℕ) → Option ℕ → Type 0
  LowestIs first many None = (n : ℕ) → first ≤ n → n < first + many → live n ≡ false
  LowestIs first many (Some n) = (live n ≡ true) × (first ≤ n) × (n < first + many)

  behind : (first many : ℕ) (o : Option ℕ) → live first ≡ false → LowestIs (first + 1) many o → LowestIs first (suc many) o
  behind first many (Some n) e h = (h.0, omega (arith, h.1), omega (arith, h.2))
  behind first many None e h =
      λ n least most.
      ⊎_elim (λ x. subst (λ k. live k ≡ false) (sym x.1) e) (λ x. h n (omega (arith, least, x.1)) (omega (arith, most)))
      (eqb_tells n first)

  lowest_is : (many first : ℕ) → LowestIs first many (lowest live first many)
  unfolding lowest
  lowest_is zero first = λ n least most. absurd (omega (arith, least, most))
  lowest_is (suc many) first =
      elim (live first) as (λ (b : Bool). live first ≡ b → LowestIs first (suc many) (if b then Some first else lowest live (first + 1) many)) [
        | true ↦ λ e. (e, omega arith, omega arith)
        | false ↦ λ e. behind first many (lowest live (first + 1) many) e (lowest_is many (first + 1))
      ] refl

  module _ (count last : ℕ) where
    abbrev RoundIs : Option ℕ → Type 0
    RoundIs None = (lane : ℕ) → IsLane count lane → live lane ≡ false
    RoundIs (Some n) = (live n ≡ true) × (1 ≤ n) × ((n ≤ count) ⊎ (n ≤ last))

    either_is : (a b : Option ℕ) → LowestIs (last + 1) (count - last) a → LowestIs 1 last b → RoundIs (or_else a b)
    either_is (Some n) b x y = (x.0, omega (arith, x.1), inl (omega (arith, x.1, x.2)))
    either_is None (Some n) x y = (y.0, y.1, inr (omega (arith, y.2)))
    either_is None None x y =
        λ lane is.
        ⊎_elim (λ h. y lane is.0 (omega (arith, h.1))) (λ h. x lane (omega (arith, h.1)) (omega (arith, h.1, is.1)))
        (leb_tells lane last)

    round_is : RoundIs (in_round live count last)
    round_is = either_is (lowest live (last + 1) (count - last)) (lowest live 1 last) (lowest_is (count - last) (last + 1)) (lowest_is last 1)

  -- ---- by the turn list

  module _ (count : ℕ) (Q : ℕ → Type 0) where
    abbrev ListedIs : Option (ℕ × List ℕ) → Type 0
    ListedIs None = Unit {0}
    ListedIs (Some (n, ns)) = (live n ≡ true) × Q n × All Q ns

    listed_is : (ns : List ℕ) → All Q ns → ListedIs (listed live ns)
    listed_is [] all = tt
    listed_is (n ∷ ns) all =
        elim (live n) as (λ (b : Bool). live n ≡ b → ListedIs (if b then Some (n, ns) else listed live ns)) [
          | true ↦ λ e. (e, All-head Q n ns all, All-tail Q n ns all)
          | false ↦ λ e. listed_is ns (All-tail Q n ns all)
        ] refl

    -- whose turn it is, where all lanes that may be taken are of this kind
    abbrev pub Taken : ℕ → Option (ℕ × Order) → Type 0
    Taken last None = (lane : ℕ) → IsLane count lane → live lane ≡ false
    Taken last (Some (lane, next)) = (live lane ≡ true) × Q lane × All Q next.turns × ((next.last ≡ last) ⊎ (next.last ≡ lane))

    round_taken : (last : ℕ) (r : Option ℕ) → ((n : ℕ) → 1 ≤ n → (n ≤ count) ⊎ (n ≤ last) → Q n) → RoundIs count last r → Taken last (round_turn r)
    round_taken last None q h = h
    round_taken last (Some n) q h = (h.0, q n h.1 h.2, All-nil Q, inr refl)

    list_taken : (o : Order) (l : Option (ℕ × List ℕ)) → ((n : ℕ) → 1 ≤ n → (n ≤ count) ⊎ (n ≤ o.last) → Q n) → ListedIs l → Taken o.last (turn_by live count o l)
    list_taken o None q h = round_taken o.last (in_round live count o.last) q (round_is count o.last)
    list_taken o (Some (n, ns)) q h = (h.0, h.1, h.2, inl refl)

    pub taken : (o : Order) → All Q o.turns → ((n : ℕ) → 1 ≤ n → (n ≤ count) ⊎ (n ≤ o.last) → Q n) → Taken o.last (next_turn live count o)
    taken o all q = list_taken o (listed live o.turns) q (listed_is o.turns all)

  -- ---- of these lanes

  within : (count last : ℕ) (t : Option (ℕ × Order)) → last ≤ count → Taken count (IsLane count) last t → TurnIs live count t
  within count last None le h = h
  within count last (Some (lane, next)) le h =
      (h.0, h.1, record { turns = h.2; last = ⊎_elim (λ e. omega (arith, e, le)) (λ e. omega (arith, e, h.1.1)) h.3 })

  all_any : (ns : List ℕ) → All (λ (n : ℕ). Unit {0}) ns
  all_any [] = All-nil (λ (n : ℕ). Unit {0})
  all_any (n ∷ ns) = All-cons (λ (n : ℕ). Unit {0}) n ns tt (all_any ns)

  -- in any order
  abbrev pub Anyhow : ℕ → Option (ℕ × Order) → Type 0
  Anyhow count None = (lane : ℕ) → IsLane count lane → live lane ≡ false
  Anyhow count (Some (lane, next)) = live lane ≡ true

  anyhow_of : (count last : ℕ) (t : Option (ℕ × Order)) → Taken count (λ n. Unit {0}) last t → Anyhow count t
  anyhow_of count last None h = h
  anyhow_of count last (Some (lane, next)) h = h.0

  pub anyhow : (count : ℕ) (o : Order) → Anyhow count (next_turn live count o)
  anyhow count o = anyhow_of count o.last (next_turn live count o) (taken count (λ n. Unit {0}) o (all_any o.turns) (λ n least most. tt))

pub turns_are_live_law : TurnsAreLive
turns_are_live_law live count o of =
    within live count o.last (next_turn live count o) of.last
    (taken live count (IsLane count) o of.turns (λ n least most. (least, ⊎_elim (λ h. h) (λ h. omega (arith, h, of.last)) most)))
