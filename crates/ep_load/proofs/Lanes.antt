-- The lanes of a load take turns, so that each has its part of the transactions.
use Rattle.std.proofs.Common.{◌≡◌, ◌≢◌, ◌≤◌, ◌<◌, ℕ, zero, suc, ◌+◌, ◌-◌, ◌*◌, ◌%◌, min, List, [], ◌∷◌, ◌++◌, length, refl, sym, ap, subst, ⊎_elim, arith}
use Rattle.std.specs.Prelude.{All, replicate, slice_index_or}
use Rattle.std.proofs.lemmas.List.{get_or-set_same, get_or-set_other, length-set, length-replicate, length-append, get_or-replicate}
use Rattle.std.proofs.lemmas.List.Elements.{All-cons, All-nil, All-append}
use Rattle.std.proofs.lemmas.Bool.Decides.{eqb_tells}
use Rattle.scenario.specs.Accepted.{IsLawful, IsLane, IsAccepted}
use Rattle.scenario.specs.Plan.{Transaction}
use Rattle.scenario.specs.Turns.{AreTurns}
use Rattle.ep_load.specs.Draws.{draws}
use Rattle.ep_load.specs.Load.{transaction_drawn, lane_of, lanes_with, filled, generated}
use Rattle.ep_load.proofs.Choices.{are_draws, of_none}
use Rattle.ep_load.proofs.Purchases.{is_lawful}
use Rattle.ep_load.proofs.Settings.{are_terms}

-- A lane at place k, after so many transactions of all lanes together.
record Fills (done k : ℕ) (lane : List Transaction) : Type 0 where
  lawful : All IsLawful lane
  most : 8 * length lane + k ≤ done + 7
  least : done ≤ 8 * length lane + k

-- So many lanes, after so many transactions.
record AreFilled (total done : ℕ) (lanes : List (List Transaction)) : Type 0 where
  count : length lanes ≡ min total 8
  each : (k : ℕ) (d : List Transaction) → k < length lanes → Fills done k (slice_index_or lanes k d)

before_all : (count : ℕ) → AreFilled count 0 (replicate (min count 8) [])
before_all count =
    let long : length (replicate {A = List Transaction} (min count 8) []) ≡ min count 8 = length-replicate (min count 8) [] in
    record {
      count = long;
      each = λ k d lt.
          let here : k < min count 8 = omega (arith, lt, long) in
          subst (Fills 0 k) (sym (get_or-replicate (min count 8) k [] d here)) (record { lawful = All-nil IsLawful; most = omega (arith, here); least = omega arith });
    }

-- The lane whose turn it is.
takes_one : (done : ℕ) (lane : List Transaction) (t : Transaction) → Fills done (done % 8) lane → IsLawful t → Fills (done + 1) (done % 8) (lane ++ t ∷ [])
takes_one done lane t f is =
    let long : length (lane ++ t ∷ []) ≡ length lane + 1 = length-append lane (t ∷ []) in
    record {
      lawful = All-append IsLawful lane (t ∷ []) f.lawful (All-cons IsLawful t [] is (All-nil IsLawful));
      most = omega (arith, f.most, f.least, long);
      least = omega (arith, f.most, f.least, long);
    }

-- The others.
waits : (done k : ℕ) (lane : List Transaction) → Fills done k lane → k < 8 → k ≢ done % 8 → Fills (done + 1) k lane
waits done k lane f small other = record {
  lawful = f.lawful;
  most = omega (arith, f.most);
  least = omega (arith, f.most, f.least, small, other);
}

one_more : (count done : ℕ) (t : Transaction) (lanes : List (List Transaction))
    → done < count → IsLawful t → AreFilled count done lanes → AreFilled count (done + 1) (lanes_with (done % 8) t lanes)
one_more count done t lanes lt is f =
    let lane = slice_index_or lanes (done % 8) [] in
    let long : length (lanes_with (done % 8) t lanes) ≡ length lanes = length-set lanes (done % 8) (lane ++ t ∷ []) in
    let place : done % 8 < length lanes = omega (arith, f.count, lt) in
    record {
      count = omega (arith, long, f.count);
      each = λ k d within.
          let here : k < length lanes = omega (arith, within, long) in
          ⊎_elim
          (λ h.
          subst (λ (j : ℕ). Fills (done + 1) j (slice_index_or (lanes_with (done % 8) t lanes) j d)) (sym h.1) (
          subst (Fills (done + 1) (done % 8)) (sym (get_or-set_same lanes (done % 8) (lane ++ t ∷ []) d place)) (
          takes_one done lane t (f.each (done % 8) [] place) is)))
          (λ h.
          subst (Fills (done + 1) k) (sym (get_or-set_other lanes (done % 8) k (lane ++ t ∷ []) d h.1)) (
          waits done k (slice_index_or lanes k d) (f.each k d here) (omega (arith, here, f.count)) h.1))
          (eqb_tells k (done % 8));
    }

turn_of : (done : ℕ) → done % 8 ≡ lane_of (done + 1)
turn_of done =
    let same : done ≡ done + 1 - 1 = omega arith in
    ap (λ n. n % 8) same

all_filled : (n count done x : ℕ) (lanes : List (List Transaction)) → done + n ≡ count → AreFilled count done lanes → AreFilled count count (filled n (done + 1) x lanes)
unfolding filled
all_filled zero count done x lanes e f =
    let same : done ≡ count = omega (arith, e) in
    subst (λ (k : ℕ). AreFilled count k lanes) same f
all_filled (suc n) count done x lanes e f =
    let t = transaction_drawn (done + 1) (draws x).0 in
    let next : AreFilled count (done + 1) (lanes_with (done % 8) t lanes) =
    one_more count done t lanes (omega (arith, e)) (is_lawful (done + 1) (draws x).0 (are_draws x)) f in
    all_filled n count (done + 1) (draws x).1 (lanes_with (lane_of (done + 1)) t lanes) (omega (arith, e)) (
    subst (λ (k : ℕ). AreFilled count (done + 1) (lanes_with k t lanes)) (turn_of done) next)

lane_is : (count k : ℕ) (lane : List Transaction) → count ≤ 400 → k < min count 8 → Fills count k lane → IsLane lane
lane_is count k lane few here f = record {
  some = omega (arith, f.least, here);
  short = omega (arith, f.most, few);
  lawful = f.lawful;
}

no_turns : (lanes : ℕ) → AreTurns lanes []
no_turns lanes = record { few = omega arith; known = All-nil (λ n. (1 ≤ n) × (n ≤ lanes)) }

-- A load is accepted.
pub is_accepted : (seed count : ℕ) → 1 ≤ count → count ≤ 400 → IsAccepted (generated seed count)
is_accepted seed count some few =
    let f = all_filled count count 0 seed (replicate (min count 8) []) (omega arith) (before_all count) in
    record {
      config = are_terms;
      fsdi = omega arith;
      some = omega (arith, f.count, some);
      few = omega (arith, f.count);
      lanes = λ k d lt. lane_is count k _ few (omega (arith, lt, f.count)) (f.each k d lt);
      turns = no_turns _;
      trace = of_none _;
    }

-- One more transaction, drawn and appended, in place of the first of those that are left.
pub filled_next : (count done x : ℕ) (lanes : List (List Transaction)) → done < count
    → filled (count - done) (done + 1) x lanes
    ≡ filled (count - (done + 1)) (done + 1 + 1) (draws x).1 (lanes_with (done % 8) (transaction_drawn (done + 1) (draws x).0) lanes)
unfolding filled
filled_next count done x lanes lt =
    let left = count - (done + 1) in
    let more : count - done ≡ suc left = omega (arith, lt) in
    let t = transaction_drawn (done + 1) (draws x).0 in
    subst (λ (n : ℕ). filled n (done + 1) x lanes ≡ filled left (done + 1 + 1) (draws x).1 (lanes_with (done % 8) t lanes)) (sym more) (
    ap (λ j. filled left (done + 1 + 1) (draws x).1 (lanes_with j t lanes)) (sym (turn_of done)))

-- None is left.
pub filled_last : (count done x : ℕ) (lanes : List (List Transaction)) → count ≤ done → filled (count - done) (done + 1) x lanes ≡ lanes
unfolding filled
filled_last count done x lanes le =
    let none : count - done ≡ 0 = omega (arith, le) in
    subst (λ (n : ℕ). filled n (done + 1) x lanes ≡ lanes) (sym none) refl
