-- Lanes by their numbers, where one of them changes.
use Rattle.std.proofs.Common.{◌≡◌, ◌≢◌, ◌⊎◌, inl, inr, ⊎_elim, ℕ, ◌+◌, ◌-◌, ◌<◌, ◌≤◌, ◌==◌, Bool, true, false, List, [], ◌∷◌, ◌++◌, map, replicate, length, get_or, slice_get, slice_set, unwrap_or, option_map, Option, Result, Ok, Err, Some, None, is_some, refl, sym, ◌∙◌, ap, subst, arith}
use Rattle.std.specs.Prelude.{if◌then◌else◌, OnErr}
use Rattle.std.proofs.lemmas.Bool.Decides.{eqb_tells, leb_tells}
use Rattle.std.proofs.lemmas.List.{map-set, length-map, get_or-set_same, get_or-set_other, replicate-append-replicate, get_or-replicate}
use Rattle.std.proofs.lemmas.Option.{unwrap_or-slice_get, slice_get_past, slice_get-map, slice_get-get_or, get_or_from_slice_get}
use Rattle.ep_base.specs.Air.Heard.{Ask}
use Rattle.entry_session.specs.Turns.{View}
use Rattle.ep_lanes.specs.Lanes.{LaneHeld, lane_of, new_lane, new_lanes, no_lane, open_by}

module _ {S : Type 0} where
  -- the lane with a number
  abbrev pub at : List (LaneHeld S) → ℕ → LaneHeld S
  at lanes n = if n == 0 then no_lane else unwrap_or (slice_get lanes (n - 1)) no_lane

  abbrev pub numbered : Bool → List (LaneHeld S) → ℕ → LaneHeld S
  numbered b lanes n = if b then no_lane else unwrap_or (slice_get lanes (n - 1)) no_lane

  module _ (lanes : List (LaneHeld S)) where
    -- a number from 1 on is a place
    pub placed : (n : ℕ) → 1 ≤ n → at lanes n ≡ get_or lanes (n - 1) no_lane
    placed n least =
        ⊎_elim (λ x. absurd (omega (arith, x.1))) (λ x. subst (λ (b : Bool). numbered b lanes n ≡ get_or lanes (n - 1) no_lane) (sym x.0) (unwrap_or-slice_get lanes (n - 1) no_lane))
        (eqb_tells n 0)

    -- no lane has the number 0
    pub none_at : (n : ℕ) → n ≡ 0 → at lanes n ≡ no_lane
    none_at n e = subst (λ k. at lanes k ≡ no_lane) (sym e) refl

    -- there is no lane with this number, or it is one of them
    pub there_or_not : (n : ℕ) → (at lanes n ≡ no_lane) ⊎ ((1 ≤ n) × (n ≤ length lanes))
    there_or_not n =
        ⊎_elim (λ x. inl (none_at n x.1))
        (λ x. ⊎_elim (λ y. inr (omega (arith, x.1), y.1))
        (λ y. inl (subst (λ (b : Bool). numbered b lanes n ≡ no_lane) (sym x.0) (ap (λ o. unwrap_or o no_lane) (slice_get_past lanes (n - 1) (omega (arith, y.1, x.1))))))
        (leb_tells n (length lanes)))
        (eqb_tells n 0)

    pub past_all : (n : ℕ) → length lanes < n → at lanes n ≡ no_lane
    past_all n less = ⊎_elim (λ e. e) (λ x. absurd (omega (arith, x.1))) (there_or_not n)

    -- one that is live is one of them
    pub live_there : (n : ℕ) → (at lanes n).live ≡ true → (1 ≤ n) × (n ≤ length lanes)
    live_there n live = ⊎_elim (λ e. let never : false ≡ true = ap (λ l. l.live) (sym e) ∙ live in cc) (λ x. x) (there_or_not n)

    -- one with an open transaction is one of them
    pub open_there : (n : ℕ) → is_some (at lanes n).transaction ≡ true → (1 ≤ n) × (n ≤ length lanes)
    open_there n opened = ⊎_elim (λ e. let never : false ≡ true = ap (λ l. is_some l.transaction) (sym e) ∙ opened in cc) (λ x. x) (there_or_not n)

  module _ {A : Type 0} (v : A → LaneHeld S) (xs : List A) (i lane : ℕ) (e : i ≡ lane) (there : (1 ≤ lane) × (lane ≤ length (map v xs))) where
    in_list : lane - 1 < length xs
    in_list = omega (arith, length-map xs v, there.0, there.1)

    -- the one at a place
    pub found : (d : A) → d ≡ get_or xs (i - 1) d → at (map v xs) lane ≡ v d
    found d is =
        placed (map v xs) lane there.0
        ∙ get_or_from_slice_get (map v xs) (lane - 1) (v (get_or xs (lane - 1) d)) no_lane
        (slice_get-map v xs (lane - 1) ∙ ap (λ o. option_map v o) (slice_get-get_or xs (lane - 1) d in_list))
        ∙ ap v (subst (λ k. get_or xs (k - 1) d ≡ d) e (sym is))

    -- the one that changes
    pub changed : (a : A) → at (map v (slice_set xs (i - 1) a)) lane ≡ v a
    changed a =
        placed (map v (slice_set xs (i - 1) a)) lane there.0
        ∙ subst (λ k. get_or (map v (slice_set xs (k - 1) a)) (lane - 1) no_lane ≡ v a) (sym e)
        (ap (λ l. get_or l (lane - 1) no_lane) (map-set v xs (lane - 1) a)
        ∙ get_or-set_same (map v xs) (lane - 1) (v a) no_lane (omega (arith, there.0, there.1)))

    -- all others
    pub others : (a : A) (k : ℕ) → k ≢ lane → at (map v (slice_set xs (i - 1) a)) k ≡ at (map v xs) k
    others a k other =
        ⊎_elim (λ x. none_at (map v (slice_set xs (i - 1) a)) k x.1 ∙ sym (none_at (map v xs) k x.1))
        (λ x. placed (map v (slice_set xs (i - 1) a)) k (omega (arith, x.1))
        ∙ subst (λ j. get_or (map v (slice_set xs (j - 1) a)) (k - 1) no_lane ≡ get_or (map v xs) (k - 1) no_lane) (sym e)
        (ap (λ l. get_or l (k - 1) no_lane) (map-set v xs (lane - 1) a)
        ∙ get_or-set_other (map v xs) (lane - 1) (k - 1) (v a) no_lane (omega (arith, x.1, other, there.0)))
        ∙ sym (placed (map v xs) k (omega (arith, x.1))))
        (eqb_tells k 0)

  -- A lane with an open transaction takes a turn: the list first stays as it shows.
  module _ {A : Type 0} (v : A → LaneHeld S) (xs ys : List A) (i lane : ℕ) (e : i ≡ lane) (same : map v xs ≡ map v ys) (opened : is_some (at (map v ys) lane).transaction ≡ true) where
    there : (1 ≤ lane) × (lane ≤ length (map v xs))
    there = subst (λ ls. (1 ≤ lane) × (lane ≤ length ls)) (sym same) (open_there (map v ys) lane opened)

    pub before_turn : (d : A) → d ≡ get_or xs (i - 1) d → at (map v ys) lane ≡ v d
    before_turn d is = subst (λ ls. at ls lane ≡ v d) same (found v xs i lane e there d is)

    pub after_turn : (a : A) → at (map v (slice_set xs (i - 1) a)) lane ≡ v a
    after_turn a = changed v xs i lane e there a

    pub others_rest : (a : A) (k : ℕ) → k ≢ lane → at (map v (slice_set xs (i - 1) a)) k ≡ at (map v ys) k
    others_rest a k other = others v xs i lane e there a k other ∙ ap (λ ls. at ls k) same

  -- one more lane
  pub one_more : (l : LaneHeld S) (xs ys : List (LaneHeld S)) (n : ℕ) → xs ≡ replicate n l → ys ≡ l ∷ [] → xs ++ ys ≡ replicate (n + 1) l
  one_more l xs ys n e f = ap (λ zs. zs ++ ys) e ∙ ap (λ zs. replicate n l ++ zs) f ∙ replicate-append-replicate n 1 l

-- what isn't there is none
pub is_none : {X : Type 0} (o : Option X) → is_some o ≡ false → o ≡ None
is_none None e = refl
is_none (Some x) e = let never : true ≡ false = e in cc

-- a transaction is open where something is asked
pub is_some-open_by : {S : Type 0} (w : View S) (o : Bool) (ask : Ask) → is_some (open_by w o ask) ≡ o
is_some-open_by w false ask = refl
is_some-open_by w true ask = refl

-- what holds, holds after an error
pub on_err : {X E P : Type 0} (r : Result X E) → P → OnErr r P
on_err (Ok x) p = tt
on_err (Err e) p = p

-- what holds of two lanes holds of those that are the same
pub of_same : {S : Type 0} (P : (old new : LaneHeld S) → Type 0) {a b c d : LaneHeld S} → a ≡ b → c ≡ d → P b d → P a c
of_same P {a = a} {d = d} e f p = subst (λ n. P a n) (sym f) (subst (λ o. P o d) (sym e) p)

-- A lane that is new.
pub new_at : {S : Type 0} (count : ℕ) (turns : List ℕ) (n : ℕ) → 1 ≤ n → n ≤ count → lane_of {S = S} (new_lanes count turns) n ≡ new_lane
new_at count turns n least most =
    placed (replicate count new_lane) n least ∙ get_or-replicate count (n - 1) new_lane no_lane (omega (arith, least, most))
