-- The filled places and the list of their bytes, and what a byte that is copied down does to the list.
use Rattle.std.proofs.Common.{◌≡◌, ℕ, zero, suc, ◌+◌, ◌-◌, ◌<◌, ◌≤◌, List, [], ◌∷◌, ◌++◌, Option, Some, map, length, take, drop, get_or, slice_get, refl, sym, ap, ◌∙◌, arith}
use Rattle.std.proofs.Math.ListN.{set}
use Rattle.std.proofs.Math.Seq.{take-set-lt}
use Rattle.std.proofs.lemmas.List.{map-append, map-set, take-take, take-map, take_more, take_more_set, drop-take, length-take, length-drop, length-append, length-map, get_or-drop, append_assoc, take-append-drop, drop-map}
use Rattle.std.proofs.lemmas.Option.{get_or_from_slice_get}
use Rattle.raw_block.specs.Filling.{filled}
use Rattle.ep_base.specs.Objects.RawBytes.{bytes_at, slid}

filled-map : (xs : List ℕ) → filled (map Some xs) ≡ xs
filled-map [] = refl
filled-map (x ∷ xs) = ap (λ l. x ∷ l) (filled-map xs)

-- places that hold bytes hold their bytes
pub of_run : (cs : List (Option ℕ)) (xs : List ℕ) → cs ≡ map Some xs → (cs ≡ map Some (filled cs)) × (filled cs ≡ xs)
of_run cs xs e = let same : filled cs ≡ xs = ap filled e ∙ filled-map xs in (e ∙ ap (map Some) (sym same), same)

module _ (cs : List (Option ℕ)) (n : ℕ) (xs : List ℕ) (e : take n cs ≡ map Some xs) where
  pub pushed : (b : ℕ) → n < length cs → take (n + 1) (set cs n (Some b)) ≡ map Some (xs ++ b ∷ [])
  pushed b lt = take_more_set cs n (Some b) lt ∙ ap (λ l. l ++ Some b ∷ []) e ∙ sym (map-append Some xs (b ∷ []))

  pub written : (i b : ℕ) → i < n → take n (set cs i (Some b)) ≡ map Some (set xs i b)
  written i b lt = take-set-lt n cs i (Some b) lt ∙ ap (λ l. set l i (Some b)) e ∙ sym (map-set Some xs i b)

  pub shortened : (top : ℕ) → top ≤ n → take top cs ≡ map Some (take top xs)
  shortened top le = sym (take-take top n cs le) ∙ ap (take top) e ∙ take-map Some top xs

  seen : (at len : ℕ) → at + len ≤ n → take len (drop at cs) ≡ map Some (bytes_at at len xs)
  seen at len le = sym (drop-take at len cs) ∙ ap (drop at) (sym (take-take (at + len) n cs le)) ∙ drop-take at len (take n cs)
      ∙ ap (λ l. take len (drop at l)) e ∙ ap (take len) (drop-map Some at xs) ∙ take-map Some len (drop at xs)

  pub viewed : (at len : ℕ) → at + len ≤ n → (take len (drop at cs) ≡ map Some (filled (take len (drop at cs)))) × (filled (take len (drop at cs)) ≡ bytes_at at len xs)
  viewed at len le = of_run (take len (drop at cs)) (bytes_at at len xs) (seen at len le)

  pub count : n ≤ length cs → length xs ≡ n
  count le = omega (arith, ap length e, length-map xs Some, length-take n cs)

-- the byte of a piece of one
pub lone_byte : (xs : List ℕ) (i : ℕ) → i < length xs → slice_get xs i ≡ Some (get_or (bytes_at i 1 xs) 0 0)
lone_byte [] i lt = absurd (omega arith)
lone_byte (x ∷ xs) zero lt = refl
lone_byte (x ∷ xs) (suc i) lt = lone_byte xs i (omega arith)

set-past : (xs ys : List ℕ) (k i b : ℕ) → k ≡ length xs + i → set (xs ++ ys) k b ≡ xs ++ set ys i b
set-past [] ys k i b e = let same : k ≡ i = omega arith in ap (λ m. set ys m b) same
set-past (x ∷ xs) ys zero i b e = absurd (omega arith)
set-past (x ∷ xs) ys (suc k) i b e = ap (λ l. x ∷ l) (set-past xs ys k i b (omega arith))

get-past : (xs ys : List ℕ) (k i : ℕ) → k ≡ length xs + i → get_or (xs ++ ys) k 0 ≡ get_or ys i 0
get-past [] ys k i e = let same : k ≡ i = omega arith in ap (λ m. get_or ys m 0) same
get-past (x ∷ xs) ys zero i e = absurd (omega arith)
get-past (x ∷ xs) ys (suc k) i e = get-past xs ys k i (omega arith)

set-first : (xs : List ℕ) (m b : ℕ) → m < length xs → set (drop m xs) 0 b ≡ b ∷ drop (m + 1) xs
set-first [] m b lt = absurd (omega arith)
set-first (x ∷ xs) zero b lt = refl
set-first (x ∷ xs) (suc m) b lt = let on : suc m + 1 ≡ suc (m + 1) = omega arith in set-first xs m b (omega arith) ∙ ap (λ k. b ∷ drop k (x ∷ xs)) (sym on)

module _ (from to : ℕ) (xs : List ℕ) (down : to ≤ from) where
  pub length-slid : (i : ℕ) → from + i ≤ length xs → length (slid from to i xs) ≡ length xs
  length-slid i le = omega (arith, length-append (take to xs) (bytes_at from i xs ++ drop (to + i) xs), length-append (bytes_at from i xs) (drop (to + i) xs), length-take to xs, length-take i (drop from xs), length-drop from xs, length-drop (to + i) xs)

  pub slid-none : slid from to 0 xs ≡ xs
  slid-none = let same : to + 0 ≡ to = omega arith in ap (λ k. take to xs ++ drop k xs) same ∙ take-append-drop to xs

  -- the next byte is copied
  pub slid-more : (i b : ℕ) → from + i < length xs → slice_get (slid from to i xs) (from + i) ≡ Some b → set (slid from to i xs) (to + i) b ≡ slid from to (i + 1) xs
  slid-more i b lt got =
      let front = take to xs in let piece = bytes_at from i xs in let rest = drop (to + i) xs in
      let fronts : length front ≡ to = omega (arith, length-take to xs) in
      let pieces : length piece ≡ i = omega (arith, length-take i (drop from xs), length-drop from xs) in
      let there : get_or (slid from to i xs) (from + i) 0 ≡ get_or xs (from + i) 0 =
      get-past front (piece ++ rest) (from + i) (i + (from - to)) (omega arith) ∙ get-past piece rest (i + (from - to)) (from - to) (omega arith) ∙ get_or-drop (to + i) xs (from - to) 0
      ∙ (let same : to + i + (from - to) ≡ from + i = omega arith in ap (λ k. get_or xs k 0) same) in
      let byte : get_or (drop from xs) i 0 ≡ b = get_or-drop from xs i 0 ∙ sym there ∙ get_or_from_slice_get (slid from to i xs) (from + i) b 0 got in
      let more : bytes_at from (i + 1) xs ≡ piece ++ b ∷ [] = take_more (drop from xs) i 0 (omega (arith, length-drop from xs)) ∙ ap (λ x. piece ++ x ∷ []) byte in
      let on : to + i + 1 ≡ to + (i + 1) = omega arith in
      let after : piece ++ b ∷ drop (to + i + 1) xs ≡ bytes_at from (i + 1) xs ++ drop (to + (i + 1)) xs =
      ap (λ k. piece ++ b ∷ drop k xs) on ∙ sym (ap (λ l. l ++ drop (to + (i + 1)) xs) more ∙ append_assoc piece (b ∷ []) (drop (to + (i + 1)) xs)) in
      set-past front (piece ++ rest) (to + i) i b (omega arith) ∙ ap (λ l. front ++ l) (set-past piece rest i 0 b (omega arith) ∙ ap (λ l. piece ++ l) (set-first xs (to + i) b (omega arith)) ∙ after)
