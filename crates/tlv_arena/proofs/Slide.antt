-- What is read in a block's bytes, after a slide, an append or a cut.
use Rattle.std.proofs.Common.{◌≡◌, ℕ, ◌+◌, ◌-◌, ◌<◌, ◌≤◌, List, [], ◌∷◌, refl, ◌++◌, length, take, drop, sym, ap, ◌∙◌, append_assoc, arith}
use Rattle.std.proofs.lemmas.List.{take_at, drop_at, take-append-le, drop-append-le, take-take, drop-take, drop-drop, length-take-le, length-drop, length-append, take_all}
use Rattle.ep_base.specs.Objects.RawBytes.{bytes_at, slid}

pub run_len : (at n : ℕ) (xs : List ℕ) → at + n ≤ length xs → length (bytes_at at n xs) ≡ n
run_len at n xs le = length-take-le n (drop at xs) (omega (arith, length-drop at xs))

module _ (from to len : ℕ) (xs : List ℕ) (down : to ≤ from) (le : from + len ≤ length xs) where
  front : length (take to xs) ≡ to
  front = length-take-le to xs (omega arith)

  pub length-slid : length (slid from to len xs) ≡ length xs
  length-slid =
      omega (
        arith,
        length-append (take to xs) (bytes_at from len xs ++ drop (to + len) xs),
        length-append (bytes_at from len xs) (drop (to + len) xs),
        run_len from len xs le,
        front,
        length-drop (to + len) xs,
      )

  pub moved : bytes_at to len (slid from to len xs) ≡ bytes_at from len xs
  moved = ap (take len) (drop_at (take to xs) (bytes_at from len xs ++ drop (to + len) xs) to front) ∙ take_at (bytes_at from len xs) (drop (to + len) xs) len (run_len from len xs le)

  pub below : (at n : ℕ) → at + n ≤ to → bytes_at at n (slid from to len xs) ≡ bytes_at at n xs
  below at n low =
      let parts : to ≡ at + (to - at) = omega arith in
      let rest = bytes_at from len xs ++ drop (to + len) xs in
      ap (take n) (drop-append-le at (take to xs) rest (omega (arith, front)))
      ∙ take-append-le n (drop at (take to xs)) rest (omega (arith, front, length-drop at (take to xs)))
      ∙ ap (λ (k : ℕ). take n (drop at (take k xs))) parts ∙ ap (take n) (drop-take at (to - at) xs) ∙ take-take n (to - at) (drop at xs) (omega arith)

  pub over : (at n : ℕ) → to + len ≤ at → bytes_at at n (slid from to len xs) ≡ bytes_at at n xs
  over at n high =
      let both = take to xs ++ bytes_at from len xs in
      let long : length both ≡ to + len = omega (arith, length-append (take to xs) (bytes_at from len xs), front, run_len from len xs le) in
      let parts : at ≡ (to + len) + (at - (to + len)) = omega arith in
      let whole : slid from to len xs ≡ both ++ drop (to + len) xs = sym (append_assoc (take to xs) (bytes_at from len xs) (drop (to + len) xs)) in
      ap (take n) (ap (drop at) whole ∙ ap (λ (k : ℕ). drop k (both ++ drop (to + len) xs)) parts
      ∙ sym (drop-drop (at - (to + len)) (to + len) (both ++ drop (to + len) xs))
      ∙ ap (drop (at - (to + len))) (drop_at both (drop (to + len) xs) (to + len) long)
      ∙ drop-drop (at - (to + len)) (to + len) xs ∙ ap (λ (k : ℕ). drop k xs) (sym parts))

pub run-cut : (at n top : ℕ) (xs : List ℕ) → at + n ≤ top → bytes_at at n (take top xs) ≡ bytes_at at n xs
run-cut at n top xs le =
    let parts : top ≡ at + (top - at) = omega arith in
    ap (λ k. take n (drop at (take k xs))) parts ∙ ap (take n) (drop-take at (top - at) xs) ∙ take-take n (top - at) (drop at xs) (omega arith)

pub run-added : (at n : ℕ) (xs ys : List ℕ) → at + n ≤ length xs → bytes_at at n (xs ++ ys) ≡ bytes_at at n xs
run-added at n xs ys le = ap (take n) (drop-append-le at xs ys (omega arith)) ∙ take-append-le n (drop at xs) ys (omega (arith, length-drop at xs))

pub run-tail : (b v : List ℕ) (p : ℕ) → (length v ≡ 0 → p ≡ 0) → (0 < length v → p ≡ length b) → bytes_at p (length v) (b ++ v) ≡ v
run-tail b [] p none some = refl
run-tail b (x ∷ v) p none some =
    ap (λ k. take (length (x ∷ v)) (drop k (b ++ x ∷ v))) (some (omega arith)) ∙ ap (take (length (x ∷ v))) (drop_at b (x ∷ v) (length b) refl) ∙ take_all (length (x ∷ v)) (x ∷ v) (omega arith)
