-- A reading of pieces against the grammar: forests and broken forests run as they should, and bytes are one or the other.
use Rattle.std.proofs.Common.{◌≡◌, ◌≢◌, ℕ, zero, suc, ◌+◌, ◌-◌, ◌<◌, ◌≤◌, Bool, true, false, inl, inr, List, [], ◌∷◌, ◌++◌, length, drop, Ok, refl, sym, ap, ◌∙◌, append_assoc, arith, add-zero}
use Rattle.std.specs.Prelude.{bit_and}
use Rattle.std.proofs.Math.Seq.{drop-append-add}
use Rattle.std.proofs.lemmas.Bool.{eq-eqb, ne_eqb, cases_eq}
use Rattle.std.proofs.lemmas.List.{append-nil, drop_at, take_at, length-append, length-take-le, length-drop}
use Rattle.ep_base.specs.declared.objects.Node.{Node}
use Rattle.ep_base.specs.Objects.Forest.{Forest, nothing, padding, primitive, constructed, spelling, nodes, IsForest, IsTag, tag_number, is_constructed, IsLength, MayStand}
use Rattle.tlv_core.specs.declared.head.Head.{Head}
use Rattle.tlv_core.specs.Scan.{Run, found, nodes_of, fault_of, ScanStep, stop, skip, fault, give, entered, object_at, step, after, run, weight, reading, head_at}
use Rattle.tlv_core.proofs.Heads.{made_head, head_again, fails_again, head_cases}

-- THE NUMBER OF STEPS

pub tag_long_enough : (t : List ℕ) → IsTag t → 1 ≤ length t
tag_long_enough [] h = absurd h
tag_long_enough (b ∷ t) h = omega arith

pub length_long_enough : (l : List ℕ) (n : ℕ) → IsLength l n → 1 ≤ length l
length_long_enough [] n h = absurd h
length_long_enough (b ∷ l) n h = omega arith

abbrev pub Falls : ScanStep → ℕ → Type 0
Falls stop k = Unit {0}
Falls (skip at pieces) k = weight pieces < k
Falls (fault e at) k = Unit {0}
Falls (give x at pieces) k = weight pieces < k

entered_falls : (at : ℕ) (h : Head) (c : Bool) (bytes : List ℕ) (above : List (List ℕ)) → 2 ≤ h.size → h.size + h.len ≤ length bytes → Falls (entered at h c bytes above) (suc (length bytes + weight above))
entered_falls at h true bytes above two fits =
    let left : length (drop h.size bytes) ≡ length bytes - h.size = length-drop h.size bytes in
    omega (arith, left, length-take-le h.len (drop h.size bytes) (omega (arith, left)), length-drop h.len (drop h.size bytes))
entered_falls at h false bytes above two fits =
    omega (arith, length-drop h.size bytes, length-drop h.len (drop h.size bytes))

object_falls : (at b : ℕ) (more : List ℕ) (above : List (List ℕ)) → b ≢ 0 → Falls (object_at at (b ∷ more) above (head_at (length above) (b ∷ more))) (suc (length (b ∷ more) + weight above))
object_falls at b more above nonzero =
    elim (head_cases (length above) b more nonzero) [
      | inl x ↦
          let e : head_at (length above) (b ∷ more) ≡ Ok (made_head x.0 x.1 x.3) = ap (head_at (length above)) x.4 ∙ head_again (length above) x.0 x.1 x.2 x.3 x.5 x.6 x.7 in
          let long : length (b ∷ more) ≡ length x.0 + (length x.1 + length x.2) = ap length x.4 ∙ simp length-append in
          rw e (entered_falls at (made_head x.0 x.1 x.3) (is_constructed x.0) (b ∷ more) above
          (omega (arith, tag_long_enough x.0 x.5.0, length_long_enough x.1 x.3 x.6)) (omega (arith, long, x.7)))
      | inr x ↦ rw (fails_again (length above) (b ∷ more) x.0 x.1) tt
    ]

step_falls : (at : ℕ) (pieces : List (List ℕ)) → Falls (step at pieces) (weight pieces)
step_falls at [] = tt
step_falls at ([] ∷ above) = omega arith
step_falls at ((b ∷ more) ∷ above) =
    elim (cases_eq b 0) [ inl e ↦ rw (eq-eqb b 0 e) (omega arith) | inr ne ↦ rw (ne_eqb b 0 ne) (object_falls at b more above ne) ]

after_same : (f g : ℕ → List (List ℕ) → Run) (s : ScanStep) (k : ℕ) → ((at : ℕ) (p : List (List ℕ)) → weight p < k → f at p ≡ g at p) → Falls s k → after f s ≡ after g s
after_same f g stop k same falls = refl
after_same f g (skip at p) k same falls = same at p falls
after_same f g (fault e at) k same falls = refl
after_same f g (give x at p) k same falls = ap (found x) (same at p falls)

enough : (n m at : ℕ) (pieces : List (List ℕ)) → weight pieces ≤ n → weight pieces ≤ m → run n at pieces ≡ run m at pieces
unfolding run
enough zero zero at pieces hn hm = refl
enough zero (suc m) at [] hn hm = refl
enough zero (suc m) at (p ∷ pieces) hn hm = absurd (omega arith)
enough (suc n) zero at [] hn hm = refl
enough (suc n) zero at (p ∷ pieces) hn hm = absurd (omega arith)
enough (suc n) (suc m) at pieces hn hm =
    after_same (λ a p. run n a p) (λ a p. run m a p) (step at pieces) (weight pieces)
    (λ a p lt. enough n m a p (omega arith) (omega arith)) (step_falls at pieces)

-- a reading is its first step, and the reading of what is left
pub reading-step : (at : ℕ) (pieces : List (List ℕ)) → reading at pieces ≡ after (λ a p. reading a p) (step at pieces)
unfolding reading run
reading-step at [] = refl
reading-step at (p ∷ pieces) =
    after_same (λ a q. run (length p + weight pieces) a q) (λ a q. run (weight q) a q) (step at (p ∷ pieces)) (weight (p ∷ pieces))
    (λ a q lt. enough (length p + weight pieces) (weight q) a q (omega arith) (omega arith)) (step_falls at (p ∷ pieces))

-- ONE OBJECT

pub nonzero_low : (b : ℕ) → bit_and b 31 ≡ 31 → b ≢ 0
nonzero_low b low e = absurd (omega (arith, sym low ∙ ap (λ (x : ℕ). bit_and x 31) e))

pub nonzero_front : (b : ℕ) (t : List ℕ) → IsTag (b ∷ t) → b ≢ 0
nonzero_front b [] h = h.0
nonzero_front b (c ∷ []) h = nonzero_low b h.0
nonzero_front b (c ∷ d ∷ []) h = nonzero_low b h.0
nonzero_front b (c ∷ d ∷ e ∷ more) h = absurd h

object_step : (at n : ℕ) (tag len more : List ℕ) (above : List (List ℕ)) → MayStand (length above) tag → IsLength len n → n ≤ length more
    → step at ((tag ++ (len ++ more)) ∷ above) ≡ entered at (made_head tag len n) (is_constructed tag) (tag ++ (len ++ more)) above
object_step at n [] len more above stands says fits = absurd stands.0
object_step at n (b ∷ tag) len more above stands says fits =
    rw (ne_eqb b 0 (nonzero_front b tag stands.0), head_again (length above) (b ∷ tag) len more n stands says fits) refl

drop_head : (tag len more : List ℕ) → drop (length tag + length len) (tag ++ (len ++ more)) ≡ more
drop_head tag len more = drop-append-add tag (len ++ more) (length len) ∙ drop_at len more (length len) refl

pub primitive_runs : (at : ℕ) (tag len value more : List ℕ) (above : List (List ℕ)) → MayStand (length above) tag → is_constructed tag ≡ false → IsLength len (length value)
    → reading at ((tag ++ (len ++ (value ++ more))) ∷ above)
    ≡ found (record { depth = length above; tag = tag_number tag; constructed = false; at = at + (length tag + length len); len = length value })
    (reading (at + (length tag + length len) + length value) (more ∷ above))
primitive_runs at tag len value more above stands plain says =
    let fits : length value ≤ length (value ++ more) = simp length-append (omega arith) in
    reading-step at ((tag ++ (len ++ (value ++ more))) ∷ above)
    ∙ ap (after (λ a p. reading a p)) (object_step at (length value) tag len (value ++ more) above stands says fits)
    ∙ rw (plain, drop_head tag len (value ++ more), drop_at value more (length value) refl) refl

pub constructed_runs : (at : ℕ) (tag len value more : List ℕ) (above : List (List ℕ)) → MayStand (length above) tag → is_constructed tag ≡ true → IsLength len (length value)
    → reading at ((tag ++ (len ++ (value ++ more))) ∷ above)
    ≡ found (record { depth = length above; tag = tag_number tag; constructed = true; at = at + (length tag + length len); len = length value })
    (reading (at + (length tag + length len)) (value ∷ more ∷ above))
constructed_runs at tag len value more above stands is_con says =
    let fits : length value ≤ length (value ++ more) = simp length-append (omega arith) in
    reading-step at ((tag ++ (len ++ (value ++ more))) ∷ above)
    ∙ ap (after (λ a p. reading a p)) (object_step at (length value) tag len (value ++ more) above stands says fits)
    ∙ rw (is_con, drop_head tag len (value ++ more), take_at value more (length value) refl, drop_at value more (length value) refl) refl

-- FORESTS

abbrev pub ahead : List Node → Run → Run
ahead [] r = r
ahead (x ∷ xs) r = found x (ahead xs r)

pub ahead-append : (xs ys : List Node) (r : Run) → ahead (xs ++ ys) r ≡ ahead xs (ahead ys r)
ahead-append [] ys r = refl
ahead-append (x ∷ xs) ys r = ap (found x) (ahead-append xs ys r)

pub nodes-ahead : (xs : List Node) (r : Run) → nodes_of (ahead xs r) ≡ xs ++ nodes_of r
nodes-ahead [] r = refl
nodes-ahead (x ∷ xs) r = ap (λ (ys : List Node). x ∷ ys) (nodes-ahead xs r)

pub fault-ahead : (xs : List Node) (r : Run) → fault_of (ahead xs r) ≡ fault_of r
fault-ahead [] r = refl
fault-ahead (x ∷ xs) r = fault-ahead xs r

pub forest_runs : (f : Forest) (at : ℕ) (more : List ℕ) (above : List (List ℕ)) → IsForest (length above) f
    → reading at ((spelling f ++ more) ∷ above) ≡ ahead (nodes (length above) at f) (reading (at + length (spelling f)) (more ∷ above))
forest_runs nothing at more above is = rw add-zero refl
forest_runs (padding rest) at more above is =
    let places : at + 1 + length (spelling rest) ≡ at + suc (length (spelling rest)) = omega arith in
    reading-step at ((0 ∷ (spelling rest ++ more)) ∷ above) ∙ forest_runs rest (at + 1) more above is
    ∙ ap (λ (p : ℕ). ahead (nodes (length above) (at + 1) rest) (reading p (more ∷ above))) places
forest_runs (primitive tag len value rest) at more above is =
    let regrouped : (tag ++ (len ++ (value ++ spelling rest))) ++ more ≡ tag ++ (len ++ (value ++ (spelling rest ++ more))) = simp append_assoc in
    let start = at + (length tag + length len) in
    let places : start + length value + length (spelling rest) ≡ at + length (tag ++ (len ++ (value ++ spelling rest))) = simp length-append (omega arith) in
    let x : Node = record { depth = length above; tag = tag_number tag; constructed = false; at = start; len = length value } in
    ap (λ (p : List ℕ). reading at (p ∷ above)) regrouped
    ∙ primitive_runs at tag len value (spelling rest ++ more) above is.0 is.1 is.2
    ∙ ap (found x) (forest_runs rest (start + length value) more above is.3
    ∙ ap (λ (p : ℕ). ahead (nodes (length above) (start + length value) rest) (reading p (more ∷ above))) places)
forest_runs (constructed tag len inner rest) at more above is =
    let regrouped : (tag ++ (len ++ (spelling inner ++ spelling rest))) ++ more ≡ tag ++ (len ++ (spelling inner ++ (spelling rest ++ more))) = simp append_assoc in
    let start = at + (length tag + length len) in
    let next = start + length (spelling inner) in
    let places : next + length (spelling rest) ≡ at + length (tag ++ (len ++ (spelling inner ++ spelling rest))) = simp length-append (omega arith) in
    let x : Node = record { depth = length above; tag = tag_number tag; constructed = true; at = start; len = length (spelling inner) } in
    let below : List (List ℕ) = (spelling rest ++ more) ∷ above in
    ap (λ (p : List ℕ). reading at (p ∷ above)) regrouped
    ∙ constructed_runs at tag len (spelling inner) (spelling rest ++ more) above is.0 is.1 is.2
    ∙ ap (found x)
    (ap (λ (p : List ℕ). reading start (p ∷ below)) (sym (append-nil (spelling inner)))
    ∙ forest_runs inner start [] below is.3
    ∙ ap (ahead (nodes (suc (length above)) start inner))
    (reading-step next ([] ∷ below) ∙ forest_runs rest next more above is.4
    ∙ ap (λ (p : ℕ). ahead (nodes (length above) next rest) (reading p (more ∷ above))) places)
    ∙ sym (ahead-append (nodes (suc (length above)) start inner) (nodes (length above) next rest) (reading (at + length (tag ++ (len ++ (spelling inner ++ spelling rest)))) (more ∷ above))))
