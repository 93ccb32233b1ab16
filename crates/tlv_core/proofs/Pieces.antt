-- What is left at a cursor, before and after each of its moves.
use Rattle.std.proofs.Common.{◌≡◌, ◌≢◌, ℕ, zero, suc, ◌+◌, ◌-◌, ◌<◌, ◌≤◌, ◌⊎◌, inl, inr, true, false, List, [], ◌∷◌, length, take, drop, get_or, set, Ok, Err, refl, sym, ap, subst, ◌∙◌, arith, add-one}
use Rattle.std.specs.Prelude.{slice_range}
use Rattle.std.proofs.lemmas.Bool.{ne_eqb}
use Rattle.std.proofs.lemmas.List.{drop_more, drop-take, drop-drop, take-take, length-take-le, length-drop, get_or-set_same, get_or-set_other}
use Rattle.ep_base.specs.declared.objects.TlvFault.{TlvFault}
use Rattle.tlv_core.specs.declared.head.Head.{Head}
use Rattle.tlv_core.specs.Scan.{ended, broke, found, node_at, object_at, step, after, reading, head_at}
use Rattle.tlv_core.specs.CursorState.{ends_of, pieces, IsNested}
use Rattle.tlv_core.proofs.Runs.{reading-step}

pub nested_below : (at : ℕ) (ends : List ℕ) (n : ℕ) → IsNested at ends n → at ≤ n
nested_below at [] n h = h
nested_below at (e ∷ ends) n h = omega (arith, nested_below e ends n h.1)

pub length-pieces : (bytes : List ℕ) (at d : ℕ) (ends : List ℕ) → length (pieces bytes at (ends_of d ends)) ≡ d
length-pieces bytes at zero ends = refl
length-pieces bytes at (suc d) ends = ap suc (length-pieces bytes (get_or ends d 0) d ends)

pub ends_of-set : (d i e : ℕ) (ends : List ℕ) → d ≤ i → ends_of d (set ends i e) ≡ ends_of d ends
ends_of-set zero i e ends le = refl
ends_of-set (suc d) i e ends le =
    let ne : d ≢ i = λ same. omega arith in
    rw (get_or-set_other ends i d e 0 ne, ends_of-set d i e ends (omega arith)) refl

-- SLICES

pub length-slice : (bytes : List ℕ) (at end : ℕ) → end ≤ length bytes → length (slice_range bytes at end) ≡ end - at
length-slice bytes at end le = length-take-le (end - at) (drop at bytes) (rw length-drop (omega arith))

drop-slice : (bytes : List ℕ) (at end k : ℕ) → at + k ≤ end → drop k (slice_range bytes at end) ≡ slice_range bytes (at + k) end
drop-slice bytes at end k le =
    let parts : end - at ≡ k + (end - (at + k)) = omega arith in
    ap (λ (x : ℕ). drop k (take x (drop at bytes))) parts ∙ drop-take k (end - (at + k)) (drop at bytes) ∙ ap (take (end - (at + k))) (drop-drop k at bytes)

take-slice : (bytes : List ℕ) (at end k : ℕ) → at + k ≤ end → take k (slice_range bytes at end) ≡ slice_range bytes at (at + k)
take-slice bytes at end k le =
    let part : k ≡ (at + k) - at = omega arith in
    take-take k (end - at) (drop at bytes) (omega arith) ∙ ap (λ (x : ℕ). take x (drop at bytes)) part

front-slice : (bytes : List ℕ) (at end : ℕ) → at < end → end ≤ length bytes → slice_range bytes at end ≡ get_or bytes at 0 ∷ slice_range bytes (at + 1) end
front-slice bytes at end lt le =
    let parts : end - at ≡ suc (end - (at + 1)) = omega arith in
    ap (λ (x : ℕ). take x (drop at bytes)) parts ∙ rw (drop_more bytes at 0 (omega arith)) refl

-- MOVES

pub at_end : (bytes : List ℕ) (at end : ℕ) (ends : List ℕ) → at ≡ end → reading at (pieces bytes at (end ∷ ends)) ≡ reading at (pieces bytes at ends)
at_end bytes at end ends e =
    let nothing_left : at - at ≡ 0 = omega arith in
    let base : reading at (pieces bytes at (at ∷ ends)) ≡ reading at (pieces bytes at ends) =
    ap (λ (k : ℕ). reading at (take k (drop at bytes) ∷ pieces bytes at ends)) nothing_left ∙ reading-step at ([] ∷ pieces bytes at ends) in
    subst (λ (x : ℕ). reading at (pieces bytes at (x ∷ ends)) ≡ reading at (pieces bytes at ends)) e base

pub at_pop : (bytes : List ℕ) (at end d : ℕ) (ends : List ℕ) → at ≡ end → 0 < d
    → reading at (pieces bytes at (get_or ends (d - 1) 0 ∷ ends_of (d - 1) ends)) ≡ reading at (pieces bytes at (end ∷ ends_of d ends))
at_pop bytes at end d ends e pos =
    let more : d ≡ suc (d - 1) = omega arith in
    sym (ap (λ (k : ℕ). reading at (pieces bytes at (end ∷ ends_of k ends))) more ∙ at_end bytes at end (ends_of (suc (d - 1)) ends) e)

pub at_zero : (bytes : List ℕ) (at end : ℕ) (ends : List ℕ) → at < end → end ≤ length bytes → get_or bytes at 0 ≡ 0
    → reading (at + 1) (pieces bytes (at + 1) (end ∷ ends)) ≡ reading at (pieces bytes at (end ∷ ends))
at_zero bytes at end ends lt le e =
    let front : slice_range bytes at end ≡ 0 ∷ slice_range bytes (at + 1) end = front-slice bytes at end lt le ∙ ap (λ (x : ℕ). x ∷ slice_range bytes (at + 1) end) e in
    sym (ap (λ (x : List ℕ). reading at (x ∷ pieces bytes end ends)) front ∙ reading-step at ((0 ∷ slice_range bytes (at + 1) end) ∷ pieces bytes end ends))

object_step : (at b : ℕ) (more : List ℕ) (above : List (List ℕ)) → b ≢ 0 → step at ((b ∷ more) ∷ above) ≡ object_at at (b ∷ more) above (head_at (length above) (b ∷ more))
object_step at b more above ne = rw (ne_eqb b 0 ne) refl

at_object : (bytes : List ℕ) (at end d : ℕ) (ends : List ℕ) → at < end → end ≤ length bytes → get_or bytes at 0 ≢ 0
    → reading at (pieces bytes at (end ∷ ends_of d ends))
    ≡ after (λ a p. reading a p) (object_at at (slice_range bytes at end) (pieces bytes end (ends_of d ends)) (head_at d (slice_range bytes at end)))
at_object bytes at end d ends lt le ne =
    let above = pieces bytes end (ends_of d ends) in
    let front = front-slice bytes at end lt le in
    let deep = length-pieces bytes end d ends in
    let stepped : step at (slice_range bytes at end ∷ above) ≡ object_at at (slice_range bytes at end) above (head_at (length above) (slice_range bytes at end)) =
    subst (λ (x : List ℕ). step at (x ∷ above) ≡ object_at at x above (head_at (length above) x)) (sym front)
    (object_step at (get_or bytes at 0) (slice_range bytes (at + 1) end) above ne) in
    reading-step at (slice_range bytes at end ∷ above)
    ∙ ap (after (λ a p. reading a p)) (stepped ∙ ap (λ (k : ℕ). object_at at (slice_range bytes at end) above (head_at k (slice_range bytes at end))) deep)

pub at_fault : (bytes : List ℕ) (at end d : ℕ) (ends : List ℕ) (e : TlvFault) → at < end → end ≤ length bytes → get_or bytes at 0 ≢ 0
    → Err e ≡ head_at d (slice_range bytes at end) → reading at (pieces bytes at (end ∷ ends_of d ends)) ≡ broke e at
at_fault bytes at end d ends e lt le ne is = at_object bytes at end d ends lt le ne ∙ rw (sym is) refl

pub at_primitive : (bytes : List ℕ) (at end d : ℕ) (ends : List ℕ) (h : Head) → at < end → end ≤ length bytes → get_or bytes at 0 ≢ 0
    → Ok h ≡ head_at d (slice_range bytes at end) → h.size + h.len ≤ length (slice_range bytes at end) → h.constructed ≡ false
    → reading at (pieces bytes at (end ∷ ends_of d ends))
    ≡ found (node_at d at h) (reading (at + h.size + h.len) (pieces bytes (at + h.size + h.len) (end ∷ ends_of d ends)))
at_primitive bytes at end d ends h lt le ne is within plain =
    let long = length-slice bytes at end le in
    let one : drop h.size (slice_range bytes at end) ≡ slice_range bytes (at + h.size) end = drop-slice bytes at end h.size (omega arith) in
    let two : drop h.len (slice_range bytes (at + h.size) end) ≡ slice_range bytes (at + h.size + h.len) end = drop-slice bytes (at + h.size) end h.len (omega arith) in
    at_object bytes at end d ends lt le ne ∙ rw (sym is, plain, one, two, length-pieces bytes end d ends) refl

pub at_constructed : (bytes : List ℕ) (at end d : ℕ) (ends : List ℕ) (h : Head) → at < end → end ≤ length bytes → get_or bytes at 0 ≢ 0
    → Ok h ≡ head_at d (slice_range bytes at end) → h.size + h.len ≤ length (slice_range bytes at end) → h.constructed ≡ true → d < length ends
    → reading at (pieces bytes at (end ∷ ends_of d ends))
    ≡ found (node_at d at h) (reading (at + h.size) (pieces bytes (at + h.size) ((at + h.size + h.len) ∷ ends_of (d + 1) (set ends d end))))
at_constructed bytes at end d ends h lt le ne is within deep room =
    let long = length-slice bytes at end le in
    let one : drop h.size (slice_range bytes at end) ≡ slice_range bytes (at + h.size) end = drop-slice bytes at end h.size (omega arith) in
    let two : drop h.len (slice_range bytes (at + h.size) end) ≡ slice_range bytes (at + h.size + h.len) end = drop-slice bytes (at + h.size) end h.len (omega arith) in
    let three : take h.len (slice_range bytes (at + h.size) end) ≡ slice_range bytes (at + h.size) (at + h.size + h.len) = take-slice bytes (at + h.size) end h.len (omega arith) in
    let pushed : ends_of (d + 1) (set ends d end) ≡ end ∷ ends_of d ends = rw (add-one, get_or-set_same ends d end 0 room, ends_of-set d d end ends (omega arith)) refl in
    at_object bytes at end d ends lt le ne ∙ rw (sym is, deep, one, two, three, length-pieces bytes end d ends, pushed) refl

-- WHERE `skip_one` STOPS

pub at_stop : (bytes : List ℕ) (at end d : ℕ) (ends : List ℕ) → at ≡ end → ((at < end) × (get_or bytes at 0 ≢ 0)) ⊎ ((at ≡ end) × (d ≡ 0))
    → reading at (pieces bytes at (end ∷ ends_of d ends)) ≡ ended
at_stop bytes at end d ends e (inl x) = absurd (omega (arith, x.0))
at_stop bytes at end d ends e (inr y) =
    ap (λ (k : ℕ). reading at (pieces bytes at (end ∷ ends_of k ends))) y.1 ∙ at_end bytes at end [] e ∙ reading-step at []

pub at_front : (bytes : List ℕ) (at end d : ℕ) → (at ≡ end → ⊥) → ((at < end) × (get_or bytes at 0 ≢ 0)) ⊎ ((at ≡ end) × (d ≡ 0)) → (at < end) × (get_or bytes at 0 ≢ 0)
at_front bytes at end d ne (inl x) = x
at_front bytes at end d ne (inr y) = absurd (ne y.0)

ends_of-push : (d e : ℕ) (ends : List ℕ) → d < length ends → ends_of (d + 1) (set ends d e) ≡ e ∷ ends_of d ends
ends_of-push d e ends room = rw (add-one, get_or-set_same ends d e 0 room, ends_of-set d d e ends (omega arith)) refl

pub nested_push : (at e end d n : ℕ) (ends : List ℕ) → at ≤ e → e ≤ end → d < length ends → IsNested end (ends_of d ends) n → IsNested at (e ∷ ends_of (d + 1) (set ends d end)) n
nested_push at e end d n ends first second room nested =
    subst (λ (es : List ℕ). IsNested at (e ∷ es) n) (sym (ends_of-push d end ends room)) (first, (second, nested))
