-- Bytes are a forest or break off, and their reading says which.
use Rattle.std.proofs.Common.{◌≡◌, ◌≢◌, ℕ, zero, suc, ◌+◌, ◌≤◌, true, false, ◌⊎◌, inl, inr, List, [], ◌∷◌, ◌++◌, length, take, drop, Some, None, refl, sym, ap, subst, ◌∙◌, append_assoc, arith}
use Rattle.std.proofs.lemmas.Bool.{ne_eqb, cases_eq, cases_Bool}
use Rattle.std.proofs.lemmas.List.{append-nil, length-append, length-take-le, length-drop, take-append-drop}
use Rattle.ep_base.specs.declared.objects.Node.{Node}
use Rattle.ep_base.specs.declared.objects.TlvFault.{TlvFault}
use Rattle.ep_base.specs.declared.objects.TlvFault.TheVariants.{TagCut, TagLong, LengthCut, LengthForm, ValueCut, TooDeep}
use Rattle.ep_base.specs.Objects.Forest.{Forest, nothing, padding, primitive, constructed, spelling, nodes, IsForest, IsTag, tag_number, is_constructed, IsLength, MayStand, Fails, Broken, fails, inside, broken_spelling, IsBroken, place, Reads, BreaksAt}
use Rattle.tlv_core.specs.Scan.{Run, ended, broke, found, nodes_of, fault_of, reading}
use Rattle.tlv_core.specs.Nodes.{AllWithin}
use Rattle.tlv_core.proofs.Heads.{fails_again, head_cases, Begins}
use Rattle.tlv_core.proofs.Runs.{ahead, ahead-append, nodes-ahead, fault-ahead, forest_runs, constructed_runs, reading-step, nonzero_low, nonzero_front, tag_long_enough}

-- BROKEN FORESTS

tag_front : (tag more rest : List ℕ) (b : ℕ) → IsTag tag → b ∷ rest ≡ tag ++ more → b ≢ 0
tag_front [] more rest b h e = absurd h
tag_front (c ∷ tag) more rest b h e = let same : b ≡ c = cc in subst (λ (x : ℕ). x ≢ 0) (sym same) (nonzero_front c tag h)

fails_front : (depth b : ℕ) (more : List ℕ) (fault : TlvFault) → Fails depth (b ∷ more) fault → b ≢ 0
fails_front depth b [] TagCut h = nonzero_low b h
fails_front depth b (c ∷ []) TagCut h = nonzero_low b h.0
fails_front depth b (c ∷ d ∷ []) TagCut h = nonzero_low b h.0
fails_front depth b (c ∷ d ∷ e ∷ more) TagCut h = absurd h
fails_front depth b [] TagLong h = absurd h
fails_front depth b (c ∷ []) TagLong h = absurd h
fails_front depth b (c ∷ d ∷ []) TagLong h = absurd h
fails_front depth b (c ∷ d ∷ e ∷ more) TagLong h = nonzero_low b h.0
fails_front depth b more TooDeep h = tag_front h.0 h.1 more b h.3 h.2
fails_front depth b more LengthCut h = tag_front h.0 h.1 more b h.3.0 h.2
fails_front depth b more LengthForm h = tag_front h.0 h.1 more b h.3.0 h.2
fails_front depth b more ValueCut h = tag_front h.0 (h.1 ++ h.2) more b h.5.0 h.4

no_tag_at_end : (tag more : List ℕ) → IsTag tag → [] ≡ tag ++ more → ⊥
no_tag_at_end [] more h e = h
no_tag_at_end (c ∷ tag) more h e = cc

fails_somewhere : (depth : ℕ) (fault : TlvFault) → Fails depth [] fault → ⊥
fails_somewhere depth TagCut h = h
fails_somewhere depth TagLong h = h
fails_somewhere depth TooDeep h = no_tag_at_end h.0 h.1 h.3 h.2
fails_somewhere depth LengthCut h = no_tag_at_end h.0 h.1 h.3.0 h.2
fails_somewhere depth LengthForm h = no_tag_at_end h.0 h.1 h.3.0 h.2
fails_somewhere depth ValueCut h = no_tag_at_end h.0 (h.1 ++ h.2) h.5.0 h.4

fails_runs : (at : ℕ) (bytes : List ℕ) (above : List (List ℕ)) (fault : TlvFault) → Fails (length above) bytes fault → reading at (bytes ∷ above) ≡ broke fault at
fails_runs at [] above fault h = absurd (fails_somewhere (length above) fault h)
fails_runs at (b ∷ more) above fault h =
    reading-step at ((b ∷ more) ∷ above) ∙ rw (ne_eqb b 0 (fails_front (length above) b more fault h), fails_again (length above) (b ∷ more) fault h) refl

pub broken_runs : (b : Broken) (at : ℕ) (above : List (List ℕ)) (fault : TlvFault) → IsBroken (length above) b fault
    → (xs : List Node) × (reading at (broken_spelling b ∷ above) ≡ ahead xs (broke fault (at + place b)))
broken_runs (fails before bytes) at above fault is = (
  nodes (length above) at before,
  forest_runs before at bytes above is.0 ∙ ap (ahead (nodes (length above) at before)) (fails_runs (at + length (spelling before)) bytes above fault is.1),
)
broken_runs (inside before tag len inner rest) at above fault is =
    let start = at + length (spelling before) in
    let front = nodes (length above) at before in
    let x : Node = record { depth = length above; tag = tag_number tag; constructed = true; at = start + (length tag + length len); len = length (broken_spelling inner) } in
    let deeper = broken_runs inner (start + (length tag + length len)) (rest ∷ above) fault is.4 in
    let places : start + (length tag + length len) + place inner ≡ at + (length (spelling before) + (length tag + (length len + place inner))) = omega arith in
    let here : reading at (broken_spelling (inside before tag len inner rest) ∷ above) ≡ ahead front (found x (ahead deeper.0 (broke fault (start + (length tag + length len) + place inner)))) =
    forest_runs before at (tag ++ (len ++ (broken_spelling inner ++ rest))) above is.0
    ∙ ap (ahead front) (constructed_runs start tag len (broken_spelling inner) rest above is.1 is.2 is.3 ∙ ap (found x) deeper.1) in
    let joined : ahead front (found x (ahead deeper.0 (broke fault (start + (length tag + length len) + place inner)))) ≡ ahead (front ++ (x ∷ deeper.0)) (broke fault (start + (length tag + length len) + place inner)) =
    sym (ahead-append front (x ∷ deeper.0) (broke fault (start + (length tag + length len) + place inner))) in
    (front ++ (x ∷ deeper.0), here ∙ joined ∙ ap (λ (p : ℕ). ahead (front ++ (x ∷ deeper.0)) (broke fault p)) places)

-- BYTES ARE ONE OR THE OTHER

abbrev pub IsWhole : ℕ → List ℕ → Type 0
IsWhole depth bytes = (f : Forest) × IsForest depth f × (bytes ≡ spelling f)

abbrev pub BreaksOff : ℕ → List ℕ → Type 0
BreaksOff depth bytes = (fault : TlvFault) × (b : Broken) × IsBroken depth b fault × (bytes ≡ broken_spelling b)

after_padding : (depth : ℕ) (more : List ℕ) → IsWhole depth more ⊎ BreaksOff depth more → IsWhole depth (0 ∷ more) ⊎ BreaksOff depth (0 ∷ more)
after_padding depth more (inl w) = inl (padding w.0, w.1, ap (λ (x : List ℕ). 0 ∷ x) w.2)
after_padding depth more (inr (e, fails before bytes, is, so)) = inr (e, fails (padding before) bytes, is, ap (λ (x : List ℕ). 0 ∷ x) so)
after_padding depth more (inr (e, inside before tag len inner rest, is, so)) = inr (e, inside (padding before) tag len inner rest, is, ap (λ (x : List ℕ). 0 ∷ x) so)

after_primitive : (depth : ℕ) (tag len value more : List ℕ) → MayStand depth tag → is_constructed tag ≡ false → IsLength len (length value)
    → IsWhole depth more ⊎ BreaksOff depth more → IsWhole depth (tag ++ (len ++ (value ++ more))) ⊎ BreaksOff depth (tag ++ (len ++ (value ++ more)))
after_primitive depth tag len value more stands plain says (inl w) =
    inl (primitive tag len value w.0, (stands, plain, says, w.1), ap (λ (x : List ℕ). tag ++ (len ++ (value ++ x))) w.2)
after_primitive depth tag len value more stands plain says (inr (e, fails before bytes, is, so)) =
    inr (e, fails (primitive tag len value before) bytes, ((stands, plain, says, is.0), is.1), ap (λ (x : List ℕ). tag ++ (len ++ (value ++ x))) so ∙ simp append_assoc)
after_primitive depth tag len value more stands plain says (inr (e, inside before t l inner rest, is, so)) =
    inr (e, inside (primitive tag len value before) t l inner rest, ((stands, plain, says, is.0), is.1, is.2, is.3, is.4), ap (λ (x : List ℕ). tag ++ (len ++ (value ++ x))) so ∙ simp append_assoc)

after_constructed : (depth : ℕ) (tag len : List ℕ) (inner : Forest) (more : List ℕ) → MayStand depth tag → is_constructed tag ≡ true → IsLength len (length (spelling inner)) → IsForest (suc depth) inner
    → IsWhole depth more ⊎ BreaksOff depth more → IsWhole depth (tag ++ (len ++ (spelling inner ++ more))) ⊎ BreaksOff depth (tag ++ (len ++ (spelling inner ++ more)))
after_constructed depth tag len inner more stands is_con says inner_is (inl w) =
    inl (constructed tag len inner w.0, (stands, is_con, says, inner_is, w.1), ap (λ (x : List ℕ). tag ++ (len ++ (spelling inner ++ x))) w.2)
after_constructed depth tag len inner more stands is_con says inner_is (inr (e, fails before bytes, is, so)) =
    inr (e, fails (constructed tag len inner before) bytes, ((stands, is_con, says, inner_is, is.0), is.1), ap (λ (x : List ℕ). tag ++ (len ++ (spelling inner ++ x))) so ∙ simp append_assoc)
after_constructed depth tag len inner more stands is_con says inner_is (inr (e, inside before t l deeper rest, is, so)) =
    inr (e, inside (constructed tag len inner before) t l deeper rest, ((stands, is_con, says, inner_is, is.0), is.1, is.2, is.3, is.4), ap (λ (x : List ℕ). tag ++ (len ++ (spelling inner ++ x))) so ∙ simp append_assoc)

in_value : (depth : ℕ) (tag len value rest : List ℕ) → MayStand depth tag → is_constructed tag ≡ true → IsLength len (length value)
    → IsWhole (suc depth) value ⊎ BreaksOff (suc depth) value → IsWhole depth rest ⊎ BreaksOff depth rest
    → IsWhole depth (tag ++ (len ++ (value ++ rest))) ⊎ BreaksOff depth (tag ++ (len ++ (value ++ rest)))
in_value depth tag len value rest stands is_con says (inl w) others =
    let here = after_constructed depth tag len w.0 rest stands is_con (subst (λ (x : List ℕ). IsLength len (length x)) w.2 says) w.1 others in
    subst (λ (x : List ℕ). IsWhole depth (tag ++ (len ++ (x ++ rest))) ⊎ BreaksOff depth (tag ++ (len ++ (x ++ rest)))) (sym w.2) here
in_value depth tag len value rest stands is_con says (inr (e, b, is, so)) others =
    inr (e, inside nothing tag len b rest, (tt, stands, is_con, subst (λ (x : List ℕ). IsLength len (length x)) so says, is), ap (λ (x : List ℕ). tag ++ (len ++ (x ++ rest))) so)

from_object : (n depth : ℕ) (bytes : List ℕ) → length bytes ≤ suc n → Begins depth bytes
    → ((d : ℕ) (part : List ℕ) → length part ≤ n → IsWhole d part ⊎ BreaksOff d part) → IsWhole depth bytes ⊎ BreaksOff depth bytes
from_object n depth bytes le (tag, len, more, k, is, stands, says, fits) parts =
    let value = take k more in
    let rest = drop k more in
    let long : length value ≡ k = length-take-le k more fits in
    let says_value : IsLength len (length value) = rw long says in
    let whole : bytes ≡ tag ++ (len ++ (value ++ rest)) = is ∙ ap (λ (x : List ℕ). tag ++ (len ++ x)) (sym (take-append-drop k more)) in
    let size : length bytes ≡ length tag + (length len + length more) = ap length is ∙ simp length-append in
    let front : 1 ≤ length tag = tag_long_enough tag stands.0 in
    let value_small : length value ≤ n = omega arith in
    let rest_small : length rest ≤ n = omega (arith, length-drop k more) in
    let result : IsWhole depth (tag ++ (len ++ (value ++ rest))) ⊎ BreaksOff depth (tag ++ (len ++ (value ++ rest))) =
    elim (cases_Bool (is_constructed tag)) [
      | inl is_con ↦ in_value depth tag len value rest stands is_con says_value (parts (suc depth) value value_small) (parts depth rest rest_small)
      | inr plain ↦ after_primitive depth tag len value rest stands plain says_value (parts depth rest rest_small)
    ] in
    subst (λ (x : List ℕ). IsWhole depth x ⊎ BreaksOff depth x) (sym whole) result

pub whole_or_broken : (n depth : ℕ) (bytes : List ℕ) → length bytes ≤ n → IsWhole depth bytes ⊎ BreaksOff depth bytes
whole_or_broken zero depth [] le = inl (nothing, tt, refl)
whole_or_broken zero depth (b ∷ more) le = absurd (omega arith)
whole_or_broken (suc n) depth [] le = inl (nothing, tt, refl)
whole_or_broken (suc n) depth (b ∷ more) le =
    elim (cases_eq b 0) [
      | inl e ↦ subst (λ (x : ℕ). IsWhole depth (x ∷ more) ⊎ BreaksOff depth (x ∷ more)) (sym e) (after_padding depth more (whole_or_broken n depth more (omega arith)))
      | inr ne ↦ elim (head_cases depth b more ne) [
        | inl begins ↦ from_object n depth (b ∷ more) le begins (λ d part h. whole_or_broken n d part h)
        | inr bad ↦ inr (bad.0, fails nothing (b ∷ more), (tt, bad.1), refl)
      ]
    ]

-- THE READING OF ALL BYTES

abbrev pub all_of : List ℕ → Run
all_of bytes = reading 0 (bytes ∷ [])

pub forest_is_read : (bytes : List ℕ) (xs : List Node) → Reads bytes xs → all_of bytes ≡ ahead xs ended
forest_is_read bytes xs (f, is, so, found_is) =
    let end : (at : ℕ) → reading at ([] ∷ []) ≡ ended = λ at. reading-step at ([] ∷ []) ∙ reading-step at [] in
    ap (λ (x : List ℕ). reading 0 (x ∷ [])) (so ∙ sym (append-nil (spelling f)))
    ∙ forest_runs f 0 [] [] is ∙ ap (ahead (nodes 0 0 f)) (end (0 + length (spelling f))) ∙ ap (λ (ys : List Node). ahead ys ended) (sym found_is)

pub broken_is_read : (bytes : List ℕ) (e : TlvFault) (at : ℕ) → BreaksAt bytes e at → (xs : List Node) × (all_of bytes ≡ ahead xs (broke e at))
broken_is_read bytes e at (b, is, so, at_is) =
    let r = broken_runs b 0 [] e is in
    let same : 0 + place b ≡ at = omega (arith, at_is) in
    (r.0, ap (λ (x : List ℕ). reading 0 (x ∷ [])) so ∙ r.1 ∙ ap (λ (p : ℕ). ahead r.0 (broke e p)) same)

-- no fault, and the bytes are a forest whose nodes are read
pub without_fault : (bytes : List ℕ) → fault_of (all_of bytes) ≡ None → Reads bytes (nodes_of (all_of bytes))
without_fault bytes none =
    elim (whole_or_broken (length bytes) 0 bytes (omega arith)) [
      | inl w ↦
          let r = forest_is_read bytes (nodes 0 0 w.0) (w.0, w.1, w.2, refl) in
          (w.0, w.1, w.2, ap nodes_of r ∙ nodes-ahead (nodes 0 0 w.0) ended ∙ append-nil (nodes 0 0 w.0))
      | inr b ↦
          let r = broken_is_read bytes b.0 (place b.1) (b.1, b.2, b.3, refl) in
          let other : fault_of (all_of bytes) ≡ Some (b.0, place b.1) = ap fault_of r.1 ∙ fault-ahead r.0 (broke b.0 (place b.1)) in
          absurd cc
    ]

-- a fault, and the bytes break off with it
pub with_fault : (bytes : List ℕ) (e : TlvFault) (at : ℕ) → fault_of (all_of bytes) ≡ Some (e, at) → BreaksAt bytes e at
with_fault bytes e at some =
    elim (whole_or_broken (length bytes) 0 bytes (omega arith)) [
      | inl w ↦
          let r = forest_is_read bytes (nodes 0 0 w.0) (w.0, w.1, w.2, refl) in
          let other : fault_of (all_of bytes) ≡ None = ap fault_of r ∙ fault-ahead (nodes 0 0 w.0) ended in
          absurd cc
      | inr b ↦
          let r = broken_is_read bytes b.0 (place b.1) (b.1, b.2, b.3, refl) in
          let other : fault_of (all_of bytes) ≡ Some (b.0, place b.1) = ap fault_of r.1 ∙ fault-ahead r.0 (broke b.0 (place b.1)) in
          let pair : ◌≡◌ {A = TlvFault × ℕ} (b.0, place b.1) (e, at) = cc in
          let same_fault : b.0 ≡ e = ap (λ (x : TlvFault × ℕ). x.0) pair in
          let same_place : at ≡ place b.1 = sym (ap (λ (x : TlvFault × ℕ). x.1) pair) in
          (b.1, subst (λ (x : TlvFault). IsBroken 0 b.1 x) same_fault b.2, b.3, same_place)
    ]

-- ONE ANSWER

pub one_forest : (bytes : List ℕ) (xs ys : List Node) → Reads bytes xs → Reads bytes ys → xs ≡ ys
one_forest bytes xs ys p q =
    let e : ahead xs ended ≡ ahead ys ended = sym (forest_is_read bytes xs p) ∙ forest_is_read bytes ys q in
    sym (nodes-ahead xs ended ∙ append-nil xs) ∙ ap nodes_of e ∙ nodes-ahead ys ended ∙ append-nil ys

pub not_both : (bytes : List ℕ) (xs : List Node) (e : TlvFault) (at : ℕ) → Reads bytes xs → BreaksAt bytes e at → ⊥
not_both bytes xs e at p q =
    let r = broken_is_read bytes e at q in
    let good : fault_of (all_of bytes) ≡ None = ap fault_of (forest_is_read bytes xs p) ∙ fault-ahead xs ended in
    let bad : fault_of (all_of bytes) ≡ Some (e, at) = ap fault_of r.1 ∙ fault-ahead r.0 (broke e at) in
    cc

pub one_fault : (bytes : List ℕ) (e e' : TlvFault) (at at' : ℕ) → BreaksAt bytes e at → BreaksAt bytes e' at' → ◌≡◌ {A = TlvFault × ℕ} (e, at) (e', at')
one_fault bytes e e' at at' p q =
    let r = broken_is_read bytes e at p in
    let s = broken_is_read bytes e' at' q in
    let one : fault_of (all_of bytes) ≡ Some (e, at) = ap fault_of r.1 ∙ fault-ahead r.0 (broke e at) in
    let other : fault_of (all_of bytes) ≡ Some (e', at') = ap fault_of s.1 ∙ fault-ahead s.0 (broke e' at') in
    cc

-- EACH NODE'S VALUE LIES IN THE INPUT

AllWithin-append : (xs ys : List Node) (n : ℕ) → AllWithin xs n → AllWithin ys n → AllWithin (xs ++ ys) n
AllWithin-append [] ys n p q = q
AllWithin-append (x ∷ xs) ys n p q = (p.0, AllWithin-append xs ys n p.1 q)

AllWithin-nodes : (f : Forest) (depth at n : ℕ) → at + length (spelling f) ≤ n → AllWithin (nodes depth at f) n
AllWithin-nodes nothing depth at n le = tt
AllWithin-nodes (padding rest) depth at n le = AllWithin-nodes rest depth (at + 1) n (omega arith)
AllWithin-nodes (primitive tag len value rest) depth at n le =
    let all : length (tag ++ (len ++ (value ++ spelling rest))) ≡ length tag + (length len + (length value + length (spelling rest))) = simp length-append in
    (omega (arith, all), AllWithin-nodes rest depth (at + (length tag + length len) + length value) n (omega (arith, all)))
AllWithin-nodes (constructed tag len inner rest) depth at n le =
    let start = at + (length tag + length len) in
    let all : length (tag ++ (len ++ (spelling inner ++ spelling rest))) ≡ length tag + (length len + (length (spelling inner) + length (spelling rest))) = simp length-append in (
      omega (arith, all),
      AllWithin-append (nodes (suc depth) start inner) (nodes depth (start + length (spelling inner)) rest) n
          (AllWithin-nodes inner (suc depth) start n (omega (arith, all))) (AllWithin-nodes rest depth (start + length (spelling inner)) n (omega (arith, all))),
    )

pub AllWithin-read : (bytes : List ℕ) (xs : List Node) → Reads bytes xs → AllWithin xs (length bytes)
AllWithin-read bytes xs (f, is, so, found_is) =
    subst (λ (ys : List Node). AllWithin ys (length bytes)) (sym found_is) (AllWithin-nodes f 0 0 (length bytes) (omega (arith, ap length so)))
