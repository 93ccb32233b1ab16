-- The room that is left after values are put.
use Rattle.std.proofs.Common.{◌≡◌, ℕ, ◌+◌, ◌-◌, ◌*◌, ◌^◌, ◌<◌, ◌≤◌, List, [], ◌∷◌, ◌++◌, length, Option, Some, None, refl, sym, subst, ◌∙◌, arith}
use Rattle.std.proofs.lemmas.List.{length-append}
use Rattle.ep_base.specs.Objects.Arena.{Object, Contents, live_bytes, HasRoom}
use Rattle.ep_base.specs.Objects.Directory.{Entry, with_value, with_entry, with_entries}
use Rattle.ppse.specs.Room.{value_cost, entry_cost, entries_cost, HasSpare}

live_bytes-push : (os : List Object) (o : Object) → live_bytes (os ++ o ∷ []) ≡ live_bytes os + length o.value
live_bytes-push [] o = omega arith
live_bytes-push (x ∷ os) o = omega (arith, live_bytes-push os o)

pub spare_put : (n : ℕ) (c : Contents) → HasSpare (n + 2) c → HasRoom n c × (c.next < 2 ^ 64 - 1)
spare_put n c h = ((omega (arith, h.bytes), omega (arith, h.slots)), omega (arith, h.serials))

pub spare_less : (n m : ℕ) (c : Contents) → m ≤ n → HasSpare n c → HasSpare m c
spare_less n m c le h = record { bytes = omega (arith, h.bytes); slots = omega (arith, h.slots); serials = omega (arith, h.serials) }

pub spare_value : (group tag : ℕ) (o : Option (List ℕ)) (n m : ℕ) (c : Contents) → value_cost o + m ≤ n → HasSpare n c → HasSpare m (with_value group tag o c)
spare_value group tag None n m c le h = record { bytes = omega (arith, h.bytes); slots = omega (arith, h.slots); serials = omega (arith, h.serials) }
spare_value group tag (Some v) n m c le h =
    let o : Object = record { serial = c.next; group = group; tag = tag; value = v } in
    let bytes_are : live_bytes (c.objects ++ o ∷ []) ≡ live_bytes c.objects + length v = live_bytes-push c.objects o in
    let count : length (c.objects ++ o ∷ []) ≡ length c.objects + 1 = length-append c.objects (o ∷ []) in
    record { bytes = omega (arith, bytes_are, h.bytes); slots = omega (arith, count, h.slots); serials = omega (arith, h.serials) }

-- the same of contents that are said by an equation
pub spare_step : (group tag : ℕ) (o : Option (List ℕ)) (n m : ℕ) (c d : Contents) → d ≡ with_value group tag o c → value_cost o + m ≤ n → HasSpare n c → HasSpare m d
spare_step group tag o n m c d e le h = subst (HasSpare m) (sym e) (spare_value group tag o n m c le h)

pub spare_entry : (group : ℕ) (e : Entry) (n m : ℕ) (c : Contents) → entry_cost e + m ≤ n → HasSpare n c → HasSpare m (with_entry group e c)
spare_entry group e n m c le h =
    let after_5 = value_cost e.extension + m in
    let after_4 = value_cost e.kernel + after_5 in
    let after_3 = value_cost e.priority + after_4 in
    let after_2 = value_cost e.label + after_3 in
    let c1 = with_value group 0x4f e.name c in
    let c2 = with_value group 0x50 e.label c1 in
    let c3 = with_value group 0x87 e.priority c2 in
    let c4 = with_value group 0x9f2a e.kernel c3 in
    let h1 = spare_value group 0x4f e.name n after_2 c (omega arith) h in
    let h2 = spare_value group 0x50 e.label after_2 after_3 c1 (omega arith) h1 in
    let h3 = spare_value group 0x87 e.priority after_3 after_4 c2 (omega arith) h2 in
    let h4 = spare_value group 0x9f2a e.kernel after_4 after_5 c3 (omega arith) h3 in
    spare_value group 0x9f29 e.extension after_5 m c4 (omega arith) h4

-- WHAT IS TAKEN

abbrev load : Contents → ℕ
load c = live_bytes c.objects + 2 * length c.objects

load_value : (group tag : ℕ) (o : Option (List ℕ)) (c : Contents) → load (with_value group tag o c) ≡ load c + value_cost o
load_value group tag None c = omega arith
load_value group tag (Some v) c =
    let o : Object = record { serial = c.next; group = group; tag = tag; value = v } in
    let bytes_are : live_bytes (c.objects ++ o ∷ []) ≡ live_bytes c.objects + length v = live_bytes-push c.objects o in
    let count : length (c.objects ++ o ∷ []) ≡ length c.objects + 1 = length-append c.objects (o ∷ []) in
    omega (arith, bytes_are, count)

load_entry : (group : ℕ) (e : Entry) (c : Contents) → load (with_entry group e c) ≡ load c + entry_cost e
load_entry group e c =
    let c1 = with_value group 0x4f e.name c in
    let c2 = with_value group 0x50 e.label c1 in
    let c3 = with_value group 0x87 e.priority c2 in
    let c4 = with_value group 0x9f2a e.kernel c3 in
    let h1 : load c1 ≡ load c + value_cost e.name = load_value group 0x4f e.name c in
    let h2 : load c2 ≡ load c1 + value_cost e.label = load_value group 0x50 e.label c1 in
    let h3 : load c3 ≡ load c2 + value_cost e.priority = load_value group 0x87 e.priority c2 in
    let h4 : load c4 ≡ load c3 + value_cost e.kernel = load_value group 0x9f2a e.kernel c3 in
    let h5 : load (with_value group 0x9f29 e.extension c4) ≡ load c4 + value_cost e.extension = load_value group 0x9f29 e.extension c4 in
    omega (arith, h1, h2, h3, h4, h5)

pub load_entries : (n : ℕ) (es : List Entry) (c : Contents) → load (with_entries n es c) ≤ load c + entries_cost es
load_entries n [] c = omega arith
load_entries n (e ∷ es) c =
    let one : load (with_entry n e c) ≡ load c + entry_cost e = load_entry n e c in
    let others : load (with_entries (n + 1) es (with_entry n e c)) ≤ load (with_entry n e c) + entries_cost es = load_entries (n + 1) es (with_entry n e c) in
    omega (arith, one, others)

-- WHAT STAYS

abbrev Keeps : Contents → Contents → Type 0
Keeps c d = (d.next + length c.objects ≡ c.next + length d.objects) × (d.bytes ≡ c.bytes) × (d.slots ≡ c.slots)

keeps_both : (c d e : Contents) → Keeps c d → Keeps d e → Keeps c e
keeps_both c d e h k = (omega (arith, h.0, k.0), k.1 ∙ h.1, k.2 ∙ h.2)

kept_value : (group tag : ℕ) (o : Option (List ℕ)) (c : Contents) → Keeps c (with_value group tag o c)
kept_value group tag None c = (refl, refl, refl)
kept_value group tag (Some v) c =
    let o : Object = record { serial = c.next; group = group; tag = tag; value = v } in
    (omega (arith, length-append c.objects (o ∷ [])), refl, refl)

kept_entry : (group : ℕ) (e : Entry) (c : Contents) → Keeps c (with_entry group e c)
kept_entry group e c =
    let c1 = with_value group 0x4f e.name c in
    let c2 = with_value group 0x50 e.label c1 in
    let c3 = with_value group 0x87 e.priority c2 in
    let c4 = with_value group 0x9f2a e.kernel c3 in
    keeps_both c c4 (with_value group 0x9f29 e.extension c4)
    (keeps_both c c3 c4 (keeps_both c c2 c3 (keeps_both c c1 c2 (kept_value group 0x4f e.name c) (kept_value group 0x50 e.label c1)) (kept_value group 0x87 e.priority c2)) (kept_value group 0x9f2a e.kernel c3))
    (kept_value group 0x9f29 e.extension c4)

pub kept_entries : (n : ℕ) (es : List Entry) (c : Contents) → Keeps c (with_entries n es c)
kept_entries n [] c = (refl, refl, refl)
kept_entries n (e ∷ es) c = keeps_both c (with_entry n e c) (with_entries (n + 1) es (with_entry n e c)) (kept_entry n e c) (kept_entries (n + 1) es (with_entry n e c))
