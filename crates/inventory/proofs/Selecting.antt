-- An inventory that selects a value, over a field that tells lawful cards.
use Rattle.std.proofs.Common.{◌≡◌, ℕ, zero, suc, ◌+◌, ◌==◌, nat_lt, Bool, true, false, ◌&&◌, List, [], ◌∷◌, ◌++◌, length, map, slice_index, Option, Some, None, Result, Ok, Err, refl, sym, ap, ◌∙◌, arith, inl, subst, if◌then◌else◌}
use Rattle.std.proofs.lemmas.Bool.{and_parts, eqb-true, eqb-false, ltb-true, ltb-false}
use Rattle.std.proofs.lemmas.List.{append_assoc, append-nil, length-append}
use Rattle.ep_base.specs.Cards.Activation.{bit}
use Rattle.ep_base.specs.Cards.TypeA.{levels, level_bytes}
use Rattle.inventory.specs.declared.listing.InventoryEnd.{InventoryEnd}
use Rattle.inventory.specs.declared.listing.InventoryEnd.TheVariants.{Many}
use Rattle.inventory.specs.declared.walk.Path.{Path}
use Rattle.inventory.specs.Bits.{bits_of, begins}
use Rattle.inventory.specs.Steps.{BitSteps}
use Rattle.inventory.specs.Tags.{Tag, IsTag, AreTags, AreApart, spelled, in_order}
use Rattle.inventory.specs.Told.{Stood, Tells, tags_of, answered_sak, selects_one}
use Rattle.inventory.specs.Turns.{Turns, TurnsBy, after_select}
use Rattle.inventory.specs.Walks.{Walk, Turned, IsWalk, at, known_of, uid_at, turned_back, tells_more, after_sak, after_selected}
use Rattle.inventory.proofs.Beginnings.{begins_front, begins_whole}
use Rattle.inventory.proofs.Finding.{Waits, waiting, Partway, Finishes, wake_finds}
use Rattle.inventory.proofs.Leading.{path_at}
use Rattle.inventory.proofs.Members.{In, all_in, in_filter, filter_in, only}
use Rattle.inventory.proofs.Ordering.{under}
use Rattle.inventory.proofs.Paths.{path_bits, Chain, beyond, whole_bits, value_at, path_parts, nothing_beyond, lower_next, lower_level}
use Rattle.inventory.proofs.Reading.{IsValue, value_length, value_same, Cascades, prior, uid_before, uid_is_at, Reads, reads, hear}
use Rattle.inventory.proofs.Spelling.{length_four}
use Rattle.inventory.proofs.Splitting.{ask_finds}
use Rattle.inventory.proofs.Standing.{standing, selected_tags, select_stand, first_sak, answer_stand}

-- An inventory that selects the value of its level.
pub record Selects (ts : List Tag) (cards : List Stood) (w : Walk) (found : List Tag) : Type 0 where
  pub partway : Partway ts cards w found
  pub lawful : (t : Tag) → In t ts → IsTag t
  pub apart : AreApart ts
  pub awake : w.awake ≡ true
  pub whole : (known_of w).bits ≡ 32

-- The bits of the path with the value of its level.
abbrev chosen : Walk → List Bool
chosen w = prior w.path w.level ++ bits_of (known_of w).bytes

last_beyond : (p : Path) (level : ℕ) → Chain p → (nat_lt level 3 && (slice_index (at p level).bytes 0 == 0x88)) ≡ false → beyond p level ≡ []
last_beyond p zero c h = refl
last_beyond p (suc zero) c h = nothing_beyond p 1 c (λ k. absurd (eqb-false (slice_index p.first.bytes 0) 0x88 h k.more))
last_beyond p (suc (suc zero)) c h = nothing_beyond p 2 c (λ k. absurd (eqb-false (slice_index p.second.bytes 0) 0x88 h k.more))
last_beyond p (suc (suc (suc n))) c h = refl

value_chosen : {ts : List Tag} {cards : List Stood} {w : Walk} {found : List Tag} → Selects ts cards w found → IsValue (known_of w).bytes
value_chosen {ts} {cards} {w} {found} c = value_at w.path w.level c.partway.chain

parts_chosen : {ts : List Tag} {cards : List Stood} {w : Walk} {found : List Tag} → Selects ts cards w found → path_bits w.path ≡ chosen w ++ beyond w.path w.level
parts_chosen {ts} {cards} {w} {found} c =
    path_parts w.path w.level c.partway.lower
    ∙ ap (λ xs. prior w.path w.level ++ (xs ++ beyond w.path w.level)) (whole_bits (known_of w) c.whole (value_chosen c))
    ∙ sym (append_assoc (prior w.path w.level) (bits_of (known_of w).bytes) (beyond w.path w.level))

read_chosen : {ts : List Tag} {cards : List Stood} {w : Walk} {found : List Tag} → Selects ts cards w found → (t : Tag) → In t ts → begins (chosen w) (spelled t.uid) ≡ true
    → Reads w.path w.level t.uid
read_chosen {ts} {cards} {w} {found} c t i h =
    reads w.path w.level c.partway.lower t (c.lawful t i) (begins_front (prior w.path w.level) (bits_of (known_of w).bytes) (spelled t.uid) h)

-- A card under the path has the value.
has_value : {ts : List Tag} {cards : List Stood} {w : Walk} {found : List Tag} → Selects ts cards w found → (t : Tag) → In t ts → begins (chosen w) (spelled t.uid) ≡ true
    → level_bytes t.uid w.level ≡ (known_of w).bytes
has_value {ts} {cards} {w} {found} c t i h =
    let v = (known_of w).bytes in
    let iv = value_chosen c in
    let r = read_chosen c t i h in
    let lv : length (bits_of v) ≡ 32 = length_four v (value_length v iv) in
    let lu : length (bits_of (level_bytes t.uid w.level)) ≡ 32 = length_four (level_bytes t.uid w.level) (value_length (level_bytes t.uid w.level) r.value) in
    let k = (and_parts (begins (prior w.path w.level) (spelled t.uid)) (begins (bits_of v) (bits_of (level_bytes t.uid w.level)))
    (sym (hear w.path w.level c.partway.lower t (c.lawful t i) (bits_of v) (omega (arith, lv))) ∙ h)).1 in
    sym (value_same v (level_bytes t.uid w.level) iv r.value (begins_whole (bits_of v) (bits_of (level_bytes t.uid w.level)) k (omega (arith, lv, lu))))

-- Whether its UID goes on is what the value tells.
goes_on : {ts : List Tag} {cards : List Stood} {w : Walk} {found : List Tag} → Selects ts cards w found → (t : Tag) → In t ts → begins (chosen w) (spelled t.uid) ≡ true
    → nat_lt w.level (levels t.uid) ≡ tells_more w
goes_on {ts} {cards} {w} {found} c t i h =
    (read_chosen c t i h).goes ∙ ap (λ v. nat_lt w.level 3 && (slice_index v 0 == 0x88)) (has_value c t i h)

more_partway : {ts : List Tag} {cards : List Stood} {w : Walk} {found : List Tag} → Selects ts cards w found → tells_more w ≡ true → (after : List Stood)
    → after ≡ map (selects_one w.level (known_of w).bytes) cards → Partway ts after (record w { level = w.level + 1 }) found
more_partway {ts} {cards} {w} {found} c more after e =
    let pw = c.partway in
    let v = (known_of w).bytes in
    let parts = and_parts (nat_lt w.level 3) (slice_index v 0 == 0x88) more in
    let cascades : Cascades (known_of w) = record { whole = c.whole; value = value_chosen c; more = eqb-true (slice_index v 0) 0x88 parts.1 } in
    let next = lower_next w.path w.level pw.lower (ltb-true w.level 3 parts.0) cascades in
    record {
      tags = ap tags_of e ∙ selected_tags w.level v cards ∙ pw.tags;
      asleep = λ a. let k : true ≡ false = sym c.awake ∙ a in cc;
      stands = λ a. e ∙ ap (map (selects_one w.level v)) (pw.stands a) ∙ select_stand w.path w.level pw.lower v (value_chosen c) more ts c.lawful
          ∙ ap (λ p. standing (w.level + 1) p ts) (sym next.1);
      lower = next.0;
      chain = pw.chain;
      held = pw.held;
      waits = pw.waits;
      order = pw.order;
    }

-- One card is left on the path.
one_left : {ts : List Tag} {cards : List Stood} {w : Walk} {found : List Tag} → Selects ts cards w found → tells_more w ≡ false → (t : Tag) → In t ts → begins (chosen w) (spelled t.uid) ≡ true
    → under (path_bits w.path) ts ≡ record { uid = uid_at w.path w.level; sak = t.sak } ∷ []
one_left {ts} {cards} {w} {found} c last t i h =
    let pw = c.partway in
    let bounds = lower_level w.path w.level pw.lower in
    let bits : path_bits w.path ≡ chosen w = parts_chosen c ∙ ap (λ xs. chosen w ++ xs) (last_beyond w.path w.level pw.chain last) ∙ append-nil (chosen w) in
    let uid : (v : Tag) → In v ts → begins (chosen w) (spelled v.uid) ≡ true → v.uid ≡ uid_at w.path w.level =
    λ v j k. (read_chosen c v j k).joins (goes_on c v j k ∙ last) ∙ ap (λ x. uid_before w.path w.level ++ x) (has_value c v j k) ∙ sym (uid_is_at w.path w.level bounds.0 bounds.1) in
    let same : t ≡ record { uid = uid_at w.path w.level; sak = t.sak } = ap (λ (x : List ℕ). record { uid = x; sak = t.sak }) (uid t i h) in
    ap (λ p. under p ts) bits ∙ only (λ v. begins (chosen w) (spelled v.uid)) ts (uid_at w.path w.level) t c.apart uid i h ∙ ap (λ (v : Tag). v ∷ []) same

back_finds : (ts : List Tag) (cards : List Stood) (w : Walk) (found : List Tag) (t : Tag) (ps : List Path) → tags_of cards ≡ ts → Waits ps ts
    → in_order ts ≡ found ++ (t ∷ waiting ps ts) → Finishes ts cards found (Ok (turned_back w ps (found ++ t ∷ [])))
back_finds ts cards w found t [] tags waits order = sym order
back_finds ts cards w found t (p ∷ ps) tags waits order = record {
  tags = tags;
  asleep = λ e. refl;
  stands = λ e. cc;
  lower = tt;
  chain = waits.0;
  held = waits.1;
  waits = waits.2;
  order = order ∙ sym (append_assoc found (t ∷ []) (in_order (under (path_bits p) ts) ++ waiting ps ts));
}

full_finds : (b : Bool) (ts : List Tag) (cards : List Stood) (w : Walk) (found : List Tag) (t : Tag) → (length found == 16) ≡ b → tags_of cards ≡ ts → Waits w.pending ts
    → in_order ts ≡ found ++ (t ∷ waiting w.pending ts) → Finishes ts cards found (if b then Err Many else Ok (turned_back w w.pending (found ++ t ∷ [])))
full_finds true ts cards w found t e tags waits order =
    let full : length found ≡ 16 = eqb-true (length found) 16 e in
    (full, omega (arith, full, ap length order, length-append found (t ∷ waiting w.pending ts)))
full_finds false ts cards w found t e tags waits order = back_finds ts cards w found t w.pending tags waits order

sak_finds : (b : Bool) {ts : List Tag} {cards : List Stood} {w : Walk} {found : List Tag} → Selects ts cards w found → (t : Tag) → In t ts → begins (chosen w) (spelled t.uid) ≡ true
    → tells_more w ≡ b → (after : List Stood) → after ≡ map (selects_one w.level (known_of w).bytes) cards
    → Finishes ts after found (after_sak w found (if b then 0x04 else t.sak))
sak_finds true {ts} {cards} {w} {found} c t i h more after e = rw more (more_partway c more after e)
sak_finds false {ts} {cards} {w} {found} c t i h last after e =
    let pw = c.partway in
    let u : Tag = record { uid = uid_at w.path w.level; sak = t.sak } in
    let clear : bit t.sak 4 ≡ 0 = (c.lawful t i).sak in
    let tags : tags_of after ≡ ts = ap tags_of e ∙ selected_tags w.level (known_of w).bytes cards ∙ pw.tags in
    let order : in_order ts ≡ found ++ (u ∷ waiting w.pending ts) = pw.order ∙ ap (λ us. found ++ (in_order us ++ waiting w.pending ts)) (one_left c last t i h) in
    rw (clear, last) (full_finds (length found == 16) ts after w found u refl tags pw.waits order)

selected_finds : {ts : List Tag} {cards : List Stood} {w : Walk} {found : List Tag} → Selects ts cards w found → (us : List Tag) → us ≡ under (chosen w) ts → (t : Tag) → In t us
    → (sak : Option ℕ) → sak ≡ first_sak w.level us → (after : List Stood) → after ≡ map (selects_one w.level (known_of w).bytes) cards
    → Finishes ts after found (after_selected w found sak)
selected_finds {ts} {cards} {w} {found} c [] e t i sak s after a = absurd i
selected_finds {ts} {cards} {w} {found} c (u ∷ us) e t i sak s after a =
    let m = filter_in (λ v. begins (chosen w) (spelled v.uid)) ts u (subst (λ (vs : List Tag). In u vs) e (inl refl)) in
    let k : sak ≡ Some (if tells_more w then 0x04 else u.sak) = s ∙ ap (λ (b : Bool). Some (if b then 0x04 else u.sak)) (goes_on c u m.0 m.1) in
    subst (λ (o : Option ℕ). Finishes ts after found (after_selected w found o)) (sym k) (sak_finds (tells_more w) c u m.0 m.1 refl after a)

-- After a selection.
pub select_finds : {S : Type 0} (steps : BitSteps S) (shown : S → List Stood) → Tells steps shown → (ts : List Tag) (w : Walk) (found : List Tag) (s t : S)
    → Selects ts (shown s) w found → (sak : Option (Option ℕ)) → steps.selects s w.level (known_of w).bytes sak t → Finishes ts (shown t) found (after_select w found sak)
select_finds steps shown told ts w found s t c None step = tt
select_finds steps shown told ts w found s t c (Some sak) step =
    let pw = c.partway in
    let v = (known_of w).bytes in
    let h = told.selects s t w.level v sak step in
    let answer : sak ≡ first_sak w.level (under (chosen w) ts) =
    h.0 ∙ ap (answered_sak w.level v) (pw.stands c.awake) ∙ answer_stand w.path w.level pw.lower v (value_chosen c) ts c.lawful in
    let held : begins (chosen w) (spelled pw.held.tag.uid) ≡ true =
    begins_front (chosen w) (beyond w.path w.level) (spelled pw.held.tag.uid) (ap (λ p. begins p (spelled pw.held.tag.uid)) (sym (parts_chosen c)) ∙ pw.held.under) in
    let there : In pw.held.tag (under (chosen w) ts) = in_filter (λ u. begins (chosen w) (spelled u.uid)) ts pw.held.tag pw.held.there held in
    selected_finds c (under (chosen w) ts) refl pw.held.tag there sak answer (shown t) h.1

finds_by : {S : Type 0} (steps : BitSteps S) (shown : S → List Stood) → Tells steps shown → (ts : List Tag) → AreTags ts → (a b : Bool) (w : Walk) (found : List Tag) (s : S)
    (r : Result Turned InventoryEnd) (t : S) → w.awake ≡ a → nat_lt (known_of w).bits 32 ≡ b → IsWalk w → Partway ts (shown s) w found → TurnsBy steps a b w found s r t
    → Finishes ts (shown t) found r
finds_by steps shown told ts are false b w found s r t e h is pw turn = subst (Finishes ts (shown t) found) (sym turn.2) (wake_finds steps shown told ts w found s t pw e turn.0 turn.1)
finds_by steps shown told ts are true true w found s r t e h is pw turn =
    subst (Finishes ts (shown t) found) (sym turn.2)
    (ask_finds steps shown told ts w found s t (record { partway = pw; lawful = λ u i. all_in IsTag ts are.each u i; awake = e; bits = ltb-true (known_of w).bits 32 h }) turn.0 turn.1)
finds_by steps shown told ts are true false w found s r t e h is pw turn =
    let whole : (known_of w).bits ≡ 32 = omega (arith, ltb-false (known_of w).bits 32 h, (path_at w.path w.level is.path).most) in
    subst (Finishes ts (shown t) found) (sym turn.2)
    (select_finds steps shown told ts w found s t (record { partway = pw; lawful = λ u i. all_in IsTag ts are.each u i; apart = are.apart; awake = e; whole = whole }) turn.0 turn.1)

-- What a turn gives over a field that tells lawful cards.
pub turn_finds : {S : Type 0} (steps : BitSteps S) (shown : S → List Stood) → Tells steps shown → (ts : List Tag) → AreTags ts → (w : Walk) (found : List Tag) (s : S)
    (r : Result Turned InventoryEnd) (t : S) → IsWalk w → Partway ts (shown s) w found → Turns steps w found s r t → Finishes ts (shown t) found r
turn_finds steps shown told ts are w found s r t is pw turn = finds_by steps shown told ts are w.awake (nat_lt (known_of w).bits 32) w found s r t refl refl is pw turn
