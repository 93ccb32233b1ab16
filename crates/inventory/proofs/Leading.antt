-- What a turn of a walk leads to: it stands again, and its bounds hold.
use Rattle.std.proofs.Common.{◌≡◌, ℕ, ◌+◌, ◌*◌, ◌-◌, ◌<◌, ◌≤◌, ◌==◌, nat_lt, nat_le, Bool, true, false, ◌&&◌, List, [], ◌∷◌, ◌++◌, length, take, Option, Some, None, Result, Ok, Err, refl, sym, ap, subst, arith, length-append, if◌then◌else◌}
use Rattle.std.specs.Prelude.{All}
use Rattle.std.proofs.lemmas.List.{length-take-le, drop_all}
use Rattle.std.proofs.lemmas.List.Elements.{All-cons, All-nil, All-head, All-tail}
use Rattle.std.proofs.lemmas.Bool.{and_parts, ltb-true, ltb-false, leb-true, eqb-true, eqb-false, lt-ltb}
use Rattle.ep_base.specs.Cards.Activation.{bit}
use Rattle.ep_base.specs.Cards.TypeA.{is_level}
use Rattle.inventory.specs.declared.field.Prefix.{Prefix}
use Rattle.inventory.specs.declared.field.BitHeard.{BitHeard}
use Rattle.inventory.specs.declared.field.BitHeard.TheVariants.{Silence, Level, Split}
use Rattle.inventory.specs.declared.listing.InventoryEnd.{InventoryEnd}
use Rattle.inventory.specs.declared.listing.InventoryEnd.TheVariants.{Many}
use Rattle.inventory.specs.declared.walk.Path.{Path}
use Rattle.inventory.specs.Bits.{bits, bits_of, known_bits, begins}
use Rattle.inventory.specs.Prefixes.{with_bit}
use Rattle.inventory.specs.Steps.{BitSteps}
use Rattle.inventory.specs.Tags.{Tag}
use Rattle.inventory.specs.Walks.{Walk, Turned, nothing, begun, at, with_at, known_of, odd, with_value, branched, completed, turned_back, tells_more, uid_at, IsPrefix, IsPath, IsWalk, IsClearEnd, Falls, position}
use Rattle.inventory.specs.Turns.{Turns, TurnsBy, after_wake, after_ask, after_select, goes, used, spent, left, left_by}
use Rattle.inventory.proofs.Spelling.{length_four, with_bit_clear}

used_false : (a b : Bool) (level : ℕ) → a ≡ false → used a b level ≡ 0
used_false false b level h = refl
used_false true b level h = cc

used_least : (a b : Bool) (level : ℕ) → a ≡ true → 2 * level ≤ used a b level + 1
used_least false b level h = cc
used_least true true level h = omega arith
used_least true false level h = omega arith

pub used_most : (a b : Bool) (level : ℕ) → used a b level ≤ 2 * level
used_most false b level = omega arith
used_most true true level = omega arith
used_most true false level = omega arith

used_asks : (a b : Bool) (level : ℕ) → a ≡ true → b ≡ true → used a b level ≡ 2 * level - 1
used_asks true true level h k = refl
used_asks false b level h k = cc
used_asks true false level h k = cc

left_false : (a : Bool) (level bits : ℕ) → a ≡ false → left_by a level bits ≡ 400
left_false false level bits h = refl
left_false true level bits h = cc

left_true : (a : Bool) (level bits : ℕ) → a ≡ true → left_by a level bits ≡ 100 * (4 - level) + (32 - bits)
left_true true level bits h = refl
left_true false level bits h = cc

abbrev at_by : Bool → Bool → Path → Prefix
at_by b d p = if b then p.first else (if d then p.second else p.third)

abbrev with_by : Bool → Bool → Path → Prefix → Path
with_by b d p k = if b then record p { first = k } else (if d then record p { second = k } else record p { third = k })

at_with_by : (b d : Bool) (p : Path) (k : Prefix) → at_by b d (with_by b d p k) ≡ k
at_with_by true d p k = refl
at_with_by false true p k = refl
at_with_by false false p k = refl

pub at_with : (p : Path) (level : ℕ) (k : Prefix) → at (with_at p level k) level ≡ k
at_with p level k = at_with_by (level == 1) (level == 2) p k

position_with_by : (b d : Bool) (p : Path) (k : Prefix) → position (with_by b d p k) + (at_by b d p).bits ≡ position p + k.bits
position_with_by true d p k = omega arith
position_with_by false true p k = omega arith
position_with_by false false p k = omega arith

pub position_with : (p : Path) (level : ℕ) (k : Prefix) → position (with_at p level k) + (at p level).bits ≡ position p + k.bits
position_with p level k = position_with_by (level == 1) (level == 2) p k

path_with_by : (b d : Bool) (p : Path) (k : Prefix) → IsPath p → IsPrefix k → IsPath (with_by b d p k)
path_with_by true d p k ip ik = record { first = ik; second = ip.second; third = ip.third }
path_with_by false true p k ip ik = record { first = ip.first; second = ik; third = ip.third }
path_with_by false false p k ip ik = record { first = ip.first; second = ip.second; third = ik }

pub path_with : (p : Path) (level : ℕ) (k : Prefix) → IsPath p → IsPrefix k → IsPath (with_at p level k)
path_with p level k ip ik = path_with_by (level == 1) (level == 2) p k ip ik

path_at_by : (b d : Bool) (p : Path) → IsPath p → IsPrefix (at_by b d p)
path_at_by true d p ip = ip.first
path_at_by false true p ip = ip.second
path_at_by false false p ip = ip.third

pub path_at : (p : Path) (level : ℕ) → IsPath p → IsPrefix (at p level)
path_at p level ip = path_at_by (level == 1) (level == 2) p ip

falls_more : (ps : List Path) (m n : ℕ) → m ≤ n → Falls ps m → Falls ps n
falls_more [] m n le f = tt
falls_more (p ∷ ps) m n le f = (f.0, omega (arith, le, f.1), f.2)

pub nothing_known : IsPrefix nothing
unfolding bits_of bits
nothing_known = record { most = omega arith; clear = refl }

pub begun_stands : IsWalk begun
begun_stands = record {
  least = omega arith;
  most = omega arith;
  path = record { first = nothing_known; second = nothing_known; third = nothing_known };
  pending = All-nil IsPath;
  falls = tt;
}

-- A turn that goes on, or after which all cards are found.
pub record GoesOn (w : Walk) (n : ℕ) (u : Turned) : Type 0 where
  pub stands : IsWalk u.walk
  pub spends : spent w n + 1 ≤ spent u.walk (length u.found)
  pub falls : left u.walk (length u.found) < left w n
  pub few : length u.found ≤ 16

abbrev pub LeadsBy : Bool → Walk → ℕ → Turned → Type 0
LeadsBy false w n u = GoesOn w n u
LeadsBy true w n u = spent w n + 1 ≤ 8 * length u.found

abbrev pub Leads : Walk → ℕ → Result Turned InventoryEnd → Type 0
Leads w n (Ok u) = LeadsBy u.over w n u
Leads w n (Err e) = IsClearEnd e

lead_goes : (b : Bool) (w : Walk) (found : List Tag) (v : Walk) (e : InventoryEnd) → (b ≡ true → Leads w (length found) (goes found (Ok v))) → IsClearEnd e
    → Leads w (length found) (goes found (if b then Ok v else Err e))
lead_goes true w found v e there clear = there refl
lead_goes false w found v e there clear = clear

lead_wake : (w : Walk) (found : List Tag) (heard : Option Bool) → IsWalk w → length found ≤ 16 → w.awake ≡ false → Leads w (length found) (after_wake w found heard)
lead_wake w found None is few asleep = tt
lead_wake w found (Some false) is few asleep = nothing_known
lead_wake w found (Some true) is few asleep = record {
  stands = record { least = is.least; most = is.most; path = is.path; pending = is.pending; falls = is.falls };
  spends = omega (arith, is.least, used_false w.awake (nat_lt (known_of w).bits 32) w.level asleep, used_least true (nat_lt (known_of w).bits 32) w.level refl);
  falls = omega (arith, is.least, is.most, left_false w.awake w.level (known_of w).bits asleep);
  few = few;
}

value_prefix : (value : List ℕ) → length value ≡ 4 → IsPrefix (record { bytes = value; bits = 32 })
value_prefix value l = record { most = omega arith; clear = drop_all 32 (bits_of value) (omega (arith, length_four value l)) }

part_length : (part : List ℕ) → is_level part ≡ true → length (take 4 part) ≡ 4
part_length part h = let five : length part ≡ 5 = eqb-true (length part) 5 (and_parts (length part == 5) _ h).0 in length-take-le 4 part (omega (arith, five))

used_done : (a b : Bool) (level : ℕ) → a ≡ true → b ≡ false → used a b level ≡ 2 * level
used_done true false level h k = refl
used_done false b level h k = cc
used_done true true level h k = cc

lead_value : (w : Walk) (found : List Tag) (value : List ℕ) → IsWalk w → length found ≤ 16 → w.awake ≡ true → (known_of w).bits < 32 → length value ≡ 4
    → Leads w (length found) (goes found (Ok (with_value w value)))
lead_value w found value is few awake asks l =
    let k : Prefix = record { bytes = value; bits = 32 } in
    let whole : (known_of (with_value w value)).bits ≡ 32 = ap (λ (p : Prefix). p.bits) (at_with w.path w.level k) in
    let done : nat_lt (known_of (with_value w value)).bits 32 ≡ false = rw whole refl in
    let test : nat_lt (known_of w).bits 32 ≡ true = lt-ltb (known_of w).bits 32 asks in
    let far : position (with_at w.path w.level k) + (known_of w).bits ≡ position w.path + 32 = position_with w.path w.level k in
    record {
      stands = record {
        least = is.least;
        most = is.most;
        path = path_with w.path w.level k is.path (value_prefix value l);
        pending = is.pending;
        falls = falls_more w.pending (position w.path) (position (with_at w.path w.level k)) (omega (arith, far, asks)) is.falls;
      };
      spends = omega (arith, is.least, used_asks w.awake (nat_lt (known_of w).bits 32) w.level awake test, used_done w.awake (nat_lt (known_of (with_value w value)).bits 32) w.level awake done);
      falls = omega (arith, asks, whole, left_true w.awake w.level (known_of w).bits awake, left_true w.awake w.level (known_of (with_value w value)).bits awake);
      few = few;
    }

lead_split : (w : Walk) (found : List Tag) (bytes : List ℕ) (place : ℕ) → IsWalk w → length found ≤ 16 → w.awake ≡ true → (known_of w).bits < 32
    → (known_of w).bits ≤ place → place < 32 → Leads w (length found) (goes found (Ok (branched w bytes place)))
lead_split w found bytes place is few awake asks later within =
    let zeros = with_bit bytes place false in
    let ones = with_bit bytes place true in
    let v = branched w bytes place in
    let known : (known_of v).bits ≡ place + 1 = ap (λ (p : Prefix). p.bits) (at_with w.path w.level zeros) in
    let far : position (with_at w.path w.level zeros) + (known_of w).bits ≡ position w.path + (place + 1) = position_with w.path w.level zeros in
    let other : position (with_at w.path w.level ones) + (known_of w).bits ≡ position w.path + (place + 1) = position_with w.path w.level ones in
    let test : nat_lt (known_of w).bits 32 ≡ true = lt-ltb (known_of w).bits 32 asks in
    record {
      stands = record {
        least = is.least;
        most = is.most;
        path = path_with w.path w.level zeros is.path (with_bit_clear bytes place false within);
        pending = All-cons IsPath (with_at w.path w.level ones) w.pending (path_with w.path w.level ones is.path (with_bit_clear bytes place true within)) is.pending;
        falls = (omega (arith, other, later), omega (arith, other, far), falls_more w.pending (position w.path) (position (with_at w.path w.level ones) - 1) (omega (arith, other, later)) is.falls);
      };
      spends = omega (arith, is.least, used_asks w.awake (nat_lt (known_of w).bits 32) w.level awake test, used_least w.awake (nat_lt (known_of v).bits 32) w.level awake);
      falls = omega (arith, asks, later, within, known, left_true w.awake w.level (known_of w).bits awake, left_true w.awake w.level (known_of v).bits awake);
      few = few;
    }

lead_ask : (w : Walk) (found : List Tag) (heard : Option BitHeard) → IsWalk w → length found ≤ 16 → w.awake ≡ true → (known_of w).bits < 32 → Leads w (length found) (after_ask w found heard)
lead_ask w found None is few awake asks = tt
lead_ask w found (Some Silence) is few awake asks = path_at w.path w.level is.path
lead_ask w found (Some (Level part)) is few awake asks =
    lead_goes (is_level part && begins (known_bits (known_of w)) (bits_of (take 4 part))) w found (with_value w (take 4 part)) (odd w)
    (λ h. lead_value w found (take 4 part) is few awake asks (part_length part (and_parts (is_level part) (begins (known_bits (known_of w)) (bits_of (take 4 part))) h).0))
    (path_at w.path w.level is.path)
lead_ask w found (Some (Split bytes place)) is few awake asks =
    lead_goes (nat_le (known_of w).bits place && (nat_lt place 32 && begins (known_bits (known_of w)) (bits_of bytes))) w found (branched w bytes place) (odd w)
    (λ h. let parts = and_parts (nat_le (known_of w).bits place) (nat_lt place 32 && begins (known_bits (known_of w)) (bits_of bytes)) h in
    let more = and_parts (nat_lt place 32) (begins (known_bits (known_of w)) (bits_of bytes)) parts.1 in
    lead_split w found bytes place is few awake asks (leb-true (known_of w).bits place parts.0) (ltb-true place 32 more.0))
    (path_at w.path w.level is.path)

lead_more : (w : Walk) (found : List Tag) → IsWalk w → length found ≤ 16 → w.awake ≡ true → 32 ≤ (known_of w).bits → w.level < 3
    → Leads w (length found) (Ok (record { over = false; walk = record w { level = w.level + 1 }; found = found }))
lead_more w found is few awake done lower =
    record {
      stands = record { least = omega arith; most = omega (arith, lower); path = is.path; pending = is.pending; falls = is.falls };
      spends = omega (arith, used_most w.awake (nat_lt (known_of w).bits 32) w.level, used_least w.awake (nat_lt (at w.path (w.level + 1)).bits 32) (w.level + 1) awake);
      falls = omega (arith, lower, done, left_true w.awake w.level (known_of w).bits awake, left_true w.awake (w.level + 1) (at w.path (w.level + 1)).bits awake);
      few = few;
    }

lead_back : (ps : List Path) (w : Walk) (found : List Tag) (t : Tag) → w.pending ≡ ps → IsWalk w → length found < 16 → All IsPath ps → Falls ps (position w.path)
    → Leads w (length found) (Ok (turned_back w ps (found ++ t ∷ [])))
lead_back [] w found t e is few all falls =
    omega (arith, ap length e, is.most, used_most w.awake (nat_lt (known_of w).bits 32) w.level, length-append found (t ∷ []))
lead_back (p ∷ ps) w found t e is few all falls = record {
  stands = record {
    least = omega arith;
    most = omega arith;
    path = All-head IsPath p ps all;
    pending = All-tail IsPath p ps all;
    falls = falls_more ps (position p - 1) (position p) (omega arith) falls.2;
  };
  spends = omega (arith, ap length e, is.most, used_most w.awake (nat_lt (known_of w).bits 32) w.level, length-append found (t ∷ []));
  falls = omega (arith, few, length-append found (t ∷ []));
  few = omega (arith, few, length-append found (t ∷ []));
}

lead_room : (b : Bool) (w : Walk) (found : List Tag) (t : Tag) → (length found == 16) ≡ b → IsWalk w → length found ≤ 16
    → Leads w (length found) (if b then Err Many else Ok (turned_back w w.pending (found ++ t ∷ [])))
lead_room true w found t e is few = tt
lead_room false w found t e is few =
    lead_back w.pending w found t refl is (omega (arith, few, eqb-false (length found) 16 e)) is.pending is.falls

lead_sak : (more tells : Bool) (w : Walk) (found : List Tag) (sak : ℕ) → tells_more w ≡ tells → IsWalk w → length found ≤ 16 → w.awake ≡ true → 32 ≤ (known_of w).bits
    → Leads w (length found) (if more then (if tells then Ok (record { over = false; walk = record w { level = w.level + 1 }; found = found }) else Err (odd w))
    else (if tells then Err (odd w) else completed w found sak))
lead_sak true true w found sak e is few awake done = lead_more w found is few awake done (ltb-true w.level 3 (and_parts (nat_lt w.level 3) _ e).0)
lead_sak true false w found sak e is few awake done = path_at w.path w.level is.path
lead_sak false true w found sak e is few awake done = path_at w.path w.level is.path
lead_sak false false w found sak e is few awake done =
    lead_room (length found == 16) w found (record { uid = uid_at w.path w.level; sak = sak }) refl is few

lead_select : (w : Walk) (found : List Tag) (sak : Option (Option ℕ)) → IsWalk w → length found ≤ 16 → w.awake ≡ true → 32 ≤ (known_of w).bits → Leads w (length found) (after_select w found sak)
lead_select w found None is few awake done = tt
lead_select w found (Some None) is few awake done = path_at w.path w.level is.path
lead_select w found (Some (Some sak)) is few awake done = lead_sak (bit sak 4 == 1) (tells_more w) w found sak refl is few awake done

leads_by : {S : Type 0} (steps : BitSteps S) (a b : Bool) (w : Walk) (found : List Tag) (s : S) (r : Result Turned InventoryEnd) (t : S)
    → w.awake ≡ a → nat_lt (known_of w).bits 32 ≡ b → IsWalk w → length found ≤ 16 → TurnsBy steps a b w found s r t → Leads w (length found) r
leads_by steps false b w found s r t e h is few turn = subst (Leads w (length found)) (sym turn.2) (lead_wake w found turn.0 is few e)
leads_by steps true true w found s r t e h is few turn = subst (Leads w (length found)) (sym turn.2) (lead_ask w found turn.0 is few e (ltb-true (known_of w).bits 32 h))
leads_by steps true false w found s r t e h is few turn = subst (Leads w (length found)) (sym turn.2) (lead_select w found turn.0 is few e (ltb-false (known_of w).bits 32 h))

-- What a turn leads to.
pub leads : {S : Type 0} (steps : BitSteps S) (w : Walk) (found : List Tag) (s : S) (r : Result Turned InventoryEnd) (t : S)
    → IsWalk w → length found ≤ 16 → Turns steps w found s r t → Leads w (length found) r
leads steps w found s r t is few turn = leads_by steps w.awake (nat_lt (known_of w).bits 32) w found s r t refl refl is few turn
