-- The exchanges that an inventory makes, and what they complete.
use Rattle.std.proofs.Common.{◌≡◌, ℕ, zero, suc, ◌+◌, ◌<◌, ◌≤◌, ◌==◌, nat_lt, nat_le, Bool, true, false, ◌&&◌, ◌||◌, not, List, [], ◌∷◌, ◌++◌, length, take, drop, Option, Some, None, Result, Ok, Err, refl, sym, ap, ◌∙◌, arith, inr, subst, if◌then◌else◌}
use Rattle.std.proofs.lemmas.Bool.{eqb-true, eqb-false, le-ltb, lt-ltb, leb-true, leb-false, ltb-true, ltb-false, and_parts}
use Rattle.std.proofs.lemmas.List.{append-nil, length-append}
use Rattle.ep_base.specs.Cards.Activation.{bit}
use Rattle.ep_base.specs.Cards.TypeA.{is_level}
use Rattle.inventory.specs.declared.field.Prefix.{Prefix}
use Rattle.inventory.specs.declared.field.BitHeard.{BitHeard}
use Rattle.inventory.specs.declared.field.BitHeard.TheVariants.{Silence, Level, Split}
use Rattle.inventory.specs.declared.listing.InventoryEnd.{InventoryEnd}
use Rattle.inventory.specs.declared.listing.InventoryEnd.TheVariants.{Device, Odd, Many}
use Rattle.inventory.specs.declared.walk.Path.{Path}
use Rattle.inventory.specs.Bits.{bits_of, known_bits, begins}
use Rattle.inventory.specs.Exchanges.{Exchange, Woken, Asked, Selected, Takes, TakesAll, has_failed, whole, is_odd_heard, odd_at, completed_from, completed, AreFine, EndsBy, ComesTo}
use Rattle.inventory.specs.Prefixes.{with_bit}
use Rattle.inventory.specs.Steps.{BitSteps}
use Rattle.inventory.specs.Tags.{Tag}
use Rattle.inventory.specs.Turns.{Turns, TurnsBy, after_wake, after_ask, after_select, goes}
use Rattle.inventory.specs.Walks.{Walk, Turned, IsWalk, nothing, at, with_at, known_of, odd, uid_at, turned_back, tells_more, completed as complete}
use Rattle.inventory.proofs.Leading.{path_at}
use Rattle.inventory.proofs.Reading.{uid_before, uid_is_at}

-- The bytes of a UID that were selected since the last wake.
abbrev pub uid_after : List ℕ → List Exchange → List ℕ
uid_after uid [] = uid
uid_after uid (Woken heard ∷ xs) = uid_after [] xs
uid_after uid (Asked level known heard ∷ xs) = uid_after uid xs
uid_after uid (Selected level value None ∷ xs) = uid_after uid xs
uid_after uid (Selected level value (Some None) ∷ xs) = uid_after uid xs
uid_after uid (Selected level value (Some (Some sak)) ∷ xs) = if bit sak 4 == 1 then uid_after (uid ++ drop 1 value) xs else uid_after [] xs

uid_if : (b : Bool) (x y : List ℕ) (ys : List Exchange) (p q : List ℕ) → p ≡ uid_after x ys → q ≡ uid_after y ys → (if b then p else q) ≡ uid_after (if b then x else y) ys
uid_if true x y ys p q e f = e
uid_if false x y ys p q e f = f

uid_snoc : (uid : List ℕ) (xs ys : List Exchange) → uid_after uid (xs ++ ys) ≡ uid_after (uid_after uid xs) ys
uid_snoc uid [] ys = refl
uid_snoc uid (Woken heard ∷ xs) ys = uid_snoc [] xs ys
uid_snoc uid (Asked level known heard ∷ xs) ys = uid_snoc uid xs ys
uid_snoc uid (Selected level value None ∷ xs) ys = uid_snoc uid xs ys
uid_snoc uid (Selected level value (Some None) ∷ xs) ys = uid_snoc uid xs ys
uid_snoc uid (Selected level value (Some (Some sak)) ∷ xs) ys =
    uid_if (bit sak 4 == 1) (uid_after (uid ++ drop 1 value) xs) (uid_after [] xs) ys _ _ (uid_snoc (uid ++ drop 1 value) xs ys) (uid_snoc [] xs ys)

completed_if : (b : Bool) (t : Tag) (p q r s : List Tag) (x y : List ℕ) (ys : List Exchange) → p ≡ r ++ completed_from x ys → q ≡ s ++ completed_from y ys
    → (if b then p else t ∷ q) ≡ (if b then r else t ∷ s) ++ completed_from (if b then x else y) ys
completed_if true t p q r s x y ys e f = e
completed_if false t p q r s x y ys e f = ap (λ us. t ∷ us) f

completed_snoc : (uid : List ℕ) (xs ys : List Exchange) → completed_from uid (xs ++ ys) ≡ completed_from uid xs ++ completed_from (uid_after uid xs) ys
completed_snoc uid [] ys = refl
completed_snoc uid (Woken heard ∷ xs) ys = completed_snoc [] xs ys
completed_snoc uid (Asked level known heard ∷ xs) ys = completed_snoc uid xs ys
completed_snoc uid (Selected level value None ∷ xs) ys = completed_snoc uid xs ys
completed_snoc uid (Selected level value (Some None) ∷ xs) ys = completed_snoc uid xs ys
completed_snoc uid (Selected level value (Some (Some sak)) ∷ xs) ys =
    completed_if (bit sak 4 == 1) (record { uid = uid ++ value; sak = sak }) _ _ (completed_from (uid ++ drop 1 value) xs) (completed_from [] xs)
    (uid_after (uid ++ drop 1 value) xs) (uid_after [] xs) ys (completed_snoc (uid ++ drop 1 value) xs ys) (completed_snoc [] xs ys)

takes_snoc : {S : Type 0} (steps : BitSteps S) (s : S) (xs : List Exchange) (m : S) (x : Exchange) (t : S) → TakesAll steps s xs m → Takes steps m x t → TakesAll steps s (xs ++ x ∷ []) t
takes_snoc steps s [] m x t e k = (t, subst (λ u. Takes steps u x t) (sym e) k, refl)
takes_snoc steps s (y ∷ xs) m x t ts k = (ts.0, ts.1, takes_snoc steps ts.0 xs m x t ts.2 k)

fine_snoc : (xs : List Exchange) (x : Exchange) → AreFine xs → has_failed x ≡ false → odd_at x ≡ None → AreFine (xs ++ x ∷ [])
fine_snoc [] x f h o = (h, o, tt)
fine_snoc (y ∷ xs) x f h o = (f.0, f.1, fine_snoc xs x f.2 h o)

-- The exchanges made so far.
pub record Made {S : Type 0} (steps : BitSteps S) (start : S) (xs : List Exchange) (found : List Tag) (n : ℕ) (s : S) : Type 0 where
  pub takes : TakesAll steps start xs s
  pub fine : AreFine xs
  pub lists : found ≡ completed xs
  pub number : n ≡ length xs
  pub least : 1 ≤ n
  pub few : length found ≤ 16

-- An inventory between two exchanges: those made, and what is selected since the last wake.
pub record Sofar {S : Type 0} (steps : BitSteps S) (start : S) (w : Walk) (found : List Tag) (n : ℕ) (s : S) : Type 0 where
  pub exchanges : List Exchange
  pub made : Made steps start exchanges found n s
  pub asleep : w.awake ≡ false → w.level ≡ 1
  pub uid : w.awake ≡ true → uid_after [] exchanges ≡ uid_before w.path w.level

abbrev pub OnwardBy : {S : Type 0} → Bool → BitSteps S → S → ℕ → S → Turned → Type 0
OnwardBy true steps start n t u = ComesTo steps start (Ok n) u.found t
OnwardBy false steps start n t u = Sofar steps start u.walk u.found n t

-- What follows an exchange more.
abbrev pub Onward : {S : Type 0} → BitSteps S → S → List Tag → ℕ → S → Result Turned InventoryEnd → Type 0
Onward steps start found n t (Ok u) = OnwardBy u.over steps start n t u
Onward steps start found n t (Err e) = ComesTo steps start (Err e) found t

-- One exchange more, which completes what is said.
made_next : {S : Type 0} (steps : BitSteps S) (start : S) (xs : List Exchange) (found : List Tag) (n : ℕ) (s : S) (x : Exchange) (t : S) (more : List Tag)
    → Made steps start xs found n s → Takes steps s x t → has_failed x ≡ false → odd_at x ≡ None → completed_from (uid_after [] xs) (x ∷ []) ≡ more → length (found ++ more) ≤ 16
    → Made steps start (xs ++ x ∷ []) (found ++ more) (n + 1) t
made_next steps start xs found n s x t more m k h o e few = record {
  takes = takes_snoc steps start xs s x t m.takes k;
  fine = fine_snoc xs x m.fine h o;
  lists = ap (λ us. us ++ more) m.lists ∙ ap (λ us. completed xs ++ us) (sym e) ∙ sym (completed_snoc [] xs (x ∷ []));
  number = ap (λ k. k + 1) m.number ∙ sym (length-append xs (x ∷ []));
  least = omega arith;
  few = few;
}

made_same : {S : Type 0} (steps : BitSteps S) (start : S) (xs : List Exchange) (found : List Tag) (n : ℕ) (s : S) (x : Exchange) (t : S)
    → Made steps start xs found n s → Takes steps s x t → has_failed x ≡ false → odd_at x ≡ None → completed_from (uid_after [] xs) (x ∷ []) ≡ [] → Made steps start (xs ++ x ∷ []) found (n + 1) t
made_same steps start xs found n s x t m k h o e =
    subst (λ (us : List Tag). Made steps start (xs ++ x ∷ []) us (n + 1) t) (append-nil found)
    (made_next steps start xs found n s x t [] m k h o e (omega (arith, m.few, ap length (append-nil found))))

device_ends : {S : Type 0} (steps : BitSteps S) (start : S) (xs : List Exchange) (found : List Tag) (n : ℕ) (s : S) (x : Exchange) (t : S)
    → Made steps start xs found n s → Takes steps s x t → has_failed x ≡ true → ComesTo steps start (Err Device) found t
device_ends steps start xs found n s x t m k h = (xs, x, takes_snoc steps start xs s x t m.takes k, m.fine, m.lists, m.few, h)

odd_by : (xs : List Exchange) (x : Exchange) (level : ℕ) (known : Prefix) → 1 ≤ length xs → odd_at x ≡ Some (record { level = level; known = known }) → EndsBy xs x (Odd level known)
odd_by [] x level known l e = absurd (omega (arith, l))
odd_by (y ∷ xs) x level known l e = e

odd_ends : {S : Type 0} (steps : BitSteps S) (start : S) (xs : List Exchange) (found : List Tag) (n : ℕ) (s : S) (x : Exchange) (t : S) (level : ℕ) (known : Prefix)
    → Made steps start xs found n s → Takes steps s x t → odd_at x ≡ Some (record { level = level; known = known }) → ComesTo steps start (Err (Odd level known)) found t
odd_ends steps start xs found n s x t level known m k e =
    (xs, x, takes_snoc steps start xs s x t m.takes k, m.fine, m.lists, m.few, odd_by xs x level known (omega (arith, m.least, m.number)) e)

wake_made : {S : Type 0} (steps : BitSteps S) (start : S) (w : Walk) (found : List Tag) (n : ℕ) (s t : S) → Sofar steps start w found n s → w.awake ≡ false → (heard : Option Bool)
    → steps.wakes s heard t → Onward steps start found (n + 1) t (after_wake w found heard)
wake_made steps start w found n s t so asleep None k = device_ends steps start so.exchanges found n s (Woken None) t so.made k refl
wake_made steps start w found n s t so asleep (Some false) k = odd_ends steps start so.exchanges found n s (Woken (Some false)) t 1 nothing so.made k refl
wake_made steps start w found n s t so asleep (Some true) k = record {
  exchanges = so.exchanges ++ Woken (Some true) ∷ [];
  made = made_same steps start so.exchanges found n s (Woken (Some true)) t so.made k refl refl refl;
  asleep = λ e. cc;
  uid = λ e. uid_snoc [] so.exchanges (Woken (Some true) ∷ []) ∙ ap (uid_before w.path) (sym (so.asleep asleep));
}

-- What is known at a level says nothing of the levels before it.
uid_with : (p : Path) (level : ℕ) (k : Prefix) → level ≤ 3 → uid_before (with_at p level k) level ≡ uid_before p level
uid_with p zero k le = refl
uid_with p (suc zero) k le = refl
uid_with p (suc (suc zero)) k le = refl
uid_with p (suc (suc (suc zero))) k le = refl
uid_with p (suc (suc (suc (suc n)))) k le = absurd (omega (arith, le))

-- A question whose answer is fine, or not.
ask_made_by : (b : Bool) {S : Type 0} (steps : BitSteps S) (start : S) (w : Walk) (found : List Tag) (n : ℕ) (s t : S) → w.level ≤ 3 → Sofar steps start w found n s → (heard : BitHeard)
    → steps.asks s w.level (known_of w) (Some heard) t → (k : Prefix) (ps : List Path) → is_odd_heard (known_of w) heard ≡ not b
    → Onward steps start found (n + 1) t (goes found (if b then Ok (record w { path = with_at w.path w.level k; pending = ps }) else Err (odd w)))
ask_made_by false steps start w found n s t top so heard step k ps e =
    odd_ends steps start so.exchanges found n s (Asked w.level (known_of w) (Some heard)) t w.level (known_of w) so.made step (rw e refl)
ask_made_by true steps start w found n s t top so heard step k ps e =
    let x = Asked w.level (known_of w) (Some heard) in
    record {
      exchanges = so.exchanges ++ x ∷ [];
      made = made_same steps start so.exchanges found n s x t so.made step refl (rw e refl) refl;
      asleep = so.asleep;
      uid = λ a. uid_snoc [] so.exchanges (x ∷ []) ∙ so.uid a ∙ sym (uid_with w.path w.level k top);
    }

below_is : (a b : ℕ) (c : Bool) → nat_le b a ≡ c → nat_lt a b ≡ not c
below_is a b true e = le-ltb a b (leb-true b a e)
below_is a b false e = lt-ltb a b (omega (arith, leb-false b a e))

above_is : (place : ℕ) (c : Bool) → nat_lt place 32 ≡ c → nat_lt 31 place ≡ not c
above_is place true e = le-ltb 31 place (omega (arith, ltb-true place 32 e))
above_is place false e = lt-ltb 31 place (omega (arith, ltb-false place 32 e))

not_all : (a b c : Bool) → (not a || (not b || not c)) ≡ not (a && (b && c))
not_all true true true = refl
not_all true true false = refl
not_all true false c = refl
not_all false b c = refl

split_odd : (known : Prefix) (bytes : List ℕ) (place : ℕ)
    → is_odd_heard known (Split bytes place) ≡ not (nat_le known.bits place && (nat_lt place 32 && begins (known_bits known) (bits_of bytes)))
split_odd known bytes place =
    ap (λ b. b || (nat_lt 31 place || not (begins (known_bits known) (bits_of bytes)))) (below_is place known.bits (nat_le known.bits place) refl)
    ∙ ap (λ b. not (nat_le known.bits place) || (b || not (begins (known_bits known) (bits_of bytes)))) (above_is place (nat_lt place 32) refl)
    ∙ not_all (nat_le known.bits place) (nat_lt place 32) (begins (known_bits known) (bits_of bytes))

ask_made : {S : Type 0} (steps : BitSteps S) (start : S) (w : Walk) (found : List Tag) (n : ℕ) (s t : S) → w.level ≤ 3 → Sofar steps start w found n s → (heard : Option BitHeard)
    → steps.asks s w.level (known_of w) heard t → Onward steps start found (n + 1) t (after_ask w found heard)
ask_made steps start w found n s t top so None k = device_ends steps start so.exchanges found n s (Asked w.level (known_of w) None) t so.made k refl
ask_made steps start w found n s t top so (Some Silence) k = odd_ends steps start so.exchanges found n s (Asked w.level (known_of w) (Some Silence)) t w.level (known_of w) so.made k refl
ask_made steps start w found n s t top so (Some (Level part)) k =
    ask_made_by (is_level part && begins (known_bits (known_of w)) (bits_of (take 4 part))) steps start w found n s t top so (Level part) k (record { bytes = take 4 part; bits = 32 }) w.pending refl
ask_made steps start w found n s t top so (Some (Split bytes place)) k =
    ask_made_by (nat_le (known_of w).bits place && (nat_lt place 32 && begins (known_bits (known_of w)) (bits_of bytes))) steps start w found n s t top so (Split bytes place) k
    (with_bit bytes place false) (with_at w.path w.level (with_bit bytes place true) ∷ w.pending) (split_odd (known_of w) bytes place)

uid_next : (p : Path) (level : ℕ) → 1 ≤ level → level < 3 → uid_before p (level + 1) ≡ uid_before p level ++ drop 1 (at p level).bytes
uid_next p zero l m = absurd (omega (arith, l))
uid_next p (suc zero) l m = refl
uid_next p (suc (suc zero)) l m = refl
uid_next p (suc (suc (suc n))) l m = absurd (omega (arith, m))

back_made : {S : Type 0} (steps : BitSteps S) (start : S) (w : Walk) (xs : List Exchange) (found : List Tag) (n : ℕ) (t : S) (ps : List Path)
    → Made steps start xs found n t → Onward steps start found n t (Ok (turned_back w ps found))
back_made steps start w xs found n t [] m = (xs, m.takes, m.number, m.lists, m.few, inr m.fine)
back_made steps start w xs found n t (p ∷ ps) m = record { exchanges = xs; made = m; asleep = λ e. refl; uid = λ e. cc }

-- The value of the level was selected, and all of it was known.
pub record Chose {S : Type 0} (steps : BitSteps S) (start : S) (w : Walk) (found : List Tag) (n : ℕ) (s : S) (sak : ℕ) (t : S) : Type 0 where
  pub so : Sofar steps start w found n s
  pub is : IsWalk w
  pub awake : w.awake ≡ true
  pub known : known_of w ≡ whole (known_of w).bytes
  pub step : steps.selects s w.level (known_of w).bytes (Some (Some sak)) t

full_made : (b : Bool) {S : Type 0} (steps : BitSteps S) (start : S) (w : Walk) (found : List Tag) (n : ℕ) (s : S) (sak : ℕ) (t : S) → Chose steps start w found n s sak t
    → (bit sak 4 == 1) ≡ false → tells_more w ≡ false → (length found == 16) ≡ b
    → Onward steps start found (n + 1) t (if b then Err Many else Ok (turned_back w w.pending (found ++ record { uid = uid_at w.path w.level; sak = sak } ∷ [])))
full_made b {S} steps start w found n s sak t c clear last e = by b e
  where
    x : Exchange
    x = Selected w.level (known_of w).bytes (Some (Some sak))

    u : Tag
    u = record { uid = uid_at w.path w.level; sak = sak }

    fine : odd_at x ≡ None
    fine = rw (clear, last) refl

    uid : uid_after [] c.so.exchanges ++ (known_of w).bytes ≡ uid_at w.path w.level
    uid = ap (λ ys. ys ++ (known_of w).bytes) (c.so.uid c.awake) ∙ sym (uid_is_at w.path w.level c.is.least c.is.most)

    gives : completed_from (uid_after [] c.so.exchanges) (x ∷ []) ≡ u ∷ []
    gives = rw clear (ap (λ (ys : List ℕ). record { uid = ys; sak = sak } ∷ []) uid)

    by : (b : Bool) → (length found == 16) ≡ b → Onward steps start found (n + 1) t (if b then Err Many else Ok (turned_back w w.pending (found ++ u ∷ [])))
    by true e =
        let full : length found ≡ 16 = eqb-true (length found) 16 e in
        let all : completed (c.so.exchanges ++ x ∷ []) ≡ found ++ u ∷ [] =
        completed_snoc [] c.so.exchanges (x ∷ []) ∙ ap (λ us. us ++ completed_from (uid_after [] c.so.exchanges) (x ∷ [])) (sym c.so.made.lists) ∙ ap (λ us. found ++ us) gives in (
          c.so.exchanges,
          x,
          takes_snoc steps start c.so.exchanges s x t c.so.made.takes c.step,
          c.so.made.fine,
          c.so.made.lists,
          c.so.made.few,
          (fine, ap length all ∙ length-append found (u ∷ []) ∙ ap (λ k. k + 1) full),
        )
    by false e =
        let few : length (found ++ u ∷ []) ≤ 16 = omega (arith, length-append found (u ∷ []), c.so.made.few, eqb-false (length found) 16 e) in
        on_from (back_made steps start w (c.so.exchanges ++ x ∷ []) (found ++ u ∷ []) (n + 1) t w.pending
        (made_next steps start c.so.exchanges found n s x t (u ∷ []) c.so.made c.step refl fine gives few))
      where
        on_from : Onward steps start (found ++ u ∷ []) (n + 1) t (Ok (turned_back w w.pending (found ++ u ∷ []))) → Onward steps start found (n + 1) t (Ok (turned_back w w.pending (found ++ u ∷ [])))
        on_from o = o

-- A selection that gives a SAK.
sak_made : (more tells : Bool) {S : Type 0} (steps : BitSteps S) (start : S) (w : Walk) (found : List Tag) (n : ℕ) (s : S) (sak : ℕ) (t : S) → Chose steps start w found n s sak t
    → (bit sak 4 == 1) ≡ more → tells_more w ≡ tells
    → Onward steps start found (n + 1) t (if more then (if tells then Ok (record { over = false; walk = record w { level = w.level + 1 }; found = found }) else Err (odd w))
    else (if tells then Err (odd w) else complete w found sak))
sak_made true true steps start w found n s sak t c e f =
    let x = Selected w.level (known_of w).bytes (Some (Some sak)) in
    record {
      exchanges = c.so.exchanges ++ x ∷ [];
      made = made_same steps start c.so.exchanges found n s x t c.so.made c.step refl (rw (e, f) refl) (rw e refl);
      asleep = λ a. let k : true ≡ false = sym c.awake ∙ a in cc;
      uid = λ a. uid_snoc [] c.so.exchanges (x ∷ []) ∙ taken e ∙ ap (λ ys. ys ++ drop 1 (known_of w).bytes) (c.so.uid c.awake)
          ∙ sym (uid_next w.path w.level c.is.least (ltb-true w.level 3 (and_parts (nat_lt w.level 3) _ f).0));
    }
  where
    taken : (bit sak 4 == 1) ≡ true
        → uid_after (uid_after [] c.so.exchanges) (Selected w.level (known_of w).bytes (Some (Some sak)) ∷ []) ≡ uid_after [] c.so.exchanges ++ drop 1 (known_of w).bytes
    taken e = rw e refl
sak_made true false steps start w found n s sak t c e f =
    odd_ends steps start c.so.exchanges found n s (Selected w.level (known_of w).bytes (Some (Some sak))) t w.level (known_of w) c.so.made c.step
    (rw (e, f) (ap (λ k. Some (record { level = w.level; known = k })) (sym c.known)))
sak_made false true steps start w found n s sak t c e f =
    odd_ends steps start c.so.exchanges found n s (Selected w.level (known_of w).bytes (Some (Some sak))) t w.level (known_of w) c.so.made c.step
    (rw (e, f) (ap (λ k. Some (record { level = w.level; known = k })) (sym c.known)))
sak_made false false steps start w found n s sak t c e f = full_made (length found == 16) steps start w found n s sak t c e f refl

select_made : {S : Type 0} (steps : BitSteps S) (start : S) (w : Walk) (found : List Tag) (n : ℕ) (s t : S) → Sofar steps start w found n s → IsWalk w → w.awake ≡ true
    → known_of w ≡ whole (known_of w).bytes → (sak : Option (Option ℕ)) → steps.selects s w.level (known_of w).bytes sak t → Onward steps start found (n + 1) t (after_select w found sak)
select_made steps start w found n s t so is awake known None k = device_ends steps start so.exchanges found n s (Selected w.level (known_of w).bytes None) t so.made k refl
select_made steps start w found n s t so is awake known (Some None) k =
    odd_ends steps start so.exchanges found n s (Selected w.level (known_of w).bytes (Some None)) t w.level (known_of w) so.made k
    (ap (λ p. Some (record { level = w.level; known = p })) (sym known))
select_made steps start w found n s t so is awake known (Some (Some sak)) k =
    sak_made (bit sak 4 == 1) (tells_more w) steps start w found n s sak t (record { so = so; is = is; awake = awake; known = known; step = k }) refl refl

made_by : {S : Type 0} (steps : BitSteps S) (start : S) (a b : Bool) (w : Walk) (found : List Tag) (n : ℕ) (s : S) (r : Result Turned InventoryEnd) (t : S)
    → w.awake ≡ a → nat_lt (known_of w).bits 32 ≡ b → IsWalk w → Sofar steps start w found n s → TurnsBy steps a b w found s r t → Onward steps start found (n + 1) t r
made_by steps start false b w found n s r t e h is so turn = subst (Onward steps start found (n + 1) t) (sym turn.2) (wake_made steps start w found n s t so e turn.0 turn.1)
made_by steps start true true w found n s r t e h is so turn = subst (Onward steps start found (n + 1) t) (sym turn.2) (ask_made steps start w found n s t is.most so turn.0 turn.1)
made_by steps start true false w found n s r t e h is so turn =
    let all : (known_of w).bits ≡ 32 = omega (arith, ltb-false (known_of w).bits 32 h, (path_at w.path w.level is.path).most) in
    let known : known_of w ≡ whole (known_of w).bytes = ap (λ (k : ℕ). record { bytes = (known_of w).bytes; bits = k }) all in
    subst (Onward steps start found (n + 1) t) (sym turn.2) (select_made steps start w found n s t so is e known turn.0 turn.1)

-- What a turn makes of the exchanges so far.
pub turn_makes : {S : Type 0} (steps : BitSteps S) (start : S) (w : Walk) (found : List Tag) (n : ℕ) (s : S) (r : Result Turned InventoryEnd) (t : S)
    → IsWalk w → Sofar steps start w found n s → Turns steps w found s r t → Onward steps start found (n + 1) t r
turn_makes steps start w found n s r t is so turn = made_by steps start w.awake (nat_lt (known_of w).bits 32) w found n s r t refl refl is so turn
