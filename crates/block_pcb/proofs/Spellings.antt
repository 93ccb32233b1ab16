-- Blocks read from their spellings, and spelled as they were read.
use Rattle.std.proofs.Common.{◌≡◌, ℕ, ◌+◌, ◌*◌, ◌/◌, ◌%◌, ◌<◌, ◌≤◌, ◌==◌, ◌&&◌, nat_le, Bool, true, false, if◌then◌else◌, List, [], ◌∷◌, refl, sym, ap, subst, ⊎_elim, arith}
use Rattle.std.specs.List.{All}
use Rattle.std.proofs.lemmas.List.Elements.{All-head, All-tail}
use Rattle.std.proofs.lemmas.Bool.{leb-true}
use Rattle.std.proofs.lemmas.Bool.Decides.{leb_tells, eqb_tells}
use Rattle.ep_base.specs.Link.Block.{Block, I, RAck, RNak, Deselect, Wtx}
use Rattle.ep_base.specs.Link.Spelling.{number_bit, chaining_bit, spelled, is_block, Announced, AnI, AnAck, ANak, ADeselect, AWtx, Nothing, pcb_kind, Read, Reads, Refuses, read_bare, read_wtx_byte, read_after, read_block}
use Rattle.block_pcb.specs.Laws.{IsByte}

-- ---- a spelled block is read as itself

-- the tests of an S(WTX), each passed
both : (x y : Bool) → (x && y) ≡ true → (x ≡ true) × (y ≡ true)
both true true e = (refl, refl)
both true false e = cc
both false y e = cc

wtx_byte : (p m : ℕ) → is_block (Wtx p m) ≡ true → read_wtx_byte (64 * p + m) ≡ Reads (Wtx p m)
wtx_byte p m h =
    let range = both (nat_le 1 m) (nat_le m 59) (both (nat_le p 3) (nat_le 1 m && nat_le m 59) h).1 in
    let high : m ≤ 59 = leb-true m 59 range.1 in
    let rest : (64 * p + m) % 64 ≡ m = omega arith in
    let power : (64 * p + m) / 64 ≡ p = omega arith in
    rw (rest, power, range.0, range.1) refl

pub read_spelled : (b : Block) → is_block b ≡ true → read_block (spelled b) ≡ Reads b
unfolding pcb_kind
read_spelled (I false false inf) h = refl
read_spelled (I false true inf) h = refl
read_spelled (I true false inf) h = refl
read_spelled (I true true inf) h = refl
read_spelled (RAck false) h = refl
read_spelled (RAck true) h = refl
read_spelled (RNak false) h = refl
read_spelled (RNak true) h = refl
read_spelled Deselect h = refl
read_spelled (Wtx p m) h = wtx_byte p m h

-- ---- what was read is spelled as the same bytes

-- a PCB is the one of what it announces
abbrev IsPcb : ℕ → Announced → Type 0
IsPcb pcb (AnI k ch) = pcb ≡ 0x02 + chaining_bit ch + number_bit k
IsPcb pcb (AnAck k) = pcb ≡ 0xa2 + number_bit k
IsPcb pcb (ANak k) = pcb ≡ 0xb2 + number_bit k
IsPcb pcb ADeselect = pcb ≡ 0xc2
IsPcb pcb AWtx = pcb ≡ 0xf2
IsPcb pcb Nothing = Unit {0}

choice : (pcb n : ℕ) (a b : Announced) → (pcb ≡ n → IsPcb pcb a) → IsPcb pcb b → IsPcb pcb (if pcb == n then a else b)
choice pcb n a b this that = ⊎_elim (λ h. rw h.0 (this h.1)) (λ h. rw h.0 that) (eqb_tells pcb n)

announces : (pcb : ℕ) → IsPcb pcb (pcb_kind pcb)
unfolding pcb_kind
announces pcb =
    choice pcb 0x02 (AnI false false) _ (λ e. e) (choice pcb 0x03 (AnI true false) _ (λ e. e) (
    choice pcb 0x12 (AnI false true) _ (λ e. e) (choice pcb 0x13 (AnI true true) _ (λ e. e) (
    choice pcb 0xa2 (AnAck false) _ (λ e. e) (choice pcb 0xa3 (AnAck true) _ (λ e. e) (
    choice pcb 0xb2 (ANak false) _ (λ e. e) (choice pcb 0xb3 (ANak true) _ (λ e. e) (
    choice pcb 0xc2 ADeselect _ (λ e. e) (choice pcb 0xf2 AWtx Nothing (λ e. e) tt)))))))))

-- what was read has these bytes as its spelling
abbrev Spells : Read → List ℕ → Type 0
Spells (Reads b) bytes = (spelled b ≡ bytes) × (is_block b ≡ true)
Spells (Refuses fault) bytes = Unit {0}

bare : (b : Block) (pcb : ℕ) (inf : List ℕ) → spelled b ≡ pcb ∷ [] → is_block b ≡ true → Spells (read_bare b inf) (pcb ∷ inf)
bare b pcb [] e h = (e, h)
bare b pcb (x ∷ xs) e h = tt

byte_spelled : (pcb byte : ℕ) → pcb ≡ 0xf2 → byte < 256 → Spells (read_wtx_byte byte) (pcb ∷ byte ∷ [])
byte_spelled pcb byte e lt =
    ⊎_elim
    (λ low. ⊎_elim
    (λ high.
    let power : nat_le (byte / 64) 3 ≡ true = ⊎_elim (λ k. k.0) (λ k. absurd (omega (arith, k.1))) (leb_tells (byte / 64) 3) in
    let whole : 64 * (byte / 64) + byte % 64 ≡ byte = omega arith in
    rw (low.0, high.0, power) (rw (whole, e) refl, rw (low.0, high.0) refl))
    (λ high. rw (low.0, high.0) tt)
    (leb_tells (byte % 64) 59))
    (λ low. rw low.0 tt)
    (leb_tells 1 (byte % 64))

after : (pcb : ℕ) (a : Announced) (inf : List ℕ) → IsPcb pcb a → All IsByte inf → Spells (read_after pcb a inf) (pcb ∷ inf)
after pcb (AnI k ch) inf e all = (ap (λ (p : ℕ). p ∷ inf) (sym e), refl)
after pcb (AnAck k) inf e all = bare (RAck k) pcb inf (ap (λ (p : ℕ). p ∷ []) (sym e)) refl
after pcb (ANak k) inf e all = bare (RNak k) pcb inf (ap (λ (p : ℕ). p ∷ []) (sym e)) refl
after pcb ADeselect inf e all = bare Deselect pcb inf (ap (λ (p : ℕ). p ∷ []) (sym e)) refl
after pcb AWtx [] e all = tt
after pcb AWtx (byte ∷ []) e all = byte_spelled pcb byte e (All-head IsByte byte [] all)
after pcb AWtx (byte ∷ x ∷ xs) e all = tt
after pcb Nothing inf e all = tt

spells : (bytes : List ℕ) → All IsByte bytes → Spells (read_block bytes) bytes
spells [] all = tt
spells (pcb ∷ inf) all = after pcb (pcb_kind pcb) inf (announces pcb) (All-tail IsByte pcb inf all)

pub spelled_read : (bytes : List ℕ) (b : Block) → All IsByte bytes → read_block bytes ≡ Reads b → (spelled b ≡ bytes) × (is_block b ≡ true)
spelled_read bytes b all e = subst (λ (r : Read). Spells r bytes) e (spells bytes all)
