-- Blocks are read as they were spelled.
use Rattle.std.proofs.Common.{◌≡◌, ℕ, ◌+◌, ◌*◌, ◌/◌, ◌%◌, ◌<◌, ◌≤◌, le-leb, leb-true, true, false, length, Some, refl, ap, ◌∙◌, arith, length-append}
use Rattle.std.specs.Prelude.{nat_le, ◌&&◌}
use Rattle.std.proofs.lemmas.Nat.{div-mul-add, mod-mul-add}
use Rattle.std.proofs.lemmas.Bool.{and_parts}
use Rattle.ep_base.specs.declared.air.CardKind.{CardKind}
use Rattle.ep_base.specs.declared.air.CardKind.TheVariants as kinds
use Rattle.ep_base.specs.Air.Heard.{wave_of_kind}
use Rattle.ep_base.specs.Air.Check.{crc_a, crc_b}
use Rattle.ep_base.specs.Air.Frame.{check_bytes, sealed, opened}
use Rattle.ep_base.specs.Link.Block.{Block, I, RAck, RNak, Deselect, Wtx, frame_length}
use Rattle.ep_base.specs.Link.Spelling.{spelled, is_block, pcb_kind, Reads, read_block, read_wtx_byte}
use Rattle.rf_frame.proofs.Opening.{opened_sealed}

-- a block that an end of a link sends while a command is open: it has a spelling, no power bits, and isn't S(DESELECT)
abbrev pub Sent : Block → Type 0
Sent (I k ch inf) = Unit {0}
Sent (RAck k) = Unit {0}
Sent (RNak k) = Unit {0}
Sent Deselect = ⊥
Sent (Wtx p m) = (p ≡ 0) × (1 ≤ m) × (m ≤ 59)

pub sent_block : (b : Block) → Sent b → is_block b ≡ true
sent_block (I k ch inf) s = refl
sent_block (RAck k) s = refl
sent_block (RNak k) s = refl
sent_block Deselect s = absurd s
sent_block (Wtx p m) s = rw (s.0, le-leb 1 m s.1, le-leb m 59 s.2) refl

wtx_byte : (p m : ℕ) → nat_le 1 m ≡ true → nat_le m 59 ≡ true → read_wtx_byte (64 * p + m) ≡ Reads (Wtx p m)
wtx_byte p m least most =
    let small : m < 64 = omega (arith, leb-true m 59 most) in
    let turned : 64 * p + m ≡ p * 64 + m = omega arith in
    let low : (64 * p + m) % 64 ≡ m = ap (λ n. n % 64) turned ∙ mod-mul-add p 64 m small in
    let high : (64 * p + m) / 64 ≡ p = ap (λ n. n / 64) turned ∙ div-mul-add p 64 m small in
    rw (low, high, least, most) refl

-- a block's bytes are read as that block
pub spelled_reads : (b : Block) → is_block b ≡ true → read_block (spelled b) ≡ Reads b
unfolding pcb_kind
spelled_reads (I false false inf) s = refl
spelled_reads (I true false inf) s = refl
spelled_reads (I false true inf) s = refl
spelled_reads (I true true inf) s = refl
spelled_reads (RAck false) s = refl
spelled_reads (RAck true) s = refl
spelled_reads (RNak false) s = refl
spelled_reads (RNak true) s = refl
spelled_reads Deselect s = refl
spelled_reads (Wtx p m) s =
    let range = (and_parts (nat_le p 3) (nat_le 1 m && nat_le m 59) s).1 in
    wtx_byte p m (and_parts (nat_le 1 m) (nat_le m 59) range).0 (and_parts (nat_le 1 m) (nat_le m 59) range).1

-- and out of its frame
pub opened_spelled : (kind : CardKind) (b : Block) → opened (wave_of_kind kind) (sealed (wave_of_kind kind) (spelled b)) ≡ Some (spelled b)
opened_spelled kind b = opened_sealed (wave_of_kind kind) (spelled b) (omega arith)

two_more : (b : Block) → length (spelled b) + 2 ≡ frame_length b
two_more (I k ch inf) = omega arith
two_more (RAck k) = refl
two_more (RNak k) = refl
two_more Deselect = refl
two_more (Wtx p m) = refl

-- which has so many bytes
pub sealed_length : (kind : CardKind) (b : Block) → length (sealed (wave_of_kind kind) (spelled b)) ≡ frame_length b
sealed_length kinds.A b = length-append (spelled b) (check_bytes (crc_a (spelled b))) ∙ two_more b
sealed_length kinds.B b = length-append (spelled b) (check_bytes (crc_b (spelled b))) ∙ two_more b
