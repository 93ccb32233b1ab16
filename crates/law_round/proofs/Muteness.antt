-- Cards outside the block protocol don't hear blocks.
use Rattle.std.proofs.Common.{◌≡◌, ℕ, zero, suc, ◌/◌, ◌%◌, ◌≤◌, nat_eq, nat_lt, leb-true, ◌&&◌, ◌||◌, Bool, true, false, List, [], ◌∷◌, ◌++◌, length, take, drop, Option, Some, None, sym, ap, ◌∙◌, subst, refl, arith, ne_eqb, append-nil, if◌then◌else◌}
use Rattle.std.specs.Prelude.{slice_index}
use Rattle.std.specs.Str.{bytes_eq}
use Rattle.std.proofs.lemmas.Bool.{and_parts}
use Rattle.ep_base.specs.declared.air.CardKind.{CardKind}
use Rattle.ep_base.specs.declared.air.CardKind.TheVariants as kinds
use Rattle.ep_base.specs.declared.air.Wave.{Wave}
use Rattle.ep_base.specs.declared.air.Wave.TheVariants.{A, B}
use Rattle.ep_base.specs.Air.Frame.{sealed, opened, is_good}
use Rattle.ep_base.specs.Air.FrameSize.{frame_size}
use Rattle.ep_base.specs.Air.Heard.{framed, CardHear, Mute, Sends, Opens, wave_of_kind}
use Rattle.ep_base.specs.Cards.Activation.{bit}
use Rattle.ep_base.specs.Cards.TypeA.{sel, APlan, AState, Idle, Ready, Active, Protocol, Halted, a_takes, a_opened, a_card, a_select, a_other, ats_of}
use Rattle.ep_base.specs.Cards.TypeB.{BPlan, BState, BIdle, BReady, BProtocol, b_takes, b_opened, b_card, b_other, atqb_of}
use Rattle.ep_base.specs.Air.Fates.{Way, IsWay}
use Rattle.ep_base.specs.Link.Block.{Block, I, RAck, RNak, Deselect, Wtx}
use Rattle.ep_base.specs.Link.Spelling.{spelled}
use Rattle.ep_base.specs.Link.Wire.{comes_down}
use Rattle.ep_base.specs.Cards.Field.{Outside, OfA, OfB, outside_after, outside_reply, Placed, CardAfter, untouched, by_reply, hears_frame, one_hears, CardsHeard, and_then, all_hear}
use Rattle.rf_frame.proofs.Opening.{ends_sealed}
use Rattle.law_wire.proofs.Reading.{opened_spelled}
use Rattle.ep_base.specs.Cards.Inside.{a_out, b_out, is_out, all_out}
use Rattle.law_round.proofs.Arriving.{Arrival, Lost, Whole, Damaged, arrives}

-- the first bytes of blocks
abbrev is_pcb : ℕ → Bool
is_pcb n =
    nat_eq n 0x02 || (nat_eq n 0x03 || (nat_eq n 0x12 || (nat_eq n 0x13 || (nat_eq n 0xa2 || (nat_eq n 0xa3 || (nat_eq n 0xb2 || (nat_eq n 0xb3 || (nat_eq n 0xc2 || nat_eq n 0xf2))))))))

-- a block, or a frame that isn't good
abbrev pub IsBlock : Option (List ℕ) → Type 0
IsBlock None = Unit {0}
IsBlock (Some []) = ⊥
IsBlock (Some (pcb ∷ rest)) = is_pcb pcb ≡ true

-- a PCB is none of the bytes that begin other messages
differs : (n k : ℕ) → is_pcb n ≡ true → is_pcb k ≡ false → nat_eq n k ≡ false
differs n k h e = ne_eqb n k (λ same. let clash : true ≡ false = sym h ∙ ap is_pcb same ∙ e in cc)

sel_differs : (n level : ℕ) → is_pcb n ≡ true → level ≤ 3 → nat_eq n (sel level) ≡ false
sel_differs n zero h l = differs n (sel 0) h refl
sel_differs n (suc zero) h l = differs n (sel 1) h refl
sel_differs n (suc (suc zero)) h l = differs n (sel 2) h refl
sel_differs n (suc (suc (suc zero))) h l = differs n (sel 3) h refl
sel_differs n (suc (suc (suc (suc k)))) h l = absurd (omega arith)

last_false : (a b : Bool) → (a && (false && b)) ≡ false
last_false true b = refl
last_false false b = refl

third_false : (a b c : Bool) → (a && (b && (false && c))) ≡ false
third_false true true c = refl
third_false true false c = refl
third_false false b c = refl

others : (p : APlan) (s : AState) (n : ℕ) (rest : List ℕ) → is_pcb n ≡ true → a_out s ≡ true → a_other p s A (n ∷ rest) ≡ (s, Mute)
others p Idle n rest h o = refl
others p Halted n rest h o = refl
others p Protocol n rest h o = cc
others p (Ready level) n rest h o =
    ap (λ b. if b && bytes_eq (take 1 rest) (0x70 ∷ []) then a_select p level (drop 1 rest) else (Ready level, Mute)) (sel_differs n level h (leb-true level 3 o))
others p Active n rest h o =
    ap (λ b. if (nat_eq (length (n ∷ rest)) 2 && (b && nat_eq (slice_index (n ∷ rest) 1 % 16) 0)) && nat_eq (bit p.sak 32) 1 then (Protocol, Opens (framed A (ats_of p)) (frame_size (slice_index (n ∷ rest) 1 / 16))) else (Active, Mute)) (differs n 0xe0 h refl)
    ∙ ap (λ b. if b && nat_eq (bit p.sak 32) 1 then (Protocol, Opens (framed A (ats_of p)) (frame_size (slice_index (n ∷ rest) 1 / 16))) else (Active, Mute)) (last_false (nat_eq (length (n ∷ rest)) 2) (nat_eq (slice_index (n ∷ rest) 1 % 16) 0))

a_keeps_a : (p : APlan) (s : AState) (n : ℕ) (rest : List ℕ) → is_pcb n ≡ true → a_out s ≡ true → a_takes p s A (n ∷ rest) ≡ (s, Mute)
unfolding a_takes
a_keeps_a p s n rest h o = ap (λ b. if b && bytes_eq rest (0 ∷ []) then (Halted, Mute) else a_other p s A (n ∷ rest)) (differs n 0x50 h refl) ∙ others p s n rest h o

a_keeps_b : (p : APlan) (s : AState) (m : List ℕ) → a_out s ≡ true → a_takes p s B m ≡ (s, Mute)
unfolding a_takes
a_keeps_b p Idle m o = refl
a_keeps_b p Halted m o = refl
a_keeps_b p Protocol m o = cc
a_keeps_b p (Ready level) m o = refl
a_keeps_b p Active m o = refl

b_others : (p : BPlan) (s : BState) (n : ℕ) (rest : List ℕ) → is_pcb n ≡ true → b_out s ≡ true → b_other p s (n ∷ rest) ≡ (s, Mute)
b_others p BIdle n rest h o = refl
b_others p BProtocol n rest h o = cc
b_others p BReady n rest h o =
    let x = slice_index (n ∷ rest) 6 in
    ap (λ b. if (nat_eq (length (n ∷ rest)) 9 && (nat_lt x 16 && (b && bytes_eq rest (p.pupi ++ (0 ∷ x ∷ 1 ∷ 0 ∷ []))))) && p.iso4 then (BProtocol, Opens (framed B (0 ∷ [])) (frame_size x)) else (BReady, Mute)) (differs n 0x1d h refl)
    ∙ ap (λ b. if b && p.iso4 then (BProtocol, Opens (framed B (0 ∷ [])) (frame_size x)) else (BReady, Mute)) (third_false (nat_eq (length (n ∷ rest)) 9) (nat_lt x 16) (bytes_eq rest (p.pupi ++ (0 ∷ x ∷ 1 ∷ 0 ∷ []))))

b_keeps_b : (p : BPlan) (s : BState) (n : ℕ) (rest : List ℕ) → is_pcb n ≡ true → b_out s ≡ true → b_takes p s B (n ∷ rest) ≡ (s, Mute)
unfolding b_takes
b_keeps_b p s n rest h o =
    ap (λ b. if b && bytes_eq rest (0 ∷ 8 ∷ []) then (BReady, Sends (framed B (atqb_of p))) else b_other p s (n ∷ rest)) (differs n 0x05 h refl) ∙ b_others p s n rest h o

a_opens : (p : APlan) (s : AState) (wave : Wave) (bytes : List ℕ) → a_out s ≡ true → a_card p s wave bytes ≡ a_opened p s wave (opened wave bytes)
a_opens p Idle wave bytes o = refl
a_opens p Halted wave bytes o = refl
a_opens p Protocol wave bytes o = cc
a_opens p (Ready level) wave bytes o = refl
a_opens p Active wave bytes o = refl

b_opens : (p : BPlan) (s : BState) (wave : Wave) (bytes : List ℕ) → b_out s ≡ true → b_card p s wave bytes ≡ b_opened p s wave (opened wave bytes)
b_opens p BIdle wave bytes o = refl
b_opens p BReady wave bytes o = refl
b_opens p BProtocol wave bytes o = cc

a_block : (p : APlan) (s : AState) (kind : CardKind) (o : Option (List ℕ)) → IsBlock o → a_out s ≡ true → a_opened p s (wave_of_kind kind) o ≡ (s, Mute)
a_block p s kind None h o = refl
a_block p s kind (Some []) h o = absurd h
a_block p s kinds.A (Some (n ∷ rest)) h o = a_keeps_a p s n rest h o
a_block p s kinds.B (Some (n ∷ rest)) h o = a_keeps_b p s (n ∷ rest) o

b_keeps_a : (p : BPlan) (s : BState) (m : List ℕ) → b_takes p s A m ≡ (s, Mute)
unfolding b_takes
b_keeps_a p s m = refl

b_block : (p : BPlan) (s : BState) (kind : CardKind) (o : Option (List ℕ)) → IsBlock o → b_out s ≡ true → b_opened p s (wave_of_kind kind) o ≡ (s, Mute)
b_block p s kind None h o = refl
b_block p s kind (Some []) h o = absurd h
b_block p s kinds.A (Some (n ∷ rest)) h o = b_keeps_a p s (n ∷ rest)
b_block p s kinds.B (Some (n ∷ rest)) h o = b_keeps_b p s n rest h o

pub card_keeps : (kind : CardKind) (bytes : List ℕ) (c : Outside) → IsBlock (opened (wave_of_kind kind) bytes) → is_out c ≡ true
    → (outside_after (wave_of_kind kind) bytes c ≡ c) × (outside_reply (wave_of_kind kind) bytes c ≡ Mute)
card_keeps kind bytes (OfA p s) h o =
    let e = a_opens p s (wave_of_kind kind) bytes o ∙ a_block p s kind (opened (wave_of_kind kind) bytes) h o in
    (ap (λ (x : AState × CardHear). OfA p x.0) e, ap (λ (x : AState × CardHear). x.1) e)
card_keeps kind bytes (OfB p s) h o =
    let e = b_opens p s (wave_of_kind kind) bytes o ∙ b_block p s kind (opened (wave_of_kind kind) bytes) h o in
    (ap (λ (x : BState × CardHear). OfB p x.0) e, ap (λ (x : BState × CardHear). x.1) e)

-- a card that neither moves nor answers
pub still : (wave : Wave) (bytes : List ℕ) (p : Placed) → outside_after wave bytes p.outside ≡ p.outside → outside_reply wave bytes p.outside ≡ Mute
    → hears_frame p wave bytes ≡ untouched p
still wave bytes p e m = ap (λ r. by_reply p (outside_after wave bytes p.outside) wave bytes r) m ∙ ap (λ o. by_reply p o wave bytes Mute) e

pub either_way : (b : Bool) (x y : CardAfter) → x ≡ y → (if b then x else y) ≡ y
either_way true x y e = e
either_way false x y e = refl

pub block_keeps : (kind : CardKind) (bytes : List ℕ) (room : ℕ) (log : List (ℕ × List ℕ)) (p : Placed) → IsBlock (opened (wave_of_kind kind) bytes) → is_out p.outside ≡ true
    → one_hears room (wave_of_kind kind) bytes log p ≡ untouched p
block_keeps kind bytes room log p h o =
    let k = card_keeps kind bytes p.outside h o in
    either_way (p.present && nat_lt (length log) room) (hears_frame p (wave_of_kind kind) bytes) (untouched p) (still (wave_of_kind kind) bytes p k.0 k.1)

-- the first card does nothing
pub skips : (room : ℕ) (wave : Wave) (bytes : List ℕ) (log : List (ℕ × List ℕ)) (p : Placed) (ps : List Placed) → one_hears room wave bytes log p ≡ untouched p
    → all_hear room wave bytes log (p ∷ ps) ≡ and_then (untouched p) (all_hear room wave bytes log ps)
skips room wave bytes log p ps e =
    ap (λ (t : CardAfter). and_then t (all_hear room wave bytes (log ++ t.executed) ps)) e
    ∙ ap (λ l. and_then (untouched p) (all_hear room wave bytes l ps)) (append-nil log)

pub all_keep : (kind : CardKind) (bytes : List ℕ) (room : ℕ) (log : List (ℕ × List ℕ)) (ps : List Placed) → IsBlock (opened (wave_of_kind kind) bytes) → all_out ps ≡ true
    → all_hear room (wave_of_kind kind) bytes log ps ≡ record { cards = ps; log = log; answers = [] }
all_keep kind bytes room log [] h o = refl
all_keep kind bytes room log (p ∷ ps) h o =
    let parts = and_parts (is_out p.outside) (all_out ps) o in
    skips room (wave_of_kind kind) bytes log p ps (block_keeps kind bytes room log p h parts.0)
    ∙ ap (λ (x : CardsHeard). and_then (untouched p) x) (all_keep kind bytes room log ps h parts.1)

-- what comes down of a block is one, or no good frame
begins : (b : Block) → IsBlock (Some (spelled b))
begins (I false false inf) = refl
begins (I true false inf) = refl
begins (I false true inf) = refl
begins (I true true inf) = refl
begins (RAck false) = refl
begins (RAck true) = refl
begins (RNak false) = refl
begins (RNak true) = refl
begins Deselect = refl
begins (Wtx p m) = refl

pub block_good : (kind : CardKind) (b : Block) → is_good (wave_of_kind kind) (sealed (wave_of_kind kind) (spelled b)) ≡ true
block_good kinds.A b = ends_sealed A (spelled b) (omega arith)
block_good kinds.B b = ends_sealed B (spelled b) (omega arith)

by_arrival : (kind : CardKind) (b : Block) (o : Option (List ℕ)) (bytes : List ℕ) → Arrival (wave_of_kind kind) (sealed (wave_of_kind kind) (spelled b)) o → o ≡ Some bytes
    → IsBlock (opened (wave_of_kind kind) bytes)
by_arrival kind b _ bytes Lost e = cc
by_arrival kind b _ bytes Whole e =
    let same : sealed (wave_of_kind kind) (spelled b) ≡ bytes = cc in
    subst (λ x. IsBlock (opened (wave_of_kind kind) x)) same (subst (λ x. IsBlock x) (sym (opened_spelled kind b)) (begins b))
by_arrival kind b _ bytes (Damaged x d) e =
    let same : x ≡ bytes = cc in
    subst (λ y. IsBlock (opened (wave_of_kind kind) y)) same (subst (λ y. IsBlock y) (sym d) tt)

pub comes_block : (kind : CardKind) (b : Block) (leg : Way) (bytes : List ℕ) → IsWay leg → comes_down leg (wave_of_kind kind) (sealed (wave_of_kind kind) (spelled b)) ≡ Some bytes
    → IsBlock (opened (wave_of_kind kind) bytes)
comes_block kind b leg bytes l e = by_arrival kind b (comes_down leg (wave_of_kind kind) (sealed (wave_of_kind kind) (spelled b))) bytes (arrives leg (wave_of_kind kind) (sealed (wave_of_kind kind) (spelled b)) l (block_good kind b)) e
