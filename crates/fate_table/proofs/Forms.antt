-- A text is read as what it spells, and spells what it is read as.
use Rattle.std.proofs.Common.{◌≡◌, ℕ, ◌≤◌, ◌==◌, ◌&&◌, nat_le, List, [], ◌∷◌, ◌++◌, length, codes, Bool, true, false, Some, None, Result, Ok, Err, option_map, if◌then◌else◌, inl, inr, refl, ap, subst, sym, ◌∙◌, arith, append_assoc}
use Rattle.std.specs.Str.{all_ascii_digits}
use Rattle.std.specs.Str.Parse.{digits_value}
use Rattle.std.specs.Cmp.Lexicographic.{same_text}
use Rattle.std.proofs.lemmas.Bool.{and_parts, eqb-true}
use Rattle.std.proofs.lemmas.Bool.Decides.{nat_tests}
use Rattle.hex.specs.Hex.{decode_of}
use Rattle.hex.specs.declared.error.FromHexError.{FromHexError}
use Rattle.hex.proofs.HexLemmas.{decode_of-ok}
use Rattle.ep_base.specs.Air.Fates.{Way, Passes, Loses, Bursts, Leaves, Fate}
use Rattle.ep_base.specs.Cards.Apdu.{same_bytes}
use Rattle.ep_base.specs.Streams.Words.{split_word}
use Rattle.ep_base.specs.declared.limits.TheConstants.{LAST_START}
use Rattle.doc_table.specs.Read.{is_within, sized}
use Rattle.fate_table.specs.Tokens.{is_start, start_spelled, mask_of, mask_spelled, cut_at_colon, after_letter, burst_spelled, way_of_text, fate_of_text}
use Rattle.fate_table.specs.Forms.{SpellsStart, SpellsMask, SpellsBurst, SpellsWay, SpellsFate}
use Rattle.fate_table.proofs.Cuts.{HasNone, none_append, digits_have_none, hex_has_none, cut_word, cut_is, same_value}
use Rattle.fate_table.proofs.Spelled.{after_some}
use Rattle.fate_table.proofs.Starts.{own}

if_some : {A : Type 0} (b : Bool) (x y : A) → (if b then Some x else None) ≡ Some y → (b ≡ true) × (x ≡ y)
if_some true x y e = (refl, same_value x y e)
if_some false x y e = cc

start_is : (digits : List ℕ) (start : ℕ) → start_spelled digits ≡ Some start → SpellsStart digits start
start_is digits start e =
    let h = if_some (is_start digits) (digits_value 10 digits) start e in
    let parts = and_parts (is_within 1 4 (length digits)) (all_ascii_digits digits && nat_le (digits_value 10 digits) LAST_START) h.0 in
    let more = and_parts (all_ascii_digits digits) (nat_le (digits_value 10 digits) LAST_START) parts.1 in
    let within = and_parts (nat_le 1 (length digits)) (nat_le (length digits) 4) parts.0 in
    let most : digits_value 10 digits ≤ LAST_START = grind (arith, nat_tests, more.1) in
    record {
      some = grind (arith, nat_tests, within.0);
      few = grind (arith, nat_tests, within.1);
      all = own.to digits more.0;
      value = h.1;
      most = rw h.1 at most;
    }

start_read : (digits : List ℕ) (start : ℕ) → SpellsStart digits start → start_spelled digits ≡ Some start
start_read digits start s =
    let all : all_ascii_digits digits ≡ true = own.from digits s.all in
    let below : nat_le (digits_value 10 digits) LAST_START ≡ true = grind (arith, nat_tests, s.value, s.most) in
    let within : is_within 1 4 (length digits) ≡ true = grind (arith, nat_tests, s.some, s.few) in
    rw (within, all, below) (ap Some s.value)

mask_of_two : (digits bytes : List ℕ) (mask : ℕ) → decode_of digits ≡ Ok bytes → length bytes ≡ 2 → mask_of bytes ≡ mask → SpellsMask digits mask
mask_of_two digits [] mask is two e = absurd (omega arith)
mask_of_two digits (high ∷ []) mask is two e = absurd (omega arith)
mask_of_two digits (high ∷ low ∷ []) mask is two e = record { high = high; low = low; bytes = is; value = e }
mask_of_two digits (high ∷ low ∷ c ∷ rest) mask is two e = absurd (omega arith)

mask_sized : (digits bytes : List ℕ) (b : Bool) (mask : ℕ) → decode_of digits ≡ Ok bytes → is_within 2 2 (length bytes) ≡ b → option_map mask_of (if b then Some bytes else None) ≡ Some mask → SpellsMask digits mask
mask_sized digits bytes true mask is within e =
    let two : length bytes ≡ 2 = grind (arith, nat_tests, within) in
    mask_of_two digits bytes mask is two (same_value (mask_of bytes) mask e)
mask_sized digits bytes false mask is within e = cc

mask_by : (digits : List ℕ) (r : Result (List ℕ) FromHexError) (mask : ℕ) → decode_of digits ≡ r → option_map mask_of (sized 2 2 r) ≡ Some mask → SpellsMask digits mask
mask_by digits (Ok bytes) mask is e = mask_sized digits bytes (is_within 2 2 (length bytes)) mask is refl e
mask_by digits (Err f) mask is e = cc

mask_is : (digits : List ℕ) (mask : ℕ) → mask_spelled digits ≡ Some mask → SpellsMask digits mask
mask_is digits mask e = mask_by digits (decode_of digits) mask refl e

mask_read : (digits : List ℕ) (mask : ℕ) → SpellsMask digits mask → mask_spelled digits ≡ Some mask
mask_read digits mask s = rw s.bytes (ap Some s.value)

letter_is : (token text : List ℕ) → after_letter token ≡ Some text → token ≡ 98 ∷ text
letter_is [] text e = cc
letter_is (c ∷ rest) text e =
    let h = if_some (c == 98) rest text e in
    rw (eqb-true c 98 h.0, h.1) refl

burst_is : (token : List ℕ) (leg : Way) → burst_spelled token ≡ Some leg → SpellsWay token leg
burst_is token leg e =
    after_some (after_letter token) _ leg e (λ text is_text e1.
    after_some (cut_at_colon text) _ leg e1 (λ parts is_parts e2.
    after_some (start_spelled parts.0) _ leg e2 (λ start is_start e3.
    after_some (mask_spelled parts.1) (λ mask. Some (Bursts start mask)) leg e3 (λ mask is_mask e4.
    let colon : text ≡ parts.0 ++ 58 ∷ parts.1 = cut_is 58 text parts is_parts in
    let whole : token ≡ 98 ∷ (parts.0 ++ 58 ∷ parts.1) = letter_is token text is_text ∙ ap (λ (rest : List ℕ). 98 ∷ rest) colon in
    let spelt : SpellsBurst token start mask = record {
      digits = parts.0;
      bits = parts.1;
      parts = whole ∙ sym (leaning parts.0 parts.1);
      starts = start_is parts.0 start is_start;
      inverts = mask_is parts.1 mask is_mask;
    } in
    subst (λ (l : Way). SpellsWay token l) (same_value (Bursts start mask) leg e4) spelt)))) where
      leaning : (digits bits : List ℕ) → codes "b" ++ digits ++ codes ":" ++ bits ≡ 98 ∷ (digits ++ 58 ∷ bits)
      leaning digits bits = simp append_assoc refl

sign_is : (token : List ℕ) (found leg : Way) → SpellsWay token found → Some found ≡ Some leg → SpellsWay token leg
sign_is token found leg spelt e = subst (λ (l : Way). SpellsWay token l) (same_value found leg e) spelt

way_by : (token : List ℕ) (leg : Way) (passes loses leaves : Bool) → same_bytes token (codes "-") ≡ passes → same_bytes token (codes "x") ≡ loses → same_bytes token (codes "v") ≡ leaves
    → (if passes then Some Passes else (if loses then Some Loses else (if leaves then Some Leaves else burst_spelled token))) ≡ Some leg → SpellsWay token leg
way_by token leg true loses leaves is_pass is_lose is_leave e = sign_is token Passes leg (same_text token (codes "-") (sym is_pass)) e
way_by token leg false true leaves is_pass is_lose is_leave e = sign_is token Loses leg (same_text token (codes "x") (sym is_lose)) e
way_by token leg false false true is_pass is_lose is_leave e = sign_is token Leaves leg (same_text token (codes "v") (sym is_leave)) e
way_by token leg false false false is_pass is_lose is_leave e = burst_is token leg e

way_is : (token : List ℕ) (leg : Way) → way_of_text token ≡ Some leg → SpellsWay token leg
way_is token leg e = way_by token leg (same_bytes token (codes "-")) (same_bytes token (codes "x")) (same_bytes token (codes "v")) refl refl refl e

burst_text : (token : List ℕ) (start mask : ℕ) (s : SpellsBurst token start mask) → token ≡ 98 ∷ (s.digits ++ 58 ∷ s.bits)
burst_text token start mask s = s.parts ∙ simp append_assoc refl

burst_read : (digits bits : List ℕ) (start mask : ℕ) → SpellsStart digits start → SpellsMask bits mask → way_of_text (98 ∷ (digits ++ 58 ∷ bits)) ≡ Some (Bursts start mask)
burst_read digits bits start mask starts inverts =
    let colon : cut_at_colon (digits ++ 58 ∷ bits) ≡ Some (digits, bits) = cut_word 58 digits bits (digits_have_none 58 digits (inr (omega arith)) starts.all) in
    rw (colon, start_read digits start starts, mask_read bits mask inverts) refl

way_read : (token : List ℕ) (leg : Way) → SpellsWay token leg → way_of_text token ≡ Some leg
way_read token Passes s = rw s refl
way_read token Loses s = rw s refl
way_read token Leaves s = rw s refl
way_read token (Bursts start mask) s = rw (burst_text token start mask s) (burst_read s.digits s.bits start mask s.starts s.inverts)

burst_has_none : (digits bits : List ℕ) (start mask : ℕ) → SpellsStart digits start → SpellsMask bits mask → HasNone 32 (98 ∷ (digits ++ 58 ∷ bits))
burst_has_none digits bits start mask starts inverts =
    let hex : HasNone 32 bits = hex_has_none bits (decode_of-ok bits (inverts.high ∷ inverts.low ∷ []) inverts.bytes).1 in
    (refl, none_append 32 digits (58 ∷ bits) (digits_have_none 32 digits (inl (omega arith)) starts.all) (refl, hex))

way_has_none : (token : List ℕ) (leg : Way) → SpellsWay token leg → HasNone 32 token
way_has_none token Passes s = rw s (refl, tt)
way_has_none token Loses s = rw s (refl, tt)
way_has_none token Leaves s = rw s (refl, tt)
way_has_none token (Bursts start mask) s = rw (burst_text token start mask s) (burst_has_none s.digits s.bits start mask s.starts s.inverts)

pub read_spells : (text : List ℕ) (one_fate : Fate) → fate_of_text text ≡ Some one_fate → SpellsFate text one_fate
unfolding fate_of_text split_word
read_spells text one_fate e =
    after_some (split_word text) _ one_fate e (λ parts is_parts e1.
    after_some (way_of_text parts.0) _ one_fate e1 (λ down is_down e2.
    after_some (way_of_text parts.1) (λ up. Some (record { down = down; up = up })) one_fate e2 (λ up is_up e3.
    let made : Fate = record { down = down; up = up } in
    let space : text ≡ parts.0 ++ 32 ∷ parts.1 = cut_is 32 text parts is_parts in
    let spelt : SpellsFate text made = record {
      down = parts.0;
      up = parts.1;
      parts = space ∙ (simp append_assoc refl);
      goes_down = way_is parts.0 down is_down;
      comes_up = way_is parts.1 up is_up;
    } in
    subst (λ (p : Fate). SpellsFate text p) (same_value made one_fate e3) spelt)))

pub spelt_is_read : (text : List ℕ) (one_fate : Fate) → SpellsFate text one_fate → fate_of_text text ≡ Some one_fate
unfolding fate_of_text split_word
spelt_is_read text one_fate s =
    let whole : text ≡ s.down ++ 32 ∷ s.up = s.parts ∙ (simp append_assoc refl) in
    let space : split_word (s.down ++ 32 ∷ s.up) ≡ Some (s.down, s.up) = cut_word 32 s.down s.up (way_has_none s.down one_fate.down s.goes_down) in
    rw (whole, space, way_read s.down one_fate.down s.goes_down, way_read s.up one_fate.up s.comes_up) refl
