-- What tokens spell is within its limits.
use Rattle.std.proofs.Common.{◌≡◌, ℕ, ◌<◌, ◌^◌, List, length, Bool, true, false, Option, Some, None, Result, Ok, Err, codes, option_map, if◌then◌else◌, refl, subst, arith}
use Rattle.std.specs.Prelude.{slice_index}
use Rattle.hex.specs.Hex.{decode_of}
use Rattle.hex.specs.declared.error.FromHexError.{FromHexError}
use Rattle.hex.proofs.HexLemmas.{decode_of-ok}
use Rattle.ep_base.specs.Air.Fates.{Way, Passes, Loses, Bursts, Leaves, IsWay, Fate}
use Rattle.ep_base.specs.Cards.Apdu.{same_bytes}
use Rattle.ep_base.specs.Streams.Words.{◌>>=◌, split_word}
use Rattle.doc_table.specs.Read.{is_within, sized}
use Rattle.fate_table.specs.Tokens.{start_spelled, mask_of, mask_spelled, cut_at_colon, after_letter, burst_spelled, way_of_text, fate_of_text}

-- A reading that gave a value gave one at its first step.
pub after_some : {X Y : Type 0} {C : Type 0} (o : Option X) (f : X → Option Y) (y : Y) → (o >>= f) ≡ Some y → ((x : X) → o ≡ Some x → f x ≡ Some y → C) → C
after_some (Some x) f y e next = next x refl e
after_some None f y e next = cc

sized_mask : (b : Bool) (bytes : List ℕ) (mask : ℕ) → ((k : ℕ) → slice_index bytes k < 256) → option_map mask_of (if b then Some bytes else None) ≡ Some mask → mask < 2 ^ 16
sized_mask true bytes mask small e =
    let is : mask_of bytes ≡ mask = cc in
    omega (arith, small 0, small 1, is)
sized_mask false bytes mask small e = cc

mask_by : (digits : List ℕ) (r : Result (List ℕ) FromHexError) (mask : ℕ) → decode_of digits ≡ r → option_map mask_of (sized 2 2 r) ≡ Some mask → mask < 2 ^ 16
mask_by digits (Ok bytes) mask is e = sized_mask (is_within 2 2 (length bytes)) bytes mask ((decode_of-ok digits bytes is).3) e
mask_by digits (Err f) mask is e = cc

mask_small : (digits : List ℕ) (mask : ℕ) → mask_spelled digits ≡ Some mask → mask < 2 ^ 16
mask_small digits mask e = mask_by digits (decode_of digits) mask refl e

burst_is : (token : List ℕ) (leg : Way) → burst_spelled token ≡ Some leg → IsWay leg
burst_is token leg e =
    after_some (after_letter token) _ leg e (λ text _ e1.
    after_some (cut_at_colon text) _ leg e1 (λ parts _ e2.
    after_some (start_spelled parts.0) _ leg e2 (λ start _ e3.
    after_some (mask_spelled parts.1) (λ mask. Some (Bursts start mask)) leg e3 (λ mask is e4.
    let same : Bursts start mask ≡ leg = cc in
    subst IsWay same (mask_small parts.1 mask is)))))

way_by : (passes loses leaves : Bool) (burst : Option Way) (leg : Way) → ((l : Way) → burst ≡ Some l → IsWay l) → (if passes then Some Passes else (if loses then Some Loses else (if leaves then Some Leaves else burst))) ≡ Some leg → IsWay leg
way_by true loses leaves burst leg is e = let same : Passes ≡ leg = cc in subst IsWay same tt
way_by false true leaves burst leg is e = let same : Loses ≡ leg = cc in subst IsWay same tt
way_by false false true burst leg is e = let same : Leaves ≡ leg = cc in subst IsWay same tt
way_by false false false burst leg is e = is leg e

way_is : (token : List ℕ) (leg : Way) → way_of_text token ≡ Some leg → IsWay leg
way_is token leg e = way_by (same_bytes token (codes "-")) (same_bytes token (codes "x")) (same_bytes token (codes "v")) (burst_spelled token) leg (burst_is token) e

-- The bursts of an exchange that is spelled are within their bounds.
pub fate_is : (text : List ℕ) (one_fate : Fate) → fate_of_text text ≡ Some one_fate → IsWay one_fate.down × IsWay one_fate.up
unfolding fate_of_text
fate_is text one_fate e =
    after_some (split_word text) _ one_fate e (λ parts _ e1.
    after_some (way_of_text parts.0) _ one_fate e1 (λ down is_down e2.
    after_some (way_of_text parts.1) (λ up. Some (record { down = down; up = up })) one_fate e2 (λ up is_up e3.
    let made : Fate = record { down = down; up = up } in
    let same : made ≡ one_fate = cc in
    subst (λ (p : Fate). IsWay p.down × IsWay p.up) same (way_is parts.0 down is_down, way_is parts.1 up is_up))))
