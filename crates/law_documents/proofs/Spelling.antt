-- Texts of hexadecimal digits that are accepted spell bytes.
use Rattle.std.proofs.Common.{◌≡◌, ℕ, ℤ, Bool, List, Option, Some, None, Result, Ok, Err, refl, subst}
use Rattle.hex.specs.Hex.{IsBytes, decode_of}
use Rattle.hex.specs.declared.error.FromHexError.{FromHexError}
use Rattle.hex.proofs.HexLemmas.{decode_of-ok}
use Rattle.toml.specs.Data.{as_str}
use Rattle.doc_table.specs.Read.{allowed, of_kind, spelled, bytes_that}
use Rattle.doc_table.proofs.Accepted.{Accepts, after}
use Rattle.law_documents.proofs.Parts.{IfThere, either}

spelled_bytes : (is_right : List ℕ → Bool) (text : List ℕ) (r : Result (List ℕ) FromHexError) → decode_of text ≡ r → IfThere IsBytes (spelled is_right r)
spelled_bytes is_right text (Ok bytes) is = either (IfThere IsBytes) (is_right bytes) _ _ ((decode_of-ok text bytes is).3) tt
spelled_bytes is_right text (Err e) is = tt

allowed_there : {A : Type 0} (P : A → Type 0) (path : List ℕ) (z : ℤ) (o : Option A) (x : A) → IfThere P o → allowed path z o ≡ Ok x → P x
allowed_there P path z (Some y) x h e = let same : y ≡ x = cc in subst P same h
allowed_there P path z None x h e = cc

-- Whatever else is asked of them.
pub accepted_spelling : (is_right : List ℕ → Bool) → Accepts (bytes_that is_right) IsBytes
accepted_spelling is_right = record {
  is = λ path d bytes e.
      after (of_kind path (as_str d)) _ bytes e (λ text _ h.
      allowed_there IsBytes path _ (spelled is_right (decode_of text)) bytes (spelled_bytes is_right text (decode_of text) refl) h);
}
