-- What holds of values that were accepted.
use Rattle.std.proofs.Common.{◌≡◌, ℕ, ◌+◌, ◌≤◌, ℤ, pos, negsuc, List, [], ◌∷◌, length, Bool, true, false, Option, Some, None, Result, Ok, Err, nat_lt, if◌then◌else◌, refl, ap, ◌∙◌, subst, arith}
use Rattle.std.specs.Prelude.{All, unwrap_or}
use Rattle.std.specs.Option.{ForSome}
use Rattle.std.proofs.lemmas.List.Elements.{All-cons, All-nil}
use Rattle.std.proofs.lemmas.Bool.Decides.{nat_tests}
use Rattle.hex.specs.Hex.{decode_of}
use Rattle.hex.specs.declared.error.FromHexError.{FromHexError}
use Rattle.toml.specs.Data.{Data, Items, no_items, item, as_integer, as_str, get_member}
use Rattle.doc_table.specs.declared.list.ElementKind.{ElementKind}
use Rattle.doc_table.specs.Fault.{Fault}
use Rattle.doc_table.specs.Path.{key_path, element_path}
use Rattle.doc_table.specs.Read.{◌>>=◌, Reader, Place, is_within, within, integer_in, allowed, of_kind, spelled, bytes_that, byte_text, if_there, optional, wanted, required, defaulted, item_count, array_of, counted, items_of_kind, each, list_of}

-- What a reader accepts has this property.
pub record Accepts {A : Type 0} (read : Reader A) (P : A → Type 0) : Type 0 where
  pub is : (path : List ℕ) (d : Data) (x : A) → read path d ≡ Ok x → P x

-- A chain that gave a value gave one at its first step.
pub after : {A B : Type 0} {C : Type 0} (r : Result A Fault) (f : A → Result B Fault) (y : B) → (r >>= f) ≡ Ok y → ((x : A) → r ≡ Ok x → f x ≡ Ok y → C) → C
after (Ok x) f y e next = next x refl e
after (Err e) f y h next = cc

of_kind_ok : {A : Type 0} (path : List ℕ) (o : Option A) (x : A) → of_kind path o ≡ Ok x → o ≡ Some x
of_kind_ok path (Some y) x e = cc
of_kind_ok path None x e = cc

allowed_ok : {A : Type 0} (path : List ℕ) (z : ℤ) (o : Option A) (x : A) → allowed path z o ≡ Ok x → o ≡ Some x
allowed_ok path z (Some y) x e = cc
allowed_ok path z None x e = cc

range_of : (low high m : ℕ) → is_within low high m ≡ true → (low ≤ m) × (m ≤ high)
range_of low high m is = (grind (arith, nat_tests), grind (arith, nat_tests))

if_some : {A : Type 0} (b : Bool) (x y : A) → (if b then Some x else None) ≡ Some y → (b ≡ true) × (x ≡ y)
if_some true x y e = (refl, cc)
if_some false x y e = cc

within_range : (low high : ℕ) (z : ℤ) (n : ℕ) → within low high z ≡ Some n → (low ≤ n) × (n ≤ high)
within_range low high (pos m) n e =
    let h = if_some (is_within low high m) m n e in
    rw (h.1) at (range_of low high m h.0)
within_range low high (negsuc m) n e = cc

pub accepted_integer : (low high : ℕ) → Accepts (integer_in low high) (λ n. (low ≤ n) × (n ≤ high))
accepted_integer low high = record {
  is = λ path d n e. after (of_kind path (as_integer d)) _ n e (λ z _ h. within_range low high z n (allowed_ok path z _ n h));
}

spelled_right : (is_right : List ℕ → Bool) (r : Result (List ℕ) FromHexError) (bytes : List ℕ) → spelled is_right r ≡ Some bytes → is_right bytes ≡ true
spelled_right is_right (Ok bs) bytes e =
    let h = if_some (is_right bs) bs bytes e in
    rw (h.1) at h.0
spelled_right is_right (Err f) bytes e = cc

pub accepted_bytes_that : (is_right : List ℕ → Bool) → Accepts (bytes_that is_right) (λ bytes. is_right bytes ≡ true)
accepted_bytes_that is_right = record {
  is = λ path d bytes e. after (of_kind path (as_str d)) _ bytes e (λ text _ h. spelled_right is_right (decode_of text) bytes (allowed_ok path _ _ bytes h));
}

pub accepted_bytes : (low high : ℕ) → Accepts (byte_text low high) (λ bytes. (low ≤ length bytes) × (length bytes ≤ high))
accepted_bytes low high = record {
  is = λ path d bytes e. range_of low high (length bytes) ((accepted_bytes_that (λ bs. is_within low high (length bs))).is path d bytes e);
}

there : {A : Type 0} (read : Reader A) (P : A → Type 0) (path : List ℕ) (o : Option Data) (found : Option A) → Accepts read P → if_there read path o ≡ Ok found → ForSome found P
there read P path None found h e x is = cc
there {A} read P path (Some d) found h e x is =
    after (read path d) (λ (y : A). Ok (Some y)) found e (λ y ok same. h.is path d x (ok ∙ ap Ok (cc)))

pub accepted_optional : {A : Type 0} (read : Reader A) (P : A → Type 0) (key : List ℕ) (place : Place) (found : Option A) → Accepts read P → optional read key place ≡ Ok found → ForSome found P
accepted_optional read P key place found h e = there read P (key_path place.path key) (get_member key place.members) found h e

wanted_some : {A : Type 0} (path : List ℕ) (found : Option A) (x : A) → wanted path found ≡ Ok x → found ≡ Some x
wanted_some path (Some y) x e = cc
wanted_some path None x e = cc

pub accepted_required : {A : Type 0} (read : Reader A) (P : A → Type 0) (key : List ℕ) (place : Place) (x : A) → Accepts read P → required read key place ≡ Ok x → P x
accepted_required read P key place x h e =
    after (optional read key place) _ x e (λ found ok is. accepted_optional read P key place found h ok x (wanted_some (key_path place.path key) found x is))

or_default : {A : Type 0} (P : A → Type 0) (found : Option A) (x : A) → ForSome found P → P x → P (unwrap_or found x)
or_default P (Some y) x h p = h y refl
or_default P None x h p = p

pub accepted_defaulted : {A : Type 0} (read : Reader A) (P : A → Type 0) (default : A) (key : List ℕ) (place : Place) (x : A) → Accepts read P → P default → defaulted default read key place ≡ Ok x → P x
accepted_defaulted {A} read P default key place x h p e =
    after (optional read key place) _ x e (λ found ok is. let same : unwrap_or found default ≡ x = cc in subst P same (or_default P found default (accepted_optional read P key place found h ok) p))

pub accepted_each : {A : Type 0} (read : Reader A) (P : A → Type 0) (path : List ℕ) (n : ℕ) (ds : Items) (xs : List A) → Accepts read P → each read path n ds ≡ Ok xs → (All P xs) × (length xs ≡ item_count ds)
accepted_each read P path n no_items [] h e = (All-nil P, refl)
accepted_each read P path n no_items (x ∷ xs) h e = cc
accepted_each {A} read P path n (item d ds) xs h e =
    after (read (element_path path n) d) _ xs e (λ first ok more.
    after (each read path (n + 1) ds) (λ (others : List A). Ok (first ∷ others)) xs more (λ others all same.
    let rest = accepted_each read P path (n + 1) ds others h all in
    let is : first ∷ others ≡ xs = cc in
    subst (λ (ys : List A). (All P ys) × (length ys ≡ 1 + item_count ds)) is
    (All-cons P first others (h.is (element_path path n) d first ok) rest.0, omega (arith, rest.1))))

kept : (many short : Bool) (f g : Fault) (ds few : Items) → (if many then Err f else (if short then Err g else Ok ds)) ≡ Ok few → (many ≡ false) × (short ≡ false) × (ds ≡ few)
kept true short f g ds few h = cc
kept false true f g ds few h = cc
kept false false f g ds few h = (refl, refl, cc)

not_less : (a b : ℕ) → nat_lt a b ≡ false → b ≤ a
not_less a b h = grind (arith, nat_tests)

counted_within : (least most : ℕ) (path : List ℕ) (ds few : Items) → counted least most path ds ≡ Ok few → (least ≤ item_count few) × (item_count few ≤ most)
counted_within least most path ds few e =
    let h = kept (nat_lt most (item_count ds)) (nat_lt (item_count ds) least) _ _ ds few e in
    subst (λ (xs : Items). (least ≤ item_count xs) × (item_count xs ≤ most)) h.2 (not_less (item_count ds) least h.1, not_less most (item_count ds) h.0)

-- A list of these lengths whose elements have a property.
pub record IsListOf {A : Type 0} (P : A → Type 0) (low high : ℕ) (xs : List A) : Type 0 where
  pub each : All P xs
  pub least : low ≤ length xs
  pub most : length xs ≤ high

pub accepted_list : {A : Type 0} (kind : ElementKind) (least most : ℕ) (read : Reader A) (P : A → Type 0) → Accepts read P → Accepts (list_of kind least most read) (IsListOf P least most)
accepted_list kind least most read P h = record {
  is = λ path d xs e.
      after (items_of_kind kind least most path d) _ xs e (λ ds counts all.
      let each_is = accepted_each read P path 1 ds xs h all in
      let count : (least ≤ item_count ds) × (item_count ds ≤ most) = after (array_of kind path d) _ ds counts (λ found _ is. counted_within least most path found ds is) in
      record { each = each_is.0; least = omega (arith, each_is.1, count.0); most = omega (arith, each_is.1, count.1) });
}
