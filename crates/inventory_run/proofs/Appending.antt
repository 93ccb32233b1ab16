-- Texts one after another on a sink, and first parts of them.
use Rattle.std.proofs.Common.{◌≡◌, ℕ, ◌+◌, ◌≤◌, List, [], ◌++◌, length, take, sym, subst, arith, length-append, append-nil}
use Rattle.std.specs.Prelude.{Some, None, Result, Ok, Err, OnOk, OnErr}
use Rattle.std.specs.declared.option.Option.{Option}
use Rattle.std.specs.Io.KnownBytes.{Appends}
use Rattle.std.proofs.Math.Seq.{take-append-add}
use Rattle.std.proofs.lemmas.List.{take-append-le}
use Rattle.ep_base.specs.Streams.Io.{AppendsPrefix}
use Rattle.ep_base.proofs.Known.{appends_more}

-- Some text, and a first part of more.
prefix_more : (a b c : Option (List ℕ)) (xs ys : List ℕ) → Appends a b xs → AppendsPrefix b c ys → AppendsPrefix a c (xs ++ ys)
prefix_more a b c xs ys whole part = (
  length xs + part.0,
  omega (arith, length-append xs ys, part.1),
  subst (λ l. Appends a c l) (sym (take-append-add xs ys part.0)) (appends_more a b c xs (take part.0 ys) whole part.2),
)

-- A first part of a text is one of a longer text.
pub prefix_front : (a c : Option (List ℕ)) (xs ys : List ℕ) → AppendsPrefix a c xs → AppendsPrefix a c (xs ++ ys)
prefix_front a c xs ys part = (
  part.0,
  omega (arith, length-append xs ys, part.1),
  subst (λ l. Appends a c l) (sym (take-append-le part.0 xs ys part.1)) part.2,
)

-- A text is a front and more: where the front was written, what writes the rest writes the text.
pub whole_next : (a b : Option (List ℕ)) (front more text : List ℕ) → text ≡ front ++ more → Appends a b front
    → (w : Option (List ℕ)) → Appends b w more → Appends a w text
whole_next a b front more text at wrote w rest = subst (λ t. Appends a w t) (sym at) (appends_more a b w front more wrote rest)

pub part_next : (a b : Option (List ℕ)) (front more text : List ℕ) → text ≡ front ++ more → Appends a b front
    → (w : Option (List ℕ)) → AppendsPrefix b w more → AppendsPrefix a w text
part_next a b front more text at wrote w rest = subst (λ t. AppendsPrefix a w t) (sym at) (prefix_more a b w front more wrote rest)

-- A first part of the front is one of the text.
pub part_front : (a w : Option (List ℕ)) (front more text : List ℕ) → text ≡ front ++ more → AppendsPrefix a w front → AppendsPrefix a w text
part_front a w front more text at part = subst (λ t. AppendsPrefix a w t) (sym at) (prefix_front a w front more part)

-- Nothing more is written.
pub whole_nothing : (a : Option (List ℕ)) (text : List ℕ) → text ≡ [] → Appends a a text
whole_nothing None text at = tt
whole_nothing (Some xs) text at = subst (λ t. Appends (Some xs) (Some xs) t) (sym at) (sym (append-nil xs))

-- A text after another one, where a sink failed or didn't.
pub whole_then : {T E : Type 0} (r : Result T E) (a b w : Option (List ℕ)) (front more : List ℕ) → Appends a b front
    → OnOk r (Appends b w more) → OnOk r (Appends a w (front ++ more))
whole_then (Ok v) a b w front more wrote h = appends_more a b w front more wrote h
whole_then (Err e) a b w front more wrote h = tt

pub part_then : {T E : Type 0} (r : Result T E) (a b w : Option (List ℕ)) (front more : List ℕ) → Appends a b front
    → OnErr r (AppendsPrefix b w more) → OnErr r (AppendsPrefix a w (front ++ more))
part_then (Ok v) a b w front more wrote h = tt
part_then (Err e) a b w front more wrote h = prefix_more a b w front more wrote h
