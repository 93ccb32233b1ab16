-- What was written, as an equation, and where nothing more comes.
use Rattle.std.proofs.Common.{◌≡◌, ℕ, List, [], append-nil, Option, Some, None, is_some, refl, sym, ap, subst}
use Rattle.std.specs.Io.KnownBytes.{Appends}
use Rattle.lane_run.specs.Written.{with_text}

-- Nothing more is written.
pub whole_nothing : (a : Option (List ℕ)) (text : List ℕ) → text ≡ [] → Appends a a text
whole_nothing None text at = tt
whole_nothing (Some xs) text at = subst (λ t. Appends (Some xs) (Some xs) t) (sym at) (sym (append-nil xs))

-- What was appended was written since the start, where the bytes written stay told.
pub written_with : (a b : Option (List ℕ)) (text : List ℕ) → is_some b ≡ is_some a → Appends a b text → b ≡ with_text a text
written_with None None text told wrote = refl
written_with None (Some ys) text told wrote = absurd (let clash : ⊥ = cc in clash)
written_with (Some xs) None text told wrote = absurd wrote
written_with (Some xs) (Some ys) text told wrote = ap Some wrote
