use Rattle.std.proofs.Common.{◌≡◌, ℕ, ◌+◌, true, false, List, ◌∷◌, ◌++◌, length, refl, ap, ◌∙◌, arith}
use Rattle.ep_base.specs.declared.objects.Node.{Node}
use Rattle.ep_base.specs.Objects.Forest.{primitive, constructed, spelling, nodes}
use Rattle.tlv_core.proofs.laws.written_again.Goals as goal

pub returns-clause-primitive : goal.returns-clause-primitive
returns-clause-primitive c = λ n tag len value rest t l plain is.
    let at : length tag + length len ≡ 0 + (length tag + length len) = omega arith in
    let seen : ℕ → ℕ → List Node =
    λ k p. (record { depth = 0; tag = k; constructed = false; at = p; len = length value }) ∷ nodes 0 (p + length value) rest in
    (primitive tag len value rest, ((t.is_tag, λ e. omega arith), plain, l.is_length, is), refl, ap (seen n) at ∙ ap (λ (k : ℕ). seen k (0 + (length tag + length len))) t.number)

pub returns-clause-constructed : goal.returns-clause-constructed
returns-clause-constructed c = λ n tag len inner rest t l is_con inner_is is.
    let at : length tag + length len ≡ 0 + (length tag + length len) = omega arith in
    let seen : ℕ → ℕ → List Node =
    λ k p. (record { depth = 0; tag = k; constructed = true; at = p; len = length (spelling inner) }) ∷ (nodes 1 p inner ++ nodes 0 (p + length (spelling inner)) rest) in
    (constructed tag len inner rest, ((t.is_tag, λ e. omega arith), is_con, l.is_length, inner_is, is), refl, ap (seen n) at ∙ ap (λ (k : ℕ). seen k (0 + (length tag + length len))) t.number)
