use Rattle.std.proofs.Common.{◌≡◌, length, take, sym, ap, ◌∙◌, arith}
use Rattle.std.proofs.lemmas.List.{length-take-le}
use Rattle.inventory.specs.Bits.{bits_of, known_bits, shared}
use Rattle.inventory.proofs.Sharing.{begins_by_length, length_by_begins, test_is}
use Rattle.inventory.proofs.Spelling.{length_four}
use Rattle.inventory.proofs.bits.begins.Goals as goal

pub returns : goal.returns
returns c =
    let known = c.args.known.now in
    let four : length (bits_of known.bytes) ≡ 32 = length_four known.bytes c.agreement.ensures.four in
    let most = c.agreement.ensures.most in
    let whole : length (known_bits known) ≡ known.bits = length-take-le known.bits (bits_of known.bytes) (omega (arith, four, c.requires)) in
    let part : length (take c.agreement.result (bits_of known.bytes)) ≡ c.agreement.result = length-take-le c.agreement.result (bits_of known.bytes) (omega (arith, four, c.requires, most)) in
    let e : length (shared (known_bits known) (bits_of c.args.bytes.now)) ≡ c.agreement.result = ap length (sym c.agreement.ensures.shared) ∙ part in
    test_is c.agreement.result known.bits _
    (λ same. begins_by_length (known_bits known) (bits_of c.args.bytes.now) (e ∙ same ∙ sym whole))
    (λ goes. sym e ∙ length_by_begins (known_bits known) (bits_of c.args.bytes.now) goes ∙ whole)
