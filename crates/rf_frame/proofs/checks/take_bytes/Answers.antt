use Rattle.std.proofs.Common.{sym, ap, ◌∙◌, refl, get_or, take_all, rules}
use Rattle.ep_base.specs.Air.Check.{register_after, low_bits, sent_bits}
use Rattle.rf_frame.proofs.Register.{register_after-more_bytes}
use Rattle.rf_frame.proofs.checks.take_bytes.Goals as goal

pub loop-byte-init : goal.loop-byte-init
unfolding register_after sent_bits
loop-byte-init c = refl

pub loop-byte-preserved : goal.loop-byte-preserved
loop-byte-preserved c =
    c.take_byte-register.ensures
    ∙ ap (λ r. register_after r (low_bits 8 (get_or c.args.bytes.now c.loop-byte.byte-index 0))) c.loop-byte.invariant
    ∙ sym (register_after-more_bytes c.args.register c.args.bytes.now c.loop-byte.byte-index c.loop-byte-test.true)

pub returns : goal.returns
returns c = c.loop-byte.invariant ∙ ap (λ l. register_after c.args.register (sent_bits l)) (take_all _ _ (search rules))
