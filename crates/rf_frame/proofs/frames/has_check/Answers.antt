use Rattle.std.proofs.Common.{◌-◌, ◌≤◌, ◌%◌, ◌/◌, nat_eq, sym, ap, ◌∙◌, length, drop, get_or, arith, eq-eqb, ne_eqb}
use Rattle.std.specs.Int.Bits.{and_mask}
use Rattle.ep_base.specs.Air.Frame.{check_of}
use Rattle.rf_frame.proofs.Sealing.{ends_in_check-short, ends_in_check-long, both-first, both-none}
use Rattle.rf_frame.proofs.frames.has_check.Goals as goal

pub returns-then-bytes-lt3 : goal.returns-then-bytes-lt3
returns-then-bytes-lt3 c = sym (ends_in_check-short c.args.wave c.args.bytes.now c.if-bytes-lt3.true)

pub returns-then-from-sum : goal.returns-then-from-sum
returns-then-from-sum c =
    let bytes = c.args.bytes.now in
    let sum = c.check-sum.result in
    let long : 3 ≤ length bytes = omega arith in
    let back = c.split_at.ensures.back in
    let low = eq-eqb _ _ (ap (λ l. get_or l 0 0) (sym back) ∙ sym c.from.ensures ∙ c.if-from-sum.true ∙ and_mask sum 8) in
    ap (λ x. nat_eq x (sum / 256)) (c.from-then-from-sum.ensures ∙ ap (λ l. get_or l 1 0) back)
    ∙ sym (ends_in_check-long c.args.wave bytes sum long (c.check-sum.ensures ∙ ap (λ l. check_of c.args.wave l) c.split_at.ensures.front)
    ∙ both-first _ _ low)

pub returns-else-from-sum : goal.returns-else-from-sum
returns-else-from-sum c =
    let bytes = c.args.bytes.now in
    let sum = c.check-sum.result in
    let long : 3 ≤ length bytes = omega arith in
    let back = c.split_at.ensures.back in
    let apart = ne_eqb (get_or (drop (length bytes - 2) bytes) 0 0) (sum % 256)
    (λ e. c.if-from-sum.false (c.from.ensures ∙ ap (λ l. get_or l 0 0) back ∙ e ∙ sym (and_mask sum 8))) in
    ne_eqb _ _ c.if-from-sum.false
    ∙ sym (ends_in_check-long c.args.wave bytes sum long (c.check-sum.ensures ∙ ap (λ l. check_of c.args.wave l) c.split_at.ensures.front)
    ∙ both-none _ _ apart)
