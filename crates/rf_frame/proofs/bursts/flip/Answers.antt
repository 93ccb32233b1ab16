use Rattle.std.proofs.Common.{Bool, subst, IsTrue, ◌<◌, ◌≡◌, ◌≤◌, ◌-◌, ◌*◌, ◌/◌, ◌%◌, ◌^◌, length, not, eqb, take, drop, arith, sym, ap, ◌∙◌, le_of_lt}
use Rattle.std.specs.List.{refill}
use borrow.Rule.Slice.PartMut.{put_mid}
use Rattle.ep_base.specs.Air.Frame.{bit_count, inverted, burst_bits, FallsOn}
use Rattle.rf_frame.proofs.Inverted.{inverted-zero, inverted_part, burst_bits_within, burst_bits_past, bit_count-le, shifted_by_bytes, eqb-shifted}
use Rattle.rf_frame.proofs.Places.{InvertsEach-after, hits-FallsOn}
use Rattle.rf_frame.proofs.bursts.flip.Goals as goal

pub returns-then-start-bits-clause-after : goal.returns-then-start-bits-clause-after
returns-then-start-bits-clause-after c =
    let items = c.args.frame.now.items in
    let past = c.if-start-bits.true in
    let count = c.sent_bit_count-bits.ensures ∙ ap (λ n. bit_count c.args.wave n) c.len.ensures.value in
    sym (ap (λ p. inverted p items) (burst_bits_past c.args.wave c.args.burst.start c.args.burst.mask (length items) (rw (← count) past))
    ∙ inverted-zero items)

pub returns-then-start-bits-clause-flipped : goal.returns-then-start-bits-clause-flipped
returns-then-start-bits-clause-flipped c =
    let items = c.args.frame.now.items in
    let past = c.if-start-bits.true in
    let count = c.sent_bit_count-bits.ensures ∙ ap (λ n. bit_count c.args.wave n) c.len.ensures.value in
    sym (ap (λ p. not (eqb p 0)) (burst_bits_past c.args.wave c.args.burst.start c.args.burst.mask (length items) (rw (← count) past)))

pub returns-clause-after : goal.returns-clause-after
returns-clause-after c =
    let items = c.args.frame.now.items in
    let start = c.args.burst.start in
    let cut = c.cut_mask-cut.result in
    let inside = c.if-start-bits.false in
    let count = c.sent_bit_count-bits.ensures ∙ ap (λ n. bit_count c.args.wave n) c.len.ensures.value in
    let room : start ≤ bit_count c.args.wave (length items) = rw (← count) (le_of_lt inside) in
    let within : start / 8 ≤ length items = omega (arith, bit_count-le c.args.wave (length items)) in
    let bits : burst_bits c.args.wave start c.args.burst.mask (length items) ≡ cut * 2 ^ start =
    burst_bits_within c.args.wave start c.args.burst.mask (length items) room
    ∙ ap (λ n. (c.args.burst.mask % 2 ^ (n - start)) * 2 ^ start) (sym count)
    ∙ ap (λ x. x * 2 ^ start) (sym c.cut_mask-cut.ensures.value) in
    let same = c.as_mut_slice-bytes.ensures.value in
    let wide = cut * 2 ^ (start % 8) % 2 ^ 32 in
    let written = c.invert.ensures ∙ ap (λ l. inverted wide (take (length l - start / 8) (drop (start / 8) l))) same in
    ap (λ l. refill (length items) items (put_mid (start / 8) (length l - start / 8) l c.invert.new.bytes)) same
    ∙ inverted_part items c.invert.new.bytes (start / 8) wide within written
    ∙ ap (λ p. inverted p items) (shifted_by_bytes cut start c.cut_mask-cut.ensures.fits ∙ sym bits)

pub returns-clause-flipped : goal.returns-clause-flipped
returns-clause-flipped c =
    let items = c.args.frame.now.items in
    let start = c.args.burst.start in
    let inside = c.if-start-bits.false in
    let count = c.sent_bit_count-bits.ensures ∙ ap (λ n. bit_count c.args.wave n) c.len.ensures.value in
    let room : start ≤ bit_count c.args.wave (length items) = rw (← count) (le_of_lt inside) in
    let bits : burst_bits c.args.wave start c.args.burst.mask (length items) ≡ c.cut_mask-cut.result * 2 ^ start =
    burst_bits_within c.args.wave start c.args.burst.mask (length items) room
    ∙ ap (λ n. (c.args.burst.mask % 2 ^ (n - start)) * 2 ^ start) (sym count)
    ∙ ap (λ x. x * 2 ^ start) (sym c.cut_mask-cut.ensures.value) in
    ap not (sym (eqb-shifted c.cut_mask-cut.result start) ∙ ap (λ x. eqb x 0) (sym bits))

pub returns-then-start-bits-clause-places : goal.returns-then-start-bits-clause-places
returns-then-start-bits-clause-places c =
    InvertsEach-after c.args.wave c.args.burst.start c.args.burst.mask c.args.frame.now.items _ (returns-then-start-bits-clause-after c)

pub returns-clause-places : goal.returns-clause-places
returns-clause-places c =
    InvertsEach-after c.args.wave c.args.burst.start c.args.burst.mask c.args.frame.now.items _ (returns-clause-after c)

pub returns-clause-cause : goal.returns-clause-cause
returns-clause-cause c =
    let items = c.args.frame.now.items in
    let small : c.args.burst.mask < 2 ^ 16 = omega arith in
    let P : Bool → Type 0 = λ b. (IsTrue b → FallsOn c.args.wave c.args.burst.start c.args.burst.mask (length items)) × (FallsOn c.args.wave c.args.burst.start c.args.burst.mask (length items) → IsTrue b) in
    subst P (sym (returns-clause-flipped c)) (hits-FallsOn c.args.wave c.args.burst.start c.args.burst.mask items small)
