use Rattle.std.proofs.Common.{◌≡◌, ◌-◌, suc, arith, sym, ◌∙◌}
use Rattle.arrayvec.specs.ArrayVec.{array_vec_len}
use Rattle.ep_base.specs.Poll.Polling.{PlaysRounds}
use Rattle.ep_base.specs.declared.limits.TheConstants.{ROUNDS}
use Rattle.rf_frame.specs.Meaning.{round_end_of}
use Rattle.poll_activate.specs.Meaning.{ends_of}
use Rattle.poll_activate.proofs.Repeating.{found, lost, none, one_more, ends_more, without_more}
use Rattle.poll_activate.proofs.polling.poll.Goals as goal

pub returns-in-Err-clause-plays : goal.returns-in-Err-clause-plays
returns-in-Err-clause-plays g c =
    let k : ROUNDS - array_vec_len c.each.rounds ≡ suc (ROUNDS - 1 - array_vec_len c.each.rounds) = omega (arith, c.each-test.true, c.len.ensures.value) in
    lost g.M.Medium.steps c.args.fsdi (λ ends polled t. PlaysRounds g.M.Medium.steps c.args.fsdi ROUNDS (g.M.Medium.state c.args.medium.now) ends polled t)
    (ends_of c.each.rounds.items) (ROUNDS - 1 - array_vec_len c.each.rounds) (g.M.Medium.state c.each.medium) (g.M.Medium.state c.round.new.medium)
    (rw k at c.each.invariant.onward) c.in-Err.ensures.plays

pub returns-in-Some-clause-plays : goal.returns-in-Some-clause-plays
returns-in-Some-clause-plays g c =
    let k : ROUNDS - array_vec_len c.each.rounds ≡ suc (ROUNDS - 1 - array_vec_len c.each.rounds) = omega (arith, c.each-test.true, c.len.ensures.value) in
    rw (ends_more c.each.rounds.items c.push.new.self.items c.in-Ok.end c.push.ensures.items)
    (found g.M.Medium.steps c.args.fsdi (λ ends polled t. PlaysRounds g.M.Medium.steps c.args.fsdi ROUNDS (g.M.Medium.state c.args.medium.now) ends polled t)
    (ends_of c.each.rounds.items) (ROUNDS - 1 - array_vec_len c.each.rounds) (g.M.Medium.state c.each.medium) (g.M.Medium.state c.round.new.medium)
    (round_end_of c.in-Ok.end) c.in-Some.card (rw k at c.each.invariant.onward) c.in-Ok.ensures.plays c.in-Some.ensures)

pub each-preserved : goal.each-preserved
each-preserved g c =
    let k : ROUNDS - array_vec_len c.each.rounds ≡ suc (ROUNDS - 1 - array_vec_len c.each.rounds) = omega (arith, c.each-test.true, c.len.ensures.value) in
    let n : ROUNDS - array_vec_len c.push.new.self ≡ ROUNDS - 1 - array_vec_len c.each.rounds = omega (arith, c.push.ensures.len) in
    record {
      onward = rw (ends_more c.each.rounds.items c.push.new.self.items c.in-Ok.end c.push.ensures.items, n)
          (one_more g.M.Medium.steps c.args.fsdi (λ ends polled t. PlaysRounds g.M.Medium.steps c.args.fsdi ROUNDS (g.M.Medium.state c.args.medium.now) ends polled t)
          (ends_of c.each.rounds.items) (ROUNDS - 1 - array_vec_len c.each.rounds) (g.M.Medium.state c.each.medium) (g.M.Medium.state c.round.new.medium)
          (round_end_of c.in-Ok.end) (rw k at c.each.invariant.onward) c.in-Ok.ensures.plays (sym c.in_default.is ∙ c.card_of-card.ensures));
      most = omega (arith, c.push.ensures.len, c.each-test.true, c.len.ensures.value);
      without = without_more c.each.rounds.items c.push.new.self.items c.in-Ok.end c.push.ensures.items c.each.invariant.without (sym c.in_default.is ∙ c.card_of-card.ensures);
      later = omega (arith, c.each.invariant.later, c.round.ensures.cause.later);
    }

pub returns-clause-plays : goal.returns-clause-plays
returns-clause-plays g c =
    let k : ROUNDS - array_vec_len c.each.rounds ≡ 0 = omega (arith, c.each-test.false, c.len.ensures.value) in
    none g.M.Medium.steps c.args.fsdi (λ ends polled t. PlaysRounds g.M.Medium.steps c.args.fsdi ROUNDS (g.M.Medium.state c.args.medium.now) ends polled t)
    (ends_of c.each.rounds.items) (g.M.Medium.state c.each.medium)
    (rw k at c.each.invariant.onward)
