use Rattle.std.proofs.Common.{◌≡◌, ◌<◌, ◌^◌, arith, rules, sym, ◌∙◌}
use Rattle.ep_base.specs.Air.Frame.{hits}
use Rattle.rf_frame.proofs.BurstLaw.{burst_law}
use Rattle.rf_frame.proofs.bursts.burst_seen.Goals as goal

pub returns-clause-seen : goal.returns-clause-seen
returns-clause-seen c = λ hit.
    let small : c.args.burst.mask < 2 ^ 16 = omega arith in
    let answer : c.flip.result ≡ hits c.args.wave c.args.burst.start c.args.burst.mask c.args.frame.now.items = search rules in
    burst_law c.args.wave c.args.burst.start c.args.burst.mask c.args.frame.now.items c.requires.checked small c.requires.good (sym answer ∙ hit)
