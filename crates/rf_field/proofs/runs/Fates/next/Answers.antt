use Rattle.std.proofs.Common.{◌≡◌, ◌+◌, ◌≤◌, ◌<◌, length, drop, get_or, ap, ◌∙◌, arith, rules}
use Rattle.ep_base.specs.Air.Fates.{next_fate, fates_after}
use Rattle.rf_field.specs.declared.fates.FateRun.TheVariants.{Clean, One}
use Rattle.rf_field.specs.Meaning.{exchange_fates}
use Rattle.rf_field.proofs.Left.{left_at, run_fits, next_clean, after_clean}
use Rattle.rf_field.proofs.runs.Fates.next.Goals as goal

pub returns-in-Clean-clause-fate : goal.returns-in-Clean-clause-fate
returns-in-Clean-clause-fate c =
    let runs = c.self.inside.runs.items in
    let at = c.self.inside.at in
    let run = c.in-Some.run'.now in
    let within : at < length runs = search rules in
    let found : run ≡ get_or runs at run = search rules in
    let left = left_at runs at c.self.inside.clean run (Clean c.in-Clean.count) c.args.self.now (omega arith) within found c.in-Clean.is c.self.view_is in
    let some : 1 ≤ c.in-Clean.count = run_fits runs at run (Clean c.in-Clean.count) c.self.invariant within found c.in-Clean.is in
    next_clean c.in-Clean.count (exchange_fates (drop (at + 1) runs)) some ∙ ap next_fate left

pub returns-in-Clean-clause-after : goal.returns-in-Clean-clause-after
returns-in-Clean-clause-after c =
    let runs = c.self.inside.runs.items in
    let at = c.self.inside.at in
    let run = c.in-Some.run'.now in
    let within : at < length runs = search rules in
    let found : run ≡ get_or runs at run = search rules in
    let left = left_at runs at c.self.inside.clean run (Clean c.in-Clean.count) c.args.self.now (omega arith) within found c.in-Clean.is c.self.view_is in
    let some : 1 ≤ c.in-Clean.count = run_fits runs at run (Clean c.in-Clean.count) c.self.invariant within found c.in-Clean.is in
    after_clean c.in-Clean.count (exchange_fates (drop (at + 1) runs)) some ∙ ap fates_after left

pub returns-in-One-clause-fate : goal.returns-in-One-clause-fate
returns-in-One-clause-fate c =
    let runs = c.self.inside.runs.items in
    let at = c.self.inside.at in
    let run = c.in-Some.run'.now in
    let within : at < length runs = search rules in
    let found : run ≡ get_or runs at run = search rules in
    let left = left_at runs at c.self.inside.clean run (One c.in-One.fate) c.args.self.now (omega arith) within found c.in-One.is c.self.view_is in
    ap next_fate left
