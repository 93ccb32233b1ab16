use Rattle.std.proofs.Common.{◌≡◌, false, arith}
use Rattle.ep_base.specs.Streams.Memory.{is_listed}
use Rattle.ep_base.proofs.memory.MemorySourceSource.pull.Goals as goal

pub returns-then-count-eq0-clause-listed : goal.returns-then-count-eq0-clause-listed
returns-then-count-eq0-clause-listed c =
    let e : is_listed c.args.self.now.fails.items c.args.self.now.calls ≡ false = grind arith in
    (λ p. cc, λ h. cc)

pub returns-clause-listed : goal.returns-clause-listed
returns-clause-listed c =
    let e : is_listed c.args.self.now.fails.items c.args.self.now.calls ≡ false = grind arith in
    (λ p. cc, λ h. cc)
