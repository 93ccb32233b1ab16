use Rattle.std.proofs.Common.{refl}
use Rattle.block_reader.specs.Stands.{held}
use Rattle.block_reader.proofs.Standing.{begins, begun}
use Rattle.block_reader.proofs.reader_end.ReaderEnd.begin_into.Goals as goal

pub returns-clause-stands : goal.returns-clause-stands
returns-clause-stands c =
    begun (held c.args.self.now) _ c.args.command.now c.put_ask.new.ask (rw (c.begin.ensures.kept.0, c.begin.ensures.kept.1) refl) refl c.requires.resting
    (begins (held c.args.self.now) _ c.args.command.now c.put_ask.new.ask c.begin.ensures.counts.0 refl c.begin.ensures.by_rules c.put_ask.ensures)
