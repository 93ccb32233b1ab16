use Rattle.std.proofs.Common.{Some, get_or, sym, ap, ◌∙◌}
use Rattle.raw_block.proofs.RawBlock.get.Goals as goal
use Rattle.raw_block.proofs.Bytes.{lone_byte}

pub returns : goal.returns
returns c = lone_byte c.args.self.now.bytes c.args.at c.requires ∙ ap (λ l. Some (get_or l 0 0)) (sym c.view.ensures)
