use Rattle.std.proofs.Common.{take, drop}
use Rattle.raw_block.specs.Filling.{filled}
use Rattle.raw_block.proofs.RawBlock.view.Given as goal

abbrev pub ghost-slice : goal.ghost-slice
ghost-slice a = filled (take a.len (drop a.from a.self.now.slots))
