use Rattle.std.proofs.Common.{length, drop, ap, arith}
use Rattle.std.proofs.lemmas.List.{length-append, length-drop}
use Rattle.raw_block.proofs.RawBlock.append.Goals as goal

pub push-requires : goal.push-requires
push-requires c =
    let inv = c.loop-byte.invariant in let piece = c.args.piece.now in let i = c.loop-byte.byte-index in
    omega (arith, ap length inv.bytes, length-append c.loop-byte.self.bytes (drop i piece), length-append c.args.self.now.bytes piece, length-drop i piece, inv.room, c.requires.fits, c.loop-byte-test.true)
