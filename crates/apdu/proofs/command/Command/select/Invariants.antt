use Rattle.std.proofs.Common.{◌≡◌, ◌+◌, ◌++◌, length, take}
use Rattle.apdu.proofs.command.Command.select.Given as goal

abbrev pub invariant-loop-byte : goal.invariant-loop-byte
invariant-loop-byte l = record {
  front : l.bytes.items ≡ l.initial.bytes.items ++ take l.byte-index l.name;
  count : length l.bytes.items ≡ 5 + l.byte-index;
}
