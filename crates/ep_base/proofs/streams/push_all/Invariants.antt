use Rattle.std.proofs.Common.{◌≡◌, ◌≤◌, ℕ, length, take, drop}
use Rattle.std.specs.Prelude.{is_some}
use Rattle.std.specs.Io.KnownBytes.{Appends}
use Rattle.ep_base.proofs.streams.push_all.Given as goal

-- a front of the piece is written, and the rest is left
abbrev pub invariant-loop-rest : goal.invariant-loop-rest
invariant-loop-rest g l = record {
  front : (k : ℕ) × (k ≤ length l.piece) × (l.rest ≡ drop k l.piece) × Appends (g.K.Sink.written l.initial.sink) (g.K.Sink.written l.sink) (take k l.piece);
  told : is_some (g.K.Sink.written l.sink) ≡ is_some (g.K.Sink.written l.initial.sink);
  later : g.K.Sink.faults l.initial.sink ≤ g.K.Sink.faults l.sink;
}

abbrev pub decreases-loop-rest : goal.decreases-loop-rest
decreases-loop-rest g l = length l.rest
