use Rattle.std.proofs.Common.{◌≡◌, drop}
use Rattle.ep_base.specs.Objects.Arena.{HaveSerials, after_calls}
use Rattle.tlv_arena.specs.Calls.{calls_of}
use Rattle.tlv_arena.proofs.Arena.make_all.Given as goal

-- what the calls that are left make of the contents is what all of them make of those at the start
abbrev pub invariant-loop-call : goal.invariant-loop-call
invariant-loop-call l = record {
  same : after_calls (calls_of (drop l.call-index l.calls)) l.self.contents ≡ after_calls (calls_of l.calls) l.initial.self.contents;
  serials : HaveSerials (calls_of (drop l.call-index l.calls)) l.self.contents;
}
