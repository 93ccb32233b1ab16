use Rattle.std.proofs.Common.{◌≡◌, ◌==◌, ◌∙◌, sym, Some, None, position}
use Rattle.kernel_port.proofs.Places.{none_at, some_at}
use Rattle.kernel_port.proofs.scripts.take_script.Goals as goal

pub returns-in_err-place-clause-taken : goal.returns-in_err-place-clause-taken
returns-in_err-place-clause-taken c =
    let e : position (λ s. s.kernel == c.args.kernel) c.args.list.now.items ≡ None = rw (← c.deref.ensures.value) (sym c.in_err-place.ensures) in
    c.from_residual.ensures ∙ sym (none_at c.args.kernel c.args.list.now.items e).0

pub returns-in_err-place-clause-left : goal.returns-in_err-place-clause-left
returns-in_err-place-clause-left c =
    let e : position (λ s. s.kernel == c.args.kernel) c.args.list.now.items ≡ None = rw (← c.deref.ensures.value) (sym c.in_err-place.ensures) in
    sym (none_at c.args.kernel c.args.list.now.items e).1

pub returns-clause-taken : goal.returns-clause-taken
returns-clause-taken c =
    let e : position (λ s. s.kernel == c.args.kernel) c.args.list.now.items ≡ Some c.in_ok-place.place = rw (← c.deref.ensures.value) (sym c.in_ok-place.ensures) in
    let h = some_at c.args.kernel c.args.list.now.items c.in_ok-place.place c.remove.result e in
    cc (c.remove.ensures.value, h.0)

pub returns-clause-left : goal.returns-clause-left
returns-clause-left c =
    let e : position (λ s. s.kernel == c.args.kernel) c.args.list.now.items ≡ Some c.in_ok-place.place = rw (← c.deref.ensures.value) (sym c.in_ok-place.ensures) in
    c.remove.ensures.items ∙ (some_at c.args.kernel c.args.list.now.items c.in_ok-place.place c.remove.result e).1
