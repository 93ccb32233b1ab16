use Rattle.std.proofs.Common.{arith, ◌∙◌}
use Rattle.std.proofs.lemmas.Result.{err_from_is_err_and}
use Rattle.session_phases.specs.Plain.{wish_of}
use Rattle.entry_session.proofs.Reaching.{restarts_on}
use Rattle.entry_session.proofs.driving.serve_card.Goals as goal

pub returns-in_err-wish-in-Command-clause-stops : goal.returns-in_err-wish-in-Command-clause-stops
returns-in_err-wish-in-Command-clause-stops g c =
    let p = err_from_is_err_and c.from_residual.result c.from_residual.ensures.1 in
    rw (p.1, p.2) (λ talk h.
    let now = rw c.in-Command.is at (c.each.invariant.goes talk h) in
    now.2 _ (c.in_err-wish-in-Command.ensures.stops now.0 now.1))

pub each-preserved : goal.each-preserved
each-preserved g c = record {
  goes = λ talk h.
      let now = rw c.in-Command.is at (c.each.invariant.goes talk h) in
      let then = c.in_ok-wish-in-Command.ensures.goes now.0 now.1 in
      (then.0, then.1, λ left runs. now.2 left (then.2 left runs));
  served = c.in_ok-wish-in-Command.ensures.serves;
  restarts = restarts_on (wish_of _ c.exchange.new.selection) (g.K.Kernels.steps.restarts (g.K.Kernels.state c.args.kernels.now)) (g.K.Kernels.steps.restarts (g.K.Kernels.state c.each.kernels)) (g.K.Kernels.steps.restarts (g.K.Kernels.state c.exchange.new.kernels))
      (rw c.in-Command.is at c.each.invariant.restarts) c.in_ok-wish-in-Command.ensures.restarts;
  presented = c.in_ok-wish-in-Command.ensures.presented;
  room = c.exchange.ensures.room;
  anchored = c.exchange.ensures.same_reference ∙ c.each.invariant.anchored;
  t_later = omega (arith, c.each.invariant.t_later, c.exchange.ensures.cause.t_later);
  e_later = omega (arith, c.each.invariant.e_later, c.exchange.ensures.cause.e_later);
}

pub returns-in-Close-clause-goes : goal.returns-in-Close-clause-goes
returns-in-Close-clause-goes g c = λ talk h. rw c.in-Close.is at (c.each.invariant.goes talk h)
