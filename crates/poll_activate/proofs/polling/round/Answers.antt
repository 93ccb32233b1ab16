use Rattle.std.proofs.Common.{sym, ap, ◌∙◌, arith}
use Rattle.std.proofs.lemmas.Result.{err_from_is_err_and}
use Rattle.ep_base.specs.Poll.Polling.{PlaysRound}
use Rattle.rf_frame.specs.Meaning.{heard_of, maybe_end, round_end_of}
use Rattle.poll_activate.proofs.Rounding.{next, last, lost}
use Rattle.poll_activate.proofs.polling.round.Goals as goal

pub returns-in_err-heard-clause-plays : goal.returns-in_err-heard-clause-plays
returns-in_err-heard-clause-plays g c =
    let p = err_from_is_err_and c.from_residual.result c.from_residual.ensures.1 in
    rw p.1 (lost g.M.Medium.steps c.args.fsdi (λ ending t. PlaysRound g.M.Medium.steps c.args.fsdi (g.M.Medium.state c.args.medium.now) ending t)
    c.exchanges.poll.stage (g.M.Medium.state c.exchanges.medium) (g.M.Medium.state c.exchange.new.medium) c.ask.result c.exchanges.poll.fsdi
    c.exchanges.invariant.from c.ask.ensures.asked c.exchanges.invariant.fsdi c.in_err-heard.ensures.step)

pub returns-in-Some-clause-plays : goal.returns-in-Some-clause-plays
returns-in-Some-clause-plays g c =
    last g.M.Medium.steps c.args.fsdi (λ ending t. PlaysRound g.M.Medium.steps c.args.fsdi (g.M.Medium.state c.args.medium.now) ending t)
    c.exchanges.poll.stage (g.M.Medium.state c.exchanges.medium) (g.M.Medium.state c.exchange.new.medium) c.ask.result (heard_of c.in_ok-heard.heard) c.exchanges.poll.fsdi (round_end_of c.in-Some.end)
    c.exchanges.invariant.from c.ask.ensures.asked c.exchanges.invariant.fsdi c.in_ok-heard.ensures.step c.in-Some.ensures.end

pub exchanges-preserved : goal.exchanges-preserved
exchanges-preserved g c = record {
  from = next g.M.Medium.steps c.args.fsdi (λ ending t. PlaysRound g.M.Medium.steps c.args.fsdi (g.M.Medium.state c.args.medium.now) ending t)
      c.exchanges.poll.stage c.heard.new.self.stage (g.M.Medium.state c.exchanges.medium) (g.M.Medium.state c.exchange.new.medium) c.ask.result (heard_of c.in_ok-heard.heard) c.exchanges.poll.fsdi
      c.exchanges.invariant.from c.ask.ensures.asked c.exchanges.invariant.fsdi c.in_ok-heard.ensures.step c.heard.ensures.stage (sym (ap maybe_end c.in_default.is) ∙ c.heard.ensures.end);
  fsdi = c.heard.ensures.fsdi ∙ c.exchanges.invariant.fsdi;
  later = omega (arith, c.exchanges.invariant.later, c.exchange.ensures.cause.later);
}
