use Rattle.std.proofs.Common.{◌≡◌, ◌≤◌}
use Rattle.ep_base.specs.Poll.Polling.{PlaysRound}
use Rattle.poll_activate.proofs.Rounding.{From, left_at}
use Rattle.poll_activate.proofs.polling.round.Given as goal

-- What plays so from here on is the round.
abbrev pub invariant-exchanges : goal.invariant-exchanges
invariant-exchanges g l = record {
  from : From g.M.Medium.steps l.fn.fsdi (λ ending t. PlaysRound g.M.Medium.steps l.fn.fsdi (g.M.Medium.state l.fn.medium) ending t) l.poll.stage (g.M.Medium.state l.medium);
  fsdi : l.poll.fsdi ≡ l.fn.fsdi;
  later : g.M.Medium.faults l.fn.medium ≤ g.M.Medium.faults l.medium;
}

abbrev pub decreases-exchanges : goal.decreases-exchanges
decreases-exchanges g l = left_at l.poll.stage
