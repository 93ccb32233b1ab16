use Rattle.std.proofs.Common.{◌≡◌, ◌≤◌, ◌-◌, true}
use Rattle.std.specs.Prelude.{is_none}
use Rattle.std.specs.List.{list_all}
use Rattle.arrayvec.specs.ArrayVec.{array_vec_len}
use Rattle.ep_base.specs.Poll.Polling.{PlaysRounds, card_in}
use Rattle.ep_base.specs.declared.limits.TheConstants.{ROUNDS}
use Rattle.poll_activate.specs.Meaning.{ends_of}
use Rattle.poll_activate.proofs.Repeating.{Onward}
use Rattle.poll_activate.proofs.polling.poll.Given as goal

-- What the rounds from here on give comes after the ends so far, none of which is a card's.
abbrev pub invariant-each : goal.invariant-each
invariant-each g l = record {
  onward : Onward g.M.Medium.steps l.fn.fsdi (λ ends polled t. PlaysRounds g.M.Medium.steps l.fn.fsdi ROUNDS (g.M.Medium.state l.fn.medium) ends polled t)
      (ends_of l.rounds.items) (ROUNDS - array_vec_len l.rounds) (g.M.Medium.state l.medium);
  most : array_vec_len l.rounds ≤ ROUNDS;
  without : list_all (λ e. is_none (card_in e)) (ends_of l.rounds.items) ≡ true;
  later : g.M.Medium.faults l.fn.medium ≤ g.M.Medium.faults l.medium;
}

abbrev pub decreases-each : goal.decreases-each
decreases-each g l = ROUNDS - array_vec_len l.rounds
