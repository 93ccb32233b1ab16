use Rattle.std.proofs.Common.{◌≡◌}
use Rattle.kernel_port.specs.Scripts.{scripted_of}
use Rattle.entry_session.specs.Turns.{view_of, is_open, is_ask}
use Rattle.radio_tests.proofs.turns.buy.Given as goal

-- A transaction is open while another exchange is asked
abbrev pub invariant-exchanges : goal.invariant-exchanges
invariant-exchanges l = is_open (view_of scripted_of (λ s. s.active) (λ s. s.fresh) l.session) ≡ is_ask l.turn
