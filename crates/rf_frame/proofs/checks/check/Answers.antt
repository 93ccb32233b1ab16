use Rattle.std.proofs.Common.{◌-◌, ap, inl, inr}
use Rattle.ep_base.specs.Air.Check.{crc_a, crc_b}
use Rattle.rf_frame.proofs.checks.check.Goals as goal

pub returns-in-B : goal.returns-in-B
unfolding crc_b
returns-in-B c = rw c.in-B.is (ap (λ r. 65535 - r) c.take_bytes.ensures)

pub returns-in-AShort : goal.returns-in-AShort
unfolding crc_a
returns-in-AShort c = elim c.in-AShort.is [
  | inl e ↦ rw e c.take_bytes-in-AShort.ensures
  | inr f ↦ elim f [
    | inl e ↦ rw e c.take_bytes-in-AShort.ensures
    | inr e ↦ rw e c.take_bytes-in-AShort.ensures
  ]
]
