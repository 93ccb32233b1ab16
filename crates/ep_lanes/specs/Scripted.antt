-- Lanes whose kernels follow scripts (this project's own).
use Rattle.ep_rules.specs.EntryPoint.Kernel.{Scripted}
use Rattle.ep_lanes.specs.Lanes.{Held, lanes_of}
use Rattle.ep_lanes.specs.declared.holding.Lanes.{Lanes}
use Rattle.kernel_port.specs.Scripts.{scripted_of}
use Rattle.kernel_port.specs.declared.scripts.Scripts.{Scripts}

-- Lanes whose kernels follow scripts, in plain data (this project's own).
abbrev pub held_of : {b : _} → Lanes Scripts b → Held Scripted
held_of lanes = lanes_of scripted_of (λ s. s.active) (λ s. s.fresh) lanes
