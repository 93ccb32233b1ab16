-- What kernels that follow scripts stand for in plain data: the scripts left, and the one that runs.
use Rattle.ep_rules.specs.EntryPoint.Kernel.{Scripted}
use Rattle.kernel_port.specs.declared.scripts.Scripts.{Scripts}

abbrev pub scripted_of : Scripts → Scripted
scripted_of s = record { scripts = s.list.items; running = s.running }
