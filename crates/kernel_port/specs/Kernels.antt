-- What a kernel's step stands for in plain data (this project's own).
use Rattle.std.specs.Prelude.{Bool, true, false}
use Rattle.ep_rules.specs.EntryPoint.Kernel.{KernelStep as KernelStepData}
use Rattle.ep_rules.specs.EntryPoint.Kernel as plain
use Rattle.kernel_port.specs.declared.kernels.KernelStep.{KernelStep}
use Rattle.kernel_port.specs.declared.kernels.KernelStep.TheVariants.{Send, Done}
use Rattle.kernel_port.specs.Outcome.{verdict_of}

abbrev pub move_of : KernelStep → KernelStepData
move_of (Send command) = plain.Send command
move_of (Done outcome) = plain.Done (verdict_of outcome)

abbrev pub is_send : KernelStep → Bool
is_send (Send command) = true
is_send (Done outcome) = false
