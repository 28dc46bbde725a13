-- Why a live run ended before all was written.
use Rattle.std.specs.Prelude.{}
use Rattle.kp_streams.specs.declared.input.InputFault.{InputFault}
use Rattle.kp_streams.specs.declared.input.InputFault.TheVariants as of_input
use Rattle.kp_live.specs.declared.fault.LiveFault.{LiveFault}
use Rattle.kp_live.specs.declared.fault.LiveFault.TheVariants as of_live

-- the fault of a run whose input wasn't read to its end
abbrev pub fault_of_input : InputFault → LiveFault
fault_of_input (of_input.NoMemory refused) = of_live.NoMemory refused
fault_of_input of_input.ReadFault = of_live.ReadFault
fault_of_input of_input.InputTooLong = of_live.InputTooLong
