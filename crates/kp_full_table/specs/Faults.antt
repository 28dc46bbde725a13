-- Why a table isn't made.
use Rattle.std.specs.Prelude.{◌≡◌, Option, Some, ⊤}
use Rattle.kp_types.specs.declared.chain.Clash.{Clash}
use Rattle.kp_names.specs.declared.fault.NameFault.{NameFault}
use Rattle.kp_names.specs.declared.fault.NameFault.TheVariants as name
use Rattle.kp_full_table.specs.declared.fault.TableFault.{TableFault}
use Rattle.kp_full_table.specs.declared.fault.TableFault.TheVariants.{ChainClash, NoMemory}

-- the fault of a table whose names are refused
abbrev pub fault_of : NameFault → TableFault
fault_of (name.ChainClash clash) = ChainClash clash
fault_of (name.NoMemory refused) = NoMemory refused

-- the fault has this clash, if it isn't want of memory
abbrev pub TellsClash : Option Clash → TableFault → Type 0
TellsClash clash (ChainClash c) = clash ≡ Some c
TellsClash clash (NoMemory refused) = ⊤
