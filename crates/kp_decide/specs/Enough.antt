-- Which ports are enough to decide a packet.
use Rattle.std.specs.Prelude.{◌≡◌, List}
use Rattle.kp_types.specs.Setting.{FamilyConfig}
use Rattle.kp_types.specs.declared.packet.Packet.{Packet}
use Rattle.kp_object_defs.specs.PortInfo.{PortInfo}
use Rattle.kp_door_defs.specs.Doors.{taking_door}
use Rattle.kp_door_defs.specs.Filter.{filtered}
use Rattle.kp_decide.specs.Findings.{fitting_doors}

-- some ports give a packet the fitting doors, the taking door and the line that all give it
pub record AreEnough (config : FamilyConfig) (packet : Packet) (some all : List PortInfo) : Type 0 where
  pub fitting : fitting_doors config some packet ≡ fitting_doors config all packet
  pub door : taking_door config some packet ≡ taking_door config all packet
  pub line : filtered config some packet ≡ filtered config all packet
