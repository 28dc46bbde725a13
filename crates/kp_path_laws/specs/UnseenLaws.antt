-- Lines of paths, and changes of recent lists that the packet's source can't tell.
use Rattle.std.specs.Prelude.{◌≡◌, ℕ}
use Rattle.kp_types.specs.Setting.{Settings}
use Rattle.kp_types.specs.declared.packet.Packet.{Packet}
use Rattle.kp_choice_defs.specs.Recent.{RecentParts}
use Rattle.kp_object_defs.specs.Objects.{Objects}
use Rattle.kp_part_laws.specs.Unseen.{IsUnseen}
use Rattle.kp_path_defs.specs.PathText.{lines_of}

-- a change that the packet's source can't tell makes no difference to the lines of its paths
abbrev pub LinesUnseen : Type 0
LinesUnseen =
    (change : RecentParts → RecentParts) (settings : Settings) (objects : Objects) (line : ℕ)
    (packet : Packet) (lists : RecentParts) → IsUnseen packet.source change
    → lines_of settings objects line packet (change lists)
    ≡ lines_of settings objects line packet lists
