-- The blocks of what was written of ports, where something else is known now.
use Rattle.std.specs.Prelude.{Bool, cond, not, List, Option, Some, None, is_some}
use Rattle.std.specs.FinMap as finite
use Rattle.std.specs.List.{filter}
use Rattle.std.specs.Option.{option_eq}
use Rattle.kp_base.specs.Keys.{port_key_cmp}
use Rattle.kp_base.specs.declared.key.PortKey.{PortKey}
use Rattle.kp_object_defs.specs.PortInfo.{PortInfo}
use Rattle.kp_history_defs.specs.DirtyPorts.{same_info}
use Rattle.kp_blocks.specs.Joined.{Block, BlocksByPort}
use Rattle.kp_tracker.specs.Tracked.{with_value}
use Rattle.kp_writer.specs.Written.{Ports, is_pending}

-- whether something was written of a port
abbrev pub was_written : Ports → PortKey → Bool
was_written written key = is_some (finite.get written key)

-- the block of what was written of a port: it stands among the old ones where something else is
-- known now
abbrev pub written_block :
    Ports → Ports → BlocksByPort → BlocksByPort → PortKey → Option Block
written_block written newest blocks old key =
    cond (was_written written key)
    (cond (is_pending written newest key) (finite.get old key) (finite.get blocks key)) None

-- old blocks with that of a port of which something else is known next
abbrev pub with_old :
    Ports → Ports → BlocksByPort → BlocksByPort → PortKey → BlocksByPort
with_old written newest blocks old key =
    cond (was_written written key)
    (cond (is_pending written newest key) old (with_value port_key_cmp old key (finite.get blocks key)))
    (finite.remove old key)

-- whether this is what is known of a port
abbrev pub is_known : Option PortInfo → PortInfo → Bool
is_known known i = option_eq same_info known (Some i)

-- of some infos those of which something else was written
abbrev pub unwritten : Ports → List PortInfo → List PortInfo
unwritten written infos = filter (λ i. not (is_known (finite.get written i.key) i)) infos
