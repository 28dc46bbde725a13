-- The ports of which something else is known than was written, and ports that are those of objects.
use Rattle.std.specs.Prelude.{◌≡◌, true, List, ◌++◌, map}
use Rattle.std.specs.FinMap as finite
use Rattle.std.specs.List.{filter, filter_map, flat_map}
use Rattle.std.specs.Option.{option_to_list}
use Rattle.kp_base.specs.Keys.{port_key_cmp}
use Rattle.kp_base.specs.declared.key.ObjectKey.{ObjectKey}
use Rattle.kp_base.specs.declared.key.PortKey.{PortKey}
use Rattle.kp_types.specs.Setting.{Setting}
use Rattle.kp_object_defs.specs.Objects.{Objects}
use Rattle.kp_object_defs.specs.Order.{distinct_in_order}
use Rattle.kp_object_defs.specs.OwnKeys.{AreUnderOwnKeys}
use Rattle.kp_object_defs.specs.PortByKey.{info_at, port_keys_of}
use Rattle.kp_object_defs.specs.PortInfo.{port_infos}
use Rattle.kp_history_defs.specs.DirtyPorts.{dirty_keys, dirty_ports}
use Rattle.kp_history_defs.specs.declared.dirty.DirtyPort.{DirtyPort}
use Rattle.kp_writer_laws.specs.LocalLaws.{info_of}
use Rattle.kp_blocks.specs.Joined.{is_port_of}
use Rattle.kp_writer.specs.Written.{Ports, WriterParts, dirty_of, is_pending}

-- the names of the ports that were written or are known now, in order
abbrev pub either_keys : WriterParts → List PortKey
either_keys w =
    distinct_in_order port_key_cmp
    (finite.keys w.written ++ finite.keys w.newest)

-- the names of those of which something else is known than was written
abbrev pub pending_keys : WriterParts → List PortKey
pending_keys w = filter (is_pending w.written w.newest) (either_keys w)

-- a port with what was written of it
abbrev pub with_written : WriterParts → PortKey → DirtyPort
with_written w key = record { key = key; before = finite.get w.written key }

-- the dirty ports, in order of their names, each with what was written of it
abbrev pub pending_ports : WriterParts → List DirtyPort
pending_ports w = map (with_written w) (pending_keys w)

-- ports are those of objects: by each name the same is known
abbrev pub ArePortsOf : Setting → Objects → Ports → Type 0
ArePortsOf setting o ports =
    (key : PortKey) → finite.get ports key ≡ info_at setting.family setting.config o key

-- The ports of objects in order are what the proxy knows of all ports of these objects.
abbrev pub KnownPorts : Type 0
KnownPorts =
    (setting : Setting) (o : Objects) (ports : Ports)
    → AreUnderOwnKeys o → ArePortsOf setting o ports
    → finite.values ports ≡ port_infos setting.family setting.config o

-- the names of the ports of the Service at a key, if there is one, in order
abbrev pub port_keys_at : Objects → ObjectKey → List PortKey
port_keys_at o service =
    distinct_in_order port_key_cmp
    (flat_map port_keys_of (option_to_list (finite.get o.services service)))

-- What is known of the ports of one Service is found by their names.
abbrev pub KnownOfService : Type 0
KnownOfService =
    (setting : Setting) (o : Objects) (service : ObjectKey) (key : PortKey)
    → AreUnderOwnKeys o → is_port_of service key ≡ true
    → info_of (filter_map (info_at setting.family setting.config o) (port_keys_at o service)) key
    ≡ info_at setting.family setting.config o key

-- the ports that a writer wrote are those of some objects, and the newest those of others
pub record IsBetween (setting : Setting) (before after : Objects) (w : WriterParts) : Type 0 where
  pub own_before : AreUnderOwnKeys before
  pub own_after : AreUnderOwnKeys after
  pub written : ArePortsOf setting before w.written
  pub newest : ArePortsOf setting after w.newest

-- Then its dirty ports are those of which something else is known after than before.
abbrev pub KnownDirtyPorts : Type 0
KnownDirtyPorts =
    (setting : Setting) (before after : Objects) (w : WriterParts)
    → IsBetween setting before after w
    → pending_ports w ≡ dirty_ports setting before after

-- What was written of these is what was known of the dirty ports before,
abbrev pub DirtyWritten : Type 0
DirtyWritten =
    (setting : Setting) (before after : Objects) (w : WriterParts)
    → IsBetween setting before after w
    → dirty_of w w.written
    ≡ filter_map (info_at setting.family setting.config before) (dirty_keys setting before after)

-- and the newest of these is what is known of them after.
abbrev pub DirtyNewest : Type 0
DirtyNewest =
    (setting : Setting) (before after : Objects) (w : WriterParts)
    → IsBetween setting before after w
    → dirty_of w w.newest
    ≡ filter_map (info_at setting.family setting.config after) (dirty_keys setting before after)
