-- Where the doors of a port are doesn't depend on its endpoints.
use Rattle.std.specs.Prelude.{false, []}
use Rattle.kp_types.specs.declared.lists.Lists.{Lists}
use Rattle.kp_object_defs.specs.PortInfo.{PortInfo}

-- no endpoints
abbrev pub no_lists : Lists
no_lists = record { cluster = []; local = []; has_any = false }

-- what is known of a port but its endpoints
abbrev pub without_lists : PortInfo → PortInfo
without_lists i = record i { lists = no_lists }
