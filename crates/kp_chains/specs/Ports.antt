-- The chains of a port, where something is known of it.
use Rattle.std.specs.Prelude.{List, [], Option, None, Some}
use Rattle.kp_types.specs.Setting.{Setting}
use Rattle.kp_types.specs.declared.chain.ChainAt.{ChainAt}
use Rattle.kp_types.specs.declared.rule.Rule.{Rule}
use Rattle.kp_object_defs.specs.PortInfo.{PortInfo}
use Rattle.kp_table_defs.specs.Layout.{port_rows}

-- a Service without a cluster address has no chains
abbrev pub rows_known : Setting → Option PortInfo → List (ChainAt × List Rule)
rows_known setting None = []
rows_known setting (Some i) = port_rows setting i
