-- Contributions of ports to the tables of a family that are kept from one state of the cluster to
-- the next, where those of some ports are made anew.
use Rattle.std.specs.Prelude.{List, Option, Some, None, option_map}
use Rattle.std.specs.List.{fold}
use Rattle.std.specs.FinMap as finite
use Rattle.kp_base.specs.declared.key.PortKey.{PortKey}
use Rattle.kp_types.specs.Setting.{Setting}
use Rattle.kp_object_defs.specs.Objects.{Objects}
use Rattle.kp_object_defs.specs.PortByKey.{info_at}
use Rattle.kp_table_defs.specs.Parts.{PortRules, RulesByPort, rules_of_port}

-- the contribution of the port of this name, if there is one that takes part
abbrev pub rules_at : Setting → Objects → PortKey → Option PortRules
rules_at setting o key =
    option_map (rules_of_port setting) (info_at setting.family setting.config o key)

-- a port's contribution, or none, in place of the one that was kept
abbrev pub with_rules : RulesByPort → PortKey → Option PortRules → RulesByPort
with_rules kept key None = finite.remove kept key
with_rules kept key (Some rules) = finite.insert kept key rules

-- what is kept once the contributions of these ports are made anew
abbrev pub with_rules_of : Setting → Objects → List PortKey → RulesByPort → RulesByPort
with_rules_of setting o keys kept =
    fold (λ k key. with_rules k key (rules_at setting o key)) kept keys
