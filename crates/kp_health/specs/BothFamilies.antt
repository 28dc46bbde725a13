-- The endpoints of a port in both families, by what they are taken from in each.
use Rattle.std.specs.Prelude.{ℕ, List, ◌++◌}
use Rattle.kp_base.specs.declared.address.Family.TheVariants.{V4, V6}
use Rattle.kp_base.specs.declared.key.PortKey.{PortKey}
use Rattle.kp_types.specs.declared.info.ServiceSources.{ServiceSources}
use Rattle.kp_types.specs.declared.lists.Candidate.{Candidate}
use Rattle.kp_object_defs.specs.Entries.{entries_from}

-- on the node of this name, IPv4 before IPv6
abbrev pub entries_of_sources :
    List ℕ → ServiceSources → ServiceSources → PortKey → List Candidate
entries_of_sources node four six key = entries_from V4 node four key ++ entries_from V6 node six key
