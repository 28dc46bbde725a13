-- What the rules of one Service port are made of in both families, and the ports of which it differs
-- between two states of the cluster (kube-proxy's trackers of Services and of endpoints tell these
-- ports; which fields count is this project's choice).
use Rattle.std.specs.Prelude.{ℕ, ◌&&◌, Bool, List, ◌++◌, not, bytes_eq, Option, option_map, option_and_then}
use Rattle.std.specs.List.{filter, flat_map}
use Rattle.std.specs.FinMap as finite
use Rattle.std.specs.Cmp.Lexicographic.{pointwise}
use Rattle.kp_base.specs.Keys.{port_key_cmp}
use Rattle.kp_base.specs.declared.key.PortKey.{PortKey}
use Rattle.kp_types.specs.Setting.{Settings}
use Rattle.kp_types.specs.contracts.lists.CandidatePartialEq.TheImpl as same_candidate
use Rattle.kp_types.specs.contracts.service.ServicePartialEq.TheImpl as same_service
use Rattle.kp_types.specs.declared.lists.Candidate.{Candidate}
use Rattle.kp_types.specs.declared.service.Service.{Service}
use Rattle.kp_types.specs.declared.service.ServicePort.{ServicePort}
use Rattle.kp_object_defs.specs.Objects.{Objects, zone_of}
use Rattle.kp_object_defs.specs.Order.{distinct_in_order}
use Rattle.kp_object_defs.specs.Entries.{entries_of_both}
use Rattle.kp_object_defs.specs.Packing.{same_option}
use Rattle.kp_object_defs.specs.PortInfo.{port_key_of}
use Rattle.kp_object_defs.specs.PortByKey.{port_keys_of, port_named}

-- The inputs of a port: its Service, its endpoints of both families, whichever the node has tables
-- of, and the zone of the proxy's own node.
pub record PortInputs : Type 0 where
  pub service : Service
  pub entries : List Candidate
  pub zone : Option (List ℕ)

-- the inputs of a port of a Service
abbrev pub inputs_in : Settings → Objects → Service → ServicePort → PortInputs
inputs_in settings o s p = record {
  service = s;
  entries = entries_of_both settings.config o s (port_key_of s p);
  zone = zone_of o settings.config.node;
}

-- the inputs of the port of this name, or none where no Service has it
abbrev pub inputs_of : Settings → Objects → PortKey → Option PortInputs
inputs_of settings o key =
    option_and_then (λ s. option_map (inputs_in settings o s) (port_named key s))
    (finite.get o.services key.object)

-- whether inputs are the same
abbrev pub same_inputs : PortInputs → PortInputs → Bool
same_inputs a b =
    same_service.ghosts.eq a.service b.service
    && (pointwise same_candidate.ghosts.eq a.entries b.entries
    && same_option bytes_eq a.zone b.zone)

-- whether a port has the same inputs before and after
abbrev pub keeps_inputs : Settings → Objects → Objects → PortKey → Bool
keeps_inputs settings before after key =
    same_option same_inputs (inputs_of settings before key) (inputs_of settings after key)

-- the names of the ports of Services before or after, in order
abbrev pub ports_of_either : Objects → Objects → List PortKey
ports_of_either before after =
    distinct_in_order port_key_cmp
    (flat_map port_keys_of (finite.values before.services)
    ++ flat_map port_keys_of (finite.values after.services))

-- the ports whose inputs changed, in order
abbrev pub changed_ports : Settings → Objects → Objects → List PortKey
changed_ports settings before after =
    filter (λ key. not (keeps_inputs settings before after key)) (ports_of_either before after)
