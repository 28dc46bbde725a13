-- How Pods and Nodes are read (Kubernetes API, Pod v1 and Node v1): their rows, and the object where no row is at
-- fault. Which members are read, and their bounds, is this project's choice.
use Rattle.std.specs.Prelude.{ℕ, ◌||◌, Bool, false, List, [], ◌∷◌, map, codes, Option, Some, None, is_some, unwrap_or, Result, find}
use Rattle.std.specs.List.{filter_map, flat_map}
use Rattle.kp_json.specs.Places.{Place}
use Rattle.kp_json.specs.declared.fault.BadField.{BadField}
use Rattle.kp_base.specs.Net.{AddressParts}
use Rattle.kp_base.specs.declared.address.Family.TheVariants.{V4, V6}
use Rattle.kp_types.specs.declared.pod.Pod.{Pod}
use Rattle.kp_types.specs.declared.pod.Node.{Node}
use Rattle.kp_types.specs.declared.pod.ContainerPort.{ContainerPort}
use Rattle.kp_row_defs.specs.Fields.{inner, text_in, whole_in, items_in, is_text, texts_of, protocols, proto_in, port_name_in, address_in, pairs_in, key_in}
use Rattle.kp_row_defs.specs.Metadata.{name_row, namespace_row, texts_row}
use Rattle.kp_row_defs.specs.Rows.{Row, Rows, done, ◌▸◌, field, inside, each, needed, optional, any_text, name_text, port_name_text, label_text, address_text, choice, whole, rows_fault, unless_fault}
use Rattle.kp_event_defs.specs.FamilyParts.{first_address}

-- the rows of a container's port
abbrev pub container_port_rows : Rows
container_port_rows =
    field (codes "name") optional port_name_text
    ▸ field (codes "protocol") optional (choice (texts_of protocols))
    ▸ field (codes "containerPort") needed (whole 1 65535)
    ▸ done

-- the rows of a condition
abbrev pub condition_rows : Rows
condition_rows = field (codes "type") optional any_text ▸ field (codes "status") optional any_text ▸ done

-- the rows of a container
abbrev pub container_rows : Rows
container_rows = each (codes "ports") container_port_rows ▸ done

-- the rows of a Pod's metadata
abbrev pub pod_metadata_rows : Rows
pod_metadata_rows = name_row ▸ namespace_row ▸ texts_row ▸ field (codes "deletionTimestamp") optional any_text ▸ done

-- a Pod's metadata
abbrev pub pod_metadata_row : Row
pod_metadata_row = inside (codes "metadata") needed pod_metadata_rows

-- the rows of a Pod's `spec`
abbrev pub pod_spec_rows : Rows
pod_spec_rows = field (codes "nodeName") optional name_text ▸ each (codes "containers") container_rows ▸ done

-- a Pod's `spec`
abbrev pub pod_spec_row : Row
pod_spec_row = inside (codes "spec") optional pod_spec_rows

-- the rows of an address in a Pod's list
abbrev pub pod_address_rows : Rows
pod_address_rows = field (codes "ip") optional address_text ▸ done

-- the rows of a Pod's `status`
abbrev pub pod_status_rows : Rows
pod_status_rows =
    field (codes "phase") optional any_text
    ▸ field (codes "podIP") optional address_text
    ▸ each (codes "podIPs") pod_address_rows
    ▸ each (codes "conditions") condition_rows
    ▸ done

-- a Pod's `status`
abbrev pub pod_status_row : Row
pod_status_row = inside (codes "status") optional pod_status_rows

-- the rows of a Pod
abbrev pub pod_rows : Rows
pod_rows = pod_metadata_row ▸ pod_spec_row ▸ pod_status_row ▸ done

-- the rows of the label that counts
abbrev pub zone_rows : Rows
zone_rows = field (codes "topology.kubernetes.io/zone") optional label_text ▸ done

-- the label that counts
abbrev pub zone_row : Row
zone_row = inside (codes "labels") optional zone_rows

-- the rows of a Node's metadata
abbrev pub node_metadata_rows : Rows
node_metadata_rows = name_row ▸ texts_row ▸ zone_row ▸ done

-- the rows of a Node
abbrev pub node_rows : Rows
node_rows = inside (codes "metadata") needed node_metadata_rows ▸ done

-- a port of a container
abbrev pub container_port : Place → ContainerPort
container_port p = record {
  name = port_name_in p;
  proto = proto_in p;
  port = unwrap_or (whole_in (codes "containerPort") p) 0;
}

-- the ports of a container
abbrev pub container_ports : Place → List ContainerPort
container_ports p = map container_port (items_in (codes "ports") p)

-- whether a condition is about readiness
abbrev pub is_readiness : Place → Bool
is_readiness p = is_text (codes "Ready") (text_in (codes "type") p)

-- whether a condition holds, and none doesn't
abbrev pub holds : Option Place → Bool
holds None = false
holds (Some p) = is_text (codes "True") (text_in (codes "status") p)

-- whether a phase is that of a Pod that is done
abbrev pub is_finished : Option (List ℕ) → Bool
is_finished phase = is_text (codes "Succeeded") phase || is_text (codes "Failed") phase

-- the addresses of a list, or else the one address beside it
abbrev pub addresses_or : List AddressParts → Option AddressParts → List AddressParts
addresses_or [] None = []
addresses_or [] (Some a) = a ∷ []
addresses_or (a ∷ others) single = a ∷ others

-- the addresses of a Pod: those of `podIPs`, or else `podIP` (API reference, PodStatus)
abbrev pub pod_addresses : Place → List AddressParts
pod_addresses status =
    addresses_or (filter_map (address_in (codes "ip")) (items_in (codes "podIPs") status))
    (address_in (codes "podIP") status)

-- the Pod at a place
abbrev pub pod_from : Place → Pod
pod_from p =
    let metadata = inner (codes "metadata") p in
    let spec = inner (codes "spec") p in
    let status = inner (codes "status") p in record {
      key = key_in p;
      labels = pairs_in (codes "labels") metadata;
      deleting = is_some (text_in (codes "deletionTimestamp") metadata);
      node = text_in (codes "nodeName") spec;
      ports = flat_map container_ports (items_in (codes "containers") spec);
      finished = is_finished (text_in (codes "phase") status);
      address = first_address V4 (pod_addresses status);
      address6 = first_address V6 (pod_addresses status);
      ready = holds (find is_readiness (items_in (codes "conditions") status));
    }

-- the Node that these metadata are of
abbrev pub node_from_metadata : Place → Node
node_from_metadata metadata = record {
  name = unwrap_or (text_in (codes "name") metadata) [];
  zone = text_in (codes "topology.kubernetes.io/zone") (inner (codes "labels") metadata);
}

-- the Node at a place
abbrev pub node_from : Place → Node
node_from p = node_from_metadata (inner (codes "metadata") p)

-- the Pod that stands at a place, or the first fault of its rows
abbrev pub read_pod : Place → Result Pod BadField
read_pod p = unless_fault (rows_fault pod_rows p) (pod_from p)

-- the Node that stands at a place, or the first fault of its rows
abbrev pub read_node : Place → Result Node BadField
read_node p = unless_fault (rows_fault node_rows p) (node_from p)
