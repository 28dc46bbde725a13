-- How an EndpointSlice is read (Kubernetes API, EndpointSlice discovery.k8s.io/v1): its rows, and the slice where
-- no row is at fault. Which members are read, and their bounds, is this project's choice.
use Rattle.std.specs.Prelude.{ℕ, Bool, true, false, List, [], ◌∷◌, map, cond, codes, Option, None, option_map, unwrap_or, Result}
use Rattle.kp_json.specs.Places.{Place}
use Rattle.kp_json.specs.declared.fault.BadField.{BadField}
use Rattle.kp_base.specs.Net.{AddressParts}
use Rattle.kp_base.specs.declared.key.ObjectKey.{ObjectKey}
use Rattle.kp_types.specs.declared.slice.Slice.{Slice}
use Rattle.kp_types.specs.declared.slice.SliceEndpoint.{SliceEndpoint}
use Rattle.kp_types.specs.declared.slice.SlicePort.{SlicePort}
use Rattle.kp_types.specs.declared.slice.AddressType.{AddressType}
use Rattle.kp_types.specs.declared.slice.AddressType.TheVariants.{Ipv4, Ipv6, Fqdn}
use Rattle.kp_row_defs.specs.Fields.{inner, text_in, flag_in, whole_in, items_in, is_text, chosen, texts_of, protocols, proto_in, port_name_in, address_at, key_in}
use Rattle.kp_row_defs.specs.Metadata.{name_row, namespace_row, texts_row}
use Rattle.kp_row_defs.specs.Rows.{Row, Rows, Form, done, ◌▸◌, field, inside, each, each_up_to, first_item, where_text, needed, optional, any_text, name_text, port_name_text, label_text, address_text, choice, whole, truth_value, rows_fault, unless_fault}

-- address types
abbrev pub address_types : List (List ℕ × AddressType)
address_types = (codes "IPv4", Ipv4) ∷ (codes "IPv6", Ipv6) ∷ (codes "FQDN", Fqdn) ∷ []

-- the address type that a text names
abbrev pub address_type_of : Option (List ℕ) → AddressType
address_type_of text = chosen address_types Ipv4 text

-- the address type of a slice
abbrev pub address_type_in : Place → AddressType
address_type_in p = address_type_of (text_in (codes "addressType") p)

-- what the first address of an endpoint is
abbrev pub address_form : AddressType → Form
address_form Ipv4 = address_text
address_form Ipv6 = address_text
address_form Fqdn = any_text

-- the rows of an endpoint's conditions
abbrev pub condition_rows : Rows
condition_rows =
    field (codes "ready") optional truth_value
    ▸ field (codes "serving") optional truth_value
    ▸ field (codes "terminating") optional truth_value
    ▸ done

-- the conditions
abbrev pub conditions_row : Row
conditions_row = inside (codes "conditions") optional condition_rows

-- the rows of a topology hint
abbrev pub hint_rows : Rows
hint_rows = field (codes "name") needed label_text ▸ done

-- the rows of the topology hints
abbrev pub hint_list_rows : Rows
hint_list_rows = each (codes "forZones") hint_rows ▸ done

-- the topology hints
abbrev pub hints_row : Row
hints_row = inside (codes "hints") optional hint_list_rows

-- the rows of a reference to a pod
abbrev pub pod_rows : Rows
pod_rows = field (codes "namespace") optional name_text ▸ field (codes "name") optional name_text ▸ done

-- the rows of the object that an endpoint stands for; of another object than a pod nothing is read
abbrev pub target_rows : Rows
target_rows = field (codes "kind") optional any_text ▸ where_text (codes "kind") (codes "Pod") pod_rows ▸ done

-- the object that an endpoint stands for
abbrev pub target_row : Row
target_row = inside (codes "targetRef") optional target_rows

-- the rows of an endpoint, in a slice of some address type
abbrev pub endpoint_rows : AddressType → Rows
endpoint_rows family =
    first_item (codes "addresses") (address_form family)
    ▸ conditions_row
    ▸ field (codes "nodeName") optional name_text
    ▸ field (codes "zone") optional label_text
    ▸ hints_row
    ▸ target_row
    ▸ done

-- the endpoints
abbrev pub endpoints_row : AddressType → Row
endpoints_row family = each_up_to 1000 (codes "endpoints") (endpoint_rows family)

-- the rows of a port
abbrev pub slice_port_rows : Rows
slice_port_rows =
    field (codes "name") optional port_name_text
    ▸ field (codes "protocol") optional (choice (texts_of protocols))
    ▸ field (codes "port") optional (whole 1 65535)
    ▸ done

-- the ports
abbrev pub ports_row : Row
ports_row = each_up_to 100 (codes "ports") slice_port_rows

-- the rows of the labels that count
abbrev pub label_rows : Rows
label_rows =
    field (codes "kubernetes.io/service-name") optional name_text
    ▸ field (codes "endpointslice.kubernetes.io/managed-by") optional any_text
    ▸ done

-- the labels that count
abbrev pub labels_row : Row
labels_row = inside (codes "labels") optional label_rows

-- the rows of a slice's metadata
abbrev pub metadata_rows : Rows
metadata_rows = name_row ▸ namespace_row ▸ texts_row ▸ labels_row ▸ done

-- the metadata
abbrev pub metadata_row : Row
metadata_row = inside (codes "metadata") needed metadata_rows

-- the rows of a slice of some address type
abbrev pub slice_rows : AddressType → Rows
slice_rows family =
    metadata_row
    ▸ field (codes "addressType") needed (choice (texts_of address_types))
    ▸ endpoints_row family
    ▸ ports_row
    ▸ done

-- the address at a place, in a slice of some address type; it may be of the other family
abbrev pub address_of_type : AddressType → Place → Option AddressParts
address_of_type Ipv4 p = address_at p
address_of_type Ipv6 p = address_at p
address_of_type Fqdn p = None

-- the first address of an endpoint
abbrev pub first_of_type : AddressType → List Place → Option AddressParts
first_of_type family [] = None
first_of_type family (p ∷ ps) = address_of_type family p

-- the pod of a reference, in the slice's namespace where it gives none
abbrev pub named_pod : List ℕ → Place → Option ObjectKey
named_pod namespace p =
    option_map (λ name. record { namespace = unwrap_or (text_in (codes "namespace") p) namespace; name = name })
    (text_in (codes "name") p)

-- the pod that a reference names, where its kind is that of a pod
abbrev pub target_pod : List ℕ → Place → Option ObjectKey
target_pod namespace p = cond (is_text (codes "Pod") (text_in (codes "kind") p)) (named_pod namespace p) None

-- the zone of a hint
abbrev pub hint_from : Place → List ℕ
hint_from p = unwrap_or (text_in (codes "name") p) []

-- whether an endpoint is ready: it is where nothing is said
abbrev pub ready_in : Place → Bool
ready_in conditions = unwrap_or (flag_in (codes "ready") conditions) true

-- an endpoint of a slice of some address type and namespace
abbrev pub endpoint_from : AddressType → List ℕ → Place → SliceEndpoint
endpoint_from family namespace p =
    let conditions = inner (codes "conditions") p in record {
      address = first_of_type family (items_in (codes "addresses") p);
      ready = ready_in conditions;
      serving = unwrap_or (flag_in (codes "serving") conditions) (ready_in conditions);
      terminating = unwrap_or (flag_in (codes "terminating") conditions) false;
      node = text_in (codes "nodeName") p;
      zone = text_in (codes "zone") p;
      hints = map hint_from (items_in (codes "forZones") (inner (codes "hints") p));
      pod = target_pod namespace (inner (codes "targetRef") p);
    }

-- a port of a slice
abbrev pub slice_port : Place → SlicePort
slice_port p = record { name = port_name_in p; proto = proto_in p; port = whole_in (codes "port") p }

-- the slice at a place
abbrev pub slice_from : Place → Slice
slice_from p =
    let labels = inner (codes "labels") (inner (codes "metadata") p) in
    let key = key_in p in record {
      key = key;
      service = text_in (codes "kubernetes.io/service-name") labels;
      managed = is_text (codes "endpointslice-controller.k8s.io") (text_in (codes "endpointslice.kubernetes.io/managed-by") labels);
      family = address_type_in p;
      ports = map slice_port (items_in (codes "ports") p);
      endpoints = map (endpoint_from (address_type_in p) key.namespace) (items_in (codes "endpoints") p);
    }

-- the slice that stands at a place, or the first fault of its rows
abbrev pub read_slice : Place → Result Slice BadField
read_slice p = unless_fault (rows_fault (slice_rows (address_type_in p)) p) (slice_from p)
