-- Where the ports of a Service may answer: its addresses in either family, and its node ports
-- (Kubernetes documents on Services). Which of them count is asked elsewhere.
use Rattle.std.specs.Prelude.{ℕ, ◌==◌, ◌&&◌, ◌||◌, Bool, false, List, [], ◌∷◌, Option, Some, None}
use Rattle.std.specs.List.{list_any}
use Rattle.std.specs.Option.{option_to_list}
use Rattle.kp_base.specs.Net.{AddressParts, same_address}
use Rattle.kp_base.specs.declared.address.Family.{Family}
use Rattle.kp_base.specs.declared.address.Family.TheVariants.{V4, V6}
use Rattle.kp_base.specs.declared.port.Proto.{Proto}
use Rattle.kp_types.specs.Ports.{same_proto}
use Rattle.kp_types.specs.declared.service.ClusterAddress.{ClusterAddress}
use Rattle.kp_types.specs.declared.service.ClusterAddress.TheVariants.{Absent, Headless, At}
use Rattle.kp_types.specs.declared.service.Service.{Service}
use Rattle.kp_types.specs.declared.service.ServicePort.{ServicePort}
use Rattle.kp_object_defs.specs.PortInfo.{balancer_of, external_of}

-- the address of a cluster address field, if there is one
abbrev pub addresses_at : ClusterAddress → List AddressParts
addresses_at Absent = []
addresses_at Headless = []
addresses_at (At a) = a ∷ []

-- the cluster address that a Service gives for a family, if there is one
abbrev pub cluster_addresses : Family → Service → List AddressParts
cluster_addresses V4 s = addresses_at s.cluster
cluster_addresses V6 s = option_to_list s.six.cluster

-- an address is among addresses
abbrev pub has_address : AddressParts → List AddressParts → Bool
has_address target addresses = list_any (λ a. same_address a target) addresses

-- an address is one that a Service gives for a family
abbrev pub is_address_in : Family → AddressParts → Service → Bool
is_address_in family target s =
    has_address target (cluster_addresses family s)
    || (has_address target (external_of family s) || has_address target (balancer_of family s))

-- an address is one of a Service
abbrev pub is_address_of : AddressParts → Service → Bool
is_address_of target s = is_address_in V4 target s || is_address_in V6 target s

-- a number is the node port, if there is one
abbrev pub is_node_port : ℕ → Option ℕ → Bool
is_node_port number None = false
is_node_port number (Some n) = n == number

-- a port of a Service may answer at this address and number, or has the number as its node port
abbrev pub port_answers : Proto → AddressParts → ℕ → Service → ServicePort → Bool
port_answers proto target number s p =
    same_proto p.proto proto
    && (((p.port == number) && is_address_of target s) || is_node_port number p.node_port)

-- a port of the Service does
abbrev pub answers : Proto → AddressParts → ℕ → Service → Bool
answers proto target number s = list_any (port_answers proto target number s) s.ports
