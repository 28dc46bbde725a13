-- Worked examples of endpoints that stand in several entries (Kubernetes documents on EndpointSlices, "Duplicate
-- endpoints"; of several entries of one address and port, that the last one on this node counts, or else the first,
-- is this project's choice). The addresses are 10.244.0.1 to 10.244.0.9, on the nodes n1, where it is asked, and n2.
use Rattle.std.specs.Prelude.{◌≡◌, ℕ, Bool, true, false, List, [], ◌∷◌, codes, Some, None}
use Rattle.kp_base.specs.declared.address.Family.TheVariants.{V4}
use Rattle.kp_base.specs.declared.port.Proto.{Proto}
use Rattle.kp_base.specs.declared.port.Proto.TheVariants.{Tcp, Udp}
use Rattle.kp_types.specs.declared.lists.Candidate.{Candidate}
use Rattle.kp_types.specs.declared.slice.AddressType.{AddressType}
use Rattle.kp_types.specs.declared.slice.AddressType.TheVariants.{Ipv4, Ipv6, Fqdn}
use Rattle.kp_types.specs.declared.slice.SlicePort.{SlicePort}
use Rattle.kp_types.specs.declared.slice.SliceEndpoint.{SliceEndpoint}
use Rattle.kp_types.specs.declared.slice.Slice.{Slice}
use Rattle.kp_types.specs.declared.slice.Wanted.{Wanted}
use Rattle.kp_object_defs.specs.Entries.{counted_once, candidates_from}
use Rattle.kp_worked.specs.Setting.{ipv4, default_key, at_8080}

-- an entry of an address on a node: whether it is ready, serves and terminates
abbrev pub entry : ℕ → List ℕ → Bool → Bool → Bool → SliceEndpoint
entry host node ready serving terminating = record {
  address = Some (ipv4 10 244 0 host);
  ready = ready;
  serving = serving;
  terminating = terminating;
  node = Some node;
  zone = None;
  hints = [];
  pod = None;
}

-- this node
abbrev pub n1 : List ℕ
n1 = codes "n1"

-- another one
abbrev pub n2 : List ℕ
n2 = codes "n2"

-- ports of one name, of which the first has no number
abbrev pub ports : List SlicePort
ports =
    record { name = codes "http"; proto = Tcp; port = None }
    ∷ record { name = codes "http"; proto = Tcp; port = Some 8080 }
    ∷ record { name = codes "http"; proto = Tcp; port = Some 9090 } ∷ []

-- a slice of these addresses
abbrev pub slice : AddressType → List SliceEndpoint → Slice
slice family entries = record {
  key = default_key (codes "web-x");
  service = None;
  managed = false;
  family = family;
  ports = ports;
  endpoints = entries;
}

-- slices, of which two have entries of one address, and two are of other types
abbrev pub slices : List Slice
slices =
    slice Ipv4
    (entry 2 n2 true false false ∷ entry 1 n2 true false false ∷ entry 3 n1 false false true ∷ entry 5 n2 true false false ∷ [])
    ∷ slice Ipv4
    (entry 2 n1 false true false ∷ entry 1 n2 false true false ∷ entry 2 n1 true true false
    ∷ entry 3 n2 true false false ∷ entry 5 n1 false true false ∷ [])
    ∷ slice Ipv6 (entry 8 n1 true false false ∷ []) ∷ slice Fqdn (entry 9 n1 true false false ∷ []) ∷ []

-- an endpoint that is wanted of a pod on this node
abbrev pub wanted : List Wanted
wanted = record { pod = default_key (codes "web-0"); ports = ports; entry = entry 4 n1 false false false } ∷ []

-- the endpoints of the port http of a protocol
abbrev pub found : Proto → List Candidate
found proto =
    counted_once
    (candidates_from V4 n1 (record { object = default_key (codes "web"); port_name = codes "http"; proto = proto }) wanted slices)

-- an endpoint: whether it is ready, serves, terminates and is on this node
abbrev pub candidate : ℕ → Bool → Bool → Bool → Bool → Candidate
candidate host ready serving terminating local = record {
  endpoint = at_8080 (ipv4 10 244 0 host);
  ready = ready;
  serving = serving;
  terminating = terminating;
  local = local;
  hints = [];
}

-- of entries of one address the last one on this node counts, or else the first
abbrev pub Repeated : Type 0
Repeated =
    found Tcp
    ≡ candidate 1 true false false false ∷ candidate 2 true true false true ∷ candidate 3 false false true true
    ∷ candidate 4 false false false true ∷ candidate 5 false true false true ∷ []

-- a port of another protocol has none
abbrev pub OtherProtocol : Type 0
OtherProtocol = found Udp ≡ []
