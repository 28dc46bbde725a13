-- Worked lines of EndpointSlices and of their endpoints (this project's choice).
use Rattle.std.specs.Prelude.{◌≡◌, ℕ, Bool, true, false, [], ◌∷◌, ◌++◌, codes, Some, None}
use Rattle.kp_base.specs.Net.{v4_address}
use Rattle.kp_base.specs.declared.port.Proto.TheVariants.{Sctp, Tcp, Udp}
use Rattle.kp_types.specs.declared.slice.AddressType.TheVariants.{Ipv4, Ipv6, Fqdn}
use Rattle.kp_types.specs.declared.slice.SliceEndpoint.{SliceEndpoint}
use Rattle.kp_types.specs.declared.slice.Slice.{Slice}
use Rattle.kp_text_defs.specs.Slices.{slices_text}
use Rattle.kp_worked_texts.specs.Setting.{object}

-- an endpoint of node n1 in zone a: whether it is ready, serves and terminates
abbrev pub entry : ℕ → Bool → Bool → Bool → SliceEndpoint
entry number ready serving terminating = record {
  address = Some (v4_address number);
  ready = ready;
  serving = serving;
  terminating = terminating;
  node = Some (codes "n1");
  zone = Some (codes "a");
  hints = [];
  pod = None;
}

-- an endpoint without an address, meant for two zones
abbrev pub nowhere : SliceEndpoint
nowhere = record {
  address = None;
  ready = true;
  serving = true;
  terminating = false;
  node = None;
  zone = None;
  hints = codes "a" ∷ codes "b" ∷ [];
  pod = None;
}

-- a managed slice of the Service web with the one port 8080
abbrev pub managed : Slice
managed = record {
  key = object (codes "web-abc12");
  service = Some (codes "web");
  managed = true;
  family = Ipv4;
  ports = record { name = []; proto = Tcp; port = Some 8080 } ∷ [];
  endpoints =
      entry 183763202 true true false ∷ entry 183763203 false false false ∷ entry 183763204 false true true ∷ [];
}

-- a slice of no Service with two ports, of which one has no number
abbrev pub own : Slice
own = record {
  key = object (codes "own");
  service = None;
  managed = false;
  family = Fqdn;
  ports = record { name = codes "dns"; proto = Udp; port = Some 53 } ∷ record { name = codes "sip"; proto = Sctp; port = None } ∷ [];
  endpoints = nowhere ∷ [];
}

-- a slice that has nothing
abbrev pub bare : Slice
bare = record {
  key = object (codes "six");
  service = None;
  managed = false;
  family = Ipv6;
  ports = [];
  endpoints = [];
}

-- the lines of slices
abbrev pub Lines : Type 0
Lines =
    slices_text (managed ∷ own ∷ bare ∷ []) false
    ≡ codes "slice default/web-abc12: IPv4, managed, service web, ports :8080/TCP, endpoints 3\n"
    ++ codes "slice default/own: FQDN, own, service -, ports dns:53/UDP,sip:*/SCTP, endpoints 1\n"
    ++ codes "slice default/six: IPv6, own, service -, ports -, endpoints 0\n"

-- the lines of their endpoints
abbrev pub Entries : Type 0
Entries =
    slices_text (managed ∷ own ∷ bare ∷ []) true
    ≡ codes "endpoint default/web-abc12 1: 10.244.1.2 rs- node n1 zone a hints -\n"
    ++ codes "endpoint default/web-abc12 2: 10.244.1.3 --- node n1 zone a hints -\n"
    ++ codes "endpoint default/web-abc12 3: 10.244.1.4 -st node n1 zone a hints -\n"
    ++ codes "endpoint default/own 1: - rs- node - zone - hints a,b\n"
