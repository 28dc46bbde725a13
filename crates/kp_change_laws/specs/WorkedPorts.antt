-- What the worked lines of changes speak of: a node with tables of both families, two databases, a
-- web server and two plain Services.
use Rattle.std.specs.Prelude.{ℕ, ◌+◌, ◌*◌, ◌^◌, true, false, not, List, [], ◌∷◌, codes, Option, None}
use Rattle.kp_base.specs.Net.{AddressParts, RangeParts, v4_address, v6_address}
use Rattle.kp_base.specs.declared.address.Family.{Family}
use Rattle.kp_base.specs.declared.address.Family.TheVariants.{V4, V6}
use Rattle.kp_base.specs.declared.key.Endpoint.{Endpoint}
use Rattle.kp_base.specs.declared.key.PortKey.{PortKey}
use Rattle.kp_base.specs.declared.port.Proto.TheVariants.{Tcp}
use Rattle.kp_types.specs.Setting.{Settings, both_families}
use Rattle.kp_types.specs.declared.service.Policy.{Policy}
use Rattle.kp_types.specs.declared.service.Policy.TheVariants.{Cluster}
use Rattle.kp_choice_defs.specs.Names.{chain_name}
use Rattle.kp_choice_defs.specs.Settings.{pick_by_draws}
use Rattle.kp_object_defs.specs.Desired.{is_empty}
use Rattle.kp_object_defs.specs.PortInfo.{PortInfo}
use Rattle.kp_change_defs.specs.ChangeText.{change_text}

abbrev pub ipv4 : ℕ → ℕ → ℕ → ℕ → AddressParts
ipv4 a b c d = v4_address (((a * 256 + b) * 256 + c) * 256 + d)

-- an address of fd00::/112
abbrev pub ipv6 : ℕ → AddressParts
ipv6 n = v6_address (253 * 2 ^ 120 + n)

abbrev pub at : AddressParts → ℕ → Endpoint
at address port = record { address = address; port = port }

-- a TCP port of a Service
abbrev pub port : List ℕ → List ℕ → List ℕ → PortKey
port namespace name port_name = record {
  object = record { namespace = namespace; name = name };
  port_name = port_name;
  proto = Tcp;
}

-- names of chains have 16 characters of their hash
abbrev pub settings : Settings
settings = record {
  families = both_families;
  name_of = chain_name 16;
  pick = pick_by_draws;
  config = record {
    node = codes "n1";
    addresses = [];
    cluster = λ family. None;
    masquerade_all = false;
    controller = true;
  };
}

-- ports of each family
abbrev pub of_both : List PortInfo → List PortInfo → Family → List PortInfo
of_both four six V4 = four
of_both four six V6 = six

-- the lines between ports of IPv4
abbrev pub lines : List PortInfo → List PortInfo → List ℕ
lines before after = change_text settings (of_both before []) (of_both after [])

-- ---- Ports

-- a port at a cluster address alone
abbrev pub plain : PortKey → ℕ → AddressParts → List Endpoint → PortInfo
plain key number address es = record {
  key = key;
  number = number;
  address = address;
  external = [];
  balancer = [];
  node_port = None;
  ranges = None;
  affinity = None;
  internal = Cluster;
  outer = Cluster;
  lists = record { cluster = es; local = []; has_any = not (is_empty es) };
}

-- the database of a namespace, maybe at an external address too
abbrev pub db : List ℕ → AddressParts → Endpoint → List AddressParts → PortInfo
db namespace address e external =
    record (plain (port namespace (codes "db") []) 5432 address (e ∷ [])) { external = external }

abbrev pub first_db : List AddressParts → PortInfo
first_db external = db (codes "default") (ipv4 10 96 0 9) (at (ipv4 10 244 1 20) 5432) external

abbrev pub second_db : List AddressParts → PortInfo
second_db external = db (codes "shop") (ipv4 10 96 0 10) (at (ipv4 10 244 3 20) 5432) external

-- the web server, maybe at a node port too, with an endpoint on this node and one elsewhere
abbrev pub web : AddressParts → Option ℕ → Policy → Endpoint → Endpoint → PortInfo
web address node_port outer here elsewhere =
    record
    (plain (port (codes "default") (codes "web") (codes "http")) 80 address
    (here ∷ elsewhere ∷ [])) {
      node_port = node_port;
      outer = outer;
      lists = record {
        cluster = here ∷ elsewhere ∷ [];
        local = here ∷ [];
        has_any = true;
      };
    }

abbrev pub web4 : Option ℕ → Policy → PortInfo
web4 node_port outer =
    web (ipv4 10 96 0 20) node_port outer (at (ipv4 10 244 1 10) 8080) (at (ipv4 10 244 2 10) 8080)

abbrev pub web6 : Option ℕ → Policy → PortInfo
web6 node_port outer =
    web (ipv6 32) node_port outer (at (ipv6 256) 8080) (at (ipv6 257) 8080)

-- the web server at a load balancer with these source ranges
abbrev pub balanced : Policy → Option (List RangeParts) → PortInfo
balanced outer ranges =
    record (web4 None outer) { balancer = ipv4 198 51 100 7 ∷ []; ranges = ranges }

-- a Service of one letter, at a port, maybe at an external address too
abbrev pub letter : List ℕ → ℕ → ℕ → List AddressParts → PortInfo
letter name place number external =
    record
    (plain (port (codes "default") name []) number (ipv4 10 96 0 place)
    (at (ipv4 10 244 1 place) 8080 ∷ []))
    { external = external }
