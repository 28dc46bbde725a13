-- What the worked lines speak of: the Service default/web, and its endpoints 10.244.1.2 and 10.244.2.3, port 8080.
use Rattle.std.specs.Prelude.{ℕ, List, [], codes}
use Rattle.kp_base.specs.Net.{v4_address}
use Rattle.kp_base.specs.declared.port.Proto.TheVariants.{Tcp}
use Rattle.kp_base.specs.declared.key.ObjectKey.{ObjectKey}
use Rattle.kp_base.specs.declared.key.PortKey.{PortKey}
use Rattle.kp_base.specs.declared.key.Endpoint.{Endpoint}
use Rattle.kp_types.specs.declared.chain.PortChain.TheVariants.{Svc}
use Rattle.kp_types.specs.declared.chain.ChainKey.TheVariants.{Port, Sep}
use Rattle.kp_types.specs.declared.chain.Clash.{Clash}

-- an object of the default namespace
abbrev pub object : List ℕ → ObjectKey
object name = record { namespace = codes "default"; name = name }

-- the TCP port of the Service that has this name
abbrev pub web : List ℕ → PortKey
web port_name = record { object = object (codes "web"); port_name = port_name; proto = Tcp }

-- the first endpoint
abbrev pub first : Endpoint
first = record { address = v4_address 183763202; port = 8080 }

-- the second
abbrev pub second : Endpoint
second = record { address = v4_address 183763459; port = 8080 }

-- the endpoints in chains of one name
abbrev pub clash : Clash
clash = record { name = codes "KUBE-SEP-"; first = Sep (web []) first; second = Sep (web []) second }

-- two ports in chains of one name
abbrev pub port_clash : Clash
port_clash = record { name = codes "KUBE-SVC-"; first = Port Svc (web []); second = Port Svc (web (codes "https")) }
