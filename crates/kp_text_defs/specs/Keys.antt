-- Names of Service ports and of chains as the program prints them, and texts in quotes (this project's
-- choice).
use Rattle.std.specs.Prelude.{ℕ, List, ◌++◌, codes}
use Rattle.serde_json.specs.Data.{string}
use Rattle.serde_json.specs.Written.{compact_text}
use Rattle.kp_base.specs.declared.port.Proto.{Proto}
use Rattle.kp_base.specs.declared.port.Proto.TheVariants.{Sctp, Tcp, Udp}
use Rattle.kp_base.specs.declared.key.ObjectKey.{ObjectKey}
use Rattle.kp_base.specs.declared.key.PortKey.{PortKey}
use Rattle.kp_types.specs.declared.chain.ChainKey.{ChainKey}
use Rattle.kp_types.specs.declared.chain.ChainKey.TheVariants.{Port, Sep}
use Rattle.kp_choice_defs.specs.AddressText.{endpoint_text}
use Rattle.kp_choice_defs.specs.Names.{port_name_text}

-- a text as a JSON string (RFC 8259, 7), as `serde_json` writes it
abbrev pub json_text : List ℕ → List ℕ
json_text text = compact_text (string text)

-- a protocol, as the Kubernetes API writes it
abbrev pub proto_text : Proto → List ℕ
proto_text Sctp = codes "SCTP"
proto_text Tcp = codes "TCP"
proto_text Udp = codes "UDP"

-- an object: `namespace/name`
abbrev pub object_text : ObjectKey → List ℕ
object_text key = key.namespace ++ codes "/" ++ key.name

-- a Service port: `namespace/name:port/PROTO`, without the colon where the port has no name
abbrev pub port_text : PortKey → List ℕ
port_text key = object_text key.object ++ port_name_text key.port_name ++ codes "/" ++ proto_text key.proto

-- what a chain is for: its Service port, and for the chain of an endpoint a space and the endpoint
abbrev pub chain_key_text : ChainKey → List ℕ
chain_key_text (Port kind port) = port_text port
chain_key_text (Sep port endpoint) = port_text port ++ codes " " ++ endpoint_text endpoint
