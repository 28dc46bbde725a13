-- The names of the chains of Services, as kube-proxy makes them in its iptables mode: a prefix and the
-- first characters of the base 32 (RFC 4648, 6) of the SHA-256 (FIPS 180-4) of a text. How many
-- characters there are, 16 in kube-proxy, is a setting of this project.
use Rattle.std.specs.Prelude.{ℕ, ◌+◌, ◌*◌, ◌/◌, ◌%◌, ◌^◌, ◌==◌, ◌&&◌, nat_lt, Bool, false, not, List, [], ◌∷◌, ◌++◌, map, take, Option, Some, None, codes, bytes_eq, if◌then◌else◌}
use Rattle.std.specs.List.{find}
use Rattle.sha2.specs.Sha256.{sha256}
use Rattle.kp_base.specs.declared.port.Proto.{Proto}
use Rattle.kp_base.specs.declared.port.Proto.TheVariants.{Sctp, Tcp, Udp}
use Rattle.kp_base.specs.declared.key.PortKey.{PortKey}
use Rattle.kp_base.specs.declared.key.Endpoint.{Endpoint}
use Rattle.kp_base.specs.Net.{same_address}
use Rattle.kp_types.specs.declared.chain.PortChain.{PortChain}
use Rattle.kp_types.specs.declared.chain.PortChain.TheVariants.{Svc, Svl, Ext, Fw}
use Rattle.kp_types.specs.declared.chain.ChainKey.{ChainKey}
use Rattle.kp_types.specs.declared.chain.ChainKey.TheVariants.{Port, Sep}
use Rattle.kp_types.specs.declared.chain.Clash.{Clash}
use Rattle.kp_types.specs.Ports.{same_proto}
use Rattle.kp_choice_defs.specs.AddressText.{endpoint_text}

-- ---- base 32

-- the character for five bits: A to Z, then 2 to 7
abbrev pub base32_digit : ℕ → ℕ
base32_digit n = if nat_lt n 26 then 65 + n else 24 + n

-- the eight characters of five bytes
abbrev pub quantum_text : ℕ → ℕ → ℕ → ℕ → ℕ → List ℕ
quantum_text a b c d e =
    map (λ place. base32_digit (((((a * 256 + b) * 256 + c) * 256 + d) * 256 + e) / 32 ^ place % 32))
    (7 ∷ 6 ∷ 5 ∷ 4 ∷ 3 ∷ 2 ∷ 1 ∷ 0 ∷ [])

-- the characters of bytes, without padding; the last ones are of the bits that are left and of zeros
abbrev pub base32 : List ℕ → List ℕ
base32 [] = []
base32 (a ∷ []) = take 2 (quantum_text a 0 0 0 0)
base32 (a ∷ b ∷ []) = take 4 (quantum_text a b 0 0 0)
base32 (a ∷ b ∷ c ∷ []) = take 5 (quantum_text a b c 0 0)
base32 (a ∷ b ∷ c ∷ d ∷ []) = take 7 (quantum_text a b c d 0)
base32 (a ∷ b ∷ c ∷ d ∷ e ∷ rest) = quantum_text a b c d e ++ base32 rest

-- ---- names

-- a protocol in lower case
abbrev pub proto_text : Proto → List ℕ
proto_text Sctp = codes "sctp"
proto_text Tcp = codes "tcp"
proto_text Udp = codes "udp"

-- a colon and the port's name, or nothing for a port without a name
abbrev pub port_name_text : List ℕ → List ℕ
port_name_text [] = []
port_name_text (b ∷ bs) = codes ":" ++ b ∷ bs

-- a Service port's text: `namespace/name:port`, and the protocol
abbrev pub port_text : PortKey → List ℕ
port_text key =
    key.object.namespace ++ codes "/" ++ key.object.name ++ port_name_text key.port_name ++ proto_text key.proto

-- what a name of a Service port's chain begins with
abbrev pub port_chain_prefix : PortChain → List ℕ
port_chain_prefix Svc = codes "KUBE-SVC-"
port_chain_prefix Svl = codes "KUBE-SVL-"
port_chain_prefix Ext = codes "KUBE-EXT-"
port_chain_prefix Fw = codes "KUBE-FW-"

-- the first characters of a text's hash
abbrev pub hash_text : ℕ → List ℕ → List ℕ
hash_text length text = take length (base32 (sha256 text))

-- the name of a Service port's chain
abbrev pub port_chain_name : ℕ → PortChain → PortKey → List ℕ
port_chain_name length kind key = port_chain_prefix kind ++ hash_text length (port_text key)

-- the name of the chain of an endpoint of a Service port
abbrev pub endpoint_chain_name : ℕ → PortKey → Endpoint → List ℕ
endpoint_chain_name length key endpoint =
    codes "KUBE-SEP-" ++ hash_text length (port_text key ++ endpoint_text endpoint)

-- the name of the chain of a key
abbrev pub chain_name : ℕ → ChainKey → List ℕ
chain_name length (Port kind key) = port_chain_name length kind key
chain_name length (Sep key endpoint) = endpoint_chain_name length key endpoint

-- ---- clashes

-- the place of a kind among all
abbrev pub port_chain_place : PortChain → ℕ
port_chain_place Svc = 0
port_chain_place Svl = 1
port_chain_place Ext = 2
port_chain_place Fw = 3

-- whether two Service ports are one
abbrev pub same_port_key : PortKey → PortKey → Bool
same_port_key a b =
    bytes_eq a.object.namespace b.object.namespace && bytes_eq a.object.name b.object.name
    && bytes_eq a.port_name b.port_name && same_proto a.proto b.proto

-- whether two endpoints are one
abbrev pub same_endpoint : Endpoint → Endpoint → Bool
same_endpoint a b = same_address a.address b.address && (a.port == b.port)

-- whether two chains are for the same
abbrev pub same_chain_key : ChainKey → ChainKey → Bool
same_chain_key (Port kind a) (Port other b) = (port_chain_place kind == port_chain_place other) && same_port_key a b
same_chain_key (Sep a e) (Sep b f) = same_port_key a b && same_endpoint e f
same_chain_key (Port kind a) (Sep b f) = false
same_chain_key (Sep a e) (Port kind b) = false

-- two different keys have one name
abbrev pub is_clash : (ChainKey → List ℕ) → ChainKey → ChainKey → Bool
is_clash name a b = bytes_eq (name a) (name b) && not (same_chain_key a b)

-- the clash of a key with another one, or else a later clash
abbrev pub clash_or : (ChainKey → List ℕ) → ChainKey → Option ChainKey → Option Clash → Option Clash
clash_or name key (Some other) later = Some (record { name = name key; first = key; second = other })
clash_or name key None later = later

-- the clash whose first key stands first, and of those the one whose second key does
abbrev pub first_clash : (ChainKey → List ℕ) → List ChainKey → Option Clash
first_clash name [] = None
first_clash name (k ∷ ks) = clash_or name k (find (is_clash name k) ks) (first_clash name ks)
