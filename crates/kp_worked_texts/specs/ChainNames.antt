-- Worked names of chains: those that kube-proxy gives, computed by sha256sum and base32 of
-- coreutils, and clashes of shortened names.
use Rattle.std.specs.Prelude.{◌≡◌, ℕ, List, [], ◌∷◌, codes, map, Option, Some, None}
use Rattle.kp_base.specs.declared.port.Proto.TheVariants.{Tcp}
use Rattle.kp_base.specs.declared.key.PortKey.{PortKey}
use Rattle.kp_types.specs.declared.chain.PortChain.{PortChain}
use Rattle.kp_types.specs.declared.chain.PortChain.TheVariants.{Svc, Svl, Ext, Fw}
use Rattle.kp_types.specs.declared.chain.ChainKey.{ChainKey}
use Rattle.kp_types.specs.declared.chain.ChainKey.TheVariants.{Port}
use Rattle.kp_types.specs.declared.chain.Clash.{Clash}
use Rattle.kp_choice_defs.specs.Names.{port_chain_name, endpoint_chain_name, chain_name, first_clash}
use Rattle.kp_worked_texts.specs.Setting.{object, web, first}

-- the TCP port of a name of a Service
abbrev pub port_of : List ℕ → List ℕ → PortKey
port_of service name = record { object = object service; port_name = name; proto = Tcp }

-- the name of a chain of the API server's Service, of so many characters of its hash
abbrev pub named : ℕ → PortChain → List ℕ
named characters kind =
    port_chain_name characters kind (port_of (codes "kubernetes") (codes "https"))

-- what a port's chain is for stands in the prefix alone
abbrev pub OfPort : Type 0
OfPort =
    (named 16 Svc ≡ codes "KUBE-SVC-NPX46M4PTMTKRN6Y")
    × (named 16 Svl ≡ codes "KUBE-SVL-NPX46M4PTMTKRN6Y")
    × (named 16 Ext ≡ codes "KUBE-EXT-NPX46M4PTMTKRN6Y") × (named 9 Fw ≡ codes "KUBE-FW-NPX46M4PT")

-- the chain of an endpoint
abbrev pub OfEndpoint : Type 0
OfEndpoint = endpoint_chain_name 16 (web []) first ≡ codes "KUBE-SEP-PXJ2U7QYT2QW5545"

-- the chain of the port of a Service
abbrev pub chain_of : List ℕ → ChainKey
chain_of service = Port Svc (port_of service [])

-- The chains of five Services, of which one comes twice. The names of d and b begin with W, those of
-- k and u with I.
abbrev pub five : List ChainKey
five = map chain_of (codes "d" ∷ codes "k" ∷ codes "u" ∷ codes "d" ∷ codes "b" ∷ [])

-- their first clash by names of so many characters
abbrev pub clash_by : ℕ → Option Clash
clash_by characters = first_clash (chain_name characters) five

-- two characters tell them apart, and of the two clashes by one the first is told
abbrev pub FirstClash : Type 0
FirstClash =
    (clash_by 2 ≡ None)
    × (clash_by 1
    ≡ Some (record {
      name = codes "KUBE-SVC-W";
      first = chain_of (codes "d");
      second = chain_of (codes "b");
    }))
