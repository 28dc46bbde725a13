-- Worked examples of the names of chains: those that kube-proxy gives to well-known Services and in its tests
-- (RFC 4648, 10, for the base 32).
use Rattle.std.specs.Prelude.{◌≡◌, ℕ, List, [], ◌∷◌, codes, Some, None}
use Rattle.kp_base.specs.declared.port.Proto.{Proto}
use Rattle.kp_base.specs.declared.port.Proto.TheVariants.{Tcp, Udp}
use Rattle.kp_base.specs.declared.key.PortKey.{PortKey}
use Rattle.kp_types.specs.declared.chain.PortChain.TheVariants.{Svc}
use Rattle.kp_types.specs.declared.chain.ChainKey.TheVariants.{Sep}
use Rattle.kp_choice_defs.specs.Names.{base32, port_chain_name, endpoint_chain_name, chain_name, first_clash}
use Rattle.kp_table_defs.specs.Rebuild.{needed_keys}
use Rattle.kp_worked.specs.Setting.{ipv4, web, web_port, first, infos, ep1, ep2}
use Rattle.kp_worked.specs.Decisions.{two}

-- a Service port
abbrev pub port_of : List ℕ → List ℕ → List ℕ → Proto → PortKey
port_of namespace service port proto = record {
  object = record { namespace = namespace; name = service };
  port_name = port;
  proto = proto;
}

-- the base 32 of `foobar`, without its padding
abbrev pub Foobar : Type 0
Foobar = base32 (codes "foobar") ≡ codes "MZXW6YTBOI"

-- the chain of the API server's Service
abbrev pub ApiServer : Type 0
ApiServer =
    port_chain_name 16 Svc (port_of (codes "default") (codes "kubernetes") (codes "https") Tcp)
    ≡ codes "KUBE-SVC-NPX46M4PTMTKRN6Y"

-- and that of the cluster's DNS
abbrev pub Dns : Type 0
Dns =
    port_chain_name 16 Svc (port_of (codes "kube-system") (codes "kube-dns") (codes "dns") Udp)
    ≡ codes "KUBE-SVC-TCOU7JCQXEZGVUNU"

-- the chain of an endpoint
abbrev pub OfEndpoint : Type 0
OfEndpoint =
    endpoint_chain_name 16 (port_of (codes "ns1") (codes "svc1") (codes "p80") Tcp)
    (record { address = ipv4 10 180 0 1; port = 80 })
    ≡ codes "KUBE-SEP-SXIVWICOYRO3J4NJ"

-- without characters of hashes, the chains of two endpoints have one name
abbrev pub Clashing : Type 0
Clashing =
    first_clash (chain_name 0) (needed_keys (infos web two))
    ≡ Some (record { name = codes "KUBE-SEP-"; first = Sep web_port ep1; second = Sep web_port ep2 })

-- and one endpoint alone clashes with nothing
abbrev pub OneEndpoint : Type 0
OneEndpoint = first_clash (chain_name 0) (needed_keys (infos web (first ∷ []))) ≡ None

-- nor do two under the whole names
abbrev pub WholeNames : Type 0
WholeNames = first_clash (chain_name 16) (needed_keys (infos web two)) ≡ None
