-- The test of keys is the derived one.
use Rattle.std.proofs.Common.{◌≡◌, ◌&&◌, ◌==◌, refl, ap, sym, ◌∙◌}
use Rattle.std.specs.Str.{bytes_eq}
use Rattle.std.proofs.Math.Bool.{and_assoc}
use Rattle.kp_base.specs.declared.key.PortKey.{PortKey}
use Rattle.kp_base.specs.declared.key.Endpoint.{Endpoint}
use Rattle.kp_base.proofs.SameParts.{family_same, proto_same}
use Rattle.kp_base.specs.contracts.key.PortKeyPartialEq.TheImpl as port_key_eq
use Rattle.kp_base.specs.contracts.key.EndpointPartialEq.TheImpl as endpoint_eq
use Rattle.kp_types.specs.declared.chain.PortChain.{PortChain}
use Rattle.kp_types.specs.declared.chain.PortChain.TheVariants.{Svc, Svl, Ext, Fw}
use Rattle.kp_types.specs.declared.chain.ChainKey.{ChainKey}
use Rattle.kp_types.specs.declared.chain.ChainKey.TheVariants.{Port, Sep}
use Rattle.kp_types.specs.contracts.chain.PortChainPartialEq.TheImpl as kind_eq
use Rattle.kp_types.specs.contracts.chain.ChainKeyPartialEq.TheImpl as chain_key_eq
use Rattle.kp_types.specs.Ports.{same_proto}
use Rattle.kp_choice_defs.specs.Names.{port_chain_place, same_port_key, same_endpoint, same_chain_key}

kind_same : (a b : PortChain) → kind_eq.ghosts.eq a b ≡ (port_chain_place a == port_chain_place b)
kind_same Svc Svc = refl
kind_same Svc Svl = refl
kind_same Svc Ext = refl
kind_same Svc Fw = refl
kind_same Svl Svc = refl
kind_same Svl Svl = refl
kind_same Svl Ext = refl
kind_same Svl Fw = refl
kind_same Ext Svc = refl
kind_same Ext Svl = refl
kind_same Ext Ext = refl
kind_same Ext Fw = refl
kind_same Fw Svc = refl
kind_same Fw Svl = refl
kind_same Fw Ext = refl
kind_same Fw Fw = refl

port_key_same : (a b : PortKey) → port_key_eq.ghosts.eq a b ≡ same_port_key a b
port_key_same a b =
    ap (λ t. (bytes_eq a.object.namespace b.object.namespace && bytes_eq a.object.name b.object.name) && (bytes_eq a.port_name b.port_name && t)) (proto_same a.proto b.proto)
    ∙ sym (and_assoc (bytes_eq a.object.namespace b.object.namespace && bytes_eq a.object.name b.object.name) (bytes_eq a.port_name b.port_name) (same_proto a.proto b.proto))

endpoint_same : (a b : Endpoint) → endpoint_eq.ghosts.eq a b ≡ same_endpoint a b
endpoint_same a b =
    ap (λ t. (t && (a.address.number == b.address.number)) && (a.port == b.port)) (family_same a.address.family b.address.family)

pub chain_key_same : (a b : ChainKey) → chain_key_eq.ghosts.eq a b ≡ same_chain_key a b
chain_key_same (Port k a) (Port l b) = λ i. kind_same k l i && port_key_same a b i
chain_key_same (Port k a) (Sep b f) = refl
chain_key_same (Sep a e) (Port l b) = refl
chain_key_same (Sep a e) (Sep b f) = λ i. port_key_same a b i && endpoint_same e f i
