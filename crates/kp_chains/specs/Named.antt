-- Rules of a port's endpoints, by the names of their chains.
use Rattle.std.specs.Prelude.{ℕ, zero, suc, Bool, not, List, [], ◌∷◌, ◌++◌, map, length, Option, None, Some, false}
use Rattle.std.specs.List.{filter}
use Rattle.std.specs.BTreeSet.{BTreeSet, contains}
use Rattle.kp_base.specs.contracts.key.EndpointOrd.TheImpl as endpoint_ord
use Rattle.kp_base.specs.Net.{RangeParts, single_range}
use Rattle.kp_base.specs.declared.address.Family.{Family}
use Rattle.kp_base.specs.declared.config.Config.{Config}
use Rattle.kp_base.specs.declared.key.Endpoint.{Endpoint}
use Rattle.kp_types.specs.Places.{nat_of}
use Rattle.kp_types.specs.Rules.{rule_of}
use Rattle.kp_types.specs.Setting.{Setting}
use Rattle.kp_types.specs.declared.chain.ChainKey.TheVariants.{Port, Sep}
use Rattle.kp_types.specs.declared.chain.PortChain.{PortChain}
use Rattle.kp_types.specs.declared.chain.PortChain.TheVariants.{Svc, Svl, Ext, Fw}
use Rattle.kp_types.specs.declared.chain.ChainAt.{ChainAt}
use Rattle.kp_types.specs.declared.rule.Match.TheVariants as match
use Rattle.kp_types.specs.declared.rule.Target.TheVariants as target
use Rattle.kp_types.specs.declared.rule.Rule.{Rule}
use Rattle.kp_choice_defs.specs.Names.{chain_name}
use Rattle.kp_object_defs.specs.Lists.{is_local_policy}
use Rattle.kp_object_defs.specs.PortInfo.{PortInfo}
use Rattle.kp_table_defs.specs.Keys.{has_endpoint}
use Rattle.kp_table_defs.specs.Layout.{row, rules_if, mark_rules, port_chain, external_rules, firewall_chain_rules, jump_to, chance, mark_masq, set_seen}
use Rattle.kp_chains.specs.declared.named.NamedEndpoint.{NamedEndpoint}

-- the name of a port's chain of a kind, the same in the tables of each family
abbrev pub name_of_kind : Config → PortInfo → PortChain → List ℕ
name_of_kind config i kind = chain_name config.name_length (Port kind i.key)

-- the name of the chain of a port's endpoint, the same too
abbrev pub name_of_endpoint : Config → PortInfo → Endpoint → List ℕ
name_of_endpoint config i e = chain_name config.name_length (Sep i.key e)

-- an endpoint with the name that a function gives its chain
abbrev pub named_by : (Endpoint → List ℕ) → Endpoint → NamedEndpoint
named_by name e = record { endpoint = e; chain = name e }

-- the rule for an endpoint where so many are left
abbrev pub choice_of : ℕ → NamedEndpoint → Rule
choice_of zero e = jump_to e.chain
choice_of (suc zero) e = jump_to e.chain
choice_of (suc (suc n)) e = chance (suc (suc n)) (target.Jump e.chain)

-- the rules that choose one of some endpoints
abbrev pub choices : List NamedEndpoint → List Rule
choices [] = []
choices (e ∷ es) = choice_of (suc (length es)) e ∷ choices es

-- the rule for a source that was sent to this endpoint so lately
abbrev pub seen_rule : ℕ → NamedEndpoint → Rule
seen_rule seconds e = rule_of (match.Seen e.chain seconds ∷ []) (target.Jump e.chain)

-- these rules, under session affinity
abbrev pub seen_rules : Option ℕ → List NamedEndpoint → List Rule
seen_rules None es = []
seen_rules (Some seconds) es = map (seen_rule seconds) es

-- the chain that chooses among the endpoints of a policy; that of the internal policy marks
abbrev pub list_rules : Setting → PortInfo → Bool → List NamedEndpoint → List Rule
list_rules setting i is_internal es =
    rules_if is_internal (mark_rules setting.config.masquerade_all setting.config.cluster i)
    ++ seen_rules i.affinity es ++ choices es

-- the rules of a port's chain of a kind, by its cluster and its local list
abbrev pub kind_rules :
    Setting → PortInfo → List NamedEndpoint → List NamedEndpoint → PortChain → List Rule
kind_rules setting i cluster local Svc =
    list_rules setting i (not (is_local_policy i.internal)) cluster
kind_rules setting i cluster local Svl = list_rules setting i (is_local_policy i.internal) local
kind_rules setting i cluster local Ext = external_rules setting i i.outer
kind_rules setting i cluster local Fw = firewall_chain_rules setting i i.ranges

-- this chain
abbrev pub kind_row :
    Setting → PortInfo → List NamedEndpoint → List NamedEndpoint → PortChain → ChainAt × List Rule
kind_row setting i cluster local kind =
    row (nat_of setting.family) (port_chain setting i kind)
    (kind_rules setting i cluster local kind)

-- the endpoints that aren't among others
abbrev pub not_among : List Endpoint → List NamedEndpoint → List NamedEndpoint
not_among others es = filter (λ e. not (has_endpoint others e.endpoint)) es

-- the rules of an endpoint's chain
abbrev pub endpoint_rules : PortInfo → NamedEndpoint → List Rule
endpoint_rules i e =
    rule_of (match.Src (single_range e.endpoint.address) false ∷ []) (target.Jump mark_masq)
    ∷ rule_of (match.Proto i.key.proto ∷ set_seen e.chain i.affinity) (target.Dnat e.endpoint) ∷ []

-- an endpoint's chain
abbrev pub endpoint_row : Family → PortInfo → NamedEndpoint → ChainAt × List Rule
endpoint_row family i e = row (nat_of family) e.chain (endpoint_rules i e)

-- the rule that sends what comes from a range to a chain
abbrev pub source_rule : List ℕ → RangeParts → Rule
source_rule chain range = rule_of (match.Src range false ∷ []) (target.Jump chain)

-- a set of endpoints has one, by the derived order
abbrev pub has : BTreeSet Endpoint → Endpoint → Bool
has set e = contains endpoint_ord.ghosts.cmp set e
