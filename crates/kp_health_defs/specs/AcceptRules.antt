-- The rules that accept packets to health ports, as kube-proxy's iptables mode writes them: one
-- chain of the filter table of IPv4, which is made by a batch of its own.
use Rattle.std.specs.Prelude.{ℕ, List, [], ◌∷◌, map}
use Rattle.std.specs.Ordering.{nat_cmp}
use Rattle.kp_base.specs.declared.address.Family.TheVariants.{V4}
use Rattle.kp_base.specs.declared.config.Config.{Config}
use Rattle.kp_base.specs.declared.port.Proto.TheVariants.{Tcp}
use Rattle.kp_types.specs.Rules.{rule_of}
use Rattle.kp_types.specs.declared.chain.ChainAt.{ChainAt}
use Rattle.kp_types.specs.declared.chain.TableName.TheVariants.{Filter}
use Rattle.kp_types.specs.declared.rule.Edit.{Edit}
use Rattle.kp_types.specs.declared.rule.Edit.TheVariants.{Write}
use Rattle.kp_types.specs.declared.rule.Match.TheVariants as match
use Rattle.kp_types.specs.declared.rule.Rule.{Rule}
use Rattle.kp_types.specs.declared.rule.Target.TheVariants as target
use Rattle.kp_object_defs.specs.Objects.{Objects}
use Rattle.kp_object_defs.specs.Order.{distinct_in_order}
use Rattle.kp_table_defs.specs.Layout.{kube_node_ports}
use Rattle.kp_restore_defs.specs.BatchText.{batch_text_of}
use Rattle.kp_health_defs.specs.HealthPorts.{healths}

-- the place of the chain
abbrev pub accept_chain : ChainAt
accept_chain = record { table = Filter; chain = kube_node_ports }

-- the rule of a health port
abbrev pub accept_rule : ℕ → Rule
accept_rule port = rule_of (match.Port Tcp port ∷ []) target.Accept

-- the rules of health ports, each once, by number
abbrev pub accept_rules : List ℕ → List Rule
accept_rules ports = map accept_rule (distinct_in_order nat_cmp ports)

-- the batch that makes the chain, where there is a health port
abbrev pub health_batch_of : List ℕ → List Edit
health_batch_of [] = []
health_batch_of (port ∷ ports) = Write accept_chain (accept_rules (port ∷ ports)) ∷ []

-- the batch of the health ports of some objects
abbrev pub health_batch_in : Config → Objects → List Edit
health_batch_in config o = health_batch_of (map (λ h. h.port) (healths config o))

-- and its text
abbrev pub accept_text : Config → Objects → List ℕ
accept_text config o = batch_text_of V4 (health_batch_in config o)
