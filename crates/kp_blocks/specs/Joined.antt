-- Blocks of rules by port, and the chains that are joined from them between the fixed rules.
use Rattle.std.specs.Prelude.{◌≡◌, ℕ, ◌-◌, Bool, true, false, cond, bytes_eq, List, [], ◌∷◌, ◌++◌}
use Rattle.std.specs.Prelude.{map, take, drop, length, slice_get, Option, Some, None, is_some, not}
use Rattle.std.specs.Coded.{Coded, coded_list}
use Rattle.std.specs.List.{filter, flat_map}
use Rattle.std.specs.FinMap as finite
use Rattle.std.specs.Ordering.{eq_by_cmp}
use Rattle.kp_lemmas.specs.Lists.{is_empty}
use Rattle.kp_base.specs.Keys.{key_cmp, port_key_cmp}
use Rattle.kp_base.specs.contracts.key.PortKey as key_row
use Rattle.kp_base.specs.declared.address.Family.{Family}
use Rattle.kp_base.specs.declared.key.ObjectKey.{ObjectKey}
use Rattle.kp_base.specs.declared.key.PortKey.{PortKey}
use Rattle.kp_base.specs.declared.port.Proto.TheVariants.{Sctp}
use Rattle.kp_types.specs.Places.{nat_of, filter_of}
use Rattle.kp_types.specs.Setting.{Setting}
use Rattle.kp_types.specs.contracts.chain.ChainAtPartialEq.TheImpl as same
use Rattle.kp_types.specs.contracts.rule.ChainText as text_row
use Rattle.kp_types.specs.declared.chain.ChainAt.{ChainAt}
use Rattle.kp_types.specs.declared.rule.ChainText.{ChainText}
use Rattle.kp_types.specs.declared.rule.Rule.{Rule}
use Rattle.kp_types.specs.declared.rule.Target.{Target}
use Rattle.kp_types.specs.declared.rule.Target.TheVariants as target
use Rattle.kp_object_defs.specs.PortInfo.{PortInfo}
use Rattle.kp_table_defs.specs.Layout as layout
use Rattle.kp_table_defs.specs.Rebuild.{Chains, full_chains}
use Rattle.kp_table_laws.specs.Laws.{AreInOrder}
use Rattle.kp_chains.specs.Tables.{fixed_rows}

-- a port's rules in the shared chains
abbrev pub Block : Type 0
Block = List ChainText

-- the blocks of ports
abbrev pub BlocksByPort : Type 0
BlocksByPort = finite.FinMap port_key_cmp Block

-- they are stored as finite maps are
abbrev pub blocks_code : Coded BlocksByPort
blocks_code = finite.code key_row.the_row.coded (coded_list text_row.the_row.coded)

-- whether a port is one of a Service
abbrev pub is_port_of : ObjectKey → PortKey → Bool
is_port_of service port = eq_by_cmp key_cmp service port.object

-- the least name that a port of a Service may have
abbrev pub first_port_of : ObjectKey → PortKey
first_port_of service = record { object = service; port_name = []; proto = Sctp }

-- the chains of a family's tables of no ports
abbrev pub fixed_chains : Family → Chains
fixed_chains family = finite.from_entries (fixed_rows family)

-- a chain's rules, where there is one
abbrev pub rules_if_found : Option (List Rule) → List Rule
rules_if_found None = []
rules_if_found (Some rules) = rules

-- the fixed rules of a chain
abbrev pub fixed_rules : Family → ChainAt → List Rule
fixed_rules family at = rules_if_found (finite.get (fixed_chains family) at)

-- whether a target is KUBE-NODEPORTS
abbrev pub is_node_ports : Target → Bool
is_node_ports (target.Jump chain) = bytes_eq chain layout.kube_node_ports
is_node_ports target.Return = false
is_node_ports target.Accept = false
is_node_ports target.Drop = false
is_node_ports target.Reject = false
is_node_ports target.SetMark = false
is_node_ports target.FlipMark = false
is_node_ports (target.Dnat e) = false
is_node_ports target.Masquerade = false

-- whether a rule jumps there
abbrev pub goes_to_node_ports : Rule → Bool
goes_to_node_ports r = is_node_ports r.target

-- the same of a rule that was found
abbrev pub is_jump_found : Option Rule → Bool
is_jump_found None = false
is_jump_found (Some r) = goes_to_node_ports r

-- how many of a chain's fixed rules stand before those of ports
abbrev pub place_of_ports : List Rule → ℕ
place_of_ports rules =
    cond (is_jump_found (slice_get rules (length rules - 1))) (length rules - 1) (length rules)

-- fixed rules with those of ports among them
abbrev pub with_rules : List Rule → List Rule → List Rule
with_rules fixed rules =
    take (place_of_ports fixed) fixed ++ rules ++ drop (place_of_ports fixed) fixed

-- a chain's rules, where it stands at a place
abbrev pub rules_at : ChainAt → ChainText → List Rule
rules_at at c = cond (same.ghosts.eq c.at at) c.rules []

-- a block's rules in a chain
abbrev pub block_rules : ChainAt → List ChainText → List Rule
block_rules at block = flat_map (rules_at at) block

-- A chain that is joined from the blocks: its fixed rules but the last jump to KUBE-NODEPORTS, the
-- blocks' rules in order of ports, and that jump, where the chain has it.
abbrev pub joined_rules : Family → BlocksByPort → ChainAt → List Rule
joined_rules family blocks at =
    with_rules (fixed_rules family at) (flat_map (block_rules at) (finite.values blocks))

-- a chain with its rules, as the program makes it
abbrev pub text_of : ChainAt × List Rule → ChainText
text_of row = record { at = row.0; rules = row.1 }

-- a port's rules in each shared chain, also where it has none
abbrev pub port_texts : Setting → PortInfo → List ChainText
port_texts setting i =
    map text_of (
    layout.row (nat_of setting.family) layout.kube_services
    (layout.service_block setting i)
    ∷ layout.row (nat_of setting.family) layout.kube_node_ports
    (layout.node_port_block setting i)
    ∷ layout.row (filter_of setting.family) layout.kube_proxy_firewall
    (layout.firewall_block i)
    ∷ layout.row (filter_of setting.family) layout.kube_external_services
    (layout.external_block setting.family i)
    ∷ layout.row (filter_of setting.family) layout.kube_services (layout.refusal_block i)
    ∷ [])

-- whether a chain has rules
abbrev pub has_rules : ChainText → Bool
has_rules c = not (is_empty c.rules)

-- a port's rules in each shared chain where it has some
abbrev pub port_block : Setting → PortInfo → List ChainText
port_block setting i = filter has_rules (port_texts setting i)

-- the blocks of ports, by their names
abbrev pub blocks_by_port : Setting → List PortInfo → BlocksByPort
blocks_by_port setting infos = finite.from_entries (map (λ i. (i.key, port_block setting i)) infos)

-- The fixed chains of the full table, the shared ones among them, are joined from all ports'
-- blocks.
abbrev pub JoinedChainsAreTheTables : Type 0
JoinedChainsAreTheTables =
    (setting : Setting) (infos : List PortInfo) (at : ChainAt) → AreInOrder infos
    → is_some (finite.get (fixed_chains setting.family) at) ≡ true
    → finite.get (full_chains setting infos) at
    ≡ Some (joined_rules setting.family (blocks_by_port setting infos) at)
