-- What KUBE-SERVICES and KUBE-NODEPORTS of nat do: they send a packet as the first door does that
-- takes it.
use Rattle.std.proofs.Common.{◌≡◌, ℕ, suc, Bool, true, false, not, List, [], ◌∷◌, ◌++◌, Contains, Option, Some, None, option_map, map, flat_map, refl, ap, ◌∙◌}
use Rattle.std.specs.List.{find}
use Rattle.kp_base.specs.Net.{range_contains, loopback_range, is_local_address}
use Rattle.kp_types.specs.Setting.{Setting}
use Rattle.kp_types.specs.Rules.{rule_of}
use Rattle.kp_types.specs.declared.chain.TableName.TheVariants.{Nat}
use Rattle.kp_types.specs.declared.chain.ChainAt.{ChainAt}
use Rattle.kp_types.specs.declared.decision.DoorKind.TheVariants as door
use Rattle.kp_types.specs.declared.rule.Match.TheVariants as match
use Rattle.kp_types.specs.declared.rule.Rule.{Rule}
use Rattle.kp_types.specs.declared.rule.Target.TheVariants as target
use Rattle.kp_object_defs.specs.PortInfo.{PortInfo}
use Rattle.kp_door_defs.specs.Decision.{Translation}
use Rattle.kp_door_defs.specs.Doors.{Door, door_at, address_doors, node_door}
use Rattle.kp_table_defs.specs.Matching.{WalkState, Surroundings, try_all}
use Rattle.kp_table_defs.specs.Layout.{kube_node_ports, service_block, node_port_block, own_addresses}
use Rattle.kp_table_defs.specs.Walk.{found_outcome, returned_from, target_if}
use Rattle.kp_table_defs.specs.Walk.Outcome.{Stuck}
use Rattle.kp_walk_laws.specs.Laws.{IsKnown}
use Rattle.kp_walk_laws.proofs.Outcomes.{pathless, pathless_returned, find_in_each, find_in_behind, none_in_all, none_in_each, none_first, or_next, and_then_next}
use Rattle.kp_walk_laws.proofs.Matches.{rule_if, tried_alone, tried_before}
use Rattle.kp_walk_laws.proofs.Arrivals.{arriving}
use Rattle.kp_walk_laws.proofs.DoorRules.{LeadsTo, SendAs, jump_at, is_taken, does, does_last, none_sends}
use Rattle.kp_walk_laws.proofs.ServiceBlocks.{is_own, block_sends, node_block_sends, none_elsewhere}

module _ (setting : Setting) (e : Surroundings) (own : e.node_addresses ≡ setting.config.addresses)
    (at : ChainAt → Option (List Rule)) (s : WalkState) (infos : List PortInfo)
    (ports : (i : PortInfo) → Contains infos i → IsKnown setting.family i
    × LeadsTo setting e at s i) (n : ℕ) where
  -- the doors of node ports
  abbrev node_doors : List Door
  node_doors = flat_map (λ i. node_door i i.node_port) infos

  -- a chain does what its rules do
  chain_sends : (chain : List ℕ) (d : Option Door)
      → pathless (returned_from chain (or_next (option_map (does setting e s) d) s))
      ≡ or_next (option_map (does setting e s) d) s
  chain_sends chain None = refl
  chain_sends chain (Some d) = by_translation _
    where
      by_translation : (t : Option Translation)
          → pathless (returned_from chain (pathless (arriving Stuck setting e s t)))
          ≡ pathless (arriving Stuck setting e s t)
      by_translation None = refl
      by_translation (Some t) = refl

  module _ (found : at (record { table = Nat; chain = kube_node_ports })
      ≡ Some (flat_map (node_port_block setting) infos))
      (none : find (is_taken setting e s) (flat_map address_doors infos) ≡ None) where
    -- the cluster address of no port took the packet
    not_inside : (i : PortInfo) → Contains infos i
        → is_taken setting e s (door_at door.Cluster i i.address) ≡ false
    not_inside i c =
        none_first (is_taken setting e s) (door_at door.Cluster i i.address)
        (map (door_at door.External i) i.external ++ map (door_at door.Balancer i) i.balancer)
        (none_in_each (is_taken setting e s) address_doors infos none i c)

    by_own : (b : Bool) → is_own setting e s ≡ b
        → pathless (target_if b (jump_at e at (suc n)) (target.Jump kube_node_ports) s)
        ≡ or_next (option_map (does setting e s) (find (is_taken setting e s) node_doors)) s
    by_own true here =
        ap (λ o. pathless (found_outcome e (jump_at e at n) kube_node_ports o s)) found
        ∙ pathless_returned _ _
        ∙ ap (λ o. pathless (returned_from kube_node_ports o))
        (find_in_each (does_last setting e s) _ (λ i. node_door i i.node_port) infos
        (λ i c. node_block_sends setting e at s i (ports i c).0 (ports i c).1 n own
        (not_inside i c) here)).same ∙ chain_sends _ _
    by_own false elsewhere =
        (none_sends setting e s (jump_at e at n) node_doors
        (none_in_all _ (λ i. node_door i i.node_port) infos
        (λ i c. none_elsewhere setting e at s i (ports i c).0 (ports i c).1 n own elsewhere
        i.node_port))).same

    -- the rule for the node's own addresses
    own_sends : SendAs setting e s (jump_at e at (suc n))
        (rule_of (own_addresses setting.family) (target.Jump kube_node_ports) ∷ []) node_doors
    own_sends =
        let outside : Bool = not (range_contains (loopback_range setting.family) s.target) in
        let local : Bool = is_local_address e.node_addresses s.target in
        record {
          same =
              ap pathless (and_then_next _
              ∙ rule_if e _ s (own_addresses setting.family) _ _
              (tried_before s outside local (try_all e (match.DstLocal ∷ [])) (tried_alone s local)))
              ∙ by_own _ refl;
        }

  -- KUBE-SERVICES sends as the first door does that takes the packet
  pub services_send : at (record { table = Nat; chain = kube_node_ports })
      ≡ Some (flat_map (node_port_block setting) infos)
      → SendAs setting e s (jump_at e at (suc n))
      (flat_map (service_block setting) infos ++ rule_of (own_addresses setting.family)
      (target.Jump kube_node_ports) ∷ []) (flat_map address_doors infos ++ node_doors)
  services_send found =
      find_in_behind (does_last setting e s) (find_in_each (does_last setting e s) _ _ infos
      (λ i c. block_sends setting e at s i (ports i c).0 (ports i c).1 (suc n))) (own_sends found)
