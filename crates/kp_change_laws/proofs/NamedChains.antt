-- The rules of a port in nat's shared chains are those of its doors.
use Rattle.std.proofs.Common.{◌≡◌, ℕ, Bool, true, false, not, cond, List, [], ◌∷◌, ◌++◌, map, Option, Some, None, refl, sym, ap₂, ◌∙◌}
use Rattle.std.specs.List.{flat_map}
use Rattle.std.proofs.lemmas.Grind.{flat_map-append}
use Rattle.std.proofs.lemmas.List.Concat.{flat_map_single}
use Rattle.std.proofs.lemmas.List.Folds.{flat_map-map}
use Rattle.kp_base.specs.Net.{AddressParts}
use Rattle.kp_types.specs.Setting.{Setting}
use Rattle.kp_types.specs.declared.chain.PortChain.{PortChain}
use Rattle.kp_types.specs.declared.chain.PortChain.TheVariants.{Ext}
use Rattle.kp_types.specs.declared.decision.DoorKind.{DoorKind}
use Rattle.kp_types.specs.declared.decision.DoorKind.TheVariants as door
use Rattle.kp_types.specs.declared.rule.Rule.{Rule}
use Rattle.kp_types.specs.declared.rule.Target.TheVariants as target
use Rattle.kp_object_defs.specs.Desired.{is_empty}
use Rattle.kp_object_defs.specs.PortInfo.{PortInfo, internal_list}
use Rattle.kp_door_defs.specs.Doors.{address_doors, door_at, node_door}
use Rattle.kp_table_defs.specs.Layout.{balancer_chain, chain_of_policy, node_port_block, node_port_rules, port_chain, rule_at, rules_if, service_block}
use Rattle.kp_change_laws.specs.Chains.{DoorsMakeTheRules, jump_of, rule_of_door}

none_made : {X Y : Type 0} (xs : List X) → flat_map {A = Y} (λ x. []) xs ≡ []
none_made [] = refl
none_made (x ∷ xs) = none_made xs

both_if : (b : Bool) (xs ys : List Rule) → rules_if b (xs ++ ys) ≡ rules_if b xs ++ rules_if b ys
both_if true xs ys = refl
both_if false xs ys = refl

module _ (setting : Setting) (i : PortInfo) where
  -- the rules at addresses
  at_addresses : (k : DoorKind) (kind : PortChain) (any : Bool) (addresses : List AddressParts)
      → flat_map (λ a. jump_of setting (door_at k i a) (cond any (Some kind) None)) addresses
      ≡ rules_if any (map (rule_at i (target.Jump (port_chain setting i kind))) addresses)
  at_addresses k kind true addresses = flat_map_single _ addresses
  at_addresses k kind false addresses = none_made addresses

  -- the rule at the cluster address
  at_cluster : (none : Bool) (kind : PortChain)
      → rules_if (not none) (rule_at i (target.Jump (port_chain setting i kind)) i.address ∷ [])
      ≡ jump_of setting (door_at door.Cluster i i.address) (cond none None (Some kind))
  at_cluster true kind = refl
  at_cluster false kind = refl

  -- and at a node port
  at_node : (any : Bool) (n : Option ℕ)
      → rules_if any (node_port_rules i (target.Jump (port_chain setting i Ext)) n)
      ≡ flat_map (λ d. jump_of setting d (cond any (Some Ext) None)) (node_door i n)
  at_node true None = refl
  at_node false None = refl
  at_node true (Some n) = refl
  at_node false (Some n) = refl

  services : service_block setting i ≡ flat_map (rule_of_door setting) (address_doors i)
  services =
      let any : Bool = i.lists.has_any in
      let jumps : PortChain → List AddressParts → List Rule =
      λ kind. map (rule_at i (target.Jump (port_chain setting i kind))) in
      let join : List Rule → List Rule → List Rule = λ xs ys. xs ++ ys in
      ap₂ join (at_cluster (is_empty (internal_list i)) (chain_of_policy i.internal))
      (both_if any (jumps Ext i.external) (jumps (balancer_chain i.ranges) i.balancer)
      ∙ ap₂ join
      (sym (flat_map-map (rule_of_door setting) (door_at door.External i) i.external
      ∙ at_addresses door.External Ext any i.external))
      (sym (flat_map-map (rule_of_door setting) (door_at door.Balancer i) i.balancer
      ∙ at_addresses door.Balancer (balancer_chain i.ranges) any i.balancer))
      ∙ sym (flat_map-append (rule_of_door setting) (map (door_at door.External i) i.external)
      (map (door_at door.Balancer i) i.balancer)))

  -- a node's door has the chain of its kind
  node_alike : (n : Option ℕ)
      → flat_map (λ d. jump_of setting d (cond i.lists.has_any (Some Ext) None)) (node_door i n)
      ≡ flat_map (rule_of_door setting) (node_door i n)
  node_alike None = refl
  node_alike (Some n) = refl

  nodes : node_port_block setting i ≡ flat_map (rule_of_door setting) (node_door i i.node_port)
  nodes = at_node i.lists.has_any i.node_port ∙ node_alike i.node_port

pub doors_make_the_rules_by : DoorsMakeTheRules
doors_make_the_rules_by setting i = (services setting i, nodes setting i)
