-- What the rules of one port do in the shared chains of nat: they send a packet as the first of the
-- port's doors does that takes it.
use Rattle.std.proofs.Common.{◌≡◌, ℕ, suc, ◌==◌, Bool, true, false, not, cond, ◌&&◌, List, [], ◌∷◌, ◌++◌, Contains, Option, Some, None, is_some, map, refl, sym, ap, ap₂, ◌∙◌}
use Rattle.std.proofs.Math.Bool.{and_comm, and-false, and-true}
use Rattle.std.specs.List.{find}
use Rattle.kp_base.specs.Net.{AddressParts, range_contains, loopback_range, is_local_address}
use Rattle.kp_types.specs.Setting.{Setting}
use Rattle.kp_types.specs.Ports.{same_proto}
use Rattle.kp_types.specs.declared.chain.ChainAt.{ChainAt}
use Rattle.kp_types.specs.declared.chain.PortChain.TheVariants.{Ext}
use Rattle.kp_types.specs.declared.decision.DoorKind.{DoorKind}
use Rattle.kp_types.specs.declared.decision.DoorKind.TheVariants as door
use Rattle.kp_types.specs.declared.rule.Rule.{Rule}
use Rattle.kp_types.specs.declared.rule.Target.TheVariants as target
use Rattle.kp_object_defs.specs.Desired.{is_empty}
use Rattle.kp_object_defs.specs.PortInfo.{PortInfo, internal_list}
use Rattle.kp_door_defs.specs.Doors.{Door, door_at, offer_of, address_doors, node_door, fits}
use Rattle.kp_table_defs.specs.Matching.{WalkState, Surroundings}
use Rattle.kp_table_defs.specs.Keys.{needs}
use Rattle.kp_table_defs.specs.Layout.{port_chain, rule_at, service_block, node_port_block, node_port_rules, rules_if}
use Rattle.kp_table_defs.specs.Walk.Outcome.{Next}
use Rattle.kp_walk_laws.specs.Laws.{IsKnown}
use Rattle.kp_walk_laws.proofs.Outcomes.{find_in_one, find_in_map, find_in_append, find_in_behind, none_found, none_appended, none_first}
use Rattle.kp_walk_laws.proofs.Matches.{packet_of}
use Rattle.kp_walk_laws.proofs.NeededChains.{balancer_needs, external_needs, node_port_needs}
use Rattle.kp_walk_laws.proofs.Arrivals.{arrives, entry_chain, is_outer}
use Rattle.kp_walk_laws.proofs.DoorRules.{LeadsTo, SendAs, door_of, goes_to, jump_at, is_taken, does_last, none_sends, address_rule, node_rule, offers, of_proto, none_taken, cluster_fits, passed}

-- the destination of a packet is the node's own, and no loopback address
abbrev pub is_own : Setting → Surroundings → WalkState → Bool
is_own setting e s =
    not (range_contains (loopback_range setting.family) s.target)
    && is_local_address e.node_addresses s.target

module _ (setting : Setting) (e : Surroundings) (at : ChainAt → Option (List Rule))
    (s : WalkState) (i : PortInfo) (known : IsKnown setting.family i)
    (leads : LeadsTo setting e at s i) (n : ℕ) where
  -- rules of a shared chain that send the packet as the first of some doors does that takes it
  abbrev Sends : List Rule → List Door → Type 0
  Sends = SendAs setting e s (jump_at e at n)

  -- a rule that jumps to a chain of the port
  abbrev rule_to : DoorKind → AddressParts → Rule
  rule_to kind a = rule_at i (target.Jump (port_chain setting i (entry_chain kind i))) a

  -- ---- KUBE-SERVICES

  -- the door of the cluster address
  abbrev inner : Door
  inner = door_at door.Cluster i i.address

  -- its rule, where the port has one
  cluster_part : (b : Bool) → not (is_empty (internal_list i)) ≡ b
      → Sends (rules_if b (rule_to door.Cluster i.address ∷ [])) (inner ∷ [])
  cluster_part true some =
      find_in_one (address_rule setting e s _ i _ door.Cluster i.address
      (λ fit. leads.inside (suc (suc n)) some (sym (cluster_fits setting e s i) ∙ fit)
      ∙ ap (λ b. cond b (arrives setting e s inner) (Next s))
      (sym (ap (λ es. not (is_empty es)) (offers i i.internal) ∙ some))))
  cluster_part false none =
      let fit : Bool = fits setting.config.addresses (packet_of e s) inner in
      none_sends setting e s _ _
      (ap (λ b. cond b (Some inner) None) (ap (λ es. fit && not (is_empty es)) (offers i i.internal)
      ∙ ap (λ b. fit && b) none ∙ and-false fit))

  -- the doors of these addresses
  abbrev outer_doors : List Door
  outer_doors = map (door_at door.External i) i.external ++ map (door_at door.Balancer i) i.balancer

  -- without endpoints no door for addresses takes the packet
  no_doors : i.lists.has_any ≡ false → (kind : DoorKind) (addresses : List AddressParts)
      → find (is_taken setting e s) (map (door_at kind i) addresses) ≡ None
  no_doors none kind addresses =
      none_found _ _ addresses (λ a c. none_taken setting e s i known none kind (Some a) i.number)

  module _ (not_taken : is_taken setting e s inner ≡ false) where
    -- a jump to a chain for what comes from outside does what its door does
    jumps : (kind : DoorKind) → is_outer kind ≡ true → (a : Option AddressParts) (number : ℕ)
        → needs (entry_chain kind i) i ≡ true
        → fits setting.config.addresses (packet_of e s) (door_of i kind a number) ≡ true
        → jump_at e at n (port_chain setting i (entry_chain kind i)) s
        ≡ goes_to setting e s (door_of i kind a number)
    jumps kind outer a number needed fit =
        leads.outside n kind outer a number needed (of_proto setting e s i kind a number fit)
        (passed setting e s i not_taken)

    -- the rules of addresses from outside
    outer_rules : (kind : DoorKind) → is_outer kind ≡ true → (addresses : List AddressParts)
        → ((a : AddressParts) → Contains addresses a → needs (entry_chain kind i) i ≡ true)
        → Sends (map (rule_to kind) addresses) (map (door_at kind i) addresses)
    outer_rules kind outer addresses needed =
        find_in_map (does_last setting e s) _ _ addresses (λ a c. address_rule setting e s _ i
        _ kind a (jumps kind outer _ i.number (needed a c)))

    outer_part : (b : Bool) → i.lists.has_any ≡ b
        → Sends (rules_if b (map (rule_to door.External) i.external
        ++ map (rule_to door.Balancer) i.balancer)) outer_doors
    outer_part true any =
        find_in_append (does_last setting e s)
        (outer_rules _ refl i.external (external_needs i any))
        (outer_rules _ refl i.balancer (balancer_needs i any))
    outer_part false none =
        none_sends setting e s _ outer_doors
        (none_appended (is_taken setting e s) (map (door_at door.External i) i.external)
        (map (door_at door.Balancer i) i.balancer) (no_doors none door.External i.external)
        (no_doors none door.Balancer i.balancer))

  -- the block of a port sends as its doors at addresses do
  pub block_sends : Sends (service_block setting i) (address_doors i)
  block_sends =
      find_in_behind (does_last setting e s) (cluster_part _ refl)
      (λ none. outer_part (none_first (is_taken setting e s) inner [] none) _ refl)

  -- ---- KUBE-NODEPORTS

  module _ (own : e.node_addresses ≡ setting.config.addresses) where
    -- the door of a node port
    abbrev node : ℕ → Door
    node number = door_of i door.Node None number

    -- it fits by protocol and port at the node's own addresses alone
    node_fits : (number : ℕ) → fits setting.config.addresses (packet_of e s) (node number)
        ≡ (same_proto i.key.proto e.proto && (number == s.port) && is_own setting e s)
    node_fits number =
        let proto_port : Bool = same_proto i.key.proto e.proto && (number == s.port) in
        ap₂ (λ a f. proto_port && (is_local_address a s.target
        && not (range_contains (loopback_range f) s.target))) (sym own) known.address
        ∙ ap (λ b. proto_port && b) (and_comm (is_local_address e.node_addresses s.target)
        (not (range_contains (loopback_range setting.family) s.target)))

    none_at_node : i.lists.has_any ≡ false → (port : Option ℕ)
        → find (is_taken setting e s) (node_door i port) ≡ None
    none_at_node none None = refl
    none_at_node none (Some number) =
        ap (λ b. cond b (Some (node number)) None)
        (none_taken setting e s i known none door.Node None number)

    module _ (not_taken : is_taken setting e s inner ≡ false) (here : is_own setting e s ≡ true) where
      node_rules : i.lists.has_any ≡ true → (port : Option ℕ) → i.node_port ≡ port
          → Sends (node_port_rules i (target.Jump (port_chain setting i Ext)) port)
          (node_door i port)
      node_rules any None is = record { same = refl }
      node_rules any (Some number) is =
          let proto_port : Bool = same_proto i.key.proto e.proto && (number == s.port) in
          find_in_one (node_rule setting e s _ i _ _
          (sym (node_fits number ∙ ap (λ b. proto_port && b) here ∙ and-true proto_port))
          (jumps not_taken door.Node refl None number (node_port_needs i any (ap is_some is))))

      node_part : (b : Bool) → i.lists.has_any ≡ b
          → Sends (rules_if b
          (node_port_rules i (target.Jump (port_chain setting i Ext)) i.node_port))
          (node_door i i.node_port)
      node_part true any = node_rules any i.node_port refl
      node_part false none = none_sends setting e s _ _ (none_at_node none i.node_port)

      -- the block of a port sends as its door at the node's own addresses does
      pub node_block_sends : Sends (node_port_block setting i) (node_door i i.node_port)
      node_block_sends = node_part _ refl

    -- at any other address it takes nothing
    pub none_elsewhere : is_own setting e s ≡ false → (port : Option ℕ)
        → find (is_taken setting e s) (node_door i port) ≡ None
    none_elsewhere elsewhere None = refl
    none_elsewhere elsewhere (Some number) =
        let proto_port : Bool = same_proto i.key.proto e.proto && (number == s.port) in
        let offered : Bool =
        not (is_empty (offer_of setting.config (packet_of e s) (node number)).endpoints) in
        ap (λ b. cond (b && offered) (Some (node number)) None)
        (node_fits number ∙ ap (λ b. proto_port && b) elsewhere ∙ and-false proto_port)
