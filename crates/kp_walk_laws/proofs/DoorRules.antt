-- What a rule of nat does that stands for a door: it sends a packet as the door does, if the door
-- takes it.
use Rattle.std.proofs.Common.{◌≡◌, true≢false, ℕ, suc, ◌==◌, Bool, true, false, not, cond, ◌&&◌, List, [], ◌∷◌, Option, Some, None, option_map, refl, sym, ap, ap₂, ◌∙◌}
use Rattle.std.proofs.Math.Bool.{and_comm, and-false}
use Rattle.std.specs.List.{find}
use Rattle.std.proofs.lemmas.Bool.{and_parts}
use Rattle.kp_base.specs.Net.{AddressParts, same_address, single_range}
use Rattle.kp_types.specs.Setting.{FamilyConfig, Setting}
use Rattle.kp_types.specs.Rules.{rule_of}
use Rattle.kp_types.specs.Ports.{same_proto}
use Rattle.kp_types.specs.declared.chain.TableName.TheVariants.{Nat}
use Rattle.kp_types.specs.declared.chain.ChainAt.{ChainAt}
use Rattle.kp_types.specs.declared.decision.DoorKind.{DoorKind}
use Rattle.kp_types.specs.declared.decision.DoorKind.TheVariants as door
use Rattle.kp_types.specs.declared.rule.Match.TheVariants as match
use Rattle.kp_types.specs.declared.rule.Rule.{Rule}
use Rattle.kp_types.specs.declared.rule.Target.TheVariants as target
use Rattle.kp_types.specs.declared.service.Policy.{Policy}
use Rattle.kp_types.specs.declared.service.Policy.TheVariants.{Cluster, Local}
use Rattle.kp_object_defs.specs.Desired.{is_empty}
use Rattle.kp_object_defs.specs.Lists.{list_by_policy}
use Rattle.kp_object_defs.specs.PortInfo.{PortInfo, internal_list}
use Rattle.kp_door_defs.specs.Decision.{Translation}
use Rattle.kp_door_defs.specs.Doors.{Door, Offer, door_at, offer_by_policy, offer_if, offered, outer_offer, offer_of, fits, takes}
use Rattle.kp_table_defs.specs.Matching.{WalkState, Surroundings}
use Rattle.kp_table_defs.specs.Keys.{needs}
use Rattle.kp_table_defs.specs.Layout.{port_chain, rule_at, chain_of_policy}
use Rattle.kp_table_defs.specs.Walk.{Outcome, target_if, chain_outcome}
use Rattle.kp_table_defs.specs.Walk.Outcome.{Next, Stuck}
use Rattle.kp_walk_laws.specs.Laws.{IsKnown}
use Rattle.kp_walk_laws.proofs.Outcomes.{FindIn, IsRuleOf, IsLast, pathless, stuck_last, ended_last, or_next}
use Rattle.kp_walk_laws.proofs.Matches.{packet_of, rule_if, door_tried, tried_alone}
use Rattle.kp_walk_laws.proofs.ListChains.{is_for_address}
use Rattle.kp_walk_laws.proofs.Arrivals.{arriving, arrives, entry_chain, is_outer}

-- a door of a port
abbrev pub door_of : PortInfo → DoorKind → Option AddressParts → ℕ → Door
door_of i kind a number = record { kind = kind; info = i; address = a; number = number }

-- ---- What a port offers without endpoints

-- what a policy offers is its list
pub offers : (i : PortInfo) (p : Policy)
    → (offer_by_policy i p).endpoints ≡ list_by_policy p i.lists
offers i Cluster = refl
offers i Local = refl

module _ (i : PortInfo) (cluster : i.lists.cluster ≡ []) (local : i.lists.local ≡ []) where
  nothing_by_policy : (p : Policy) → (offer_by_policy i p).endpoints ≡ []
  nothing_by_policy Cluster = cluster
  nothing_by_policy Local = local

  nothing_of : (b : Bool)
      → (cond b (offer_by_policy i Cluster) (offer_by_policy i Local)).endpoints ≡ []
  nothing_of true = cluster
  nothing_of false = local

  nothing_outside : (config : FamilyConfig) (p : Policy) (source : AddressParts)
      → (outer_offer config i p source).endpoints ≡ []
  nothing_outside config Cluster source = cluster
  nothing_outside config Local source = nothing_of _

  nothing_admitted : (b : Bool) (o : Offer) → o.endpoints ≡ [] → (offer_if b o).endpoints ≡ []
  nothing_admitted true o h = h
  nothing_admitted false o h = refl

  -- no door of a port without endpoints offers one
  nothing_offered : (config : FamilyConfig) (kind : DoorKind) (source : AddressParts)
      → (offered config kind i source).endpoints ≡ []
  nothing_offered config door.Cluster source = nothing_by_policy i.internal
  nothing_offered config door.External source = nothing_outside config i.outer source
  nothing_offered config door.Balancer source =
      nothing_admitted _ _ (nothing_outside config i.outer source)
  nothing_offered config door.Node source = nothing_outside config i.outer source

-- ---- What the chains of a port do at its doors

module _ (setting : Setting) (e : Surroundings) (s : WalkState) where
  -- what a jump to a port's chain does that goes to an endpoint of a door, or comes back where the
  -- door offers none
  abbrev pub goes_to : Door → Outcome
  goes_to d =
      cond (not (is_empty (offer_of setting.config (packet_of e s) d).endpoints))
      (arrives setting e s d) (Next s)

  -- the packet is taken by a door
  abbrev pub is_taken : Door → Bool
  is_taken d = takes setting.config (packet_of e s) d

  -- what a door does that takes the packet, whatever the chains on the way
  abbrev pub does : Door → Outcome
  does d = pathless (arrives setting e s d)

-- A port's chains do at its doors what these say. A door from outside is reached only where the
-- port's cluster address didn't take the packet.
pub record LeadsTo (setting : Setting) (e : Surroundings) (at : ChainAt → Option (List Rule))
    (s : WalkState) (i : PortInfo) : Type 0 where
  pub inside : (n : ℕ) → not (is_empty (internal_list i)) ≡ true
      → is_for_address i (packet_of e s) ≡ true
      → chain_outcome e at Nat (suc (suc (suc n)))
      (port_chain setting i (chain_of_policy i.internal)) s
      ≡ arrives setting e s (door_at door.Cluster i i.address)
  pub outside : (n : ℕ) (kind : DoorKind) → is_outer kind ≡ true
      → (a : Option AddressParts) (number : ℕ) → needs (entry_chain kind i) i ≡ true
      → same_proto i.key.proto e.proto ≡ true
      → (is_for_address i (packet_of e s) ≡ true → is_empty (internal_list i) ≡ true)
      → chain_outcome e at Nat (suc (suc (suc (suc (suc n)))))
      (port_chain setting i (entry_chain kind i)) s
      ≡ goes_to setting e s (door_of i kind a number)

-- a jump in a shared chain of nat, where a port's own chains and so many others may follow
abbrev pub jump_at : Surroundings → (ChainAt → Option (List Rule)) → ℕ → List ℕ → WalkState
    → Outcome
jump_at e at n = chain_outcome e at Nat (suc (suc (suc (suc (suc n)))))

-- ---- Rules that stand for doors

pathless_cond : (b : Bool) (o : Outcome) (s : WalkState)
    → pathless (cond b o (Next s)) ≡ cond b (pathless o) (Next s)
pathless_cond true o s = refl
pathless_cond false o s = refl

module _ (setting : Setting) (e : Surroundings) (s : WalkState) where
  last_by : (t : Option Translation) → IsLast (pathless (arriving Stuck setting e s t))
  last_by None = stuck_last
  last_by (Some t) = ended_last _ _ _

  -- nothing is tried behind a door that takes the packet
  pub does_last : (d : Door) → IsLast (does setting e s d)
  does_last d = last_by _

  module _ (jump : List ℕ → WalkState → Outcome) where
    -- rules that send the packet as the first of some doors does that takes it
    abbrev pub SendAs : List Rule → List Door → Type 0
    SendAs rules doors = FindIn (is_taken setting e s) (does setting e s) e jump s rules doors

    -- no rules, where none of the doors takes it
    pub none_sends : (doors : List Door) → find (is_taken setting e s) doors ≡ None
        → SendAs [] doors
    none_sends doors none =
        record { same = ap (λ o. or_next (option_map (does setting e s) o) s) (sym none) }

    -- a jump does what a door does that fits the packet
    by_fit : (d : Door) (chain : List ℕ) (b : Bool)
        → (b ≡ true → jump chain s ≡ goes_to setting e s d)
        → pathless (target_if b jump (target.Jump chain) s)
        ≡ cond (b && not (is_empty (offer_of setting.config (packet_of e s) d).endpoints))
        (does setting e s d) (Next s)
    by_fit d chain true h = ap pathless (h refl) ∙ pathless_cond _ _ s
    by_fit d chain false h = refl

    module _ (i : PortInfo) (chain : List ℕ) where
      -- a rule for an address of a port
      pub address_rule : (kind : DoorKind) (a : AddressParts)
          → (fits setting.config.addresses (packet_of e s) (door_at kind i a) ≡ true
          → jump chain s ≡ goes_to setting e s (door_at kind i a))
          → IsRuleOf (is_taken setting e s) (does setting e s) e jump s
          (rule_at i (target.Jump chain) a) (door_at kind i a)
      address_rule kind a h =
          let proto_port : Bool = same_proto i.key.proto e.proto && (i.number == s.port) in
          record {
            same =
                ap pathless (rule_if e jump s (match.Dst (single_range a) false
                ∷ match.Port i.key.proto i.number ∷ []) _
                _ (door_tried e jump s a i.key.proto i.number)
                ∙ ap (λ b. target_if b jump (target.Jump chain) s)
                (and_comm (same_address a s.target) proto_port))
                ∙ by_fit (door_at kind i a) chain _ h;
          }

      -- a rule for a port of the node, of whose addresses the destination is one
      pub node_rule : (d : Door)
          → (same_proto i.key.proto e.proto && (d.number == s.port))
          ≡ fits setting.config.addresses (packet_of e s) d
          → (fits setting.config.addresses (packet_of e s) d ≡ true
          → jump chain s ≡ goes_to setting e s d)
          → IsRuleOf (is_taken setting e s) (does setting e s) e jump s
          (rule_of (match.Port i.key.proto d.number ∷ []) (target.Jump chain)) d
      node_rule d same h =
          let proto_port : Bool = same_proto i.key.proto e.proto && (d.number == s.port) in
          record {
            same =
                ap pathless (rule_if e jump s (match.Port i.key.proto d.number ∷ [])
                _ proto_port (tried_alone s proto_port)
                ∙ ap (λ b. target_if b jump (target.Jump chain) s) same) ∙ by_fit d chain _ h;
          }

  -- ---- The doors of one port

  module _ (i : PortInfo) where
    -- a packet that fits a door is of the port's protocol
    pub of_proto : (kind : DoorKind) (a : Option AddressParts) (number : ℕ)
        → fits setting.config.addresses (packet_of e s) (door_of i kind a number) ≡ true
        → same_proto i.key.proto e.proto ≡ true
    of_proto kind a number h =
        (and_parts (same_proto i.key.proto e.proto) (number == s.port)
        (and_parts (same_proto i.key.proto e.proto && (number == s.port)) _ h).0).0

    -- without endpoints no door takes a packet
    pub none_taken : IsKnown setting.family i → i.lists.has_any ≡ false
        → (kind : DoorKind) (a : Option AddressParts) (number : ℕ)
        → is_taken setting e s (door_of i kind a number) ≡ false
    none_taken known none kind a number =
        let (cluster, local) = known.none none in
        let fit : Bool =
        fits setting.config.addresses (packet_of e s) (door_of i kind a number) in
        ap (λ es. fit && not (is_empty es))
        (nothing_offered i cluster local setting.config kind s.source)
        ∙ and-false fit

    -- the door of the cluster address fits what is for it
    pub cluster_fits : fits setting.config.addresses (packet_of e s)
        (door_at door.Cluster i i.address) ≡ is_for_address i (packet_of e s)
    cluster_fits = and_comm (same_proto i.key.proto e.proto && (i.number == s.port))
        (same_address i.address s.target)

    passed_by : (b : Bool) → is_for_address i (packet_of e s) ≡ true
        → is_empty (internal_list i) ≡ b
        → is_taken setting e s (door_at door.Cluster i i.address) ≡ false
        → is_empty (internal_list i) ≡ true
    passed_by true here empty not_taken = empty
    passed_by false here empty not_taken =
        absurd (true≢false (sym (ap₂ (λ a b. a && b) (cluster_fits ∙ here)
        (ap (λ es. not (is_empty es)) (offers i i.internal) ∙ ap not empty)) ∙ not_taken))

    -- where it doesn't take a packet that is for it, its list is empty
    pub passed : is_taken setting e s (door_at door.Cluster i i.address) ≡ false
        → is_for_address i (packet_of e s) ≡ true → is_empty (internal_list i) ≡ true
    passed not_taken here = passed_by _ here refl not_taken
