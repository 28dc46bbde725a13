-- What the rules of one port do in the filter: they refuse by the first of the port's lines that
-- the packet fits.
use Rattle.std.proofs.Common.{◌≡◌, ℕ, ◌==◌, Bool, true, false, not, cond, ◌&&◌, List, [], ◌∷◌, ◌++◌, map, Option, Some, None, is_some, refl, sym, ap, ap₂, subst, ◌∙◌}
use Rattle.std.proofs.Math.Bool.{and_assoc, and_comm}
use Rattle.std.proofs.lemmas.List.{map-append}
use Rattle.std.proofs.lemmas.Simd.{map-map}
use Rattle.kp_base.specs.Net.{AddressParts, same_address, single_range, range_contains, loopback_range, is_local_address}
use Rattle.kp_base.specs.declared.address.Family.{Family}
use Rattle.kp_types.specs.Setting.{FamilyConfig}
use Rattle.kp_types.specs.Ports.{same_proto}
use Rattle.kp_types.specs.declared.decision.DoorKind.{DoorKind}
use Rattle.kp_types.specs.declared.decision.DoorKind.TheVariants as door
use Rattle.kp_types.specs.declared.rule.Match.TheVariants as match
use Rattle.kp_types.specs.declared.rule.Rule.{Rule}
use Rattle.kp_types.specs.declared.rule.Target.{Target}
use Rattle.kp_types.specs.declared.rule.Target.TheVariants as target
use Rattle.kp_types.specs.declared.walk.Ending.{Ending}
use Rattle.kp_types.specs.declared.walk.Ending.TheVariants as ending
use Rattle.kp_object_defs.specs.Desired.{is_empty}
use Rattle.kp_object_defs.specs.PortInfo.{PortInfo}
use Rattle.kp_door_defs.specs.Doors.{Door, door_at, node_door, fits}
use Rattle.kp_door_defs.specs.Filter.{Refusal, Rejects, DropsClosed, DropsNoLocal, Line, line_of, refusal_by, firewall_lines, external_lines, service_lines}
use Rattle.kp_table_defs.specs.Matching.{WalkState, Surroundings, try_all}
use Rattle.kp_table_defs.specs.Layout.{rule_at, rules_if, firewall_block, external_block, refusal_block, refusal_target, node_port_refusal, own_addresses}
use Rattle.kp_table_defs.specs.Walk.{Outcome, target_if, target_outcome}
use Rattle.kp_table_defs.specs.Walk.Outcome.{Next, Ended}
use Rattle.kp_walk_laws.proofs.Outcomes.{FindIn, IsRuleOf, IsLast, pathless_by, ended_last, find_in_one, find_in_map, find_in_append}
use Rattle.kp_walk_laws.proofs.Matches.{packet_of, rule_if, door_tried, tried_alone, tried_before}

-- the end of a hook by a refusal
abbrev pub ending_of : Refusal → Ending
ending_of Rejects = ending.Reject
ending_of DropsClosed = ending.Drop
ending_of DropsNoLocal = ending.Drop

-- the packet is refused by a line
abbrev pub refusing : WalkState → Line → Outcome
refusing s l = Ended (ending_of l.refusal) [] s

-- the packet fits the door of a line
abbrev pub fits_line : FamilyConfig → Surroundings → WalkState → Line → Bool
fits_line config e s l = fits config.addresses (packet_of e s) l.door

and_turn : (a b c : Bool) → (a && (b && c)) ≡ (c && (b && a))
and_turn a b c = and_comm a (b && c) ∙ ap (λ d. d && a) (and_comm b c) ∙ and_assoc c b a

-- the lines of some doors
lines_of : {X : Type 0} (r : Refusal) (f g : X → Door) (xs ys : List X) (ds : List Door)
    → map (line_of r) (map f xs ++ map g ys ++ ds)
    ≡ map (λ a. line_of r (f a)) xs ++ map (λ a. line_of r (g a)) ys ++ map (line_of r) ds
lines_of r f g xs ys ds =
    map-append (line_of r) (map f xs ++ map g ys) ds
    ∙ ap (λ ls. ls ++ map (line_of r) ds) (map-append (line_of r) (map f xs) (map g ys))
    ∙ ap₂ (λ ks ls. ks ++ ls ++ map (line_of r) ds) (map-map (line_of r) f xs)
    (map-map (line_of r) g ys)

module _ (config : FamilyConfig) (family : Family) (e : Surroundings)
    (jump : List ℕ → WalkState → Outcome) (s : WalkState) where
  -- rules that refuse as some lines do
  abbrev pub Refuses : List Rule → List Line → Type 0
  Refuses rules lines = FindIn (fits_line config e s) (refusing s) e jump s rules lines

  -- a target refuses as a refusal says
  abbrev pub IsTargetOf : Target → Refusal → Type 0
  IsTargetOf t r = target_outcome jump t s ≡ Ended (ending_of r) [] s

  refusal_targets : (b : Bool) → IsTargetOf (refusal_target b) (refusal_by b)
  refusal_targets true = refl
  refusal_targets false = refl

  pub refusing_last : (l : Line) → IsLast (refusing s l)
  refusing_last l = ended_last _ [] s

  refuse_if : (b : Bool) {rules : List Rule} {lines : List Line} → Refuses rules lines
      → Refuses (rules_if b rules) (cond b lines [])
  refuse_if true h = h
  refuse_if false h = record { same = refl }

  by_target : (t : Target) (r : Refusal) (b : Bool) → IsTargetOf t r
      → target_if b jump t s ≡ cond b (Ended (ending_of r) [] s) (Next s)
  by_target t r true h = h
  by_target t r false h = refl

  -- a rule for an address of a port
  line_rule : (i : PortInfo) (kind : DoorKind) (t : Target) (r : Refusal) → IsTargetOf t r
      → (a : AddressParts)
      → IsRuleOf (fits_line config e s) (refusing s) e jump s (rule_at i t a)
      (line_of r (door_at kind i a))
  line_rule i kind t r h a =
      let proto_port : Bool = same_proto i.key.proto e.proto && (i.number == s.port) in
      record {
        same =
            pathless_by _ _ _ s s (rule_if e jump s (match.Dst (single_range a) false
            ∷ match.Port i.key.proto i.number ∷ []) t _ (door_tried e jump s a i.key.proto i.number)
            ∙ by_target t r _ h
            ∙ ap (λ b. cond b (Ended (ending_of r) [] s) (Next s))
            (and_comm (same_address a s.target) proto_port));
      }

  -- rules for addresses of a port
  line_rules : (i : PortInfo) (kind : DoorKind) (t : Target) (r : Refusal) → IsTargetOf t r
      → (addresses : List AddressParts)
      → Refuses (map (rule_at i t) addresses) (map (λ a. line_of r (door_at kind i a)) addresses)
  line_rules i kind t r h addresses =
      find_in_map refusing_last _ (λ a. line_of r (door_at kind i a)) addresses (λ a c. line_rule i kind t r h a)

  nothing_refused : (b c : Bool) → Refuses (rules_if b []) (cond c [] [])
  nothing_refused true true = record { same = refl }
  nothing_refused true false = record { same = refl }
  nothing_refused false true = record { same = refl }
  nothing_refused false false = record { same = refl }

  -- the firewall's rules of a port
  pub firewall_refuses : (i : PortInfo) → Refuses (firewall_block i) (firewall_lines i)
  firewall_refuses i =
      by_balancer i.balancer (line_rules i _ target.Drop DropsClosed refl i.balancer)
    where
      by_balancer : (balancer : List AddressParts)
          → Refuses (map (rule_at i target.Drop) balancer)
          (map (λ a. line_of DropsClosed (door_at door.Balancer i a)) balancer)
          → Refuses (rules_if (is_some i.ranges && (not (is_empty balancer) && i.lists.has_any))
          (map (rule_at i target.Drop) balancer))
          (cond (is_some i.ranges && i.lists.has_any)
          (map (λ a. line_of DropsClosed (door_at door.Balancer i a)) balancer) [])
      by_balancer [] h = nothing_refused _ _
      by_balancer (a ∷ more) h = refuse_if _ h

  -- the rule of a cluster address without endpoints
  pub service_refuses : (i : PortInfo) → Refuses (refusal_block i) (service_lines i)
  service_refuses i =
      refuse_if _ (find_in_one (line_rule i door.Cluster _ _ (refusal_targets _) i.address))

  -- the rule of a node port
  node_refuses : e.node_addresses ≡ config.addresses → (i : PortInfo) (t : Target) (r : Refusal)
      → IsTargetOf t r → (port : Option ℕ) → ((n : ℕ) → port ≡ Some n → i.address.family ≡ family)
      → Refuses (node_port_refusal family i t port) (map (line_of r) (node_door i port))
  node_refuses own i t r h None same = record { same = refl }
  node_refuses own i t r h (Some n) same =
      let not_loop : Bool = not (range_contains (loopback_range family) s.target) in
      let local : Bool = is_local_address e.node_addresses s.target in
      let proto_port : Bool = same_proto i.key.proto e.proto && (n == s.port) in
      find_in_one (record {
        same =
            pathless_by _ _ _ s s
            (rule_if e jump s (own_addresses family ++ match.Port i.key.proto n ∷ []) t _
            (tried_before s not_loop _ (try_all e (match.DstLocal ∷ match.Port i.key.proto n ∷ []))
            (tried_before s local proto_port (try_all e (match.Port i.key.proto n ∷ []))
            (tried_alone s proto_port)))
            ∙ by_target t r _ h
            ∙ ap (λ b. cond b (Ended (ending_of r) [] s) (Next s)) (and_turn not_loop local proto_port)
            ∙ ap (λ a. cond (proto_port && (is_local_address a s.target && not_loop))
            (Ended (ending_of r) [] s) (Next s)) own
            ∙ ap (λ f. cond (proto_port && (is_local_address config.addresses s.target
            && not (range_contains (loopback_range f) s.target))) (Ended (ending_of r) [] s) (Next s))
            (sym (same n refl)));
      })

  -- the rules of a port for what comes from outside
  pub external_refuses : e.node_addresses ≡ config.addresses → (i : PortInfo)
      → ((n : ℕ) → i.node_port ≡ Some n → i.address.family ≡ family)
      → Refuses (external_block family i) (external_lines i)
  external_refuses own i same =
      let t : Target = refusal_target i.lists.has_any in
      let r : Refusal = refusal_by i.lists.has_any in
      let rules : List AddressParts → List Rule = map (rule_at i t) in
      let node : List Rule = node_port_refusal family i t i.node_port in
      let by_address = find_in_append refusing_last
      (line_rules i _ t r (refusal_targets _) i.external)
      (line_rules i _ t r (refusal_targets _) i.balancer) in
      let all_parts = find_in_append refusing_last by_address
      (node_refuses own i t r (refusal_targets _) i.node_port same) in
      refuse_if _ (subst (Refuses (rules i.external ++ rules i.balancer ++ node))
      (sym (lines_of r _ _ i.external i.balancer _)) all_parts)
