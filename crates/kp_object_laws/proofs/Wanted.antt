-- The endpoints that a Service wants of the objects, in whatever order these are given, and their pods.
use Rattle.std.proofs.Common.{◌≡◌, Bool, true, false, cond, not, ℕ, List, [], ◌∷◌, map, bytes_eq, Option, Some, None, option_and_then, filter, filter_map, refl, ap, ◌∙◌, Less, is_eq, is_lt, ◌||◌}
use Rattle.std.specs.List as list
use Rattle.std.specs.List.{cons_option, list_any}
use Rattle.std.specs.Cmp.{eq_by_cmp_equiv}
use Rattle.std.specs.Cmp.Lexicographic.{texts_ties}
use Rattle.std.specs.FinMap as finite
use Rattle.std.specs.FinMap.{find, is_sorted}
use Rattle.std.specs.FinMap.Entries.{below_all}
use Rattle.std.proofs.lemmas.Bool.{and_from, and_parts, or_from}
use Rattle.kp_lemmas.proofs.Orders.{less_from_test}
use Rattle.kp_base.specs.Keys.{key_cmp}
use Rattle.kp_base.specs.Net.{AddressParts}
use Rattle.kp_base.specs.declared.address.Family.{Family}
use Rattle.kp_base.specs.declared.key.ObjectKey.{ObjectKey}
use Rattle.kp_base.proofs.KeyOrder.{key_total, key_exact, key_ties, text_total}
use Rattle.kp_types.specs.declared.service.Service.{Service}
use Rattle.kp_types.specs.declared.slice.SliceEndpoint.{SliceEndpoint}
use Rattle.kp_types.specs.declared.slice.SlicePort.{SlicePort}
use Rattle.kp_types.specs.declared.slice.Wanted.{Wanted}
use Rattle.kp_types.specs.declared.pod.Pod.{Pod}
use Rattle.kp_types.specs.declared.pod.Node.{Node}
use Rattle.kp_object_defs.specs.Objects.{Objects, node_key, zone_of}
use Rattle.kp_object_defs.specs.OwnKeys.{AreUnderOwnKeys}
use Rattle.kp_object_defs.specs.Desired.{selects, desired_of, zone_among, in_name_order, with_ports, has_family, pod_address, entry_of, resolved_ports}
use Rattle.kp_object_defs.specs.Packing.{same_object}
use Rattle.kp_object_defs.specs.PackingLaws.{have_own_pods}
use Rattle.kp_object_laws.specs.ObjectLaws.{HaveSameElements, WantedOfObjects, WantedOfOwnPods, DesiredOfOwnPods}
use Rattle.kp_object_laws.proofs.SameElements.{same_filtered, same_reversed}
use Rattle.kp_object_laws.proofs.OwnEntries.{owned, put_in_order, by_key_in_order, same_found, filter_in_order, in_order_apart}
use Rattle.kp_object_laws.proofs.OwnKeys.{values_in_order, found_in_values}

-- ---- Zones

key_of_node : Node → ObjectKey
key_of_node n = node_key n.name

-- a look-up of a name among nodes
named_node : (name : List ℕ) (nodes : List Node) → list.find (λ n. bytes_eq n.name name) nodes ≡ find key_cmp (node_key name) (owned (λ n. node_key n.name) nodes)
named_node name [] = refl
named_node name (n ∷ nodes) =
    ap (cond (bytes_eq n.name name) (Some n)) (named_node name nodes)
    ∙ ap (λ b. cond b (Some n) (find key_cmp (node_key name) (owned (λ (m : Node). node_key m.name) nodes))) (texts_ties n.name name ∙ (eq_by_cmp_equiv text_total).symm n.name name)

same_zones : (o : Objects) → AreUnderOwnKeys o → (nodes : List Node) → HaveSameElements nodes (finite.values o.nodes) → (name : List ℕ) → zone_among nodes name ≡ zone_of o name
same_zones o own nodes same name =
    ap (option_and_then (λ n. n.zone)) (named_node name _
    ∙ same_found key_total key_exact (λ n. node_key n.name) _ _ (same_reversed nodes _ same)
    (in_order_apart key_total key_exact (λ n. node_key n.name) _ (values_in_order (λ n. node_key n.name) o.nodes own.nodes)) (node_key name)
    ∙ found_in_values (λ n. node_key n.name) o.nodes own.nodes _)

-- ---- The same endpoints

pub wanted_of_objects : WantedOfObjects
wanted_of_objects family o s pods nodes own same_pods same_nodes =
    (λ i. filter_map (desired_of family (λ name. same_zones o own nodes same_nodes name i) s) (in_name_order (filter (selects s) pods)))
    ∙ ap (filter_map (desired_of family (zone_of o) s))
    (put_in_order key_total key_exact (λ p. p.key) _ _ (same_filtered _ pods _ same_pods)
    (filter_in_order key_total key_exact (λ p. p.key) (selects s) (finite.values o.pods) (values_in_order (λ p. p.key) o.pods own.pods)))

-- ---- Their pods

-- an endpoint, if there is one, is of the pod with this key
abbrev IsOfPod : ObjectKey → Option Wanted → Type 0
IsOfPod key None = Unit {0}
IsOfPod key (Some w) = w.pod ≡ key

of_ports : (pod : Pod) (entry : SliceEndpoint) (ports : List SlicePort) → IsOfPod pod.key (with_ports pod entry ports)
of_ports pod entry [] = tt
of_ports pod entry (p ∷ ps) = refl

of_address : (pod : Pod) (entry : AddressParts → SliceEndpoint) (ports : List SlicePort) (address : Option AddressParts) → IsOfPod pod.key (option_and_then (λ a. with_ports pod (entry a) ports) address)
of_address pod entry ports None = tt
of_address pod entry ports (Some a) = of_ports pod _ ports

of_finished : (key : ObjectKey) (finished : Bool) (made : Option Wanted) → IsOfPod key made → IsOfPod key (cond finished None made)
of_finished key true made h = tt
of_finished key false made h = h

of_pod : (family : Family) (zone_at : List ℕ → Option (List ℕ)) (s : Service) (pod : Pod) → IsOfPod pod.key (desired_of family zone_at s pod)
of_pod family zone_at s pod =
    of_finished pod.key (not (has_family family s) || pod.finished) _
    (of_address pod (entry_of s pod (option_and_then zone_at pod.node)) (resolved_ports s pod) (pod_address family pod))

other_object : (a b c : ObjectKey) → key_cmp a b ≡ Less → c ≡ b → same_object a c ≡ false
other_object a b c less same = ap (same_object a) same ∙ key_ties a b ∙ ap is_eq less

module _ (made : Pod → Option Wanted) (of_own : (pod : Pod) → IsOfPod pod.key (made pod)) where
  later_pods : (key : ObjectKey) (pods : List Pod) → below_all key_cmp key (owned (λ p. p.key) pods) ≡ true → list_any (same_object key) (map (λ w. w.pod) (filter_map made pods)) ≡ false
  later_pods key [] h = refl
  later_pods key (p ∷ ps) h =
      let parts = and_parts (is_lt (key_cmp key p.key)) (below_all key_cmp key (owned (λ q. q.key) ps)) h in
      let rest = later_pods key ps parts.1 in
      elim (made p) as (λ o. IsOfPod p.key o → list_any (same_object key) (map (λ w. w.pod) (cons_option o (filter_map made ps))) ≡ false) [
        | None ↦ λ own. rest
        | Some w ↦ λ own. or_from _ _ (other_object key p.key w.pod (less_from_test _ parts.0) own) rest
      ] (of_own p)

  own_pods : (pods : List Pod) → is_sorted key_cmp (owned (λ p. p.key) pods) ≡ true → have_own_pods (filter_map made pods) ≡ true
  own_pods [] h = refl
  own_pods (p ∷ ps) h =
      let parts = and_parts (below_all key_cmp p.key (owned (λ q. q.key) ps)) (is_sorted key_cmp (owned (λ q. q.key) ps)) h in
      let rest = own_pods ps parts.1 in
      let later = later_pods p.key ps parts.0 in
      elim (made p) as (λ o. IsOfPod p.key o → have_own_pods (cons_option o (filter_map made ps)) ≡ true) [
        | None ↦ λ own. rest
        | Some w ↦ λ own. and_from _ _ (ap (λ k. not (list_any (same_object k) (map (λ v. v.pod) (filter_map made ps)))) own ∙ ap not later) rest
      ] (of_own p)

pub wanted_of_own_pods : WantedOfOwnPods
wanted_of_own_pods family s pods nodes =
    own_pods _ (of_pod family _ s) (in_name_order (filter (selects s) pods)) (by_key_in_order key_total key_exact (λ p. p.key) (filter (selects s) pods))

pub desired_of_own_pods : DesiredOfOwnPods
desired_of_own_pods family o s own =
    own_pods _ (of_pod family _ s) (filter (selects s) (finite.values o.pods))
    (filter_in_order key_total key_exact (λ p. p.key) _ (finite.values o.pods) (values_in_order (λ p. p.key) o.pods own.pods))
