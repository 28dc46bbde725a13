-- The slices of a Service, by the keys of their owners, and the pods of a node, by its name.
use Rattle.std.proofs.Common.{◌≡◌, ℕ, ◌&&◌, List, [], ◌∷◌, ◌++◌, map, filter, bytes_eq, Option, Some, None, option_map, refl, sym, ◌∙◌}
use Rattle.std.specs.List.{list_any}
use Rattle.std.specs.Option.{option_to_list}
use Rattle.std.specs.Ordering.{eq_by_cmp}
use Rattle.std.specs.Cmp.{eq_by_cmp_equiv}
use Rattle.std.specs.Cmp.Lexicographic.{nat_list_eq_equiv}
use Rattle.kp_base.specs.Keys.{key_cmp}
use Rattle.kp_base.specs.declared.key.ObjectKey.{ObjectKey}
use Rattle.kp_base.specs.contracts.key.ObjectKeyPartialEq.TheImpl as key_eq
use Rattle.kp_base.proofs.KeyOrder.{key_total, key_ties}
use Rattle.kp_base.specs.declared.key.Pair.{Pair}
use Rattle.kp_types.specs.declared.pod.Pod.{Pod}
use Rattle.kp_types.specs.declared.slice.Slice.{Slice}
use Rattle.kp_object_defs.specs.Entries.{is_named, is_of_service}
use Rattle.kp_store.specs.Indexes.{is_among}
use Rattle.kp_store.specs.LookUps.{is_on}
use Rattle.kp_store.specs.Tags.{label_tag, owner_key, owners_of, tags_of_pod}
use Rattle.kp_store.specs.declared.tags.PodTag.TheVariants.{On}
use Rattle.kp_store.specs.contracts.tags.PodTagPartialEq.TheImpl as tag_eq
use mathlib.Core.Bool.{or-false, and-false}

owned_by : (service : ObjectKey) (s : Slice) (o : Option (List ℕ)) → is_among key_eq.ghosts.eq (option_to_list (option_map (owner_key s) o)) service ≡ bytes_eq s.key.namespace service.namespace && is_named service.name o
owned_by service s None = sym (and-false (bytes_eq s.key.namespace service.namespace))
owned_by service s (Some name) =
    or-false (key_eq.ghosts.eq service (owner_key s name))
    ∙ key_ties service (owner_key s name)
    ∙ (eq_by_cmp_equiv key_total).symm service (owner_key s name)
    ∙ sym (key_ties (owner_key s name) service)

-- those with the Service as their owner are the slices of the Service
pub of_owner : (service : ObjectKey) (slices : List Slice) → filter (λ s. is_among key_eq.ghosts.eq (owners_of s) service) slices ≡ filter (is_of_service service) slices
of_owner service slices = λ i. filter (λ s. owned_by service s s.service i) slices

-- the Service that a slice names is its owner
pub owned : (k : ObjectKey) (s : Slice)
    → list_any (eq_by_cmp key_cmp k) (owners_of s) ≡ is_of_service k s
owned k s = sym (λ i. list_any (λ q. key_ties k q i) (owners_of s)) ∙ owned_by k s s.service

named_node : (node : List ℕ) (own : Option (List ℕ)) → is_among tag_eq.ghosts.eq (option_to_list (option_map On own)) (On node) ≡ is_named node own
named_node node None = refl
named_node node (Some name) = or-false (bytes_eq node name) ∙ nat_list_eq_equiv.symm node name

-- no label is the tag of a node
on_node : (node namespace : List ℕ) (labels : List Pair) (own : Option (List ℕ)) → is_among tag_eq.ghosts.eq (map (label_tag namespace) labels ++ option_to_list (option_map On own)) (On node) ≡ is_named node own
on_node node namespace [] own = named_node node own
on_node node namespace (l ∷ ls) own = on_node node namespace ls own

-- those with the node's tag are the pods of the node
pub of_node : (node : List ℕ) (pods : List Pod) → filter (λ p. is_among tag_eq.ghosts.eq (tags_of_pod p) (On node)) pods ≡ filter (is_on node) pods
of_node node pods = λ i. filter (λ p. on_node node p.key.namespace p.labels p.node i) pods
