-- What a look-up is for is among what is found by tags.
use Rattle.std.proofs.Common.{◌≡◌, ℕ, ◌==◌, ◌&&◌, ◌||◌, Bool, true, false, ◌≤◌, ◌-◌, zero, suc, length, arith, not, List, [], ◌∷◌, ◌++◌, map, flat_map, bytes_eq, Option, Some, None, option_map, slice_get, refl, sym, ap, subst, ◌∙◌, Contains, inl, inr}
use Rattle.std.specs.List.{list_any, list_all}
use Rattle.std.specs.Option.{option_to_list}
use Rattle.std.specs.Cmp.{IsEquivalence}
use Rattle.std.proofs.lemmas.Bool.{and_parts, eqb-true, or_cases, or_left, or_right}
use Rattle.std.proofs.lemmas.List.Elements.{Contains-append_left, Contains-append_right}
use Rattle.std.proofs.lemmas.List.Folds.{list_any-append}
use Rattle.std.proofs.lemmas.Option.{same_Some}
use Rattle.std.proofs.lemmas.Slice.Eq.{bytes_eq-Decides}
use Rattle.kp_lemmas.proofs.Members.{any_from, first_in, in_flat_map, in_map, later_in, passing}
use Rattle.kp_base.specs.Net.{AddressParts, same_address}
use Rattle.kp_base.specs.Keys.{same_proto}
use Rattle.kp_base.specs.declared.address.Family.{Family}
use Rattle.kp_base.specs.declared.address.Family.TheVariants.{V4, V6}
use Rattle.kp_base.specs.declared.key.Pair.{Pair}
use Rattle.kp_base.specs.declared.port.Proto.{Proto}
use Rattle.kp_base.proofs.SameParts.{same_address_exact, same_proto_exact}
use Rattle.kp_types.specs.declared.pod.Pod.{Pod}
use Rattle.kp_types.specs.declared.service.Service.{Service}
use Rattle.kp_types.specs.declared.service.ServicePort.{ServicePort}
use Rattle.kp_object_defs.specs.Desired.{has_label, has_selector, is_empty, is_external_name, selects}
use Rattle.kp_object_defs.specs.PortInfo.{balancer_of, external_of}
use Rattle.kp_store.specs.Destinations.{answers, cluster_addresses, has_address, is_address_in, is_address_of, is_node_port, port_answers}
use Rattle.kp_store.specs.Indexes.{is_among}
use Rattle.kp_store.specs.Tags.{label_in, label_tag, node_tag, selector_tags, tag_at, tags_in, tags_of, tags_of_pod, tags_of_port}
use Rattle.kp_store.specs.declared.tags.PodTag.{PodTag}
use Rattle.kp_store.specs.declared.tags.PodTag.TheVariants.{Labelled, On}
use Rattle.kp_store.specs.declared.tags.ServiceTag.{ServiceTag}
use Rattle.kp_store.specs.declared.tags.ServiceTag.TheVariants.{At, NodePort}

-- ---- lists

-- an element that passes makes one that passes
any_mapped : {X Y : Type 0} (p : X → Bool) (f : X → Y) (r : Y → Bool) → ((x : X) → p x ≡ true → r (f x) ≡ true) → (xs : List X) → list_any p xs ≡ true → list_any r (map f xs) ≡ true
any_mapped p f r follows xs h =
    let (x, in_xs, is) = passing p xs h in
    any_from r (f x) (map f xs) (in_map f x xs in_xs) (follows x is)

-- ---- addresses

-- an address that a Service gives for a family is one of it
pub in_family : (family : Family) (target : AddressParts) (s : Service) → is_address_in family target s ≡ true → is_address_of target s ≡ true
in_family V4 target s h = or_left (is_address_in V4 target s) (is_address_in V6 target s) h
in_family V6 target s h = or_right (is_address_in V4 target s) (is_address_in V6 target s) h

-- ---- selectors

-- a label that matches is that of the pair
one_label : (namespace other : List ℕ) (l term : Pair) → other ≡ namespace → bytes_eq l.key term.key && bytes_eq l.value term.value ≡ true → label_in other l ≡ label_in namespace term
one_label namespace other l term same h =
    let parts = and_parts (bytes_eq l.key term.key) (bytes_eq l.value term.value) h in
    λ i. record { namespace = same i; key = (bytes_eq-Decides l.key term.key).0 parts.0 i; value = (bytes_eq-Decides l.value term.value).0 parts.1 i }

-- what a selection says: the namespace, and the first term
pub selected_parts : (s : Service) (pod : Pod) → selects s pod ≡ true → (has_selector s ≡ true) × ((pod.key.namespace ≡ s.key.namespace) × (list_all (has_label pod) s.selector ≡ true))
selected_parts s pod h =
    let outer = and_parts (has_selector s && bytes_eq s.key.namespace pod.key.namespace) (list_all (has_label pod) s.selector) h in
    let inner = and_parts (has_selector s) (bytes_eq s.key.namespace pod.key.namespace) outer.0 in
    (inner.0, (sym ((bytes_eq-Decides s.key.namespace pod.key.namespace).0 inner.1), outer.1))

module _ (same : PodTag → PodTag → Bool) (laws : IsEquivalence same) where
  -- a pod that a Service selects has each term
  pub has_term : (s : Service) (term : Pair) (i : ℕ) → slice_get s.selector i ≡ Some term → (pod : Pod) → selects s pod ≡ true → is_among same (tags_of_pod pod) (label_tag s.key.namespace term) ≡ true
  has_term s term i at pod h =
      let parts = selected_parts s pod h in
      let tag = label_tag s.key.namespace term in
      let labels = map (label_tag pod.key.namespace) pod.labels in
      let node = option_to_list (option_map On pod.node) in
      list_any-append (same tag) labels node
      ∙ or_left (list_any (same tag) labels) (list_any (same tag) node)
      (any_mapped (λ l. bytes_eq l.key term.key && bytes_eq l.value term.value) (label_tag pod.key.namespace) (same tag)
      (λ l matches. ap (λ l. same tag (Labelled l)) (one_label s.key.namespace pod.key.namespace l term parts.1.0 matches) ∙ laws.refl tag)
      pod.labels (of_nth s.selector i at parts.1.1))
    where
      of_nth : (terms : List Pair) (i : ℕ) → slice_get terms i ≡ Some term → list_all (has_label pod) terms ≡ true → has_label pod term ≡ true
      of_nth [] i is all = absurd (cc)
      of_nth (t ∷ ts) zero is all = ap (has_label pod) (sym (same_Some t term is)) ∙ (and_parts (has_label pod t) (list_all (has_label pod) ts) all).0
      of_nth (t ∷ ts) (suc i) is all = of_nth ts i is (and_parts (has_label pod t) (list_all (has_label pod) ts) all).1

-- without a term nothing is selected
pub none_selected : (s : Service) (i : ℕ) → i ≤ length s.selector - 1 → length s.selector ≤ i → (pod : Pod) → selects s pod ≡ false
none_selected s i within past pod = by s.selector within past
  where
    by : (terms : List Pair) → i ≤ length terms - 1 → length terms ≤ i → ((not (is_empty terms) && not (is_external_name s.kind)) && bytes_eq s.key.namespace pod.key.namespace) && list_all (has_label pod) s.selector ≡ false
    by [] less more = refl
    by (t ∷ ts) less more = absurd (omega arith)

module _ (same : ServiceTag → ServiceTag → Bool) (laws : IsEquivalence same) where
  module _ (proto : Proto) (target : AddressParts) (number : ℕ) where
    abbrev here : ServiceTag
    here = At target number proto

    abbrev node : ServiceTag
    node = NodePort number proto

    module _ (s : Service) (p : ServicePort) where
      abbrev at_node : List ServiceTag
      at_node = option_to_list (option_map (node_tag p) p.node_port)

      -- the tag of an address
      tagged_at : p.proto ≡ proto → p.port ≡ number → (listed : List AddressParts) → has_address target listed ≡ true → Contains (map (tag_at p) listed) here
      tagged_at protos numbers listed h =
          let (a, in_listed, equal) = passing (λ a. same_address a target) listed h in
          subst (Contains (map (tag_at p) listed)) (λ i. At (same_address_exact a target equal i) (numbers i) (protos i)) (in_map (tag_at p) a listed in_listed)

      tagged_node : p.proto ≡ proto → (own : Option ℕ) → is_node_port number own ≡ true → Contains (option_to_list (option_map (node_tag p) own)) node
      tagged_node protos None h = absurd (cc)
      tagged_node protos (Some n) h = subst (Contains (node_tag p n ∷ [])) (λ i. NodePort (eqb-true n number h i) (protos i)) (first_in (node_tag p n) [])

      -- and that of an address that the Service gives for a family
      tagged_in : p.proto ≡ proto → p.port ≡ number → (family : Family) → is_address_in family target s ≡ true → Contains (tags_in family s p) here
      tagged_in protos numbers family h =
          let at_cluster = map (tag_at p) (cluster_addresses family s) in
          let at_external = map (tag_at p) (external_of family s) in
          let at_balancer = map (tag_at p) (balancer_of family s) in
          elim (or_cases (has_address target (cluster_addresses family s)) (has_address target (external_of family s) || has_address target (balancer_of family s)) h) [
            | inl c ↦ Contains-append_left (at_cluster ++ at_external) at_balancer here (Contains-append_left at_cluster at_external here (tagged_at protos numbers (cluster_addresses family s) c))
            | inr d ↦
                elim (or_cases (has_address target (external_of family s)) (has_address target (balancer_of family s)) d) [
                  | inl e ↦ Contains-append_left (at_cluster ++ at_external) at_balancer here (Contains-append_right at_cluster at_external here (tagged_at protos numbers (external_of family s) e))
                  | inr b ↦ Contains-append_right (at_cluster ++ at_external) at_balancer here (tagged_at protos numbers (balancer_of family s) b)
                ]
          ]

      at_address : p.proto ≡ proto → p.port ≡ number → is_address_of target s ≡ true → Contains (tags_in V4 s p ++ tags_in V6 s p) here
      at_address protos numbers h =
          elim (or_cases (is_address_in V4 target s) (is_address_in V6 target s) h) [
            | inl four ↦ Contains-append_left (tags_in V4 s p) (tags_in V6 s p) here (tagged_in protos numbers V4 four)
            | inr six ↦ Contains-append_right (tags_in V4 s p) (tags_in V6 s p) here (tagged_in protos numbers V6 six)
          ]

      -- a port that answers has one of the two tags
      port_tagged : port_answers proto target number s p ≡ true → (t : ServiceTag) × Contains (tags_of_port s p) t × Contains (here ∷ node ∷ []) t
      port_tagged h =
          let parts = and_parts (same_proto p.proto proto) (((p.port == number) && is_address_of target s) || is_node_port number p.node_port) h in
          let protos = same_proto_exact p.proto proto parts.0 in
          elim (or_cases ((p.port == number) && is_address_of target s) (is_node_port number p.node_port) parts.1) [
            | inl a ↦
                let both = and_parts (p.port == number) (is_address_of target s) a in
                (here, Contains-append_left (tags_in V4 s p ++ tags_in V6 s p) at_node here (at_address protos (eqb-true p.port number both.0) both.1), first_in here (node ∷ []))
            | inr n ↦ (node, Contains-append_right (tags_in V4 s p ++ tags_in V6 s p) at_node node (tagged_node protos p.node_port n), later_in node here (node ∷ []) (first_in node []))
          ]

    -- a Service that answers has one of the two tags
    pub has_destination : (s : Service) → answers proto target number s ≡ true → list_any (is_among same (tags_of s)) (At target number proto ∷ NodePort number proto ∷ []) ≡ true
    has_destination s h =
        let (p, in_ports, is) = passing (port_answers proto target number s) s.ports h in
        let (t, in_tags, in_both) = port_tagged s p is in
        any_from (is_among same (tags_of s)) t (here ∷ node ∷ []) in_both
        (any_from (same t) t (tags_of s) (Contains-append_right (selector_tags s) (flat_map (tags_of_port s) s.ports) t (in_flat_map (tags_of_port s) p t s.ports in_ports in_tags)) (laws.refl t))
