-- Another zone of a node leaves the inputs of the Services that it doesn't touch.
use Rattle.std.proofs.Common.{◌≡◌, ℕ, ◌&&◌, ◌||◌, Bool, true, false, true≢false, not, cond, bytes_eq, List, [], ◌∷◌, filter, filter_map, flat_map, Option, Some, None, option_map, option_and_then, refl, sym, ap, ◌∙◌}
use Rattle.std.specs.List.{cons_option, list_any}
use Rattle.std.specs.Cmp.Lexicographic.{nat_list_eq_equiv}
use Rattle.std.specs.Option.{option_eq}
use Rattle.std.specs.FinMap as finite
use Rattle.std.specs.FinMap.{get}
use Rattle.std.proofs.lemmas.Bool.{and_parts, or_parts}
use Rattle.std.proofs.lemmas.Slice.Eq.{bytes_eq-Decides}
use Rattle.kp_lemmas.proofs.Equality.{options_exact}
use Rattle.kp_base.specs.Keys.{key_cmp}
use Rattle.kp_base.specs.declared.address.Family.{Family}
use Rattle.kp_base.specs.declared.key.PortKey.{PortKey}
use Rattle.kp_types.specs.Setting.{Settings, both_families, config_of_family}
use Rattle.kp_types.specs.declared.info.ServiceSources.{ServiceSources}
use Rattle.kp_types.specs.declared.pod.Node.{Node}
use Rattle.kp_types.specs.declared.pod.Pod.{Pod}
use Rattle.kp_types.specs.declared.service.Service.{Service}
use Rattle.kp_types.specs.declared.slice.Wanted.{Wanted}
use Rattle.kp_object_defs.specs.Desired.{has_selector, selects, desired_in_zone, desired_of, desired_endpoints_of}
use Rattle.kp_object_defs.specs.Entries.{entries_from, is_named, is_on_node, slices_of, sources_of, unmanaged}
use Rattle.kp_object_defs.specs.Objects.{Objects, node_key, zone_of}
use Rattle.kp_object_defs.specs.PortByKey.{port_named}
use Rattle.kp_object_defs.specs.PortInfo.{port_key_of}
use Rattle.kp_history_defs.specs.Inputs.{PortInputs, inputs_of}
use Rattle.kp_touch_defs.specs.Touches.{node_touches, selects_on, selects_pod, zone_touches}

-- ---- truth values

neither : (a b : Bool) → not a && b ≡ false → a ≡ false → b ≡ false
neither true b h is = absurd (true≢false is)
neither false b h is = h

-- ---- Pods

-- two zones of nodes that differ at one node alone are the same for a pod that isn't on it
module _
    (name : List ℕ) (at was : List ℕ → Option (List ℕ))
    (others : (m : List ℕ) → bytes_eq m name ≡ false → at m ≡ was m) where
  elsewhere : (node : Option (List ℕ)) → is_named name node ≡ false
      → option_and_then at node ≡ option_and_then was node
  elsewhere None h = refl
  elsewhere (Some m) h = others m h

  -- the pods on the node
  abbrev on_node : List Pod → List Pod
  on_node pods = filter (λ pod. is_on_node name pod.node) pods

  module _ (family : Family) (s : Service) where
    -- what the Service wants of pods that it selects
    abbrev wants : (List ℕ → Option (List ℕ)) → List Pod → List Wanted
    wants zones pods = filter_map (desired_of family zones s) pods

    -- it wants the same of pods, of which it selects none on the node
    pub wanted_elsewhere : (pods : List Pod) → list_any (selects s) (on_node pods) ≡ false
        → wants at (filter (selects s) pods) ≡ wants was (filter (selects s) pods)
    wanted_elsewhere [] h = refl
    wanted_elsewhere (p ∷ ps) h =
        by (wanted_elsewhere ps) (is_on_node name p.node) (selects s p) refl refl h
      where
        on : List Pod
        on = on_node ps

        chosen : List Pod
        chosen = filter (selects s) ps

        by : (list_any (selects s) on ≡ false → wants at chosen ≡ wants was chosen)
            → (b c : Bool) → is_on_node name p.node ≡ b → selects s p ≡ c
            → list_any (selects s) (cond b (p ∷ on) on) ≡ false
            → wants at (cond c (p ∷ chosen) chosen) ≡ wants was (cond c (p ∷ chosen) chosen)
        by rest true true here is none =
            absurd (true≢false (sym (ap (λ c. c || list_any (selects s) on) is) ∙ none))
        by rest true false here is none =
            rest (sym (ap (λ c. c || list_any (selects s) on) is) ∙ none)
        by rest false true here is none =
            λ i. cons_option (desired_in_zone family s p (elsewhere p.node here i)) (rest none i)
        by rest false false here is none = rest none

-- ---- Inputs

-- what is found is the same for all that may be found
found_alike : {X Y : Type 0} (f g : X → Option Y) (o : Option X)
    → ((x : X) → o ≡ Some x → f x ≡ g x) → option_and_then f o ≡ option_and_then g o
found_alike f g None each = refl
found_alike f g (Some x) each = each x refl

module _
    (settings : Settings) (o : Objects) (nodes : finite.FinMap key_cmp Node) (key : PortKey) where
  -- the objects with other nodes
  abbrev after : Objects
  after = record o { nodes = nodes }

  -- the controller makes slices for a Service
  abbrev makes_slices : Service → Type 0
  makes_slices s = settings.config.controller && has_selector s ≡ true

  -- in each family a Service wants the same of them
  abbrev WantsAlike : Service → Type 0
  WantsAlike s =
      (family : Family) → desired_endpoints_of family after s ≡ desired_endpoints_of family o s

  -- the sources of a Service that the controller makes slices for
  abbrev made : Service → List Wanted → ServiceSources
  made s wanted = record { service = s; wanted = wanted; slices = unmanaged (slices_of o s.key) }

  -- the sources of a Service, where the controller makes slices for it and where it doesn't
  sources_alike : (family : Family) (s : Service) → (makes_slices s → WantsAlike s)
      → sources_of family (config_of_family family settings.config) after s
      ≡ sources_of family (config_of_family family settings.config) o s
  sources_alike family s wanted = by (settings.config.controller && has_selector s) refl
    where
      fed : ServiceSources
      fed = record { service = s; wanted = []; slices = slices_of o s.key }

      by : (b : Bool) → settings.config.controller && has_selector s ≡ b
          → cond b (made s (desired_endpoints_of family after s)) fed
          ≡ cond b (made s (desired_endpoints_of family o s)) fed
      by true is = ap (made s) (wanted is family)
      by false is = refl

  -- the inputs of the port are the same
  abbrev pub Stays : Type 0
  Stays = inputs_of settings after key ≡ inputs_of settings o key

  -- the inputs, where the own zone stays and what the Service wants
  inputs_alike : zone_of after settings.config.node ≡ zone_of o settings.config.node
      → ((s : Service) → get o.services key.object ≡ Some s → makes_slices s → WantsAlike s)
      → Stays
  inputs_alike zone wanted =
      found_alike _ _ (get o.services key.object) (λ s at i.
      option_map (λ p. let inputs : PortInputs = record {
        service = s;
        entries = flat_map (λ f. entries_from f settings.config.node
            (sources_alike f s (wanted s at) i) (port_key_of s p)) both_families;
        zone = zone i;
      } in inputs) (port_named key s))

  -- no node has another zone
  pub no_zone : ((m : List ℕ) → zone_of after m ≡ zone_of o m) → Stays
  no_zone same =
      inputs_alike (same settings.config.node) (λ s at is family i.
      filter_map
      (λ pod. desired_in_zone family s pod (option_and_then (λ m. same m i) pod.node))
      (filter (selects s) (finite.values o.pods)))

  -- the zone of a node, if there is one
  abbrev zone_in : Option Node → Option (List ℕ)
  zone_in n = option_and_then (λ n. n.zone) n

  -- one node may have another, and it doesn't touch the Service
  module _
      (name : List ℕ) (new : Option Node)
      (is : (m : List ℕ) → get nodes (node_key m)
      ≡ cond (bytes_eq m name) new (get o.nodes (node_key m))) where
    at_node : (m : List ℕ) (b : Bool) → bytes_eq m name ≡ b
        → zone_of after m ≡ zone_in (cond b new (get o.nodes (node_key m)))
    at_node m b e = ap zone_in (is m ∙ ap (λ b. cond b new (get o.nodes (node_key m))) e)

    -- the zone of the node stays
    kept : zone_of o name ≡ zone_in new → (m : List ℕ) (b : Bool) → bytes_eq m name ≡ b
        → zone_of after m ≡ zone_of o m
    kept stays m true e =
        at_node m true e ∙ sym (ap (zone_of o) ((bytes_eq-Decides m name).0 e) ∙ stays)
    kept stays m false e = at_node m false e

    selected_none : (s : Service) → get o.services key.object ≡ Some s
        → selects_on o name key.object ≡ false
        → list_any (selects s) (filter (λ pod. is_on_node name pod.node) (finite.values o.pods))
        ≡ false
    selected_none s at none =
        let on = filter (λ (pod : Pod). is_on_node name pod.node) (finite.values o.pods) in
        ap (λ found. list_any (selects_pod found) on) (sym at) ∙ none

    -- it is another
    changed : zone_touches settings.config.node settings.config.controller o name key.object ≡ false
        → Stays
    changed none =
        let parts = or_parts _ _ none in
        inputs_alike (at_node settings.config.node false (own parts.0)) (λ s at made family.
        let controller = and_parts settings.config.controller (has_selector s) made in
        wanted_elsewhere name (zone_of after) (zone_of o) (λ m e. at_node m false e)
        family s (finite.values o.pods)
        (selected_none s at
        (ap (λ b. b && selects_on o name key.object) (sym controller.0) ∙ parts.1)))
      where
        own : bytes_eq name settings.config.node ≡ false
            → bytes_eq settings.config.node name ≡ false
        own other = nat_list_eq_equiv.symm settings.config.node name ∙ other

    pub node_stays :
        node_touches settings.config.node settings.config.controller o name (zone_in new) key.object
        ≡ false
        → Stays
    node_stays none = by (option_eq bytes_eq (zone_of o name) (zone_in new)) refl
      where
        exact : option_eq bytes_eq (zone_of o name) (zone_in new) ≡ true
            → zone_of o name ≡ zone_in new
        exact same =
            options_exact bytes_eq (λ x y e. (bytes_eq-Decides x y).0 e) (zone_of o name)
            (zone_in new) same

        by : (b : Bool) → option_eq bytes_eq (zone_of o name) (zone_in new) ≡ b → Stays
        by true same = no_zone (λ m. kept (exact same) m (bytes_eq m name) refl)
        by false other = changed (neither _ _ none other)
