-- An event affects the ports of each Service that it touches, and one about a node touches those
-- alone for which a zone that counts changes.
use Rattle.std.proofs.Common.{◌≡◌, ℕ, ◌&&◌, ◌||◌, Bool, true, false, true≢false, cond, not}
use Rattle.std.proofs.Common.{bytes_eq, List, Option, Some, None, option_and_then, refl, sym, ap}
use Rattle.std.proofs.Common.{◌∙◌}
use Rattle.std.specs.Cmp.Lexicographic.{nat_list_eq_equiv, options_equiv}
use Rattle.std.specs.List.{list_all}
use Rattle.std.specs.Option.{option_eq}
use Rattle.std.specs.FinMap.{get}
use Rattle.std.proofs.lemmas.Bool.{and_from, and_parts}
use Rattle.std.proofs.lemmas.Slice.Eq.{bytes_eq-Decides}
use Rattle.kp_base.specs.declared.key.ObjectKey.{ObjectKey}
use Rattle.kp_base.proofs.KeyOrder.{key_ties}
use Rattle.kp_types.specs.Setting.{Settings}
use Rattle.kp_types.specs.declared.event.Event.{Event}
use Rattle.kp_types.specs.declared.event.Event.TheVariants.{Apply, Delete}
use Rattle.kp_types.specs.declared.event.Kind.TheVariants as kind
use Rattle.kp_types.specs.declared.event.Object.TheVariants as object
use Rattle.kp_types.specs.declared.pod.Node.{Node}
use Rattle.kp_types.specs.declared.pod.Pod.{Pod}
use Rattle.kp_types.specs.declared.service.Service.{Service}
use Rattle.kp_object_defs.specs.Desired.{has_label, has_selector}
use Rattle.kp_object_defs.specs.Entries.{is_of_service}
use Rattle.kp_object_defs.specs.Objects.{Objects, node_key, objects_step, zone_of}
use Rattle.kp_history_defs.specs.Affected.{is_pod_of, selects_some}
use Rattle.kp_touch_defs.specs.Touches.{is_selected, lost_node_touches, node_touches, pod_touches}
use Rattle.kp_touch_defs.specs.Touches.{selects_on, selects_pod}
use Rattle.kp_touch_laws.specs.FewTouched.{AllZonesStay, KeepsZonesFor, OwnZoneStays}
use Rattle.kp_touch_laws.specs.FewTouched.{TouchedAreAffected, ZonesCount}
use Rattle.kp_touch_laws.proofs.Untouched.{named_alike, put_at, selected_alike, taken_at}

-- ---- Truth values

or_else : (a : Bool) → a || false ≡ true → a ≡ true
or_else true h = refl
or_else false h = h

and_none : (a : Bool) → a && false ≡ false
and_none true = refl
and_none false = refl

-- ---- What touches a Service affects its ports

has_one : (s : Service) (pod : Option Pod) → selects_some s pod ≡ true → has_selector s ≡ true
has_one s None h = absurd (cc)
has_one s (Some p) h =
    let all = and_parts (has_selector s && bytes_eq s.key.namespace p.key.namespace)
    (list_all (has_label p) s.selector) h in
    (and_parts (has_selector s) (bytes_eq s.key.namespace p.key.namespace) all.0).0

has_either : (s : Service) (before after : Option Pod) (b : Bool) → selects_some s before ≡ b
    → b || selects_some s after ≡ true → has_selector s ≡ true
has_either s before after true is h = has_one s before is
has_either s before after false is h = has_one s after h

none_selected : (o : Objects) (service : ObjectKey) → get o.services service ≡ None
    → (pod : Option Pod) → is_selected o pod service ≡ false
none_selected o service at None = refl
none_selected o service at (Some p) = ap (λ found. selects_pod found p) at

pods_affect : (settings : Settings) (o : Objects) (service : ObjectKey) (before after : Option Pod)
    → pod_touches settings.config.controller o before after service ≡ true
    → (found : Option Service) → get o.services service ≡ found
    → is_pod_of settings.config.controller found before after ≡ true
pods_affect settings o service before after h None at =
    let none = none_selected o service at in
    absurd (true≢false (sym (and_parts _ _ h).1 ∙ (λ i. none before i || none after i)))
pods_affect settings o service before after h (Some s) at =
    let alike = selected_alike o service s at in
    let parts = and_parts settings.config.controller
    (selects_some s before || selects_some s after)
    ((λ i. settings.config.controller && (alike before i || alike after i)) ∙ h) in
    and_from _ _ (and_from _ _ parts.0 (has_either s before after _ refl parts.1)) parts.1

pub touched_are_affected : TouchedAreAffected
touched_are_affected settings o (Apply (object.Service s)) service h = key_ties service s.key ∙ h
touched_are_affected settings o (Delete kind.Service k) service h = key_ties service k ∙ h
touched_are_affected settings o (Apply (object.EndpointSlice s)) service h =
    ap (λ b. b || is_of_service service s) (named_alike service (get o.slices s.key)) ∙ h
touched_are_affected settings o (Delete kind.EndpointSlice k) service h =
    named_alike service (get o.slices k) ∙ or_else _ h
touched_are_affected settings o (Apply (object.Pod p)) service h =
    pods_affect settings o service (get o.pods p.key) (Some p) h (get o.services service) refl
touched_are_affected settings o (Delete kind.Pod k) service h =
    pods_affect settings o service (get o.pods k) None h (get o.services service) refl
touched_are_affected settings o (Apply (object.Node n)) service h = refl
touched_are_affected settings o (Delete kind.Node k) service h = refl

-- ---- Zones that count

module _ (settings : Settings) (o : Objects) (event : Event) (service : ObjectKey)
    (keeps : KeepsZonesFor settings o event service) (name : List ℕ) (zone : Option (List ℕ))
    (after : zone_of (objects_step o event) name ≡ zone) where
  -- the node doesn't touch the Service, as the name is the own node's or not, the controller makes
  -- slices, and the Service selects a pod on the node
  abbrev Stays : Bool → Bool → Bool → Type 0
  Stays own controller selected =
      not (option_eq bytes_eq (zone_of o name) zone) && (own || (controller && selected)) ≡ false

  same_zone : zone_of (objects_step o event) name ≡ zone_of o name → (b : Bool)
      → not (option_eq bytes_eq (zone_of o name) zone) && b ≡ false
  same_zone same b =
      ap (λ z. not (option_eq bytes_eq (zone_of o name) z) && b) (sym after ∙ same)
      ∙ ap (λ t. not t && b) ((options_equiv nat_list_eq_equiv).refl (zone_of o name))

  by_tests : (own controller selected : Bool) → bytes_eq name settings.config.node ≡ own
      → settings.config.controller ≡ controller → selects_on o name service ≡ selected
      → Stays own controller selected
  by_tests true controller selected is on there =
      same_zone
      (ap (zone_of (objects_step o event)) ((bytes_eq-Decides name settings.config.node).0 is)
      ∙ keeps.own
      ∙ sym (ap (zone_of o) ((bytes_eq-Decides name settings.config.node).0 is))) true
  by_tests false true true is on there = same_zone (keeps.of_pods on name there) true
  by_tests false true false is on there = and_none _
  by_tests false false selected is on there = and_none _

  pub zones_stay :
      node_touches settings.config.node settings.config.controller o name zone service ≡ false
  zones_stay =
      by_tests (bytes_eq name settings.config.node) settings.config.controller
      (selects_on o name service) refl refl refl

pub zones_count : ZonesCount
zones_count settings o (Apply (object.Service s)) service own about keeps = absurd (cc)
zones_count settings o (Apply (object.EndpointSlice s)) service own about keeps = absurd (cc)
zones_count settings o (Apply (object.Pod p)) service own about keeps = absurd (cc)
zones_count settings o (Delete kind.Service k) service own about keeps = absurd (cc)
zones_count settings o (Delete kind.EndpointSlice k) service own about keeps = absurd (cc)
zones_count settings o (Delete kind.Pod k) service own about keeps = absurd (cc)
zones_count settings o (Apply (object.Node n)) service own about keeps =
    zones_stay settings o (Apply (object.Node n)) service keeps n.name n.zone
    (ap (option_and_then (λ (n : Node). n.zone)) (put_at o n n.name
    ∙ ap (λ b. cond b (Some n) (get o.nodes (node_key n.name))) (nat_list_eq_equiv.refl n.name)))
zones_count settings o (Delete kind.Node k) service own about keeps = by (get o.nodes k) refl
  where
    by : (found : Option Node) → get o.nodes k ≡ found
        → lost_node_touches settings.config.node settings.config.controller o found service
        ≡ false
    by None at = refl
    by (Some n) at =
        zones_stay settings o (Delete kind.Node k) service keeps n.name None
        (ap (option_and_then (λ (n : Node). n.zone)) (taken_at o k n.name (own.nodes k n at) n.name
        ∙ ap (λ b. cond b None (get o.nodes (node_key n.name))) (nat_list_eq_equiv.refl n.name)))

pub all_zones_stay : AllZonesStay
all_zones_stay settings o event service own about keeps =
    zones_count settings o event service own about (record {
      own = keeps settings.config.node;
      of_pods = λ on name there. keeps name;
    })

pub own_zone_stays : OwnZoneStays
own_zone_stays settings o event service own about keeps =
    zones_count settings o event service own about (record {
      own = keeps.1;
      of_pods = λ on name there. absurd (true≢false (sym on ∙ keeps.0));
    })
