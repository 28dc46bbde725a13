-- What the proxy knows of the ports after events, where the maps of objects are given as lists.
use Rattle.std.proofs.Common.{◌≡◌, ℕ, List, [], ◌∷◌, map, filter, cond, Option, option_and_then, refl, sym, ap, ◌∙◌}
use Rattle.std.specs.List.{fold}
use Rattle.std.specs.FinMap as finite
use Rattle.kp_base.proofs.KeyOrder.{key_total, key_exact}
use Rattle.kp_base.specs.Keys.{key_cmp}
use Rattle.kp_base.specs.declared.address.Family.{Family}
use Rattle.kp_base.specs.declared.address.Family.TheVariants.{V4}
use Rattle.kp_base.specs.declared.key.ObjectKey.{ObjectKey}
use Rattle.kp_types.specs.declared.event.Event.{Event}
use Rattle.kp_types.specs.declared.event.Event.TheVariants.{Apply, Delete}
use Rattle.kp_types.specs.declared.event.Kind.{Kind}
use Rattle.kp_types.specs.declared.event.Kind.TheVariants as kind
use Rattle.kp_types.specs.declared.event.Object.{Object}
use Rattle.kp_types.specs.declared.event.Object.TheVariants as object
use Rattle.kp_types.specs.declared.pod.Pod.{Pod}
use Rattle.kp_types.specs.declared.pod.Node.{Node}
use Rattle.kp_types.specs.declared.service.Service.{Service}
use Rattle.kp_types.specs.declared.slice.Slice.{Slice}
use Rattle.kp_object_defs.specs.Desired.{desired_from, is_reconciled}
use Rattle.kp_object_defs.specs.Entries.{is_of_service, unmanaged}
use Rattle.kp_object_defs.specs.Objects.{Objects, node_key, objects_step, objects_after}
use Rattle.kp_object_defs.specs.Order.{in_order, values_of}
use Rattle.kp_object_defs.specs.PortInfo.{PortInfo, infos_from, port_infos}
use Rattle.kp_object_defs.proofs.InOrder.{entries_in_order}
use Rattle.kp_worked.proofs.MapLists.{without, removed_are}
use Rattle.kp_types.specs.Setting.{FamilyConfig}
use Rattle.kp_types.specs.declared.info.ServiceSources.{ServiceSources}
use Rattle.kp_types.specs.declared.verdict.Verdict.{Verdict}
use Rattle.kp_worked.specs.Events.{verdict_after}
use Rattle.kp_worked.specs.Decisions.{decided}
use Rattle.kp_worked.specs.Setting.{setting, other_pod, to_web}

-- the objects of each kind, with their keys, in any order
pub record Listed : Type 0 where
  pub services : List (ObjectKey × Service)
  pub slices : List (ObjectKey × Slice)
  pub pods : List (ObjectKey × Pod)
  pub nodes : List (ObjectKey × Node)

abbrev pub as_objects : Listed → Objects
as_objects l = record {
  services = finite.from_entries l.services;
  slices = finite.from_entries l.slices;
  pods = finite.from_entries l.pods;
  nodes = finite.from_entries l.nodes;
}

abbrev with_listed : Listed → Object → Listed
with_listed l (object.Service s) = record l { services = (s.key, s) ∷ l.services }
with_listed l (object.EndpointSlice s) = record l { slices = (s.key, s) ∷ l.slices }
with_listed l (object.Pod p) = record l { pods = (p.key, p) ∷ l.pods }
with_listed l (object.Node n) = record l { nodes = (node_key n.name, n) ∷ l.nodes }

abbrev without_listed : Listed → Kind → ObjectKey → Listed
without_listed l kind.Service key = record l { services = without key_cmp key l.services }
without_listed l kind.EndpointSlice key = record l { slices = without key_cmp key l.slices }
without_listed l kind.Pod key = record l { pods = without key_cmp key l.pods }
without_listed l kind.Node key = record l { nodes = without key_cmp key l.nodes }

abbrev pub step : Listed → Event → Listed
step l (Apply object) = with_listed l object
step l (Delete kind key) = without_listed l kind key

pub step_is : (l : Listed) (e : Event) → objects_step (as_objects l) e ≡ as_objects (step l e)
step_is l (Apply (object.Service s)) = refl
step_is l (Apply (object.EndpointSlice s)) = refl
step_is l (Apply (object.Pod p)) = refl
step_is l (Apply (object.Node n)) = refl
step_is l (Delete kind.Service key) = ap (λ m. record (as_objects l) { services = m }) (sym (removed_are key_total key_exact l.services key))
step_is l (Delete kind.EndpointSlice key) = ap (λ m. record (as_objects l) { slices = m }) (sym (removed_are key_total key_exact l.slices key))
step_is l (Delete kind.Pod key) = ap (λ m. record (as_objects l) { pods = m }) (sym (removed_are key_total key_exact l.pods key))
step_is l (Delete kind.Node key) = ap (λ m. record (as_objects l) { nodes = m }) (sym (removed_are key_total key_exact l.nodes key))

pub steps_are : (l : Listed) (events : List Event) → fold objects_step (as_objects l) events ≡ as_objects (fold step l events)
steps_are l [] = refl
steps_are l (e ∷ es) = ap (λ o. fold objects_step o es) (step_is l e) ∙ steps_are (step l e) es

-- the objects after events
abbrev pub listed_after : List Event → Listed
listed_after events =
    fold step (record { services = []; slices = []; pods = []; nodes = [] }) events

-- ---- Ports

-- the zone of a node that a look-up finds
abbrev zone_by : (ObjectKey → Option Node) → List ℕ → Option (List ℕ)
zone_by node name = option_and_then (λ n. n.zone) (node (node_key name))

-- what a Service is made of, by the objects in order and the nodes that look-ups find
abbrev sources_by : Family → FamilyConfig → List Slice → List Pod → (ObjectKey → Option Node)
    → Service → ServiceSources
sources_by family config slices pods node s =
    cond (is_reconciled config s)
    (record {
      service = s;
      wanted = desired_from family (zone_by node) s pods;
      slices = unmanaged (filter (is_of_service s.key) slices);
    })
    (record { service = s; wanted = []; slices = filter (is_of_service s.key) slices })

-- what is known of the ports
abbrev infos_by : Family → FamilyConfig → List Service → List Slice → List Pod
    → (ObjectKey → Option Node) → List PortInfo
infos_by family config services slices pods node =
    infos_from family config.node (zone_by node config.node)
    (map (sources_by family config slices pods node) services)

abbrev pub in_key_order : {X : Type 0} → List (ObjectKey × X) → List X
in_key_order es = values_of (in_order key_cmp es)

pub values_are : {X : Type 0} (es : List (ObjectKey × X))
    → finite.values (finite.from_entries {R = key_cmp} es) ≡ in_key_order es
values_are es = ap (map (λ e. e.1)) (entries_in_order key_total es)

pub found_are : {X : Type 0} (es : List (ObjectKey × X))
    → ◌≡◌ {A = ObjectKey → Option X} (finite.get (finite.from_entries {R = key_cmp} es))
    (λ q. finite.find key_cmp q es)
found_are es = λ i q. finite.get-from_entries key_total es q i

-- the same by objects that are given as lists
abbrev infos_listed : Family → FamilyConfig → Listed → List PortInfo
infos_listed family config l =
    infos_by family config (in_key_order l.services) (in_key_order l.slices) (in_key_order l.pods)
    (λ q. finite.find key_cmp q l.nodes)

infos_are : (family : Family) (config : FamilyConfig) (l : Listed)
    → port_infos family config (as_objects l) ≡ infos_listed family config l
infos_are family config l =
    λ i. infos_by family config (values_are l.services i) (values_are l.slices i)
    (values_are l.pods i) (found_are l.nodes i)

-- what a family knows of the ports after events, under a configuration
abbrev pub infos_after : Family → FamilyConfig → List Event → List PortInfo
infos_after family config events = infos_listed family config (listed_after events)

pub infos_after_are : (family : Family) (config : FamilyConfig) (events : List Event)
    → port_infos family config (objects_after events) ≡ infos_after family config events
infos_after_are family config events =
    ap (port_infos family config) (steps_are _ events)
    ∙ infos_are family config (listed_after events)

-- a verdict after events
pub verdict_is : (events : List Event) (draws : List ℕ) {v : Verdict}
    → (decided (infos_after V4 setting.config events) (to_web other_pod) draws).verdict ≡ v
    → verdict_after events draws ≡ v
verdict_is events draws h =
    ap (λ ports. (decided ports (to_web other_pod) draws).verdict)
    (infos_after_are V4 setting.config events) ∙ h
