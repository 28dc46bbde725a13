-- Which of two Services events touch, by the entries of the objects.
use Rattle.std.proofs.Common.{◌≡◌, ℕ, ◌&&◌, ◌||◌, not, bytes_eq, List, [], ◌∷◌}
use Rattle.std.proofs.Common.{filter, map, Some, option_and_then, codes, refl, ap, ◌∙◌}
use Rattle.std.specs.List.{list_any}
use Rattle.std.specs.Option.{option_eq}
use Rattle.std.specs.FinMap.{entries-insert, find, from_entries, get, get-empty, get-from_entries}
use Rattle.std.specs.FinMap.{put, values}
use Rattle.kp_lemmas.proofs.Entries.{empty_entries}
use Rattle.kp_base.specs.Keys.{key_cmp}
use Rattle.kp_base.specs.declared.key.ObjectKey.{ObjectKey}
use Rattle.kp_base.proofs.KeyOrder.{key_total}
use Rattle.kp_types.specs.declared.event.Event.TheVariants.{Apply}
use Rattle.kp_types.specs.declared.event.Object.TheVariants as object
use Rattle.kp_types.specs.declared.pod.Node.{Node}
use Rattle.kp_types.specs.declared.pod.Pod.{Pod}
use Rattle.kp_types.specs.declared.slice.Slice.{Slice}
use Rattle.kp_object_defs.specs.Entries.{is_of_service, is_on_node}
use Rattle.kp_object_defs.specs.Objects.{node_key}
use Rattle.kp_touch_defs.specs.Touches.{is_selected, names_service, selects_pod}
use Rattle.kp_worked.specs.Setting.{first, slice_of}
use Rattle.kp_worked.specs.Wanted.{pod_a, selecting}
use Rattle.kp_touch_laws.specs.WorkedTouches.{EmptyNodeTouches, NodeTouches, OwnNodeTouches}
use Rattle.kp_touch_laws.specs.WorkedTouches.{PodTouches, ServiceTouches, SliceTouches, dns}
use Rattle.kp_touch_laws.specs.WorkedTouches.{node_in, nodes, not_ready, objects, pods, services}
use Rattle.kp_touch_laws.specs.WorkedTouches.{touched}

service_at : (key : ObjectKey) → get objects.services key ≡ find key_cmp key services
service_at key = get-from_entries key_total services key

-- there is one pod
all_pods : values objects.pods ≡ pod_a ∷ []
all_pods =
    ap (map (λ e. e.1)) (entries-insert key_total (from_entries {R = key_cmp} []) pod_a.key pod_a
    ∙ ap (put key_cmp pod_a.key pod_a) (empty_entries key_cmp))

pub service_touches : ServiceTouches
service_touches = (refl, refl)

-- a slice of which there was none before
by_slice : (s : Slice) (key : ObjectKey)
    → touched (codes "n2") (Apply (object.EndpointSlice s)) key ≡ is_of_service key s
by_slice s key =
    ap (λ before. names_service before key || is_of_service key s) (get-empty key_cmp s.key)

pub slice_touches : SliceTouches
slice_touches =
    let s = slice_of (codes "web") (first ∷ []) in
    (by_slice s selecting.key, by_slice s dns.key)

by_pod : (key : ObjectKey)
    → touched (codes "n2") (Apply (object.Pod not_ready)) key
    ≡ (selects_pod (find key_cmp key services) pod_a
    || selects_pod (find key_cmp key services) not_ready)
by_pod key =
    ap (λ before. is_selected objects before key || is_selected objects (Some not_ready) key)
    (get-from_entries key_total pods not_ready.key)
    ∙ ap (λ s. selects_pod s pod_a || selects_pod s not_ready) (service_at key)

pub pod_touches : PodTouches
pod_touches = (by_pod selecting.key, by_pod dns.key)

by_node : (own : List ℕ) (n : Node) (key : ObjectKey)
    → touched own (Apply (object.Node n)) key
    ≡ (not (option_eq bytes_eq (option_and_then (λ (n : Node). n.zone)
    (find key_cmp (node_key n.name) nodes)) n.zone)
    && (bytes_eq n.name own
    || list_any (λ pod. selects_pod (find key_cmp key services) pod)
    (filter (λ (pod : Pod). is_on_node n.name pod.node) (pod_a ∷ []))))
by_node own n key = λ i.
    not (option_eq bytes_eq (option_and_then (λ (n : Node). n.zone)
    (get-from_entries key_total nodes (node_key n.name) i)) n.zone)
    && (bytes_eq n.name own
    || list_any (λ pod. selects_pod (service_at key i) pod)
    (filter (λ (pod : Pod). is_on_node n.name pod.node) (all_pods i)))

pub node_touches : NodeTouches
node_touches =
    let n = node_in (codes "n1") (codes "b") in
    (by_node (codes "n2") n selecting.key, by_node (codes "n2") n dns.key)

pub own_node_touches : OwnNodeTouches
own_node_touches =
    let n = node_in (codes "n1") (codes "b") in
    (by_node (codes "n1") n selecting.key, by_node (codes "n1") n dns.key)

pub empty_node_touches : EmptyNodeTouches
empty_node_touches =
    let n = node_in (codes "n3") (codes "b") in
    (by_node (codes "n2") n selecting.key, by_node (codes "n2") n dns.key)
