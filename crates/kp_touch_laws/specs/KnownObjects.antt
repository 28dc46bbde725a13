-- Events that say what is known already.
use Rattle.std.specs.Prelude.{◌≡◌, Some, None}
use Rattle.std.specs.FinMap as finite
use Rattle.kp_types.specs.declared.event.Kind.TheVariants as kind
use Rattle.kp_types.specs.declared.event.Object.TheVariants as object
use Rattle.kp_types.specs.declared.event.Event.{Event}
use Rattle.kp_types.specs.declared.event.Event.TheVariants.{Apply, Delete}
use Rattle.kp_object_defs.specs.Objects.{Objects, node_key, objects_step}

-- The object that an event applies is the stored one, or there is none that it deletes (Kubernetes
-- API concepts, watch events).
abbrev pub IsKnown : Objects → Event → Type 0
IsKnown o (Apply (object.Service s)) = finite.get o.services s.key ≡ Some s
IsKnown o (Apply (object.EndpointSlice s)) = finite.get o.slices s.key ≡ Some s
IsKnown o (Apply (object.Pod p)) = finite.get o.pods p.key ≡ Some p
IsKnown o (Apply (object.Node n)) = finite.get o.nodes (node_key n.name) ≡ Some n
IsKnown o (Delete kind.Service key) = finite.get o.services key ≡ None
IsKnown o (Delete kind.EndpointSlice key) = finite.get o.slices key ≡ None
IsKnown o (Delete kind.Pod key) = finite.get o.pods key ≡ None
IsKnown o (Delete kind.Node key) = finite.get o.nodes key ≡ None

-- Such an event leaves the objects.
abbrev pub KnownObjectsStay : Type 0
KnownObjectsStay = (o : Objects) (event : Event) → IsKnown o event → objects_step o event ≡ o
