-- Which Services an event touches at most.
use Rattle.std.specs.Prelude.{◌≡◌, ℕ, Bool, true, false, List}
use Rattle.kp_base.specs.declared.key.ObjectKey.{ObjectKey}
use Rattle.kp_types.specs.Setting.{Settings}
use Rattle.kp_types.specs.declared.event.Kind.{Kind}
use Rattle.kp_types.specs.declared.event.Kind.TheVariants as kind
use Rattle.kp_types.specs.declared.event.Object.{Object}
use Rattle.kp_types.specs.declared.event.Object.TheVariants as object
use Rattle.kp_types.specs.declared.event.Event.{Event}
use Rattle.kp_types.specs.declared.event.Event.TheVariants.{Apply, Delete}
use Rattle.kp_object_defs.specs.Objects.{Objects, objects_step, zone_of}
use Rattle.kp_object_defs.specs.OwnKeys.{AreUnderOwnKeys}
use Rattle.kp_history_defs.specs.Affected.{affects}
use Rattle.kp_touch_defs.specs.Touches.{selects_on}
use Rattle.kp_touch_laws.specs.TouchLaws.{touches_in}

-- An event affects the ports of each Service that it touches.
abbrev pub TouchedAreAffected : Type 0
TouchedAreAffected =
    (settings : Settings) (o : Objects) (event : Event) (service : ObjectKey)
    → touches_in settings o event service ≡ true → affects settings o event service ≡ true

-- whether an object is a node
abbrev pub is_node : Object → Bool
is_node (object.Service s) = false
is_node (object.EndpointSlice s) = false
is_node (object.Pod p) = false
is_node (object.Node n) = true

-- whether objects of a kind are
abbrev pub is_node_kind : Kind → Bool
is_node_kind kind.Service = false
is_node_kind kind.EndpointSlice = false
is_node_kind kind.Pod = false
is_node_kind kind.Node = true

-- whether an event is about one
abbrev pub is_about_node : Event → Bool
is_about_node (Apply object) = is_node object
is_about_node (Delete kind key) = is_node_kind kind

-- an event leaves the zone of a node
abbrev pub KeepsZone : Objects → Event → List ℕ → Type 0
KeepsZone o event name = zone_of (objects_step o event) name ≡ zone_of o name

-- An event leaves the zones that count for a Service: that of the proxy's own node and, with the
-- controller, that of each node on which the Service selects a pod.
pub record KeepsZonesFor (settings : Settings) (o : Objects) (event : Event) (service : ObjectKey)
    : Type 0 where
  pub own : KeepsZone o event settings.config.node
  pub of_pods : settings.config.controller ≡ true → (name : List ℕ)
      → selects_on o name service ≡ true → KeepsZone o event name

-- what touches no Service, of events about nodes
abbrev pub TouchesNone : (Settings → Objects → Event → ObjectKey → Type 0) → Type 0
TouchesNone Leaves =
    (settings : Settings) (o : Objects) (event : Event) (service : ObjectKey)
    → AreUnderOwnKeys o → is_about_node event ≡ true → Leaves settings o event service
    → touches_in settings o event service ≡ false

-- An event about a node touches no Service for which all zones that count stay,
abbrev pub ZonesCount : Type 0
ZonesCount = TouchesNone KeepsZonesFor

-- so none where all zones stay,
abbrev pub AllZonesStay : Type 0
AllZonesStay = TouchesNone (λ settings o event service. (name : List ℕ) → KeepsZone o event name)

-- and without the controller none where the own zone stays.
abbrev pub OwnZoneStays : Type 0
OwnZoneStays =
    TouchesNone (λ settings o event service.
    (settings.config.controller ≡ false) × KeepsZone o event settings.config.node)
