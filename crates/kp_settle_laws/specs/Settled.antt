-- What the controller leaves after a sync, and what may be otherwise until the next one: the
-- Services that events touched since then (KEP-752; the EndpointSlice controller's queue of
-- Services likewise).
use Rattle.std.specs.Prelude.{◌≡◌, ℕ, ◌&&◌, Bool, true, false, not, List, Some, None}
use Rattle.std.specs.List.{fold}
use Rattle.std.specs.FinMap as finite
use Rattle.kp_base.specs.declared.address.Family.{Family}
use Rattle.kp_base.specs.declared.config.Config.{Config}
use Rattle.kp_base.specs.declared.key.ObjectKey.{ObjectKey}
use Rattle.kp_types.specs.declared.event.Kind.{Kind}
use Rattle.kp_types.specs.declared.event.Kind.TheVariants as kind
use Rattle.kp_types.specs.declared.event.Object.{Object}
use Rattle.kp_types.specs.declared.event.Object.TheVariants as object
use Rattle.kp_types.specs.declared.event.Event.{Event}
use Rattle.kp_types.specs.declared.event.Event.TheVariants.{Apply, Delete}
use Rattle.kp_types.specs.declared.service.Service.{Service}
use Rattle.kp_types.specs.declared.slice.Slice.{Slice}
use Rattle.kp_object_defs.specs.Desired.{has_selector, desired_endpoints_of}
use Rattle.kp_object_defs.specs.Entries.{is_of_service}
use Rattle.kp_object_defs.specs.Objects.{Objects}
use Rattle.kp_object_defs.specs.PackingLaws.{IsPackingOf}
use Rattle.kp_object_defs.specs.SlicesNow.{Slices, after_packing, is_leftover, managed_slices}
use Rattle.kp_touch_defs.specs.Touches.{is_key, slice_touches}

-- ---- What is as the controller would leave it

-- A Service is settled in a family: its managed slices of it hold the endpoints that it wants
-- there, with at most so many each. Packing it again changes nothing.
abbrev pub IsSettled : Family → ℕ → Objects → Slices → Service → Type 0
IsSettled family most o m s =
    IsPackingOf most (desired_endpoints_of family o s) (managed_slices family s.key m)

-- each Service with a selector is settled in each family, but for those that a test picks
abbrev pub AreSettledBut : (ObjectKey → Bool) → ℕ → Objects → Slices → Type 0
AreSettledBut picked most o m =
    (s : Service) → finite.get o.services s.key ≡ Some s → has_selector s ≡ true
    → picked s.key ≡ false → (family : Family) → IsSettled family most o m s

-- the slices after a Service is packed in each of some families, in one after the other
abbrev pub after_each : List Family → ℕ → Objects → Slices → Service → Slices
after_each families most o m s = fold (after_packing most o s) m families

-- each slice that is left over is labelled with a Service that a test picks
abbrev pub AreLeftBy : (ObjectKey → Bool) → Objects → Slices → Type 0
AreLeftBy picked o m =
    (slice : Slice) (service : ObjectKey) → finite.get m slice.key ≡ Some slice
    → is_leftover o slice ≡ true → is_of_service service slice ≡ true → picked service ≡ true

-- Where the controller is on, the slices are as it would leave them, but for the Services that a
-- test picks: those that were touched since it acted.
abbrev pub IsControlledBut : (ObjectKey → Bool) → Config → Objects → Slices → Type 0
IsControlledBut picked config o m =
    config.controller ≡ true
    → AreSettledBut picked config.max_per_slice o m × AreLeftBy picked o m

-- no Service
abbrev pub none : ObjectKey → Bool
none service = false

-- those that a test picks, without one
abbrev pub without : ObjectKey → (ObjectKey → Bool) → ObjectKey → Bool
without key picked service = picked service && not (is_key key service)

-- without some
abbrev pub without_each : List Service → (ObjectKey → Bool) → ObjectKey → Bool
without_each services picked = fold (λ p s. without s.key p) picked services

-- ---- What events touch among the slices

-- An apply touches the Service of this key among the slices as they are now. These aren't the
-- slices of the objects: what the controller writes is no object.
abbrev pub applied_touches : Slices → Object → ObjectKey → Bool
applied_touches m (object.Service s) service = false
applied_touches m (object.EndpointSlice s) service =
    slice_touches (finite.get m s.key) (Some s) service
applied_touches m (object.Pod p) service = false
applied_touches m (object.Node n) service = false

-- a delete does
abbrev pub deleted_touches : Slices → Kind → ObjectKey → ObjectKey → Bool
deleted_touches m kind.Service key service = false
deleted_touches m kind.EndpointSlice key service = slice_touches (finite.get m key) None service
deleted_touches m kind.Pod key service = false
deleted_touches m kind.Node key service = false

-- an event does
abbrev pub touches_slices : Slices → Event → ObjectKey → Bool
touches_slices m (Apply object) service = applied_touches m object service
touches_slices m (Delete kind key) service = deleted_touches m kind key service
