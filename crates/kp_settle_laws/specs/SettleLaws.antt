-- Packing leaves settled Services, and settles others; so a sync has to pack the touched ones
-- alone.
use Rattle.std.specs.Prelude.{◌≡◌, ◌≢◌, ℕ, ◌+◌, ◌^◌, ◌<◌, ◌≤◌, ◌||◌, Bool, true, false, List, length, Some}
use Rattle.std.specs.List.{filter, fold}
use Rattle.std.specs.FinMap as finite
use Rattle.kp_base.specs.Net.{same_family}
use Rattle.kp_base.specs.declared.address.Family.{Family}
use Rattle.kp_base.specs.declared.config.Config.{Config}
use Rattle.kp_base.specs.declared.key.ObjectKey.{ObjectKey}
use Rattle.kp_types.specs.declared.event.Event.{Event}
use Rattle.kp_types.specs.declared.service.Service.{Service}
use Rattle.kp_types.specs.declared.slice.Slice.{Slice}
use Rattle.kp_types.specs.declared.slice.Wanted.{Wanted}
use Rattle.kp_object_defs.specs.Desired.{has_selector, desired_endpoints_of}
use Rattle.kp_object_defs.specs.Objects.{Objects, no_objects, objects_step}
use Rattle.kp_object_defs.specs.OwnKeys.{AreUnderOwnKeys, IsUnderOwnKeys}
use Rattle.kp_object_defs.specs.PackingLaws.{IsPackingOf, are_managed_for, have_own_names}
use Rattle.kp_object_defs.specs.SlicesNow.{Slices, after_controller, after_packing, managed_slices, names_in, slices_step, with_managed, without_leftovers}
use Rattle.kp_touch_defs.specs.Touches.{touches}
use Rattle.kp_settle_laws.specs.Settled.{AreLeftBy, AreSettledBut, IsControlledBut, IsSettled, after_each, none, touches_slices, without}

-- slices stand under their own keys
abbrev pub AreOwn : Slices → Type 0
AreOwn m = IsUnderOwnKeys (λ (s : Slice). s.key) m

-- ---- One Service

-- packing a Service in a family in which it is settled changes nothing
abbrev pub SettledStay : Type 0
SettledStay =
    (family : Family) (most : ℕ) (o : Objects) (m : Slices) (s : Service)
    → AreUnderOwnKeys o → AreOwn m → IsSettled family most o m s
    → after_packing most o s m family ≡ m

-- Slices with the wanted endpoints settle a Service in a family, in place of its managed ones.
abbrev pub PackedSettle : Type 0
PackedSettle =
    (family : Family) (most : ℕ) (service : ObjectKey) (wanted : List Wanted)
    (packed : List Slice) (m : Slices)
    → AreOwn m → are_managed_for family service packed ≡ true → have_own_names packed ≡ true
    → IsPackingOf most wanted packed
    → IsPackingOf most wanted
    (managed_slices family service (with_managed family service packed m))

-- So packing settles a Service in a family. Names have numbers of at most 64 digits, so there are
-- only so many.
abbrev pub PackingSettles : Type 0
PackingSettles =
    (family : Family) (most : ℕ) (o : Objects) (m : Slices) (s : Service)
    → 1 ≤ most → AreOwn m
    → length (names_in s.key.namespace m) + length (desired_endpoints_of family o s) < 10 ^ 64
    → IsSettled family most o (after_packing most o s m family) s

-- ---- The others

-- packing a Service in a family leaves the managed slices of each other Service, in any family
abbrev pub OthersStay : Type 0
OthersStay =
    (family kept : Family) (most : ℕ) (o : Objects) (m : Slices) (s : Service)
    (other : ObjectKey)
    → 1 ≤ most → AreOwn m → s.key ≢ other
    → managed_slices kept other (after_packing most o s m family) ≡ managed_slices kept other m

-- and those of the other family, of any Service
abbrev pub OtherFamilyStays : Type 0
OtherFamilyStays =
    (family other : Family) (most : ℕ) (o : Objects) (m : Slices) (s : Service)
    (service : ObjectKey)
    → same_family family other ≡ false → 1 ≤ most → AreOwn m
    → managed_slices other service (after_packing most o s m family)
    ≡ managed_slices other service m

-- so once a stored Service is settled too, in each family, it is no longer picked
abbrev pub OneMoreSettled : Type 0
OneMoreSettled =
    (families : List Family) (picked : ObjectKey → Bool) (most : ℕ) (o : Objects) (m : Slices)
    (s : Service)
    → 1 ≤ most → AreOwn m → finite.get o.services s.key ≡ Some s
    → ((family : Family) → IsSettled family most o (after_each families most o m s) s)
    → AreSettledBut picked most o m
    → AreSettledBut (without s.key picked) most o (after_each families most o m s)

-- slices that are left over go, and those of Services that are there stay
abbrev pub LeftoversStay : Type 0
LeftoversStay =
    (family : Family) (o : Objects) (m : Slices) (s : Service)
    → AreOwn m → finite.get o.services s.key ≡ Some s
    → managed_slices family s.key (without_leftovers o m) ≡ managed_slices family s.key m

-- ---- All at a sync

-- packing the touched Services is packing all, where the others are settled
abbrev pub TouchedAreEnough : Type 0
TouchedAreEnough =
    (families : List Family) (picked : ObjectKey → Bool) (most : ℕ) (o : Objects) (m : Slices)
    → 1 ≤ most → AreUnderOwnKeys o → AreOwn m → AreSettledBut picked most o m
    → fold (after_each families most o) m
    (filter has_selector (filter (λ s. picked s.key) (finite.values o.services)))
    ≡ fold (after_each families most o) m (filter has_selector (finite.values o.services))

-- after the controller acts no slice is left over
abbrev pub NoneLeft : Type 0
NoneLeft =
    (families : List Family) (most : ℕ) (o : Objects) (m : Slices)
    → 1 ≤ most → AreUnderOwnKeys o → AreOwn m
    → AreLeftBy none o (after_controller families most o m)

-- ---- Events

-- before all events nothing is touched
abbrev pub ControlledAtFirst : Type 0
ControlledAtFirst = (config : Config) → IsControlledBut none config no_objects finite.empty

-- more may be picked
abbrev pub MoreArePicked : Type 0
MoreArePicked =
    (picked more : ObjectKey → Bool) (config : Config) (o : Objects) (m : Slices)
    → ((service : ObjectKey) → picked service ≡ true → more service ≡ true)
    → IsControlledBut picked config o m → IsControlledBut more config o m

-- an event changes the objects: those that it touches are picked too
abbrev pub ObjectsTouch : Type 0
ObjectsTouch =
    (picked : ObjectKey → Bool) (config : Config) (o : Objects) (m : Slices) (event : Event)
    → AreUnderOwnKeys o → IsControlledBut picked config o m
    → IsControlledBut (λ k. touches config.node config.controller o event k || picked k)
    config (objects_step o event) m

-- and it changes the slices: those that it touches among these are picked too
abbrev pub SlicesTouch : Type 0
SlicesTouch =
    (picked : ObjectKey → Bool) (config : Config) (o : Objects) (m : Slices) (event : Event)
    → AreOwn m → IsControlledBut picked config o m
    → IsControlledBut (λ k. touches_slices m event k || picked k) config o (slices_step m event)
