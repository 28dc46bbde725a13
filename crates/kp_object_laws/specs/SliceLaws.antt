-- What holds of the slices as they are now.
use Rattle.std.specs.Prelude.{◌≡◌, ◌-◌, ◌≤◌, ℕ, true, false, List, [], ◌∷◌, ◌++◌, length, sum}
use Rattle.kp_base.specs.declared.address.Family.{Family}
use Rattle.kp_base.specs.declared.config.Config.{Config}
use Rattle.kp_base.specs.declared.key.ObjectKey.{ObjectKey}
use Rattle.kp_types.specs.declared.event.Event.{Event}
use Rattle.kp_types.specs.declared.slice.Slice.{Slice}
use Rattle.kp_object_defs.specs.Objects.{objects_after}
use Rattle.kp_object_defs.specs.OwnKeys.{IsUnderOwnKeys}
use Rattle.kp_object_defs.specs.PackingLaws.{have_own_names, are_taken, are_managed_for}
use Rattle.kp_object_defs.specs.SlicesNow.{Slices, slices_step, managed_slices, names_in, controller_step, slices_now}

-- before the first sync the slices are those that were fed
abbrev pub SlicesAsFed : Type 0
SlicesAsFed =
    (families : List Family) (config : Config) (events : List Event)
    → slices_now families config events [] ≡ (objects_after events).slices

-- and so they are at any time where the controller is off
abbrev pub SlicesWithoutController : Type 0
SlicesWithoutController =
    (families : List Family) (config : Config) (events : List Event) (counts : List ℕ)
    → config.controller ≡ false
    → slices_now families config events counts ≡ (objects_after events).slices

-- an event changes the slices at once
abbrev pub SlicesAfterEvent : Type 0
SlicesAfterEvent =
    (families : List Family) (config : Config) (events : List Event) (counts : List ℕ)
    (event : Event)
    → sum counts ≤ length events
    → slices_now families config (events ++ event ∷ []) counts
    ≡ slices_step (slices_now families config events counts) event

-- at a sync of all events the controller acts on the slices, over all objects
abbrev pub SlicesAfterSync : Type 0
SlicesAfterSync =
    (families : List Family) (config : Config) (events : List Event) (counts : List ℕ)
    → sum counts ≤ length events
    → slices_now families config events (counts ++ (length events - sum counts) ∷ [])
    ≡ controller_step families config (objects_after events)
    (slices_now families config events counts)

-- each slice stands under its own key
abbrev pub SlicesUnderOwnKeys : Type 0
SlicesUnderOwnKeys =
    (families : List Family) (config : Config) (events : List Event) (counts : List ℕ)
    → IsUnderOwnKeys (λ (s : Slice). s.key) (slices_now families config events counts)

-- what packing asks of a Service's managed slices holds of them
abbrev pub ManagedCanBePacked : Type 0
ManagedCanBePacked =
    (family : Family) (service : ObjectKey) (slices : Slices)
    → IsUnderOwnKeys (λ (s : Slice). s.key) slices
    → (are_managed_for family service (managed_slices family service slices) ≡ true)
    × (have_own_names (managed_slices family service slices) ≡ true)
    × (are_taken (names_in service.namespace slices) (managed_slices family service slices) ≡ true)
