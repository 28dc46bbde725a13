-- Worked examples of the slices as they are now, over syncs (KEP-752; Kubernetes documents on
-- EndpointSlices). The controller packs at most two endpoints into a slice. The Service default/web
-- has three pods, and a slice that the controller doesn't manage.
use Rattle.std.specs.Prelude.{◌≡◌, ℕ, List, [], ◌∷◌, ◌++◌, map, codes, Option, Some, None}
use Rattle.std.specs.FinMap as finite
use Rattle.std.proofs.Common.{lit≤}
use Rattle.kp_base.specs.declared.config.Config.{Config}
use Rattle.kp_base.specs.declared.key.ObjectKey.{ObjectKey}
use Rattle.kp_types.specs.Setting.{both_families}
use Rattle.kp_types.specs.declared.event.Event.{Event}
use Rattle.kp_types.specs.declared.event.Event.TheVariants.{Apply, Delete}
use Rattle.kp_types.specs.declared.event.Kind.TheVariants as kind
use Rattle.kp_types.specs.declared.event.Object.TheVariants as object
use Rattle.kp_types.specs.declared.slice.Slice.{Slice}
use Rattle.kp_object_defs.specs.SlicesNow.{slices_now}
use Rattle.kp_worked.specs.Setting.{ipv4, config, default_key, first, slice_of}
use Rattle.kp_worked.specs.Wanted.{selecting, ready_pod}

-- the configuration
abbrev pub config_of_two : Config
config_of_two = record config { max_per_slice = 2; slice_from = lit≤ tt; slice_to = lit≤ tt }

-- a pod of one letter is applied
abbrev pub apply_pod : ℕ → Event
apply_pod letter = Apply (object.Pod (ready_pod (letter ∷ []) (ipv4 10 244 1 letter)))

-- the Service, its own slice and three pods
abbrev pub applied : List Event
applied =
    Apply (object.Service selecting)
    ∷ Apply (object.EndpointSlice (slice_of (codes "web") (first ∷ [])))
    ∷ map apply_pod (codes "abc")

-- a slice by its name and the pods of its endpoints
abbrev pub name_and_pods : Slice → List ℕ × List (Option ObjectKey)
name_and_pods s = (s.key.name, map (λ e. e.pod) s.endpoints)

-- what is seen of the slices after events and syncs, each of which covers so many events more
abbrev pub seen_after : {A : Type 0} → (Slice → A) → List Event → List ℕ → List A
seen_after view events counts =
    map view (finite.values (slices_now both_families config_of_two events counts))

-- their names and pods
abbrev pub shown_after : List Event → List ℕ → List (List ℕ × List (Option ObjectKey))
shown_after events counts = seen_after name_and_pods events counts

-- the Service's own slice, whose endpoint is of no pod
abbrev pub own : List ℕ × List (Option ObjectKey)
own = (codes "slice", None ∷ [])

-- a slice of pods of one letter
abbrev pub of_pods : List ℕ → List ℕ → List ℕ × List (Option ObjectKey)
of_pods name letters = (name, map (λ letter. Some (default_key (letter ∷ []))) letters)

-- before a sync there are the slices that were fed
abbrev pub BeforeSync : Type 0
BeforeSync = shown_after applied [] ≡ own ∷ []

-- a sync of five events packs the pods into two slices
abbrev pub AfterSync : Type 0
AfterSync =
    shown_after applied (5 ∷ [])
    ≡ own ∷ of_pods (codes "web-kp1") (codes "ab") ∷ of_pods (codes "web-kp2") (codes "c") ∷ []

-- a slice that the controller made is deleted, and a pod comes
abbrev pub changed : List Event
changed = applied ++ Delete kind.EndpointSlice (default_key (codes "web-kp1")) ∷ apply_pod 100 ∷ []

-- the slice goes at once, the pod waits for a sync
abbrev pub AfterChange : Type 0
AfterChange = shown_after changed (5 ∷ []) ≡ own ∷ of_pods (codes "web-kp2") (codes "c") ∷ []

-- the next sync packs what no slice has any more, under the name that became free: three pods
-- aren't fewer than a slice takes, so that two of them get a new one, and the third fits beside the
-- pod that stayed
abbrev pub AfterSecondSync : Type 0
AfterSecondSync =
    shown_after changed (5 ∷ 2 ∷ [])
    ≡ own ∷ of_pods (codes "web-kp1") (codes "ab") ∷ of_pods (codes "web-kp2") (codes "cd") ∷ []

-- the Service is deleted
abbrev pub service_deleted : List Event
service_deleted = changed ++ Delete kind.Service selecting.key ∷ []

-- its slices that the controller manages are left until a sync
abbrev pub AfterServiceGoes : Type 0
AfterServiceGoes =
    shown_after service_deleted (5 ∷ 2 ∷ [])
    ≡ own ∷ of_pods (codes "web-kp1") (codes "ab") ∷ of_pods (codes "web-kp2") (codes "cd") ∷ []

-- the sync deletes them; the Service's own slice stays
abbrev pub AfterThirdSync : Type 0
AfterThirdSync = shown_after service_deleted (5 ∷ 2 ∷ 1 ∷ []) ≡ own ∷ []
