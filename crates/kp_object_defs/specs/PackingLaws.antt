-- What packing keeps, whatever the slices were: each wanted endpoint stands in one slice with its
-- own ports, and no slice is empty or too long (KEP-752). Packing can go on from the slices after
-- it, and packing the same endpoints again changes nothing.
use Rattle.std.specs.Prelude.{◌≡◌, ℕ, ◌+◌, ◌^◌, ◌<◌, ◌≤◌, ◌&&◌, Bool, true, List, [], ◌∷◌, ◌++◌, map, not, length, bytes_eq, Some, All, IsPermutation}
use Rattle.std.specs.List.{list_any, list_all, flat_map}
use Rattle.kp_base.specs.declared.address.Family.{Family}
use Rattle.kp_base.specs.declared.key.ObjectKey.{ObjectKey}
use Rattle.kp_types.specs.declared.slice.SlicePort.{SlicePort}
use Rattle.kp_types.specs.declared.slice.SliceEndpoint.{SliceEndpoint}
use Rattle.kp_types.specs.declared.slice.Slice.{Slice}
use Rattle.kp_types.specs.declared.slice.Wanted.{Wanted}
use Rattle.kp_types.specs.declared.slice.Packed.{Packed}
use Rattle.kp_object_defs.specs.Entries.{is_of_service, is_type_of}
use Rattle.kp_object_defs.specs.Packing.{same_option, sorted_ports, same_object, in_slice_order, packed_slices}

-- no two elements are the same
abbrev pub are_distinct : {A : Type 0} → (A → A → Bool) → List A → Bool
are_distinct same [] = true
are_distinct same (x ∷ xs) = not (list_any (same x) xs) && are_distinct same xs

-- slices have different names
abbrev pub have_own_names : List Slice → Bool
have_own_names slices = are_distinct bytes_eq (map (λ s. s.key.name) slices)

-- wanted endpoints are of different pods
abbrev pub have_own_pods : List Wanted → Bool
have_own_pods wanted = are_distinct same_object (map (λ w. w.pod) wanted)

-- the names of slices are among those that are taken
abbrev pub are_taken : List (List ℕ) → List Slice → Bool
are_taken taken slices = list_all (λ s. list_any (bytes_eq s.key.name) taken) slices

-- a slice of this Service and this family that the controller manages
abbrev pub is_managed_for : Family → ObjectKey → Slice → Bool
is_managed_for family service s =
    is_of_service service s && (s.managed && is_type_of family s.family)

-- all slices are such
abbrev pub are_managed_for : Family → ObjectKey → List Slice → Bool
are_managed_for family service slices = list_all (is_managed_for family service) slices

-- the entry of each wanted endpoint names the pod that it is of
abbrev pub entries_name_pods : List Wanted → Bool
entries_name_pods wanted = list_all (λ w. same_option same_object w.entry.pod (Some w.pod)) wanted

-- no two entries of slices name one pod
abbrev pub have_pods_once : List Slice → Bool
have_pods_once slices =
    are_distinct (same_option same_object) (map (λ e. e.pod) (flat_map (λ s. s.endpoints) slices))

-- the entries of slices, each with the ports of its slice in order
abbrev pub entries_with_ports : List Slice → List (List SlicePort × SliceEndpoint)
entries_with_ports slices = flat_map (λ s. map (λ e. (sorted_ports s.ports, e)) s.endpoints) slices

-- the entries of wanted endpoints, each with its own ports in order
abbrev pub wanted_with_ports : List Wanted → List (List SlicePort × SliceEndpoint)
wanted_with_ports wanted = map (λ w. (sorted_ports w.ports, w.entry)) wanted

-- slices have the wanted endpoints, each once and with its own ports, and each slice has 1 to so
-- many
pub record IsPackingOf (most : ℕ) (wanted : List Wanted) (slices : List Slice) : Type 0 where
  pub placed : IsPermutation (entries_with_ports slices) (wanted_with_ports wanted)
  pub some : All (λ s. 1 ≤ length s.endpoints) slices
  pub bounded : All (λ s. length s.endpoints ≤ most) slices

-- Packing slices with different names gives such slices. Names have numbers of at most 64 digits,
-- so there are only so many.
abbrev pub PackingPlacesEach : Type 0
PackingPlacesEach =
    (family : Family) (service : ObjectKey) (before : List Slice) (wanted : List Wanted) (most : ℕ)
    (taken : List (List ℕ))
    → 1 ≤ most → length taken + length wanted < 10 ^ 64
    → have_own_names before ≡ true → are_taken taken before ≡ true
    → IsPackingOf most wanted (packed_slices family service before wanted most taken).slices

-- Packing can go on from the slices after it, with the names that were made among those that are
-- taken: the slices are the Service's managed ones and have names of their own, and no name that
-- was made was taken before. No pod stands in two entries, where wanted endpoints name theirs.
pub record CanGoOn
    (family : Family) (service : ObjectKey) (wanted : List Wanted) (taken : List (List ℕ))
    (p : Packed) : Type 0 where
  pub managed : are_managed_for family service p.slices ≡ true
  pub names : have_own_names p.slices ≡ true
  pub fresh : list_all (λ name. not (list_any (bytes_eq name) taken)) p.created ≡ true
  pub known : are_taken (taken ++ p.created) p.slices ≡ true
  pub pods : have_own_pods wanted ≡ true → entries_name_pods wanted ≡ true
      → have_pods_once p.slices ≡ true

-- So packing meets its own conditions.
abbrev pub PackingGoesOn : Type 0
PackingGoesOn =
    (family : Family) (service : ObjectKey) (before : List Slice) (wanted : List Wanted) (most : ℕ)
    (taken : List (List ℕ))
    → 1 ≤ most → length taken + length wanted < 10 ^ 64
    → are_managed_for family service before ≡ true → have_own_names before ≡ true
    → are_taken taken before ≡ true
    → CanGoOn family service wanted taken (packed_slices family service before wanted most taken)

-- packing that changes nothing
abbrev pub unchanged : List Slice → Packed
unchanged slices = record { slices = slices; created = []; updated = []; deleted = [] }

-- Slices that have the wanted endpoints already stay as they are, whatever names are taken.
abbrev pub PackedStay : Type 0
PackedStay =
    (family : Family) (service : ObjectKey) (slices : List Slice) (wanted : List Wanted) (most : ℕ)
    (taken : List (List ℕ))
    → have_own_names slices ≡ true → have_own_pods wanted ≡ true → entries_name_pods wanted ≡ true
    → IsPackingOf most wanted slices
    → packed_slices family service slices wanted most taken ≡ unchanged (in_slice_order slices)

-- So packing again, with the same wanted endpoints and whatever names are taken by then, changes
-- nothing.
abbrev pub PackingAgainChangesNothing : Type 0
PackingAgainChangesNothing =
    (family : Family) (service : ObjectKey) (before : List Slice) (wanted : List Wanted) (most : ℕ)
    (taken later : List (List ℕ))
    → 1 ≤ most → length taken + length wanted < 10 ^ 64
    → have_own_names before ≡ true → are_taken taken before ≡ true
    → have_own_pods wanted ≡ true → entries_name_pods wanted ≡ true
    → let after = (packed_slices family service before wanted most taken).slices in
    packed_slices family service after wanted most later ≡ unchanged after
