-- What the values of the packer are, in the words of the definitions of packing.
use Rattle.std.specs.Prelude.{◌≡◌, ℕ, List, [], ◌∷◌, ◌++◌, map, length, Option, Some, None, slice_get, slice_set, get_or}
use Rattle.std.specs.Map.{lookup}
use Rattle.std.specs.Borrow.{Bor}
use Rattle.kp_base.specs.declared.key.ObjectKey.{ObjectKey}
use Rattle.kp_types.specs.declared.slice.SlicePort.{SlicePort}
use Rattle.kp_types.specs.declared.slice.Slice.{Slice}
use Rattle.kp_types.specs.declared.slice.Wanted.{Wanted}
use Rattle.kp_object_defs.specs.Packing as spec
use Rattle.kp_object_defs.specs.Packing.{same_object}
use Rattle.kp_packer.specs.declared.fill.Fill.{Fill}
use Rattle.kp_packer.specs.declared.place.Placed.{Placed}
use Rattle.kp_packer.specs.declared.names.NewSlice.{NewSlice}

-- what references refer to
abbrev pub shown : {X : Type 0} → List (Bor X) → List X
shown xs = map (λ b. b.now) xs

-- the wanted endpoints that are still at their places
abbrev pub left_in : List (Option (Bor Wanted)) → List Wanted
left_in [] = []
left_in (None ∷ places) = left_in places
left_in (Some w ∷ places) = w.now ∷ left_in places

-- the place of a pod
abbrev pub place_in : List (Bor ObjectKey × ℕ) → ObjectKey → Option ℕ
place_in entries pod = lookup (λ k. same_object pod k.now) entries

-- a pod has this place, and no other pod has it
pub record IsPlaceOf (entries : List (Bor ObjectKey × ℕ)) (i : ℕ) (pod : ObjectKey) : Type 0 where
  pub stands : place_in entries pod ≡ Some i
  pub alone : (q : ObjectKey) → place_in entries q ≡ Some i → q ≡ pod

-- each wanted endpoint that is still at a place stands at that of its pod
abbrev pub AtOwnPlaces : List (Bor ObjectKey × ℕ) → List (Option (Bor Wanted)) → Type 0
AtOwnPlaces entries places =
    (i : ℕ) (w : Bor Wanted) → slice_get places i ≡ Some (Some w) → IsPlaceOf entries i w.now.pod

-- a slice with its endpoints by now
abbrev pub filling_of : Fill → spec.Filling
filling_of f =
    record { slice = f.slice.now; endpoints = shown f.endpoints.items; is_changed = f.is_changed }

-- a slice in the first step, and what is left
abbrev pub keeping_of : Fill → List (Option (Bor Wanted)) → spec.Keeping
keeping_of f places = record { filling = filling_of f; left = left_in places }

-- slices so far, and what is left
abbrev pub progress_of : List Fill → List Wanted → spec.Progress
progress_of fills left = record { fillings = map filling_of fills; left = left }

-- the slices of a group, and the endpoints of each new one
abbrev pub placed_of : Placed → spec.Placed
placed_of p =
    record { fillings = map filling_of p.fills.items; made = map (λ v. shown v.items) p.made.items }

-- with more new slices before the others
abbrev pub with_made : List (List Wanted) → spec.Placed → spec.Placed
with_made made p = record p { made = made ++ p.made }

-- placing these endpoints makes these new slices first, and then places the rest
abbrev pub IsChunked : ℕ → List Wanted → List (List Wanted) → List Wanted → Type 0
IsChunked most left made rest =
    (fs : List spec.Filling)
    → spec.place_left (length left) most fs left
    ≡ with_made made (spec.place_left (length rest) most fs rest)

-- a new slice to come
abbrev pub new_slice_of : NewSlice → spec.NewSlice
new_slice_of n = record { ports = n.ports.now.items; wanted = shown n.wanted.items }

-- lists, where the one at a place has one more element
abbrev pub added_at : {X : Type 0} → Option ℕ → X → List (List X) → List (List X)
added_at None x lists = lists
added_at (Some i) x lists = slice_set lists i (get_or lists i [] ++ x ∷ [])

-- the slices of a group by now, and those that it needs anew
abbrev pub packing_of : ℕ → List SlicePort → List Slice → List Wanted → spec.Packing
packing_of most ports slices wanted =
    let placed = spec.packed_group most slices wanted in
    record {
      fillings = placed.fillings;
      made = map (λ more. record { ports = ports; wanted = more }) placed.made;
    }

-- groups, each packed by itself
abbrev pub packings_of : ℕ → List (List SlicePort) → List (List Slice) → List (List Wanted)
    → List spec.Packing
packings_of most [] slices wanted = []
packings_of most (g ∷ gs) [] wanted = []
packings_of most (g ∷ gs) (s ∷ ss) [] = []
packings_of most (g ∷ gs) (s ∷ ss) (w ∷ ws) = packing_of most g s w ∷ packings_of most gs ss ws
