-- Which slices are near a Service, so that packing it has to know their names. Equality alone
-- tells, so that an index can find them.
use Rattle.std.specs.Prelude.{ℕ, Bool, ◌&&◌, List, [], ◌∷◌, ◌++◌, map, cond, Option, Some, None, bytes_eq, nat_eq}
use Rattle.std.specs.List.{filter, list_any}
use Rattle.std.specs.FinMap as finite
use Rattle.std.specs.Option.{option_to_list}
use Rattle.kp_base.specs.declared.key.ObjectKey.{ObjectKey}
use Rattle.kp_types.specs.declared.slice.Slice.{Slice}
use Rattle.kp_object_defs.specs.SlicesNow.{Slices}

-- a text before its last hyphen, with one byte more before it, or none before a first hyphen
abbrev pub stem_behind : ℕ → Option (List ℕ) → Option (List ℕ)
stem_behind b None = cond (nat_eq b 45) (Some []) None
stem_behind b (Some front) = Some (b ∷ front)

-- the text before its last hyphen
abbrev pub stem : List ℕ → Option (List ℕ)
stem [] = None
stem (b ∷ bs) = stem_behind b (stem bs)

-- the names of Services that a slice is near to: the one that its label gives, and the one that its
-- name begins with
abbrev pub near_names : Slice → List (List ℕ)
near_names s = option_to_list s.service ++ option_to_list (stem s.key.name)

-- the slice is of the Service's namespace, and one of these names is the Service's
abbrev pub may_clash : ObjectKey → Slice → Bool
may_clash service s =
    list_any (λ name. bytes_eq service.namespace s.key.namespace && bytes_eq service.name name)
    (near_names s)

-- the names of the slices that are near to a Service
abbrev pub names_near : ObjectKey → Slices → List (List ℕ)
names_near service slices =
    map (λ s. s.key.name) (filter (may_clash service) (finite.values slices))
