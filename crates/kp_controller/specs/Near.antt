-- What slices are found by when a Service is packed.
use Rattle.std.specs.Prelude.{ℕ, List, ◌++◌, map}
use Rattle.std.specs.Option.{option_to_list}
use Rattle.kp_types.specs.declared.slice.Slice.{Slice}
use Rattle.kp_controller.specs.declared.near.Near.{Near}
use Rattle.kp_controller.specs.Clashing.{stem}

-- the Service of this name in the slice's namespace
abbrev pub near_to : Slice → List ℕ → Near
near_to s name = record { service = record { namespace = s.key.namespace; name = name } }

-- the Services that a slice is near to: its label's, and the one that its name begins with
abbrev pub near_tags : Slice → List Near
near_tags s =
    map (near_to s) (option_to_list s.service) ++ map (near_to s) (option_to_list (stem s.key.name))
