-- How slices by their keys are told apart as values.
use Rattle.std.specs.Coded.{Coded}
use Rattle.std.specs.FinMap as finite
use Rattle.kp_base.specs.contracts.key.ObjectKey as key_row
use Rattle.kp_types.specs.contracts.slice.Slice as slice_row
use Rattle.kp_object_defs.specs.SlicesNow.{Slices}

-- as finite maps are
abbrev pub slices_code : Coded Slices
slices_code = finite.code key_row.the_row.coded slice_row.the_row.coded
