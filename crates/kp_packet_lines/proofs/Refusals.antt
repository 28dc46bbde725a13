-- The first fault of two rows.
use Rattle.std.proofs.Common.{◌≡◌, Option, Some, None, ap, ◌∙◌}
use Rattle.kp_json.specs.declared.fault.BadField.{BadField}
use Rattle.kp_row_defs.specs.Rows.{or_then}

pub later_fault : (row rest : Option BadField) (bad : BadField) → row ≡ None → rest ≡ Some bad → or_then row rest ≡ Some bad
later_fault row rest bad none told = ap (λ r. or_then r rest) none ∙ told

pub first_fault : (row rest : Option BadField) (bad : BadField) → row ≡ Some bad → or_then row rest ≡ Some bad
first_fault row rest bad told = ap (λ r. or_then r rest) told
