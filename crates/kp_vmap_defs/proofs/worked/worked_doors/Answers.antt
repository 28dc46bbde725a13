use Rattle.std.proofs.Common.{Some, None, refl, ◌∙◌}
use Rattle.std.specs.FinMap.{get-from_entries}
use Rattle.kp_vmap_defs.proofs.Destinations.{destination_total}
use Rattle.kp_vmap_defs.specs.Worked.{at, balanced_entries}
use Rattle.kp_worked.specs.Setting.{ipv4}
use Rattle.kp_vmap_defs.proofs.worked.worked_doors.Goals as goal

pub returns-clause-external : goal.returns-clause-external
returns-clause-external c = get-from_entries destination_total balanced_entries (at (Some (ipv4 192 0 2 40)) 80) ∙ refl

pub returns-clause-node : goal.returns-clause-node
returns-clause-node c = get-from_entries destination_total balanced_entries (at None 30080) ∙ refl

pub returns-clause-none : goal.returns-clause-none
returns-clause-none c = get-from_entries destination_total balanced_entries (at (Some (ipv4 192 0 2 40)) 81) ∙ refl
