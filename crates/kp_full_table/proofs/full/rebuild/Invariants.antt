use Rattle.std.proofs.Common.{◌≡◌, ◌+◌, ◌*◌, [], take}
use Rattle.kp_choice_defs.specs.Settings.{settings_of}
use Rattle.kp_object_defs.specs.PortInfo.{infos_by_family}
use Rattle.kp_table_defs.specs.Rebuild.{clashes_among}
use Rattle.kp_chains.specs.Tables.{table_with}
use Rattle.kp_full_table.specs.Parts.{all_port_count}
use Rattle.kp_full_table.proofs.FamilySteps.{rows_among, rules_among, with_families}
use Rattle.kp_full_table.proofs.full.rebuild.Given as goal

-- the tables of the families so far, of which none has a clash, with a step for each of their rules
abbrev pub invariant-loop-family : goal.invariant-loop-family
invariant-loop-family g l =
    let settings = settings_of l.config in
    let infos = infos_by_family settings l.objects in
    let so_far = take l.family-index l.family-items in
    record {
      table : l.table ≡ table_with (rows_among settings infos so_far);
      clashes : clashes_among (with_families settings infos so_far) infos ≡ [];
      steps : l.steps ≡ l.fn.steps + rules_among settings infos so_far;
      asked : l.asked ≡ l.fn.asked + l.family-index * all_port_count l.objects;
    }
