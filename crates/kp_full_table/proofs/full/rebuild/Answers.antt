use Rattle.std.proofs.Common.{◌≤◌, ◌+◌, slice_get, subst, arith}
use Rattle.kp_choice_defs.specs.Settings.{settings_of}
use Rattle.kp_object_defs.specs.PortInfo.{infos_by_family}
use Rattle.kp_table_defs.specs.Rebuild.{clashes_among}
use Rattle.kp_full_table.specs.Faults.{TellsClash}
use Rattle.kp_full_table.proofs.Clashes.{handed_on}
use Rattle.kp_full_table.proofs.FamilySteps.{few_rules, first_told, next_clashes, next_rules, next_tables, rules_among, with_families}
use Rattle.kp_full_table.proofs.full.rebuild.Goals as goal

pub returns-in_err-add_family-clause-clash : goal.returns-in_err-add_family-clause-clash
returns-in_err-add_family-clause-clash g c =
    let settings = settings_of c.args.config.now in
    let infos = infos_by_family settings c.args.objects.now in
    let fs = c.table_families-family-items.result.now in
    let k = c.loop-family.family-index in
    let fault = c.in_err-add_family.field-0.0 in
    handed_on _ fault _ c.from_residual-in_err-add_family.ensures.1
    (subst (λ fs. TellsClash (slice_get (clashes_among (with_families settings infos fs) infos) 0) fault)
    c.table_families-family-items.ensures
    (first_told settings infos fs k c.loop-family-test.true fault
    c.loop-family.invariant.clashes c.in_err-add_family.ensures.clash))

pub returns-in_err-add_family-clause-bound : goal.returns-in_err-add_family-clause-bound
returns-in_err-add_family-clause-bound g c =
    let settings = settings_of c.args.config.now in
    let infos = infos_by_family settings c.args.objects.now in
    let fs = c.table_families-family-items.result.now in
    let k = c.loop-family.family-index in
    subst (λ fs. c.add_family.new.steps ≤ c.args.steps.now + rules_among settings infos fs)
    c.table_families-family-items.ensures
    (few_rules settings infos fs k c.loop-family-test.true _ _ _
    c.loop-family.invariant.steps c.in_err-add_family.ensures.bound)

pub loop-family-preserved : goal.loop-family-preserved
loop-family-preserved g c =
    let settings = settings_of c.args.config.now in
    let infos = infos_by_family settings c.args.objects.now in
    let fs = c.table_families-family-items.result.now in
    let k = c.loop-family.family-index in
    let lt = c.loop-family-test.true in
    let before = c.loop-family.invariant in
    let added = c.in_ok-add_family.ensures in
    record {
      table = next_tables settings infos fs k lt _ _ before.table added.table;
      clashes = next_clashes settings infos fs k lt before.clashes added.no_clash;
      steps = next_rules settings infos fs k lt _ _ _ before.steps added.steps;
      asked = omega (arith, before.asked, added.asked);
    }
