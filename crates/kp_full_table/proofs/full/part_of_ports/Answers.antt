use Rattle.std.proofs.Common.{◌+◌, [], ◌∷◌, take, arith}
use Rattle.kp_choice_defs.specs.Settings.{setting_of}
use Rattle.kp_full_table.proofs.PartSteps.{next_part, next_count, some_count}
use Rattle.kp_full_table.proofs.full.part_of_ports.Goals as goal

pub loop-info-init : goal.loop-info-init
loop-info-init g c = record {
  part = c.no_part-part.ensures (setting_of c.args.family c.args.config.now);
  steps = omega arith;
}

pub returns-in_err-part_of_port-clause-bound : goal.returns-in_err-part_of_port-clause-bound
returns-in_err-part_of_port-clause-bound g c =
    let setting = setting_of c.args.family c.args.config.now in
    omega (arith, c.in_err-part_of_port.ensures.no_step, c.loop-info.invariant.steps, some_count setting c.args.infos.now c.loop-info.info-index)

pub returns-in_err-part-clause-bound : goal.returns-in_err-part-clause-bound
returns-in_err-part-clause-bound g c =
    let setting = setting_of c.args.family c.args.config.now in
    let infos = c.args.infos.now in
    let k = c.loop-info.info-index in
    let counted = next_count setting infos k c.info-item.result c.args.steps.now c.loop-info.steps c.part_of_port.new.steps
    c.loop-info.invariant.steps c.in_ok-part_of_port.ensures.steps c.loop-info-test.true c.info-item.is in
    omega (arith, counted, some_count setting infos (k + 1))

pub loop-info-preserved : goal.loop-info-preserved
loop-info-preserved g c =
    let setting = setting_of c.args.family c.args.config.now in
    let infos = c.args.infos.now in
    let k = c.loop-info.info-index in
    let info = c.info-item.result in
    record {
      part = next_part setting infos k info c.in_ok-part.part
          (c.in_ok-part.ensures setting (take k infos) (info ∷ []) c.loop-info.invariant.part c.in_ok-part_of_port.ensures.part)
          c.loop-info-test.true c.info-item.is;
      steps = next_count setting infos k info c.args.steps.now c.loop-info.steps c.part_of_port.new.steps
          c.loop-info.invariant.steps c.in_ok-part_of_port.ensures.steps c.loop-info-test.true c.info-item.is;
    }
