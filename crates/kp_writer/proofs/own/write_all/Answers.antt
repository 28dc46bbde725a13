use Rattle.std.proofs.Common.{arith}
use Rattle.kp_choice_defs.specs.Settings.{setting_of}
use Rattle.kp_table_defs.specs.Layout.{port_rows}
use Rattle.kp_writer.specs.Next.{write}
use Rattle.kp_writer.specs.Own.{own_rule_count}
use Rattle.kp_writer.proofs.RuleCounts.{own_one, own_parts}
use Rattle.kp_writer.proofs.Totals.{fold_parts, next_total, part_total}
use Rattle.kp_writer.proofs.own.write_all.Goals as goal

pub returns-in_err-write_port-clause-steps : goal.returns-in_err-write_port-clause-steps
returns-in_err-write_port-clause-steps g c =
    let s = setting_of c.args.family c.args.config.now in
    let info = c.info-item.result in
    omega (
      arith,
      c.in_err-write_port.ensures.steps,
      c.loop-info.invariant.steps,
      own_one s info.now,
      part_total (λ i. i.now) c.args.infos.now c.loop-info.info-index info c.loop-info-test.true
          c.info-item.is (own_rule_count s) (own_parts s),
    )

pub loop-info-preserved : goal.loop-info-preserved
loop-info-preserved g c =
    let s = setting_of c.args.family c.args.config.now in
    let before = c.args.before.now.chains in
    let info = c.info-item.result in
    record {
      next = fold_parts (λ i. i.now) c.args.infos.now c.loop-info.info-index info
          c.loop-info-test.true c.info-item.is (write before) (port_rows s) c.args.next.now
          c.loop-info.next c.write_port.new.next c.loop-info.invariant.next
          c.in_ok-write_port.ensures.next;
      steps = omega (
        arith,
        c.in_ok-write_port.ensures.made,
        c.loop-info.invariant.steps,
        own_one s info.now,
        next_total (λ i. i.now) c.args.infos.now c.loop-info.info-index info
            c.loop-info-test.true c.info-item.is (own_rule_count s) (own_parts s),
      );
    }
