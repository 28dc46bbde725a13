use Rattle.std.proofs.Common.{arith, cond, length, ap, sym, ◌∙◌}
use Rattle.std.specs.FinMap.{insert}
use Rattle.kp_chains.proofs.Popped.{popped-drop, popped-take}
use Rattle.kp_blocks.specs.Joined.{is_port_of}
use Rattle.kp_writer.specs.Refresh.{with_infos}
use Rattle.kp_writer.specs.Written.{with_newest}
use Rattle.kp_writer.proofs.RuleCounts.{put_count}
use Rattle.kp_writer.proofs.refresh.put_all.Goals as goal

-- one port more
pub loop-info-preserved : goal.loop-info-preserved
loop-info-preserved g c =
    let all = c.args.infos.items in
    let old = c.loop-info.infos.items in
    let new = c.pop.new.self.items in
    let info = c.in-Some.info in
    let start = c.args.writer.now in
    let so_far = c.loop-info.invariant in
    let service = c.args.service.now in
    let one = put_count c.loop-info.writer start so_far.value old new info c.in-Some.ensures.items in
    record {
      value = c.in_ok-put_if.ensures.ok
          ∙ ap (λ w. with_newest w (cond (is_port_of service info.key)
          (insert w.newest info.key info) w.newest)) so_far.value
          ∙ ap (λ is. with_newest start (with_infos service start.newest is))
          (sym (popped-drop all old new info c.in-Some.ensures.items so_far.left));
      more = omega (arith, c.put_if.ensures.more, so_far.more);
      steps = omega (arith, one, c.put_if.ensures.steps, so_far.steps);
      left = popped-take all old new info c.in-Some.ensures.items so_far.left;
    }

pub returns-clause-part : goal.returns-clause-part
returns-clause-part g c = (length c.loop-info.infos.items, c.loop-info.invariant.value)

pub returns-in_err-put_if-clause-part : goal.returns-in_err-put_if-clause-part
returns-in_err-put_if-clause-part g c =
    (length c.loop-info.infos.items, c.in_err-put_if.ensures.err ∙ c.loop-info.invariant.value)

pub returns-in_err-put_if-clause-more : goal.returns-in_err-put_if-clause-more
returns-in_err-put_if-clause-more g c =
    omega (arith, c.put_if.ensures.more, c.loop-info.invariant.more)

pub returns-in_err-put_if-clause-steps : goal.returns-in_err-put_if-clause-steps
returns-in_err-put_if-clause-steps g c =
    let so_far = c.loop-info.invariant in
    let one = put_count c.loop-info.writer c.args.writer.now so_far.value
    c.loop-info.infos.items c.pop.new.self.items c.in-Some.info c.in-Some.ensures.items in
    omega (arith, one, c.put_if.ensures.steps, so_far.steps)
