use Rattle.std.proofs.Common.{length, ap, sym, ◌∙◌}
use Rattle.std.specs.FinMap.{remove}
use Rattle.kp_chains.proofs.Popped.{popped-drop, popped-take}
use Rattle.kp_writer.specs.Refresh.{without}
use Rattle.kp_writer.specs.Written.{with_newest}
use Rattle.kp_writer.proofs.refresh.drop_all.Goals as goal

-- one port more
pub loop-port-preserved : goal.loop-port-preserved
loop-port-preserved c =
    let all = c.args.ports.items in
    let old = c.loop-port.ports.items in
    let new = c.pop.new.self.items in
    let port = c.in-Some.port in
    let start = c.args.writer.now in
    let so_far = c.loop-port.invariant in
    record {
      value = c.in_ok-drop_port.ensures.ok
          ∙ ap (λ w. with_newest w (remove w.newest port)) so_far.value
          ∙ ap (λ ks. with_newest start (without start.newest ks))
          (sym (popped-drop all old new port c.in-Some.ensures.items so_far.left));
      left = popped-take all old new port c.in-Some.ensures.items so_far.left;
    }

pub returns-clause-part : goal.returns-clause-part
returns-clause-part c = (length c.loop-port.ports.items, c.loop-port.invariant.value)

pub returns-in_err-drop_port-clause-part : goal.returns-in_err-drop_port-clause-part
returns-in_err-drop_port-clause-part c =
    (length c.loop-port.ports.items, c.in_err-drop_port.ensures.err ∙ c.loop-port.invariant.value)
