use Rattle.kp_plane.specs.declared.ports_at.PortsAt.{PortsAt}
use Rattle.kp_plane.proofs.Start.{first_ports}
use Rattle.kp_plane.proofs.ports_at.PortsAt.start.Goals as goal

pub returns : goal.returns
returns c = λ events.
    let s : PortsAt =
    record {
      latest = c.start-latest.result;
      touched = c.new-touched.result;
      since = c.new-since.result;
      last = c.new-last.result;
      writers = c.in_ok-writers.writers;
      dirty = c.none_dirty-dirty.result;
      stale = c.new-stale.result;
    } in
    first_ports c.dirty_ports.ensures.none c.args.config.now events s
    (c.start-latest.ensures.place events) c.start-latest.ensures.start c.new-touched.ensures
    c.in_ok-writers.ensures c.none_dirty-dirty.ensures
