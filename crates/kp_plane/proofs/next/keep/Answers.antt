use Rattle.std.proofs.Common.{length, nat_lt, sym, ap, ◌∙◌}
use Rattle.kp_plane.proofs.Settled.{settled_ports}
use Rattle.kp_plane.proofs.next.keep.Goals as goal

pub returns-clause-ok : goal.returns-clause-ok
returns-clause-ok c = λ p events held is.
    let all = ap length (c.events.ensures ∙ sym events) in
    record {
      history = c.in_ok-record.ensures.ok p held.history all is.leads;
      ports = settled_ports p c.args.history.now c.args.ports.now c.settle.new.self c.args.next held is
          _ (ap (nat_lt c.args.history.now.covered) all) c.settle.ensures;
    }
