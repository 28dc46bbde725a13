use Rattle.std.proofs.Common.{sym, ap, ◌∙◌}
use Rattle.std.specs.FinMap as finite
use Rattle.kp_base.specs.Keys.{port_key_cmp}
use Rattle.kp_base.proofs.KeyOrder.{port_key_exact, port_key_ties, port_key_total}
use Rattle.kp_base.proofs.Maps.{inserted, removed}
use Rattle.kp_tracker.specs.Tracked.{with_value}
use Rattle.kp_vmap.proofs.Answered.{answered}
use Rattle.kp_vmap.proofs.keep.keep_port.Goals as goal

pub returns-in-None-clause-value : goal.returns-in-None-clause-value
returns-in-None-clause-value c =
    removed port_key_total port_key_ties port_key_exact c.args.ports.now.entries
    c.swap_remove.new.self.entries c.args.key c.swap_remove.ensures.updates.0
    ∙ ap (with_value port_key_cmp (finite.from_entries c.args.ports.now.entries) c.args.key)
    (sym c.in-None.is)

pub returns-in-Some-clause-value : goal.returns-in-Some-clause-value
returns-in-Some-clause-value c =
    inserted port_key_total port_key_ties port_key_exact c.args.ports.now.entries
    c.insert.new.self.entries c.args.key c.in-Some.port
    (answered _ c.insert.result c.insert.ensures.updates (c.insert.ensures.succeeds c.requires)).0
    ∙ ap (with_value port_key_cmp (finite.from_entries c.args.ports.now.entries) c.args.key)
    (sym c.in-Some.is)
