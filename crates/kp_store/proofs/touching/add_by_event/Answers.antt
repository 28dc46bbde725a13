use Rattle.std.proofs.Common.{sym}
use Rattle.kp_touch_defs.specs.Touches.{touches}
use Rattle.kp_store.proofs.Adding.{by_same}
use Rattle.kp_store.proofs.touching.add_by_event.Goals as goal

pub returns-in-Apply : goal.returns-in-Apply
returns-in-Apply c =
    let config = c.args.config.now in
    by_same c.add_applied.result c.args.touched.now c.add_applied.new.touched
    (touches config.node config.controller c.args.objects.now) (sym c.in-Apply.is)
    c.add_applied.ensures

pub returns-in-Delete : goal.returns-in-Delete
returns-in-Delete c =
    let config = c.args.config.now in
    by_same c.add_deleted.result c.args.touched.now c.add_deleted.new.touched
    (touches config.node config.controller c.args.objects.now) (sym c.in-Delete.is)
    c.add_deleted.ensures
