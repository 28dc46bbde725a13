use Rattle.kp_touch_defs.specs.Touches.{touches}
use Rattle.kp_store.proofs.Adding.{these_alone}
use Rattle.kp_store.proofs.touching.touched_by.Goals as goal

pub returns : goal.returns
returns c =
    let config = c.args.config.now in
    these_alone c.new-touched.result c.add_by_event.new.touched
    (touches config.node config.controller c.args.objects.now c.args.event.now)
    c.in_ok-add_by_event.ensures c.new-touched.ensures
