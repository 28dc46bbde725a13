use Rattle.kp_settle_laws.specs.Settled.{touches_slices}
use Rattle.kp_store.proofs.Adding.{these_alone}
use Rattle.kp_controller.proofs.slice_map.SliceMap.touched_by.Goals as goal

pub returns : goal.returns
returns c =
    these_alone c.new-touched.result c.add_touched.new.touched
    (touches_slices c.args.self.now c.args.event.now)
    c.in_ok-add_touched.ensures c.new-touched.ensures
