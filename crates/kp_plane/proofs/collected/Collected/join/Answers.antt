use Rattle.kp_plane.proofs.Collecting.{all_joined, joined_same}
use Rattle.kp_plane.proofs.collected.Collected.join.Goals as goal

pub returns-clause-ok : goal.returns-clause-ok
returns-clause-ok c =
    all_joined c.args.self.now c.add_touched.new.touched c.new.result
    c.in_ok-add_touched.ensures.ok c.new.ensures

pub returns-clause-same : goal.returns-clause-same
returns-clause-same c =
    joined_same c.args.self.now c.add_touched.new.touched c.new.result
    c.in_ok-add_touched.ensures.ok c.new.ensures

pub returns-in_err-add_touched-clause-same : goal.returns-in_err-add_touched-clause-same
returns-in_err-add_touched-clause-same c = c.add_touched.ensures.few
