use Rattle.std.proofs.Common.{◌&&◌}
use Rattle.std.proofs.lemmas.Result.{IfOk-weaker}
use Rattle.kp_choice_defs.specs.Settings.{settings_of}
use Rattle.kp_touch_laws.specs.TouchLaws.{touches_in}
use Rattle.kp_plane.proofs.Collecting.{none_more, one_apart}
use Rattle.kp_plane.proofs.collected.Collected.apply_touching.Goals as goal

pub returns-clause-adds : goal.returns-clause-adds
returns-clause-adds c =
    one_apart c.args.self.now c.join.new.self c.new-last.result c.apply_touching.new.touched _
    c.join.ensures.same c.in_ok-join.ensures.ok c.new-last.ensures
    c.in_ok-changed.ensures.adds

pub returns-then-has_all-clause-adds : goal.returns-then-has_all-clause-adds
returns-then-has_all-clause-adds c =
    IfOk-weaker c.apply_changing.result _ _
    (λ changed is.
    none_more c.args.self.now
    (λ k. changed && touches_in (settings_of c.args.config.now) c.args.objects.now c.args.event.now k)
    (c.has_all.ensures c.if-has_all.true))
    c.apply_changing.ensures.changed
