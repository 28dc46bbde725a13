use Rattle.std.proofs.Common.{option_copied}
use Rattle.std.proofs.lemmas.Result.{on_ok_weaker}
use Rattle.kp_touch_defs.specs.Touches.{names_service}
use Rattle.kp_store.proofs.Adding.{and_then}
use Rattle.kp_controller.proofs.touching.add_named.Goals as goal

pub returns : goal.returns
returns c =
    on_ok_weaker c.add_owner-2.result
    (and_then c.args.touched.now c.add_owner.new.touched
    (names_service (option_copied c.args.before)) c.in_ok-add_owner.ensures
    c.add_owner-2.new.touched (names_service (option_copied c.args.after)))
    c.add_owner-2.ensures
