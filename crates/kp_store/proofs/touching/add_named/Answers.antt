use Rattle.std.proofs.Common.{option_copied}
use Rattle.std.proofs.lemmas.Result.{on_ok_weaker}
use Rattle.kp_touch_defs.specs.Touches.{names_service}
use Rattle.kp_store.proofs.Adding.{and_then}
use Rattle.kp_store.proofs.touching.add_named.Goals as goal

pub returns : goal.returns
returns c =
    on_ok_weaker c.add_named_by-2.result
    (and_then c.args.touched.now c.add_named_by.new.touched
    (names_service (option_copied c.args.before)) c.in_ok-add_named_by.ensures
    c.add_named_by-2.new.touched (names_service (option_copied c.args.after)))
    c.add_named_by-2.ensures
