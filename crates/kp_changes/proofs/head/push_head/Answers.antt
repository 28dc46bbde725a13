use Rattle.std.proofs.Common.{codes}
use Rattle.std.proofs.lemmas.Result.{on_err_weaker, on_ok_weaker}
use Rattle.kp_change_defs.specs.DoorText.{door_text}
use Rattle.kp_report.proofs.Pieces.{front_on, two_added}
use Rattle.kp_changes.proofs.head.push_head.Goals as goal

pub returns-clause-added : goal.returns-clause-added
returns-clause-added c =
    on_ok_weaker c.push_by.result
    (λ h. two_added _ _ _ (codes "change ") _ c.in_ok-push.ensures.added
    (two_added _ _ _ (door_text c.args.door.now) _ c.in_ok-push_door.ensures.added h))
    c.push_by.ensures.added

pub returns-clause-front : goal.returns-clause-front
returns-clause-front c =
    on_err_weaker c.push_by.result
    (λ h. front_on _ _ _ _ c.in_ok-push.ensures.added
    (front_on _ _ _ _ c.in_ok-push_door.ensures.added h))
    c.push_by.ensures.front
