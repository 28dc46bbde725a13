use Rattle.std.proofs.Common.{[], ◌∷◌, refl}
use Rattle.kp_worked.specs.Events.{served, slice_first, replaced, deleted, deleted_absent, of_other_service, in_zone, pods_and_slice, pod_not_ready, pod_finished}
use Rattle.kp_worked.proofs.Events.{verdict_is}
use Rattle.kp_worked.proofs.worked_events.Goals as goal

pub returns-clause-served : goal.returns-clause-served
returns-clause-served c = verdict_is served (0 ∷ []) refl

pub returns-clause-slice_first : goal.returns-clause-slice_first
returns-clause-slice_first c = verdict_is slice_first (0 ∷ []) refl

pub returns-clause-replaced : goal.returns-clause-replaced
returns-clause-replaced c = verdict_is replaced (0 ∷ []) refl

pub returns-clause-deleted : goal.returns-clause-deleted
returns-clause-deleted c = verdict_is deleted [] refl

pub returns-clause-deleted_absent : goal.returns-clause-deleted_absent
returns-clause-deleted_absent c = verdict_is deleted_absent (0 ∷ []) refl

pub returns-clause-of_other_service : goal.returns-clause-of_other_service
returns-clause-of_other_service c = verdict_is of_other_service [] refl

pub returns-clause-in_zone : goal.returns-clause-in_zone
returns-clause-in_zone c = verdict_is in_zone [] refl

pub returns-clause-pods_and_slice : goal.returns-clause-pods_and_slice
returns-clause-pods_and_slice c = verdict_is pods_and_slice [] refl

pub returns-clause-pod_not_ready : goal.returns-clause-pod_not_ready
returns-clause-pod_not_ready c = verdict_is pod_not_ready [] refl

pub returns-clause-pod_finished : goal.returns-clause-pod_finished
returns-clause-pod_finished c = verdict_is pod_finished [] refl
