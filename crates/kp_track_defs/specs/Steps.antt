-- Flows and syncs in their order. The verdict on a flow that opens and the endpoints that stand after
-- a sync are given with each step.
use Rattle.std.specs.Prelude.{Bool, List, cond, is_some}
use Rattle.std.specs.List.{fold}
use Rattle.kp_base.specs.declared.key.Endpoint.{Endpoint}
use Rattle.kp_types.specs.declared.verdict.Verdict.{Verdict}
use Rattle.kp_track_defs.specs.declared.flow.Flow.{Flow}
use Rattle.kp_track_defs.specs.Tracking.{Tracked, after_opened, after_owned, after_sync, nothing_tracked, owned}

-- a flow with the verdict that it has where it opens, or an accepted sync by which endpoints stand
pub data Step : Type 0 where
  Passed : Flow → Verdict → Step
  Synced : (Endpoint → Bool) → Step

-- what is tracked after a flow
abbrev pub after_flow : Tracked → Flow → Verdict → Tracked
after_flow t f verdict =
    cond (is_some (owned t f)) (after_owned t f) (after_opened t f verdict)

-- what is tracked after a step
abbrev pub after_step : Tracked → Step → Tracked
after_step t (Passed f verdict) = after_flow t f verdict
after_step t (Synced stands) = after_sync stands t

-- what is tracked after steps from here on
abbrev pub after_steps : Tracked → List Step → Tracked
after_steps t steps = fold after_step t steps

-- what is tracked after all steps
abbrev pub tracked_after : List Step → Tracked
tracked_after steps = after_steps nothing_tracked steps
