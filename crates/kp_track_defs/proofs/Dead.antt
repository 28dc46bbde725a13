-- Openers stay at their places, and the dead stay dead.
use Rattle.std.proofs.Common.{◌≡◌, ℕ, ◌≤◌, Bool, true, false, ◌&&◌, List, [], ◌∷◌, cond, is_some, slice_get, Some, refl, ◌∙◌, arith}
use Rattle.std.specs.List.{list_any}
use Rattle.kp_base.specs.declared.key.Endpoint.{Endpoint}
use Rattle.kp_types.specs.declared.verdict.Verdict.{Verdict}
use Rattle.kp_track_defs.specs.declared.flow.Connection.{Connection}
use Rattle.kp_track_defs.specs.declared.flow.Flow.{Flow}
use Rattle.kp_track_defs.specs.Entries.{change_first, connection_of}
use Rattle.kp_track_defs.specs.Steps.{Step, Passed, Synced, after_step, after_steps}
use Rattle.kp_track_defs.specs.TrackLaws.{DeadStayDead, MomentsNeverFall, opener_at}
use Rattle.kp_track_defs.specs.Tracking.{Opener, Tracked, after_opened, after_owned, after_sync, cleared_by, heard, heard_at, is_live, live_replied_by, live_with, moment_at, owned}
use Rattle.kp_track_defs.proofs.FirstChanged.{changed_at, stays_at, stays_before}
use Rattle.kp_track_defs.proofs.Liveness.{dead_later, live_after_sync}
use Rattle.kp_track_defs.proofs.Parts.{moment_rises}

-- at a place stands an opener that isn't live at the moment
abbrev IsDeadAt : ℕ → Tracked → Type 0
IsDeadAt place t = (o : Opener) × (opener_at place t ≡ Some o) × (is_live t.moment o ≡ false)

out_with : (a b : Bool) → a ≡ false → (a && b) ≡ false
out_with true b h = cc
out_with false b h = refl

heard_elsewhere : (m : ℕ) (c : Connection) (os : List Opener) (place : ℕ) (o : Opener)
    → slice_get os place ≡ Some o → is_live m o ≡ false → slice_get (heard_at m c os) place ≡ Some o
heard_elsewhere m c os place o at dead = by_test (list_any (live_with m c) os)
  where
    by_test : (b : Bool) → slice_get (cond b (change_first (live_with m c) (heard m) os) (change_first (live_replied_by m c) (heard m) os)) place ≡ Some o
    by_test true = stays_at (live_with m c) (heard m) os place o at (out_with _ _ dead)
    by_test false = stays_at (live_replied_by m c) (heard m) os place o at (out_with _ _ dead)

dead_owned : (place : ℕ) (t : Tracked) (f : Flow) → IsDeadAt place t → IsDeadAt place (after_owned t f)
dead_owned place t f is =
    let dead = dead_later t.moment (moment_at t.moment f) is.0 (moment_rises t.moment f) is.2 in
    (is.0, heard_elsewhere _ (connection_of f) t.openers place is.0 is.1 dead, dead)

dead_opened : (place : ℕ) (t : Tracked) (f : Flow) (verdict : Verdict) → IsDeadAt place t
    → IsDeadAt place (after_opened t f verdict)
dead_opened place t f verdict is = (
  is.0,
  stays_before t.openers _ place is.0 is.1,
  dead_later t.moment (moment_at t.moment f) is.0 (moment_rises t.moment f) is.2,
)

dead_synced : (place : ℕ) (t : Tracked) (stands : Endpoint → Bool) → IsDeadAt place t
    → IsDeadAt place (after_sync stands t)
dead_synced place t stands is = (
  cleared_by stands is.0,
  changed_at (cleared_by stands) t.openers place is.0 is.1,
  live_after_sync stands t.moment is.0 ∙ out_with _ _ is.2,
)

either_dead : (place : ℕ) (b : Bool) (s u : Tracked) → IsDeadAt place s → IsDeadAt place u
    → IsDeadAt place (cond b s u)
either_dead place true s u first second = first
either_dead place false s u first second = second

dead_step : (place : ℕ) (t : Tracked) (step : Step) → IsDeadAt place t
    → IsDeadAt place (after_step t step)
dead_step place t (Passed f verdict) is =
    either_dead place (is_some (owned t f)) (after_owned t f) (after_opened t f verdict)
    (dead_owned place t f is) (dead_opened place t f verdict is)
dead_step place t (Synced stands) is = dead_synced place t stands is

dead_steps : (place : ℕ) (t : Tracked) (steps : List Step) → IsDeadAt place t
    → IsDeadAt place (after_steps t steps)
dead_steps place t [] is = is
dead_steps place t (step ∷ steps) is =
    dead_steps place (after_step t step) steps (dead_step place t step is)

pub dead_stay_dead : DeadStayDead
dead_stay_dead t steps place o at dead = dead_steps place t steps (o, at, dead)

-- ---- Moments

either_later : (n : ℕ) (b : Bool) (s u : Tracked) → n ≤ s.moment → n ≤ u.moment
    → n ≤ (cond b s u).moment
either_later n true s u first second = first
either_later n false s u first second = second

pub later_step : (t : Tracked) (step : Step) → t.moment ≤ (after_step t step).moment
later_step t (Passed f verdict) =
    either_later t.moment (is_some (owned t f)) (after_owned t f) (after_opened t f verdict)
    (moment_rises t.moment f) (moment_rises t.moment f)
later_step t (Synced stands) = omega arith

pub moments_never_fall : MomentsNeverFall
moments_never_fall t [] = omega arith
moments_never_fall t (step ∷ steps) =
    let first = later_step t step in
    let rest = moments_never_fall (after_step t step) steps in
    omega (arith, first, rest)
