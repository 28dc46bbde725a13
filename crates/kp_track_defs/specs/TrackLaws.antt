-- Laws of tracked connections, over all flows with any verdicts and all syncs.
use Rattle.std.specs.Prelude.{◌≡◌, ℕ, ◌≤◌, false, Bool, List, count_by, slice_get, Option, Some}
use Rattle.std.specs.List.{AllByRecursion, list_any}
use Rattle.kp_base.specs.declared.key.Endpoint.{Endpoint}
use Rattle.kp_types.specs.declared.verdict.Verdict.{Verdict}
use Rattle.kp_track_defs.specs.declared.flow.Connection.{Connection}
use Rattle.kp_track_defs.specs.declared.flow.Flow.{Flow}
use Rattle.kp_track_defs.specs.Kept.{Kept, is_sent_to, keeps, kept_after_flow, kept_after_opened, kept_after_owned, kept_after_sync, kept_owned, kept_part, without_endpoints}
use Rattle.kp_track_defs.specs.Steps.{Step, after_flow, after_steps, tracked_after}
use Rattle.kp_track_defs.specs.Tracking.{Opener, Tracked, after_opened, after_owned, after_sync, is_kept, is_live, live_with, loses, most_openers, owned}

-- the opener at a place, of all that were ever kept
abbrev pub opener_at : ℕ → Tracked → Option Opener
opener_at place t = slice_get t.openers place

-- ---- Who is live

-- Nothing is ever taken from the openers, and one that isn't live at the moment of a state is live
-- after no further steps.
abbrev pub DeadStayDead : Type 0
DeadStayDead =
    (t : Tracked) (steps : List Step) (place : ℕ) (o : Opener)
    → opener_at place t ≡ Some o
    → is_live t.moment o ≡ false
    → (later : Opener) × (opener_at place (after_steps t steps) ≡ Some later)
    × (is_live (after_steps t steps).moment later ≡ false)

-- moments never fall
abbrev pub MomentsNeverFall : Type 0
MomentsNeverFall =
    (t : Tracked) (steps : List Step) → t.moment ≤ (after_steps t steps).moment

-- at most one opener of a connection is live
abbrev pub OneOwner : Type 0
OneOwner =
    (steps : List Step) (c : Connection)
    → (let t = tracked_after steps in count_by (live_with t.moment c) t.openers ≤ 1)

-- no more openers are live than may be
abbrev pub FewLive : Type 0
FewLive =
    (steps : List Step)
    → (let t = tracked_after steps in count_by (is_live t.moment) t.openers ≤ most_openers)

-- ---- What is kept of them

-- What a tracker keeps answers flows as all openers do, and stays the part of them that is live.
abbrev pub KeptAnswers : Type 0
KeptAnswers = (t : Tracked) (f : Flow) → kept_owned (kept_part t) f ≡ owned t f

abbrev pub KeptKeeps : Type 0
KeptKeeps =
    (t : Tracked) (f : Flow) (verdict : Verdict)
    → keeps (kept_part t) f verdict ≡ is_kept t f verdict

abbrev pub KeptOwns : Type 0
KeptOwns =
    (t : Tracked) (f : Flow)
    → kept_after_owned (kept_part t) f ≡ kept_part (after_owned t f)

abbrev pub KeptOpens : Type 0
KeptOpens =
    (t : Tracked) (f : Flow) (verdict : Verdict)
    → kept_after_opened (kept_part t) f verdict ≡ kept_part (after_opened t f verdict)

abbrev pub KeptPasses : Type 0
KeptPasses =
    (t : Tracked) (f : Flow) (verdict : Verdict)
    → kept_after_flow (kept_part t) f verdict ≡ kept_part (after_flow t f verdict)

abbrev pub KeptSyncs : Type 0
KeptSyncs =
    (t : Tracked) (stands : Endpoint → Bool)
    → kept_after_sync stands (kept_part t) ≡ kept_part (after_sync stands t)

-- To clear endpoints one after the other leaves what a sync leaves, where those entries lose theirs
-- that were sent to one of them.
abbrev pub KeptClears : Type 0
KeptClears =
    (k : Kept) (stands : Endpoint → Bool) (gone : List Endpoint)
    → AllByRecursion (λ e. loses stands e ≡ list_any (λ endpoint. is_sent_to endpoint e) gone) k.entries
    → without_endpoints gone k ≡ kept_after_sync stands k
