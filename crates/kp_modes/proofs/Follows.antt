-- What is kept stands for all openers, step by step.
use Rattle.std.proofs.Common.{◌≡◌, Bool, List, None, Option, sym, ap, subst, ◌∙◌}
use Rattle.kp_base.specs.declared.config.Config.{Config}
use Rattle.kp_base.specs.declared.key.Endpoint.{Endpoint}
use Rattle.kp_object_defs.specs.Objects.{Objects}
use Rattle.kp_types.specs.declared.verdict.Verdict.{Verdict}
use Rattle.kp_track_defs.specs.declared.flow.Flow.{Flow}
use Rattle.kp_track_defs.specs.declared.flow.Owned.{Owned}
use Rattle.kp_track_defs.specs.Kept.{Kept, keeps, kept_after_opened, kept_after_owned, kept_after_sync, kept_owned, without_endpoints}
use Rattle.kp_track_defs.specs.Stands.{stands_by}
use Rattle.kp_track_defs.specs.TrackLaws.{KeptAnswers, KeptClears, KeptKeeps, KeptOpens, KeptOwns, KeptSyncs}
use Rattle.kp_track_defs.specs.Tracking.{Tracked, after_opened, after_owned, after_sync, is_kept, owned}
use Rattle.kp_conntrack.proofs.Unowned.{keeps_after, opened_after}
use Rattle.kp_udp_endpoints.specs.Counts.{AreCounted, Counts, HaveFallen}
use Rattle.kp_modes.specs.Tracked.{AllStand, StandsFor}
use Rattle.kp_modes.proofs.AllStand.{SendsThere, fallen_lose, left_stand, opened_stand, owned_stand}

-- of other entries that are the same
same_stand : (stands : Endpoint → Bool) (k new : Kept) → new ≡ k → AllStand stands k.entries → AllStand stands new.entries
same_stand stands k new same = subst (λ (k : Kept). AllStand stands k.entries) (sym same)

module _ (config : Config) (o : Objects) (k : Kept) (c : Counts) (t : Tracked) (is : StandsFor k c config o t) (f : Flow) where
  -- a flow is answered alike
  pub answered_alike : KeptAnswers → (given : Flow) (r : Option Owned) → given ≡ f → r ≡ kept_owned k given → r ≡ owned t f
  answered_alike answers given r same answer =
      answer ∙ (λ i. kept_owned (is.kept i) (same i)) ∙ answers t f

  pub after_owned_flow : KeptOwns → (given : Flow) (new : Kept) → given ≡ f → new ≡ kept_after_owned k given
      → StandsFor new c config o (after_owned t f)
  after_owned_flow owns given new same after =
      let now : new ≡ kept_after_owned k f = after ∙ ap (kept_after_owned k) same in
      record {
        kept = now ∙ ap (λ k. kept_after_owned k f) is.kept ∙ owns t f;
        counted = is.counted;
        standing = same_stand (stands_by config o) (kept_after_owned k f) new now (owned_stand (stands_by config o) k f is.standing);
      }

  -- a flow that opens, which its moment has passed already
  module _ (given : Flow) (same : given ≡ f) (heard : Kept) (none : None ≡ kept_owned k given) (after : heard ≡ kept_after_owned k given) (verdict : Verdict) where
    unowned : kept_owned k f ≡ None
    unowned = sym (none ∙ ap (kept_owned k) same)

    heard_so : heard ≡ kept_after_owned k f
    heard_so = after ∙ ap (kept_after_owned k) same

    pub kept_alike : KeptKeeps → keeps heard f verdict ≡ is_kept t f verdict
    kept_alike keeps_so =
        keeps_after k f unowned heard heard_so verdict ∙ ap (λ k. keeps k f verdict) is.kept ∙ keeps_so t f verdict

    pub after_opened_flow : KeptOpens → SendsThere (stands_by config o) f verdict
        → (new : Kept) → new ≡ kept_after_opened heard f verdict
        → StandsFor new c config o (after_opened t f verdict)
    after_opened_flow opens sent new opened =
        let now : new ≡ kept_after_opened k f verdict = opened ∙ opened_after k f unowned heard heard_so verdict in
        record {
          kept = now ∙ ap (λ k. kept_after_opened k f verdict) is.kept ∙ opens t f verdict;
          counted = is.counted;
          standing = same_stand (stands_by config o) (kept_after_opened k f verdict) new now
              (opened_stand (stands_by config o) k f verdict sent is.standing);
        }

-- a sync clears what was sent to endpoints that fell
pub after_synced : KeptClears → KeptSyncs → (config : Config) (before o : Objects) (k : Kept) (c : Counts) (t : Tracked)
    → StandsFor k c config before t → (fallen : List Endpoint) → HaveFallen config before o fallen
    → (new : Kept) → new ≡ without_endpoints fallen k → (counts : Counts) → AreCounted config o counts
    → StandsFor new counts config o (after_sync (stands_by config o) t)
after_synced clears syncs config before o k c t is fallen fell new cleared counts counted =
    let now : new ≡ kept_after_sync (stands_by config o) k =
    cleared
    ∙ clears k (stands_by config o) fallen
    (fallen_lose (stands_by config before) (stands_by config o) fallen fell k.entries is.standing) in
    record {
      kept = now ∙ ap (kept_after_sync (stands_by config o)) is.kept ∙ syncs t (stands_by config o);
      counted = counted;
      standing = same_stand (stands_by config o) (kept_after_sync (stands_by config o) k) new now
          (left_stand (stands_by config o) k.entries);
    }
