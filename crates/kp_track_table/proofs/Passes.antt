-- What a flow comes to, from what the calls tell.
use Rattle.std.proofs.Common.{◌≡◌, Bool, Option, Some, None, sym, ap, ◌∙◌}
use Rattle.kp_choice_defs.specs.Recent.{RecentParts}
use Rattle.kp_types.specs.declared.verdict.Answer.{Answer}
use Rattle.kp_table_defs.specs.Walk.{Walked}
use Rattle.kp_walker.specs.Answers.{answered, names_of}
use Rattle.kp_track_defs.specs.declared.flow.Flow.{Flow}
use Rattle.kp_track_defs.specs.Kept.{Kept, keeps, kept_after_opened, kept_after_owned, kept_owned}
use Rattle.kp_conntrack.proofs.Unowned.{keeps_after, opened_after}
use Rattle.kp_track_table.specs.Passing.{Opens, Passed, flow_passed, passed_by}

module _ (k : Kept) (f : Flow) (lists : RecentParts) (walked : Walked) where
  -- one that opens
  pub opens : (s : Kept) → None ≡ kept_owned k f → s ≡ kept_after_owned k f
      → (answer : Answer) (left : RecentParts) → answered answer left ≡ walked
      → (kept : Bool) → kept ≡ keeps s f answer.verdict
      → (t : Kept) → t ≡ kept_after_opened s f answer.verdict
      → ◌≡◌ {A = Passed} (record { told = Opens answer.verdict (names_of answer.trail) kept; kept = t; lists = left })
      (flow_passed k f lists walked)
  opens s none after answer left walk kept is t opened =
      let kept_is = is ∙ keeps_after k f (sym none) s after answer.verdict in
      let left_is = opened ∙ opened_after k f (sym none) s after answer.verdict in
      (λ i. record { told = Opens answer.verdict (names_of answer.trail) (kept_is i); kept = left_is i; lists = left })
      ∙ ap (λ w. passed_by k f lists w None) walk
      ∙ ap (passed_by k f lists walked) none
