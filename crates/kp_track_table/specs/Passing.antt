-- What a flow comes to on a stateful node, by the walk that its packet would have.
use Rattle.std.specs.Prelude.{ℕ, Bool, List, Option, None, Some}
use Rattle.kp_types.specs.declared.verdict.Verdict.{Verdict}
use Rattle.kp_choice_defs.specs.Recent.{RecentParts}
use Rattle.kp_table_defs.specs.Walk.{Walked}
use Rattle.kp_walker.specs.Answers.{names_of}
use Rattle.kp_track_defs.specs.declared.flow.Flow.{Flow}
use Rattle.kp_track_defs.specs.declared.flow.Owned.{Owned}
use Rattle.kp_track_defs.specs.declared.flow.Owned.TheVariants as owned
use Rattle.kp_track_defs.specs.Kept.{Kept, keeps, kept_after_opened, kept_after_owned, kept_owned}
use Rattle.kp_track_table.specs.declared.passing.Seen.{Seen}
use Rattle.kp_track_table.specs.declared.passing.Seen.TheVariants.{First, Later, Reply}

-- what is told of a flow: that it opens, with its verdict, its trail and whether it is kept, or that it follows
pub data Told : Type 0 where
  Opens : Verdict → List (List (List ℕ)) → Bool → Told
  Follows : Owned → Told

-- what is told of a flow, and what stands after it
pub record Passed : Type 0 where
  pub told : Told
  pub kept : Kept
  pub lists : RecentParts

-- what a call tells
abbrev pub told_by : Seen → Told
told_by (First answer kept) = Opens answer.verdict (names_of answer.trail) kept
told_by (Later endpoint masked) = Follows (owned.Later endpoint masked)
told_by (Reply door) = Follows (owned.Reply door)

-- what a call tells and leaves
abbrev pub passed : Seen → Kept → RecentParts → Passed
passed seen k lists = record { told = told_by seen; kept = k; lists = lists }

-- an owned flow is answered by its owner, and of one that opens the walk counts
abbrev pub passed_by : Kept → Flow → RecentParts → Walked → Option Owned → Passed
passed_by k f lists walked (Some owned) =
    record { told = Follows owned; kept = kept_after_owned k f; lists = lists }
passed_by k f lists walked None = record {
  told = Opens walked.verdict walked.trail (keeps k f walked.verdict);
  kept = kept_after_opened k f walked.verdict;
  lists = walked.lists;
}

-- what a flow comes to
abbrev pub flow_passed : Kept → Flow → RecentParts → Walked → Passed
flow_passed k f lists walked = passed_by k f lists walked (kept_owned k f)
