-- Words that ask for a run which reads the source are never answered by the usage line.
use Rattle.std.proofs.Common.{◌≡◌, true, Option, Some, None, inl, inr, subst}
use Rattle.kp_io.specs.Ends.{Input, Output}
use Rattle.kp_words.specs.declared.mode.Mode.{Mode}
use Rattle.kp_words.specs.declared.mode.Mode.TheVariants as mode
use Rattle.kp_run.specs.declared.status.Status.{Status}
use Rattle.kp_run.specs.declared.status.Status.TheVariants.{Usage}
use Rattle.kp_run.specs.Outcome.{EndsBy, Runs, reads_source}

module _ (from : Input) (to : Output) (input : Input) (output : Output) where
  ends_no_usage : (m : Option Mode) → reads_source m ≡ true → EndsBy m Usage from to input output → ⊥
  ends_no_usage None asks ends = absurd (cc)
  ends_no_usage (Some (mode.Replay workers)) asks ends = ends
  ends_no_usage (Some mode.Changes) asks ends = ends
  ends_no_usage (Some mode.Health) asks ends = ends
  ends_no_usage (Some mode.Track) asks ends = ends
  ends_no_usage (Some mode.Vmap) asks ends = ends
  ends_no_usage (Some mode.Paths) asks ends = ends
  ends_no_usage (Some mode.Live) asks ends = ends
  ends_no_usage (Some (mode.Gen seed services pods)) asks ends = absurd (cc)

  none_of : (m : Option Mode) → reads_source m ≡ true → Runs m Usage from to input output → ⊥
  none_of m asks (inl ends) = ends_no_usage m asks ends
  none_of m asks (inr none) = none

  pub no_usage : (m : Option Mode) (status : Status) → reads_source m ≡ true
      → Runs m status from to input output → status ≡ Usage → ⊥
  no_usage m status asks runs usage =
      none_of m asks (subst (λ s. Runs m s from to input output) usage runs)
