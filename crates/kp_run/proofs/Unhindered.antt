-- How a run ends that nothing hinders: each other end needs a hindrance.
use Rattle.std.proofs.Common.{ℕ, Bool, List, Some, inl, inr, refl}
use Rattle.kp_io.specs.Ends.{Input, Output}
use Rattle.kp_gen_defs.specs.declared.plan.ScriptPlan.{ScriptPlan}
use Rattle.kp_mode_defs.specs.Summing.{gen_of, gen_text}
use Rattle.kp_modes.specs.Mapping.{mapping}
use Rattle.kp_modes.specs.Modes.{changing, healthy}
use Rattle.kp_modes.specs.Paths.{pathing}
use Rattle.kp_track_mode_defs.specs.TrackMode.{tracking}
use Rattle.kp_words.specs.declared.mode.Mode.{Mode}
use Rattle.kp_words.specs.declared.mode.Mode.TheVariants as mode
use Rattle.kp_run.specs.Complete.{EndsByLines, IsUnhindered, UnhinderedRunsEndByLines}
use Rattle.kp_run.specs.Outcome.{EndsBy, EndsLine, EndsLive, EndsOf, IsUnbegun}
use Rattle.kp_run.specs.Texts.{Texts, in_mode, replayed}
use Rattle.kp_run.specs.declared.status.Status.{Status}
use Rattle.kp_run.specs.declared.status.Status.TheVariants.{Done, NoMemory, Usage, LinesRefused, ReadFault, WriteFault, InputTooLong}

module _ {from : Input} {to : Output} {input : Input} {output : Output}
    (free : IsUnhindered from to input output) where
  by_text : (t : Texts) (status : Status) → EndsOf t status from to input output → EndsByLines status
  by_text t Done ends = inl refl
  by_text t LinesRefused ends = inr (inl refl)
  by_text t (NoMemory refused) ends = inr (inr (refused, refl))
  by_text t Usage ends = absurd ends
  by_text t ReadFault ends = absurd (free.read ends.0)
  by_text t WriteFault ends = absurd (free.written ends.0)
  by_text t InputTooLong ends = absurd (free.short ends.0)

  by_live : (status : Status) → EndsLive status from to input output → EndsByLines status
  by_live Done ends = inl refl
  by_live LinesRefused ends = inr (inl refl)
  by_live (NoMemory refused) ends = inr (inr (refused, refl))
  by_live Usage ends = absurd ends
  by_live ReadFault ends = absurd (free.read ends.0)
  by_live WriteFault ends = absurd (free.written ends.0)
  by_live InputTooLong ends = absurd (free.short ends.0)

  by_script : (refused : Bool) (line : List ℕ) (status : Status)
      → EndsLine refused line status to output → EndsByLines status
  by_script refused line Done ends = inl refl
  by_script refused line LinesRefused ends = inr (inl refl)
  by_script refused line (NoMemory wanted) ends = inr (inr (wanted, refl))
  by_script refused line Usage ends = absurd ends
  by_script refused line ReadFault ends = absurd ends
  by_script refused line WriteFault ends = absurd (free.written ends.0)
  by_script refused line InputTooLong ends = absurd ends

by_words : (mode : Mode) (status : Status) {from : Input} {to : Output} {input : Input} {output : Output}
    → IsUnhindered from to input output → EndsBy (Some mode) status from to input output
    → EndsByLines status
by_words (mode.Replay workers) status free ends = by_text free replayed status ends
by_words mode.Changes status free ends = by_text free (in_mode changing) status ends
by_words mode.Health status free ends = by_text free (in_mode healthy) status ends
by_words mode.Track status free ends = by_text free (in_mode tracking) status ends
by_words mode.Vmap status free ends = by_text free (in_mode mapping) status ends
by_words mode.Paths status free ends = by_text free (in_mode pathing) status ends
by_words mode.Live status free ends = by_live free status ends
by_words (mode.Gen seed services pods) status free ends =
    let plan : ScriptPlan = record { seed = seed; services = services; pods = pods } in
    by_script free (gen_of plan).at.standing.refused (gen_text plan) status ends

by_want : (status : Status) (from : Input) (to : Output) (input : Input) (output : Output)
    → IsUnbegun status from to input output → EndsByLines status
by_want (NoMemory refused) from to input output none = inr (inr (refused, refl))
by_want Done from to input output none = absurd none
by_want LinesRefused from to input output none = absurd none
by_want Usage from to input output none = absurd none
by_want ReadFault from to input output none = absurd none
by_want WriteFault from to input output none = absurd none
by_want InputTooLong from to input output none = absurd none

pub unhindered : UnhinderedRunsEndByLines
unhindered mode status from to input output (inl ends) free = by_words mode status free ends
unhindered mode status from to input output (inr none) free = by_want status from to input output none
