use Rattle.std.proofs.Common.{◌∙◌, ap}
use Rattle.kp_recent.specs.Moments.{recent, shown_in}
use Rattle.kp_recent.proofs.Falling.{falling_filter}
use Rattle.kp_recent.proofs.Hinting.{hinted_filter}
use Rattle.kp_recent.proofs.Shown.{recent_is}
use Rattle.kp_recent.proofs.part.Part.drop_past.Goals as goal

-- moments go on falling along what is kept, and hints hold of it
pub least_moment-self-inside-requires : goal.least_moment-self-inside-requires
least_moment-self-inside-requires c =
    rw c.drop_last_old.ensures (falling_filter _ c.self.inside.seen.entries (c.self.invariant.0 c.if-self.true))

pub invariant_of-self : goal.invariant_of-self
invariant_of-self c = (
  λ h. rw c.drop_last_old.ensures (falling_filter _ c.self.inside.seen.entries (c.self.invariant.0 h)),
  c.least_moment-self-inside.ensures c.self.inside.hints.marks
      (rw c.drop_last_old.ensures
      (hinted_filter c.self.inside.hints.marks c.self.inside.hints.since _ c.self.inside.seen.entries c.self.invariant.1)),
)

pub invariant_of-self-else-self : goal.invariant_of-self-else-self
invariant_of-self-else-self c = (
  c.drop_old-self-inside.ensures.falling,
  rw c.drop_old-self-inside.ensures.entries
      (hinted_filter c.self.inside.hints.marks c.self.inside.hints.since _ c.self.inside.seen.entries c.self.invariant.1),
)

pub returns-then-self-clause-sources : goal.returns-then-self-clause-sources
returns-then-self-clause-sources c =
    ap shown_in c.drop_last_old.ensures
    ∙ recent_is c.args.now c.args.seconds c.self.inside.seen.entries
    ∙ ap (λ s. recent c.args.now c.args.seconds (shown_in s)) c.self.view_is

pub returns-else-self-clause-sources : goal.returns-else-self-clause-sources
returns-else-self-clause-sources c =
    ap shown_in c.drop_old-self-inside.ensures.entries
    ∙ recent_is c.args.now c.args.seconds c.self.inside.seen.entries
    ∙ ap (λ s. recent c.args.now c.args.seconds (shown_in s)) c.self.view_is
