use Rattle.std.proofs.Common.{◌∙◌, ap, sym}
use Rattle.kp_recent.specs.Moments.{recent, shown_in, sightings_of}
use Rattle.kp_recent.proofs.Shown.{recent_is}
use Rattle.kp_recent.proofs.part.Part.reap.Goals as goal

-- none is too old
pub returns-then-are_recent-clause-sources : goal.returns-then-are_recent-clause-sources
returns-then-are_recent-clause-sources c =
    let es = c.self.inside.seen.entries in
    ap shown_in (sym c.self.view_is)
    ∙ ap sightings_of (sym (c.are_recent.ensures es c.self.invariant.1 c.if-are_recent.true))
    ∙ recent_is c.args.now c.args.seconds es
    ∙ ap (λ s. recent c.args.now c.args.seconds (shown_in s)) c.self.view_is
