use Rattle.std.proofs.Common.{◌∙◌, sym, ap}
use Rattle.kp_recent.specs.Moments.{has_recent, shown_in}
use Rattle.kp_recent.proofs.part.Part.is_live.Goals as goal

pub returns-else-may_have : goal.returns-else-may_have
returns-else-may_have c =
    sym (c.may_have.ensures c.self.inside.seen.entries c.args.now c.args.seconds c.self.invariant.1
    c.if-may_have.false)
    ∙ ap (λ p. has_recent c.args.now c.args.seconds c.args.source.now (shown_in p)) c.self.view_is
