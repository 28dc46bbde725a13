use Rattle.std.proofs.Common.{sym, ◌∙◌}
use Rattle.kp_recent.proofs.Hinting.{hinted_last}
use Rattle.kp_recent.proofs.part.least_moment.Goals as goal

pub returns-in-Some : goal.returns-in-Some
returns-in-Some c marks hints =
    hinted_last marks c.args.since c.args.seen.now.entries (c.in-Some.field-0-0, c.in-Some.moment)
    (sym c.last_of.ensures.value ∙ c.in-Some.is) c.requires hints
