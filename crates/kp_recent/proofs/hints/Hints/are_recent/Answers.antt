use Rattle.std.proofs.Common.{◌∙◌, nat_le, sym, ap}
use Rattle.kp_recent.proofs.Hinting.{all_recent}
use Rattle.kp_recent.proofs.hints.Hints.are_recent.Goals as goal

pub returns : goal.returns
returns c ss hints is =
    all_recent c.args.self.now.marks c.args.self.now.since c.args.now c.args.seconds ss hints
    (ap (λ n. nat_le n c.args.seconds) (sym c.saturating_sub.ensures) ∙ is)
