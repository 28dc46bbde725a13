use Rattle.std.proofs.Common.{◌≡◌, drop, sym, ap, ◌∙◌}
use Rattle.kp_publish.specs.Pending.{after, newest_of}
use Rattle.kp_publish.proofs.Fitting.{fits_end}
use Rattle.kp_publish.proofs.copies.Copies+J+Shown+J+Addition+J.end.Goals as goal

pub invariant_of-self : goal.invariant_of-self
invariant_of-self g c =
    let p = c.self.inside in
    let w = p.writer in
    let whole : p.published ≡ p.newest = ap (λ k. k.published) c.self.view_is ∙ (c.requires.whole ∙ sym (ap (λ k. k.newest) c.self.view_is)) in
    fits_end p.published p.newest w.desk.shown.value (newest_of after w.desk.shown.value (drop w.behind w.log.items) p.held) c.again.result c.with_end-end.result c.self.invariant whole c.again.ensures c.with_end-end.ensures
