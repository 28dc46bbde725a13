use Rattle.std.proofs.Common.{◌≡◌, ap, subst, arith, length, List}
use Rattle.std.proofs.lemmas.Bool.Decides.{nat_tests}
use mathlib.Core.List.{IsPrefix}
use Rattle.kp_publish.specs.declared.entry.Entry.{Entry}
use Rattle.kp_publish.proofs.Beginnings.{prefix_same}
use Rattle.kp_publish.proofs.front.Front.is_same.Goals as goal

pub returns-clause-same : goal.returns-clause-same
returns-clause-same g c same =
    let both = c.learn.new.self.log in
    let this : IsPrefix c.self.inside.seen.log both = subst (λ (l : List Entry). IsPrefix l both) (ap (λ s. s.log) c.again-both.ensures) c.learn.ensures.2 in
    let counts : c.self.inside.entries ≡ c.other.inside.entries = grind (arith, nat_tests) in
    let long : length c.self.inside.seen.log ≡ length c.other.inside.seen.log = omega (arith, c.self.invariant.0, c.other.invariant.0, counts) in
    rw (← c.self.view_is, ← c.other.view_is) (prefix_same c.self.inside.seen.log c.other.inside.seen.log both this c.learn.ensures.3 long)
