use Rattle.std.proofs.Common.{◌≤◌, ap, subst, arith, length, List}
use Rattle.std.proofs.lemmas.Bool.Decides.{nat_tests}
use mathlib.Core.List.{IsPrefix}
use Rattle.kp_publish.specs.declared.entry.Entry.{Entry}
use Rattle.kp_publish.specs.Entries.{records_of}
use Rattle.kp_publish.proofs.Beginnings.{goes_on}
use Rattle.kp_publish.proofs.front.Front.goes_on_from.Goals as goal

pub returns-clause-goes_on : goal.returns-clause-goes_on
returns-clause-goes_on g c long =
    let both = c.learn.new.self.log in
    let this : IsPrefix c.self.inside.seen.log both = subst (λ (l : List Entry). IsPrefix l both) (ap (λ s. s.log) c.again-both.ensures) c.learn.ensures.2 in
    let counts : c.other.inside.records ≤ c.self.inside.records = grind (arith, nat_tests) in
    let less : length (records_of c.other.inside.seen.log) ≤ length (records_of c.self.inside.seen.log) = omega (arith, c.self.invariant.1, c.other.invariant.1, counts) in
    rw (← c.self.view_is, ← c.other.view_is) (goes_on c.self.inside.seen.log c.other.inside.seen.log both this c.learn.ensures.3 less)
