use Rattle.std.proofs.Common.{◌/◌, length, nat_le, ap, sym, ◌∙◌}
use Rattle.std.proofs.lemmas.Bool.{ltb-true}
use Rattle.kp_recent.proofs.Marking.{all_young, found_at}
use Rattle.kp_recent.proofs.marks.Marks.are_young.Goals as goal

pub returns-in-Some : goal.returns-in-Some
returns-in-Some c list ss column marked young =
    let moments = c.deref.result.now in
    let since = c.in-Some.since.now in
    let place = c.args.column / 8 in
    all_young c.args.self.now list c.args.now c.args.seconds since
    (found_at moments c.args.self.now.since.items place _ since c.deref.ensures.value
    (ap (λ n. n / 8) column) (ltb-true place (length moments) (sym c.in-Some.ensures.lookup.0))
    c.in-Some.ensures.lookup.1)
    (ap (λ n. nat_le n c.args.seconds) (sym c.saturating_sub.ensures) ∙ young) ss marked
