use Rattle.std.proofs.Common.{◌≡◌, ◌+◌, length, filter, ap, sym, ◌∙◌, refl, arith}
use Rattle.std.proofs.lemmas.List.Filters.{length-filter_both}
use Rattle.kp_changes.specs.Neighbours.{is_other, is_same}
use Rattle.kp_changes.proofs.beside.more_others.Goals as goal

pub returns-then-crowd-le-NAMED : goal.returns-then-crowd-le-NAMED
returns-then-crowd-le-NAMED c =
    let d = c.args.door.now in
    let crowd = c.args.crowd.now in
    let split : length (filter (is_same d) crowd) + length (filter (is_other d) crowd)
    ≡ length crowd = length-filter_both (is_same d) (is_other d) (λ n. refl) crowd in
    omega (arith, split, c.if-crowd-le-NAMED.true)

pub returns : goal.returns
returns c =
    let d = c.args.door.now in
    let crowd = c.args.crowd.now in
    let split : length (filter (is_same d) crowd) + length (filter (is_other d) crowd)
    ≡ length crowd = length-filter_both (is_same d) (is_other d) (λ n. refl) crowd in
    let own : c.in_ok-own.own ≡ length (filter (is_same d) crowd) =
    c.in_ok-own.ensures ∙ ap (λ ns. length (filter (is_same d) ns)) (sym c.requires.there.doors) in
    omega (arith, split, own)
