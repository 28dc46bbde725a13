use Rattle.std.proofs.Common.{rules, ◌≡◌, ◌<◌, ◌^◌, ◌==◌, ◌∙◌, nat_lt, not, true, arith}
use Rattle.std.specs.List.{list_any}
use Rattle.std.proofs.lemmas.Bool.Decides.{nat_tests}
use Rattle.kp_base.specs.Net.{range_contains, same_family, width}
use Rattle.kp_paths.specs.SourceEnds.{count_to}
use Rattle.kp_paths.proofs.RangeEnds.{one_family, some_has}
use Rattle.kp_paths.proofs.source_kinds.is_within.Goals as goal

pub returns-then-is_number_of : goal.returns-then-is_number_of
returns-then-is_number_of c =
    let inside = c.restricted.inside in
    let n = c.args.address.now.number in
    let test : nat_lt n (2 ^ width inside.family) ≡ true = search rules in
    let within : n < 2 ^ width inside.family = grind (arith, nat_tests) in
    let same : same_family inside.family c.args.address.now.family ≡ true = search rules in
    let family : inside.family ≡ c.args.address.now.family = one_family _ _ same in
    let began : c.count_to.result ≡ count_to n inside.firsts.items = search rules in
    let ended : c.count_to-then-is_number_of.result ≡ count_to n inside.pasts.items = search rules in
    (λ i. not (began i == ended i))
    ∙ some_has inside.family n inside.ranges.now inside.firsts.items inside.pasts.items
    (c.restricted.invariant.counted n within)
    ∙ (λ i. list_any (λ r. range_contains r (record { family = family i; number = n })) (c.restricted.view_is i).ranges)
