use Rattle.std.proofs.Common.{rules, ◌≡◌, ◌+◌, ◌∙◌, ap, count_by, nat_le, sym}
use Rattle.kp_base.specs.Net.{range_contains}
use Rattle.kp_paths.specs.SourceEnds.{count_to, firsts_in, pasts_in}
use Rattle.kp_paths.proofs.RangeEnds.{by_all_ends}
use Rattle.kp_paths.proofs.source_kinds.restricted_by.Goals as goal

pub invariant_of-result : goal.invariant_of-result
invariant_of-result c =
    let family = c.args.family in
    let ranges = c.args.ranges.now in
    let firsts : c.in_ok-firsts_in.field-0.items ≡ firsts_in family ranges = search rules in
    let pasts : c.in_ok-pasts_in.field-0.items ≡ pasts_in family ranges = search rules in
    record {
      firsts_rise = c.in_order-firsts.ensures.rises;
      pasts_rise = c.in_order-pasts.ensures.rises;
      counted = λ n within.
          c.in_order-firsts.ensures.same (λ m. nat_le m n)
          ∙ ap (count_to n) firsts
          ∙ by_all_ends n family within ranges
          ∙ ap (λ k. k + count_by (λ r. range_contains r (record { family = family; number = n })) ranges)
          (sym (c.in_order-pasts.ensures.same (λ m. nat_le m n) ∙ ap (count_to n) pasts));
    }
