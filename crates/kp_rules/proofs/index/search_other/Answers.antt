use Rattle.std.proofs.Common.{rules, ◌≡◌, true, false, nat_lt, slice_get, ap, sym, ◌∙◌, subst}
use Rattle.std.specs.List.Sorted.{IsNonDecreasingBy, IsPartitionPoint}
use Rattle.std.proofs.lemmas.List.Sorted.{IsPartitionPoint-from_clause, IsPartitionedBy-ltb}
use Rattle.kp_rules.proofs.OtherPlaces.{places_rise, next_other_is}
use Rattle.kp_rules.proofs.index.search_other.Goals as goal

pub returns : goal.returns
returns c list same =
    let rise = subst (IsNonDecreasingBy (λ p. p)) (sym same) (places_rise 0 list) in
    let point = IsPartitionPoint-from_clause (λ p. nat_lt p c.args.from) c.args.others.now c.partition_point-at.result c.partition_point-at.ensures.partitioned (IsPartitionedBy-ltb (λ p. p) c.args.others.now c.args.from rise) (λ a r q k. search rules) in
    c.copied.ensures ∙ c.element.ensures
    ∙ ap (λ ps. slice_get ps c.partition_point-at.result) same
    ∙ next_other_is list c.args.from c.partition_point-at.result (subst (λ ps. IsPartitionPoint (λ p. nat_lt p c.args.from ≡ true) (λ p. nat_lt p c.args.from ≡ false) ps c.partition_point-at.result) same point)
