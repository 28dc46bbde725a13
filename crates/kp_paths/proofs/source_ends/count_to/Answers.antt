use Rattle.std.proofs.Common.{rules, ℕ, Bool, nat_le, sym}
use Rattle.std.proofs.lemmas.List.Sorted.{IsPartitionPoint-from_clause, IsPartitionedBy-leb}
use Rattle.kp_paths.proofs.RangeEnds.{parted_counts}
use Rattle.kp_paths.proofs.source_ends.count_to.Goals as goal

pub returns : goal.returns
returns c =
    let test : ℕ → Bool = λ m. nat_le m c.args.number in
    let at = c.partition_point.result in
    let point = IsPartitionPoint-from_clause test c.args.numbers.now at
    c.partition_point.ensures.partitioned (IsPartitionedBy-leb (λ m. m) c.args.numbers.now c.args.number c.requires)
    (λ a r q k. search rules) in
    sym (parted_counts test c.args.numbers.now at c.partition_point.ensures.bound point)
