use Rattle.std.proofs.Common.{cond}
use Rattle.std.proofs.lemmas.List.Sorted.{IsNonDecreasingBy-from_sort, sum_by-IsPermutation}
use Rattle.kp_paths.proofs.source_ends.in_order.Goals as goal

pub returns-clause-rises : goal.returns-clause-rises
returns-clause-rises c =
    IsNonDecreasingBy-from_sort (λ m. m) c.sort_unstable.new.self.items c.sort_unstable.ensures.sorted

pub returns-clause-same : goal.returns-clause-same
returns-clause-same c test =
    sum_by-IsPermutation (λ m. cond (test m) 1 0) c.args.numbers.items
    c.sort_unstable.new.self.items c.sort_unstable.ensures.permutation
