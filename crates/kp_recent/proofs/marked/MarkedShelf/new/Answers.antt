use Rattle.std.specs.Int.NonZero.{non_zero_usize_get}
use Rattle.kp_recent.proofs.Marking.{covered_none}
use Rattle.kp_recent.proofs.marked.MarkedShelf.new.Goals as goal

pub invariant_of-result : goal.invariant_of-result
invariant_of-result c =
    covered_none c.none.result c.new.result (non_zero_usize_get c.args.size) c.new.ensures
