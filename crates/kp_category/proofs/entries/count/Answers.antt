use Rattle.std.proofs.Common.{sym, ◌∙◌}
use Rattle.kp_category.proofs.Counting.{counted_in}
use Rattle.kp_category.proofs.entries.count.Goals as goal

pub returns-in_ok-insert : goal.returns-in_ok-insert
returns-in_ok-insert c =
    counted_in c.args.counted.now.entries c.insert.new.self.entries c.args.candidate (sym c.counts.ensures ∙ c.if-counts.true) c.in_ok-insert.ensures.entries
