use Rattle.std.proofs.Common.{ap, ◌∙◌}
use Rattle.std.specs.Int.NonZero.{non_zero_usize_get}
use Rattle.kp_part_laws.specs.Beside.{united}
use Rattle.kp_recent.specs.Shelves.{shelf_of}
use Rattle.kp_recent.proofs.Shelves.{no_shelves}
use Rattle.kp_recent.proofs.lists.RecentLists.of_size.Goals as goal

pub returns : goal.returns
returns c =
    let size = non_zero_usize_get c.args.size in
    ap (united shelf_of size) c.in_ok-shelves.ensures ∙ no_shelves size
