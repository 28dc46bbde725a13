use Rattle.std.proofs.Common.{◌≡◌, ℕ, ◌<◌, [], length}
use Rattle.futures.specs.LinkedLists.{IsIn}
use Rattle.kp_links.specs.Lists.{rows_of}
use Rattle.kp_conntrack.specs.Laid.{AreOf, kept_rows, free_rows}
use Rattle.kp_conntrack.proofs.rows.free_order.Given as goal

abbrev pub invariant-loop-row : goal.invariant-loop-row
invariant-loop-row l =
    AreOf l.order 2 l.count
    × (kept_rows l.order ≡ [])
    × (length (free_rows l.order) ≡ l.row)
    × ((list row : ℕ) → IsIn row (rows_of l.order list) → row < l.row)
