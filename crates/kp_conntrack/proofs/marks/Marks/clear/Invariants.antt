use Rattle.std.proofs.Common.{◌≡◌, ℕ, ◌<◌, false, length}
use Rattle.kp_conntrack.specs.Marked.{is_marked}
use Rattle.kp_conntrack.proofs.marks.Marks.clear.Given as goal

abbrev pub invariant-loop-row : goal.invariant-loop-row
invariant-loop-row l =
    (length l.self-inside.marks.items ≡ 65536) × ((other : ℕ) → other < l.row → is_marked l.self-inside.marks.items other ≡ false)
