use Rattle.std.proofs.Common.{◌≡◌, filter, length}
use Rattle.kp_track_defs.specs.Entries.{is_within}
use Rattle.kp_conntrack.specs.Laid.{IsLaid, entries_in, kept_rows}
use Rattle.kp_conntrack.proofs.rows.drop_dead.Given as goal

abbrev pub invariant-loop-row : goal.invariant-loop-row
invariant-loop-row l =
    IsLaid l.rows l.order l.index l.now
    × (filter (is_within l.now) (entries_in l.rows l.order) ≡ filter (is_within l.now) (entries_in l.rows l.fn.order))

abbrev pub decreases-loop-row : goal.decreases-loop-row
decreases-loop-row l = length (kept_rows l.order)
