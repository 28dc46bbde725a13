use Rattle.std.proofs.Common.{◌≡◌, length}
use Rattle.kp_recent.specs.Moments.{recent_pairs, AreFalling}
use Rattle.kp_recent.proofs.part.drop_last_old.Given as goal

-- what is kept of the sources that are left is what is kept of all
abbrev pub invariant-loop-moment : goal.invariant-loop-moment
invariant-loop-moment l = record {
  order : AreFalling l.seen.entries;
  kept : recent_pairs l.now l.seconds l.seen.entries ≡ recent_pairs l.now l.seconds l.fn.seen.entries;
  cap : l.seen.cap ≡ l.fn.seen.cap;
}

abbrev pub decreases-loop-moment : goal.decreases-loop-moment
decreases-loop-moment l = length l.seen.entries
