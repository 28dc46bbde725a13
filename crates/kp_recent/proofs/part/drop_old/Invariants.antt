use Rattle.std.proofs.Common.{◌≡◌, ◌-◌, ◌++◌, true, take, drop}
use Rattle.kp_recent.specs.Moments.{recent_pairs, AreFalling, AreUpTo}
use Rattle.kp_recent.proofs.part.drop_old.Given as goal

-- what is kept of the last sources stands before the others, and where moments fall along it so far, none
-- of it is newer than the newest
abbrev pub invariant-loop-turn : goal.invariant-loop-turn
invariant-loop-turn l = record {
  turned : l.seen.entries ≡ recent_pairs l.now l.seconds (drop (l._turn-end - l._turn) l.fn.seen.entries) ++ take (l._turn-end - l._turn) l.fn.seen.entries;
  cap : l.seen.cap ≡ l.fn.seen.cap;
  order : l.falling ≡ true → AreFalling (recent_pairs l.now l.seconds (drop (l._turn-end - l._turn) l.fn.seen.entries));
  newest : l.falling ≡ true → AreUpTo l.newest (recent_pairs l.now l.seconds (drop (l._turn-end - l._turn) l.fn.seen.entries));
}
