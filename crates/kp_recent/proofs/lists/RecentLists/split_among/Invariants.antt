use Rattle.std.proofs.Common.{◌≡◌, length}
use Rattle.kp_recent.specs.Shelves.{AreCut, HasOf, is_after}
use Rattle.kp_recent.proofs.lists.RecentLists.split_among.Given as goal

-- the first parts went to the values
abbrev pub invariant-loop-part : goal.invariant-loop-part
invariant-loop-part l = record {
  own : HasOf (is_after l.part) l.fn.self l.self;
  cut : AreCut l.part l.count l.fn.self l.values.items;
  long : length l.values.items ≡ l.count;
}
