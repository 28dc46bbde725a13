use Rattle.std.proofs.Common.{◌≡◌, length}
use Rattle.kp_recent.specs.Shelves.{AreLeft, HasFirst}
use Rattle.kp_recent.proofs.lists.RecentLists.unite.Given as goal

-- the first parts came from the values
abbrev pub invariant-loop-part : goal.invariant-loop-part
invariant-loop-part l = record {
  own : HasFirst l.part l.initial.values.items l.fn.self l.self;
  left : AreLeft l.part l.fn.self.size l.initial.values.items l.values.items;
  long : length l.values.items ≡ length l.initial.values.items;
}
