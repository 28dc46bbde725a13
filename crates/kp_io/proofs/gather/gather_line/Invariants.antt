use Rattle.std.proofs.Common.{◌≡◌, ◌+◌, ◌-◌, ◌≤◌, ◌++◌, true, length}
use Rattle.std.specs.List.{list_any}
use Rattle.kp_io.specs.Gather.{IsPart, part_size, given_from, told_from, LosesRead}
use Rattle.kp_io.specs.Lines.{is_line_feed}
use Rattle.kp_io.specs.Reader.{feeds_up_to, AsksUntilFeed}
use Rattle.kp_io.specs.Told.{FromTold}
use Rattle.kp_io.specs.declared.next_line.TheConstants.{INPUT_LIMIT}
use Rattle.kp_io.proofs.gather.gather_line.Given as goal

-- what is to come is the part, the chunk and what is left, and only the chunk may have a line feed of what was read
abbrev pub invariant-loop-chunk : goal.invariant-loop-chunk
invariant-loop-chunk g l = record {
  part : IsPart l.part;
  room : length l.chunk ≤ l.room;
  kept : FromTold (λ come rest. come ≡ given_from l.part (l.chunk ++ rest)) (told_from l.initial.part l.initial.chunk (g.S.Source.input l.initial.source).left) (g.S.Source.input l.source).left;
  size : part_size l.part + length l.chunk + l.initial.taken ≤ part_size l.initial.part + length l.initial.chunk + l.taken;
  feeds : FromTold (λ xs ys. feeds_up_to INPUT_LIMIT l.initial.chunk l.initial.taken xs ≡ feeds_up_to INPUT_LIMIT l.chunk l.taken ys) (g.S.Source.input l.initial.source).left (g.S.Source.input l.source).left;
  read : FromTold (LosesRead l.initial.taken l.taken l.chunk) (g.S.Source.input l.initial.source).left (g.S.Source.input l.source).left;
  more : l.initial.taken ≤ l.taken;
  most : l.taken ≤ INPUT_LIMIT;
  same : (g.S.Source.input l.source).faults ≡ (g.S.Source.input l.initial.source).faults;
  unasked : list_any is_line_feed l.initial.chunk ≡ true → (l.source ≡ l.initial.source) × (l.chunk ≡ l.initial.chunk);
  asked : AsksUntilFeed g.S.Source.input l.initial.source l.source;
}

-- each turn but the last takes at least one byte
abbrev pub decreases-loop-chunk : goal.decreases-loop-chunk
decreases-loop-chunk g l = INPUT_LIMIT + 1 - l.taken
