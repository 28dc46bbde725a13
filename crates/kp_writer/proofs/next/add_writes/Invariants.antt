use Rattle.std.proofs.Common.{◌≡◌, ◌++◌, map}
use Rattle.std.specs.List.{filter_map}
use Rattle.std.specs.Map.Iter.{deref_pair}
use Rattle.kp_writer.specs.Next.{write_of}
use Rattle.kp_writer.proofs.next.add_writes.Given as goal

-- the writes at the places so far
abbrev pub invariant-loop-at : goal.invariant-loop-at
invariant-loop-at l =
    l.edits.items
    ≡ l.fn.edits.items ++ filter_map (write_of l.before.chains l.table) (map deref_pair l.yielded)
