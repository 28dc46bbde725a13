use Rattle.std.proofs.Common.{◌≡◌, ◌++◌, map}
use Rattle.std.specs.List.{filter_map}
use Rattle.kp_rules.specs.Changes.{write_at}
use Rattle.kp_rules.proofs.changes.add_writes.Given as goal

-- the writes at the places so far
abbrev pub invariant-loop-at : goal.invariant-loop-at
invariant-loop-at l = l.edits.items ≡ l.fn.edits.items ++ filter_map (write_at l.before.chains l.after.chains l.table) (map (λ p. p.now) l.yielded)
