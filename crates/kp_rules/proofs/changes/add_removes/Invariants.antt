use Rattle.std.proofs.Common.{◌≡◌, ◌++◌, map}
use Rattle.std.specs.List.{filter_map}
use Rattle.kp_rules.specs.Changes.{remove_at}
use Rattle.kp_rules.proofs.changes.add_removes.Given as goal

-- the removes at the places so far
abbrev pub invariant-loop-at : goal.invariant-loop-at
invariant-loop-at l = l.edits.items ≡ l.fn.edits.items ++ filter_map (remove_at l.after.chains l.table) (map (λ p. p.now) l.yielded)
