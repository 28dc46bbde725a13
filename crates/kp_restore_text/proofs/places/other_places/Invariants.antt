use Rattle.std.proofs.Common.{◌≡◌, map}
use Rattle.std.specs.List.{filter}
use Rattle.kp_restore_text.specs.Printed.{is_other}
use Rattle.kp_restore_text.proofs.places.other_places.Given as goal

-- the places so far
abbrev pub invariant-loop-at : goal.invariant-loop-at
invariant-loop-at l = l.places.items ≡ filter (is_other l.which) (map (λ p. p.now) l.yielded)
