-- The entries so far were copied.
use Rattle.std.proofs.Common.{◌≡◌, map, take}
use Rattle.kp_packer.specs.Views.{shown}
use Rattle.kp_packer.proofs.names.entries_of.Given as goal

abbrev pub invariant-loop-endpoint : goal.invariant-loop-endpoint
invariant-loop-endpoint l = l.entries.items ≡ map (λ w. w.entry) (shown (take l.endpoint-index l.wanted))
