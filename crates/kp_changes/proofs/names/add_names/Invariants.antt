use Rattle.std.proofs.Common.{◌≡◌, ◌++◌, take, map}
use Rattle.kp_changes.proofs.names.add_names.Given as goal

-- the names of the ports so far are added
abbrev pub invariant-loop-port : goal.invariant-loop-port
invariant-loop-port l =
    l.names.items ≡ l.initial.names.items ++ map (λ d. d.key) (take l.port-index l.dirty)
