use Rattle.std.proofs.Common.{◌≡◌, ◌++◌, map}
use Rattle.kp_gate.proofs.hold.HoldGate.new.Given as goal

-- the holds that are watched are those before the ones that are left
abbrev pub invariant-loop-hold : goal.invariant-loop-hold
invariant-loop-hold l = map (λ w. w.hold) l.watched.items ++ l.hold-iterator.rest.items ≡ l.fn.holds
