-- What a gate for tests was made with (this project's choice).
use Rattle.std.specs.Prelude.{ℕ, List, map}
use Rattle.kp_gate.specs.declared.hold.Hold.{Hold}
use Rattle.kp_gate.specs.declared.hold.HoldGate.{HoldGate}

-- the holds of a gate
abbrev pub holds_of : HoldGate → List Hold
holds_of gate = map (λ w. w.hold) gate.watched

-- how many turns each of them has
abbrev pub turns_of : HoldGate → ℕ
turns_of gate = gate.turns
