use Rattle.std.proofs.Common.{◌≡◌, ◌++◌, take}
use Rattle.kp_names.specs.Quantum.{quantum_text_at}
use Rattle.kp_names.proofs.base32.push_quantum.Given as goal

-- the characters so far were appended
abbrev pub invariant-loop-place : goal.invariant-loop-place
invariant-loop-place l = l.text.bytes ≡ l.fn.text.bytes ++ take l.place (quantum_text_at l.bytes l.at)
