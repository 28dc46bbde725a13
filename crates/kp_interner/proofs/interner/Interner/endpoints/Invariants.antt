-- The endpoints so far.
use Rattle.std.proofs.Common.{◌≡◌, take}
use Rattle.kp_interner.proofs.interner.Interner.endpoints.Given as goal

abbrev pub invariant-loop-endpoint : goal.invariant-loop-endpoint
invariant-loop-endpoint l = l.same.items ≡ take l.endpoint-index l.endpoints
