use Rattle.std.proofs.Common.{◌≡◌, ◌++◌, drop, length}
use Rattle.kp_chains.specs.Named.{choices}
use Rattle.kp_chains.proofs.lists.add_choices.Given as goal

-- the rules so far and those for the endpoints that are left are all rules
abbrev pub invariant-loop-endpoint : goal.invariant-loop-endpoint
invariant-loop-endpoint l = record {
  rules : l.rules.items ++ choices (drop l.endpoint-index l.endpoints) ≡ l.fn.rules.items ++ choices l.endpoints;
  left : l.left ≡ length (drop l.endpoint-index l.endpoints);
}
