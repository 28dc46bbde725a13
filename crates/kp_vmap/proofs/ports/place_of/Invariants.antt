use Rattle.std.proofs.Common.{◌≡◌, ◌+◌, ◌-◌, ◌≤◌, drop, length}
use Rattle.kp_vmap.specs.Places.{place_in}
use Rattle.kp_vmap.proofs.ports.place_of.Given as goal

-- the ports so far have names before this one
abbrev pub invariant-loop-place : goal.invariant-loop-place
invariant-loop-place l = record {
  within : l.place ≤ length l.ports;
  place : place_in l.key l.ports ≡ l.place + place_in l.key (drop l.place l.ports);
}

abbrev pub decreases-loop-place : goal.decreases-loop-place
decreases-loop-place l = length l.ports - l.place
