use Rattle.std.proofs.Common.{◌≡◌, ◌≤◌, vec_len, vec_capacity}
use Rattle.kp_links.specs.Rings.{AreClosed}
use Rattle.kp_links.proofs.links.closed.Given as goal

abbrev pub invariant-loop-place : goal.invariant-loop-place
invariant-loop-place l =
    (vec_len l.links ≡ l.place) × (l.count ≤ vec_capacity l.links) × AreClosed l.links.items l.place
