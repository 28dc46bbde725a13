-- To clear what is left now is to clear all from the start.
use Rattle.std.proofs.Common.{◌≡◌, drop}
use Rattle.kp_track_defs.specs.Kept.{without_endpoints}
use Rattle.kp_modes.proofs.tracking.clear_all.Given as goal

abbrev pub invariant-loop-endpoint : goal.invariant-loop-endpoint
invariant-loop-endpoint l =
    without_endpoints (drop l.endpoint-index l.endpoints) l.connections ≡ without_endpoints l.endpoints l.initial.connections
