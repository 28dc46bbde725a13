-- The set has the names so far.
use Rattle.std.proofs.Common.{◌≡◌, ℕ, List, bytes_eq, take}
use Rattle.std.specs.List.{list_any}
use Rattle.kp_packer.proofs.names.add_names.Given as goal

abbrev pub invariant-loop-name : goal.invariant-loop-name
invariant-loop-name l =
    (name : List ℕ) → list_any (bytes_eq name) l.set.keys ≡ list_any (bytes_eq name) (take l.name-index l.names)
