use Rattle.std.proofs.Common.{◌≡◌, ◌++◌, [], drop, reverse}
use Rattle.kp_types.specs.Setting.{config_for}
use Rattle.kp_path_defs.specs.Sources as spec
use Rattle.kp_paths.proofs.source_kinds.first_of_kinds.Given as goal

-- those so far, and then those that are behind them
abbrev pub invariant-loop-address : goal.invariant-loop-address
invariant-loop-address l =
    spec.first_of_kinds (spec.same_kind (config_for l.family l.config) l.restricted) [] l.addresses
    ≡ l.kinds.items ++ spec.first_of_kinds (spec.same_kind (config_for l.family l.config) l.restricted)
    (reverse l.kinds.items) (drop l.address-index l.addresses)
