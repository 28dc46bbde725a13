use Rattle.std.proofs.Common.{rules}
use Rattle.kp_types.specs.Setting.{config_for}
use Rattle.kp_path_defs.specs.Sources as spec
use Rattle.kp_paths.proofs.FirstOfKinds.{one_seen}
use Rattle.kp_paths.proofs.source_kinds.first_of_kinds.Goals as goal

pub loop-address-preserved : goal.loop-address-preserved
loop-address-preserved c =
    one_seen (spec.same_kind (config_for c.args.family c.args.config.now) c.args.restricted.now)
    c.loop-address.kinds.items c.add_if_new.new.kinds.items c.args.addresses.now
    c.loop-address.address-index c.address-item.result (search rules) c.address-item.is
    c.in_ok-add_if_new.ensures c.loop-address.invariant
