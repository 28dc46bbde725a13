use Rattle.std.proofs.Common.{◌≡◌, take, map}
use Rattle.std.specs.List.{flat_map}
use Rattle.kp_types.specs.Setting.{config_for}
use Rattle.kp_changes.specs.Beside.{bare_infos_at}
use Rattle.kp_changes.proofs.crowd.bare_infos.Given as goal

-- what is known of the ports of the names so far
abbrev pub invariant-loop-name : goal.invariant-loop-name
invariant-loop-name l =
    l.infos.items
    ≡ flat_map (bare_infos_at l.family (config_for l.family l.config) l.objects)
    (map (λ k. k.now) (take l.name-index l.names))
