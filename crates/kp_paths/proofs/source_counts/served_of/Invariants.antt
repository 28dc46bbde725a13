use Rattle.std.proofs.Common.{◌≡◌, filter, not, take}
use Rattle.kp_types.specs.Setting.{config_for}
use Rattle.kp_path_defs.specs.Sources.{is_refused_at}
use Rattle.kp_paths.proofs.source_counts.served_of.Given as goal

-- those of the endpoints so far
abbrev pub invariant-loop-endpoint : goal.invariant-loop-endpoint
invariant-loop-endpoint g l =
    l.served.items ≡ filter (λ e. not (is_refused_at
    (config_for l.family (g.S.PortSource.config l.source)) (g.S.PortSource.infos l.source l.family)
    l.packet e)) (take l.endpoint-index l.endpoints)
