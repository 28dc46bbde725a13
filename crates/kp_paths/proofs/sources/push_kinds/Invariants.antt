use Rattle.std.proofs.Common.{◌≡◌, ◌++◌, flat_map, string_bytes, take}
use Rattle.kp_types.specs.Setting.{config_for}
use Rattle.kp_path_defs.specs.PathText.{source_text}
use Rattle.kp_path_defs.specs.Sources as spec
use Rattle.kp_paths.proofs.sources.push_kinds.Given as goal

-- the lines of the kinds so far are added
abbrev pub invariant-loop-kind : goal.invariant-loop-kind
invariant-loop-kind g l =
    string_bytes l.text ≡ string_bytes l.initial.text ++ flat_map (source_text l.number)
    (flat_map (spec.source_at (config_for l.family (g.S.PortSource.config l.source))
    (g.S.PortSource.infos l.source l.family) l.packet l.restricted)
    (take l.kind-index l.kinds))
