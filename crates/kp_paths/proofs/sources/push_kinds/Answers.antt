use Rattle.std.proofs.Common.{rules, string_bytes}
use Rattle.kp_types.specs.Setting.{config_for}
use Rattle.kp_path_defs.specs.PathText.{source_text}
use Rattle.kp_path_defs.specs.Sources.{source_at}
use Rattle.kp_paths.proofs.AddedMore.{added_more}
use Rattle.kp_paths.proofs.sources.push_kinds.Goals as goal

pub loop-kind-preserved : goal.loop-kind-preserved
loop-kind-preserved g c =
    added_more (source_text c.args.number)
    (source_at (config_for c.args.family (g.S.PortSource.config c.args.source.now))
    (g.S.PortSource.infos c.args.source.now c.args.family) c.args.packet.now c.args.restricted.now)
    c.args.kinds.now c.loop-kind.kind-index c.kind-item.result (search rules) c.kind-item.is
    (string_bytes c.args.text.now) (string_bytes c.loop-kind.text) (string_bytes c.push_kind.new.text)
    c.loop-kind.invariant c.in_ok-push_kind.ensures.text
