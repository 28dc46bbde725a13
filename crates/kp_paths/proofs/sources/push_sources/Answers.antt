use Rattle.std.proofs.Common.{rules, sym, subst}
use Rattle.kp_types.specs.Setting.{config_for}
use Rattle.kp_decide.specs.Enough.{AreEnough}
use Rattle.kp_paths.specs.SourceWords.{AreEnoughOfBoth, by_origin, from_elsewhere}
use Rattle.kp_paths.proofs.EnoughOfBoth.{of_both}
use Rattle.kp_paths.proofs.sources.push_sources.Goals as goal

pub push_kinds-requires-clause-rows : goal.push_kinds-requires-clause-rows
push_kinds-requires-clause-rows g c =
    let config = config_for c.args.family (g.S.PortSource.config c.args.source.now) in
    let all = g.S.PortSource.infos c.args.source.now c.args.family in
    let packet = c.args.packet.now in
    let own = g.S.Row.PortRow.infos c.args.ports.now in
    let other = g.S.Row.PortRow.infos c.in_ok-other.other in
    let elsewhere : AreEnough config (from_elsewhere packet) other all = search rules in
    subst (λ w. AreEnoughOfBoth config packet w (g.S.Row.PortRow.infos c.rows_of-rows.result.node.now) all)
    (sym c.rows_of-rows.ensures.wire)
    (subst (λ n. AreEnoughOfBoth config packet (by_origin packet.from own other) n all)
    (sym c.rows_of-rows.ensures.node)
    (of_both config all packet own other c.requires.enough elsewhere))
