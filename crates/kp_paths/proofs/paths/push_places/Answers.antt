use Rattle.std.proofs.Common.{◌++◌, string_bytes, arith}
use Rattle.kp_types.specs.Setting.{config_for}
use Rattle.kp_report.proofs.Pieces.{two_added}
use Rattle.kp_paths.specs.Places.{place_text, places_from}
use Rattle.kp_path_defs.specs.Chances.{whole}
use Rattle.kp_paths.proofs.Places.{one_place}
use Rattle.kp_paths.proofs.paths.push_places.Goals as goal

pub loop-place-preserved : goal.loop-place-preserved
loop-place-preserved g c =
    let config = config_for c.args.family (g.S.PortSource.config c.args.source.now) in
    let infos = g.S.PortSource.infos c.args.source.now c.args.family in
    let line = place_text config infos c.args.number c.args.packet.now c.args.translation.now in
    let old = string_bytes c.loop-place.text in
    let new = string_bytes c.push_place.new.text in
    let before = string_bytes c.args.text.now in
    let front = c.loop-place.invariant.1.0 in
    let added = c.in_ok-push_place.ensures.added in
    let place = c.loop-place.place in
    let chance = c.chance_at-chance.result in
    let e = c.index-endpoints-place.result in
    let all = c.args.endpoints.now in (
      omega (arith, c.saturating_sub-left.ensures, c.loop-place.invariant.0),
      (
        (
          front.0 ++ line chance place e,
          two_added before old new front.0 (line chance place e) front.1 added,
        ),
        one_place line all old new (before ++ places_from line whole 0 all) c.loop-place.left chance
            c.saturating_sub-left.result place e (omega (arith, c.loop-place-test.true))
            c.index-endpoints-place.is c.chance_at-chance.ensures c.saturating_sub-left.ensures added
            c.loop-place.invariant.1.1,
      ),
    )
