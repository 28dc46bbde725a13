-- the places so far have their lines, and what is left is that of the others
use Rattle.std.proofs.Common.{◌≡◌, ◌≤◌, ◌^◌, ◌++◌, drop, string_bytes}
use Rattle.kp_types.specs.Setting.{config_for}
use Rattle.kp_path_defs.specs.Chances.{whole}
use Rattle.kp_print.specs.Fronts.{HasFront}
use Rattle.kp_paths.specs.Places.{place_text, places_from}
use Rattle.kp_paths.proofs.paths.push_places.Given as goal

abbrev pub invariant-loop-place : goal.invariant-loop-place
invariant-loop-place g l =
    (l.left ≤ 10 ^ 10)
    × (HasFront l.text l.initial.text
    × (string_bytes l.text
    ++ places_from
    (place_text (config_for l.family (g.S.PortSource.config l.source))
    (g.S.PortSource.infos l.source l.family) l.number l.packet l.translation)
    l.left l.place (drop l.place l.endpoints)
    ≡ string_bytes l.initial.text
    ++ places_from
    (place_text (config_for l.family (g.S.PortSource.config l.source))
    (g.S.PortSource.infos l.source l.family) l.number l.packet l.translation)
    whole 0 l.endpoints))
