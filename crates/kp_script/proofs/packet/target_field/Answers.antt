use Rattle.std.proofs.Common.{rules, codes}
use Rattle.kp_json.specs.Views.{place_of}
use Rattle.kp_script.proofs.Alike.{read_alike}
use Rattle.kp_script.proofs.packet.target_field.Goals as goal

pub returns : goal.returns
returns c =
    read_alike (codes "dst") (codes "src") (place_of c.args.spot.now)
    (place_of c.in_ok-member.member) c.args.source c.in_ok-target.target c.requires
    c.in_ok-member.ensures.there c.in_ok-target.ensures.1 (search rules)
