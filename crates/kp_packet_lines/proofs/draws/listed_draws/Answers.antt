use Rattle.std.proofs.Common.{◌≡◌, ◌≤◌, codes, length, Some, option_map, sym, ap, ◌∙◌, arith}
use Rattle.serde_json.specs.Data.{array}
use Rattle.serde_json.specs.Find.{get_member}
use Rattle.kp_packet_lines.specs.Plain.{members_in, plain_data, whole_items}
use Rattle.kp_packet_lines.specs.declared.object.Plain.TheVariants.{Numbers}
use Rattle.kp_packet_lines.proofs.Drawn.{all_drawn}
use Rattle.kp_packet_lines.proofs.draws.listed_draws.Goals as goal

pub returns-in-Some-Numbers : goal.returns-in-Some-Numbers
returns-in-Some-Numbers c =
    let ms = members_in c.args.object in
    let list = c.in-Some-Numbers.list in
    let whole : c.into_member.result ≡ Some (Numbers list) = grind arith in
    let found : get_member (codes "draws") ms ≡ Some (array (whole_items list.numbers)) = sym c.into_member.ensures ∙ ap (option_map plain_data) whole in
    let few : length list.numbers ≤ 1000 = grind arith in
    all_drawn ms list.numbers found list.low few
