use Rattle.std.specs.Prelude.{refl}
use Rattle.std.specs.Fmt.{digits}
use Rattle.std.specs.Net.Text.{hex, hex_groups_text}
use Rattle.kp_rule_text.proofs.laws.worked_lines.Goals as goal

pub returns-clause-from_outside : goal.returns-clause-from_outside
unfolding digits
returns-clause-from_outside c = refl

pub returns-clause-to_node : goal.returns-clause-to_node
unfolding digits
returns-clause-to_node c = refl

pub returns-clause-seen_of_late : goal.returns-clause-seen_of_late
unfolding digits
returns-clause-seen_of_late c = refl

pub returns-clause-to_endpoint : goal.returns-clause-to_endpoint
unfolding digits
returns-clause-to_endpoint c = refl

pub returns-clause-to_ipv6_endpoint : goal.returns-clause-to_ipv6_endpoint
unfolding digits hex hex_groups_text
returns-clause-to_ipv6_endpoint c = refl

pub returns-clause-rejected : goal.returns-clause-rejected
unfolding digits
returns-clause-rejected c = refl
