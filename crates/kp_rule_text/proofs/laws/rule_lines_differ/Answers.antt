use Rattle.kp_rule_text.proofs.Rules.{lines_differ}
use Rattle.kp_rule_text.proofs.laws.rule_lines_differ.Goals as goal

pub returns : goal.returns
returns c = lines_differ
