use Rattle.std.proofs.Common.{sym, ap, ◌∙◌}
use Rattle.std.proofs.lemmas.Option.{none-some, IfSome_then}
use Rattle.kp_rule_text.specs.Reading.{rule_of_line}
use Rattle.kp_rule_text.proofs.Rules.{line_read, same_line}
use Rattle.kp_rule_text.proofs.read.read_rule.Goals as goal

pub returns-clause-chain : goal.returns-clause-chain
returns-clause-chain c = IfSome_then c.rule_of_line.result (same_line c.args.family c.args.line.now c.rule_of_line.result c.rule_of_line.ensures) (λ r h. h.0)

pub returns-clause-rule : goal.returns-clause-rule
returns-clause-rule c = IfSome_then c.rule_of_line.result (same_line c.args.family c.args.line.now c.rule_of_line.result c.rule_of_line.ensures) (λ r h. h.1)

pub returns-clause-line : goal.returns-clause-line
returns-clause-line c = IfSome_then c.rule_of_line.result (same_line c.args.family c.args.line.now c.rule_of_line.result c.rule_of_line.ensures) (λ r h. h.2)

pub returns-clause-none : goal.returns-clause-none
returns-clause-none c none chain rule named_well valid line =
    none-some (chain, rule) (sym none ∙ c.rule_of_line.ensures ∙ ap (rule_of_line c.args.family) (sym line) ∙ line_read c.args.family chain rule named_well valid)
