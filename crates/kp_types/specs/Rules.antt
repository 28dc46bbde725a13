-- Rules, made of their parts.
use Rattle.std.specs.Prelude.{List}
use Rattle.kp_types.specs.declared.rule.Match.{Match}
use Rattle.kp_types.specs.declared.rule.Target.{Target}
use Rattle.kp_types.specs.declared.rule.Rule.{Rule}

-- the rule with these matches and this target
abbrev pub rule_of : List Match → Target → Rule
rule_of matches target = record { matches = record { items = matches }; target = target }
