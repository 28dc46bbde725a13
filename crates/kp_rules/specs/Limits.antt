-- The limit below which a draw matches, where a draw is a rule's only match (iptables-extensions(8), statistic).
use Rattle.std.specs.Prelude.{ℕ, ◌^◌, nat_le, cond, List, [], ◌∷◌, Option, Some, None}
use Rattle.kp_types.specs.declared.rule.Match.{Match}
use Rattle.kp_types.specs.declared.rule.Match.TheVariants.{Src, Dst, Proto, Port, SrcLocal, DstLocal, Marked, Statistic, Seen, SetSeen}
use Rattle.kp_types.specs.declared.rule.Rule.{Rule}
use Rattle.kp_choice_defs.specs.Draws.{threshold_of}

-- the limit of a draw's match, whose probability is at most one
abbrev pub limit_of_match : Match → Option ℕ
limit_of_match (Src range negated) = None
limit_of_match (Dst range negated) = None
limit_of_match (Proto proto) = None
limit_of_match (Port proto port) = None
limit_of_match SrcLocal = None
limit_of_match DstLocal = None
limit_of_match (Marked negated) = None
limit_of_match (Statistic p) = cond (nat_le p (10 ^ 10)) (Some (threshold_of p)) None
limit_of_match (Seen list seconds) = None
limit_of_match (SetSeen list) = None

-- that of a rule's only match
abbrev pub only_limit : List Match → Option ℕ
only_limit [] = None
only_limit (m ∷ []) = limit_of_match m
only_limit (m ∷ n ∷ ms) = None

-- the limit below which a draw alone makes a rule match, where it asks for nothing else
abbrev pub limit_of : Rule → Option ℕ
limit_of r = only_limit r.matches.items
