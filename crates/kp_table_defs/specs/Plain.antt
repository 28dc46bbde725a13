-- Rules without the two recent matches (iptables-extensions(8), recent): they neither ask nor change a
-- recent list.
use Rattle.std.specs.Prelude.{◌≡◌, Bool, true, false, List, Option, Some}
use Rattle.std.specs.List.{list_all, All}
use Rattle.kp_types.specs.declared.chain.ChainAt.{ChainAt}
use Rattle.kp_types.specs.declared.rule.Match.{Match}
use Rattle.kp_types.specs.declared.rule.Match.TheVariants.{Src, Dst, Proto, Port, SrcLocal, DstLocal, Marked, Statistic, Seen, SetSeen}
use Rattle.kp_types.specs.declared.rule.Rule.{Rule}

-- a match that has nothing to do with recent lists
abbrev pub is_plain_match : Match → Bool
is_plain_match (Src range negated) = true
is_plain_match (Dst range negated) = true
is_plain_match (Proto proto) = true
is_plain_match (Port proto port) = true
is_plain_match SrcLocal = true
is_plain_match DstLocal = true
is_plain_match (Marked negated) = true
is_plain_match (Statistic p) = true
is_plain_match (Seen list seconds) = false
is_plain_match (SetSeen list) = false

-- a rule of such matches
abbrev pub is_plain : Rule → Bool
is_plain r = list_all is_plain_match r.matches.items

-- all rules that a look-up finds are such
abbrev pub HasNoRecent : (ChainAt → Option (List Rule)) → Type 0
HasNoRecent at = (q : ChainAt) (rules : List Rule) → at q ≡ Some rules → All (λ r. is_plain r ≡ true) rules
