-- The line of a rule in pieces: each word but the last has the space behind it.
use Rattle.std.specs.Prelude.{◌≡◌, ℕ, true, List, [], ◌∷◌, ◌++◌}
use Rattle.std.specs.List.{flat_map}
use Rattle.kp_base.specs.declared.address.Family.{Family}
use Rattle.kp_types.specs.Chains.{is_chain_name}
use Rattle.kp_types.specs.declared.rule.Match.{Match}
use Rattle.kp_types.specs.declared.rule.Target.{Target}
use Rattle.kp_types.specs.declared.rule.Rule.{Rule}
use Rattle.kp_restore_defs.specs.RuleText.{joined, match_words, target_words, rule_line, is_canonical_rule}

-- words, each with a space behind it
abbrev pub spaced : List (List ℕ) → List ℕ
spaced words = flat_map (λ word. word ++ 32 ∷ []) words

-- a match, with a space behind it
abbrev pub match_text : Match → List ℕ
match_text matched = spaced (match_words matched)

-- a target, which ends a line
abbrev pub target_text : Target → List ℕ
target_text target = joined (target_words target)

-- The lines of two canonical rules of chains that have names are equal only where chain and rule are.
abbrev pub RuleLinesDiffer : Type 0
RuleLinesDiffer =
    (family : Family) (chain other : List ℕ) (a b : Rule)
    → is_chain_name chain ≡ true → is_chain_name other ≡ true
    → is_canonical_rule family a ≡ true → is_canonical_rule family b ≡ true
    → rule_line chain a ≡ rule_line other b → (chain ≡ other) × (a ≡ b)
