-- How much of ports' own chains a batch writes.
use Rattle.std.specs.Prelude.{ℕ, ◌+◌, List, [], ◌∷◌, Bool, cond, length, is_some}
use Rattle.std.specs.FinMap as finite
use Rattle.kp_types.specs.Places.{family_of_table}
use Rattle.kp_types.specs.declared.chain.ChainAt.{ChainAt}
use Rattle.kp_types.specs.declared.rule.Edit.{Edit}
use Rattle.kp_types.specs.declared.rule.Edit.TheVariants.{Write, Remove}
use Rattle.kp_blocks.specs.Joined.{fixed_chains}

-- whether a chain is one of its family's tables of no ports, as the shared chains are
abbrev pub is_fixed : ChainAt → Bool
is_fixed at = is_some (finite.get (fixed_chains (family_of_table at.table)) at)

-- how many rules of a port's own chain an edit writes
abbrev pub own_rules_of : Edit → ℕ
own_rules_of (Write at rules) = cond (is_fixed at) 0 (length rules)
own_rules_of (Remove at) = 0

-- how many rules of ports' own chains edits write
abbrev pub own_rules_written : List Edit → ℕ
own_rules_written [] = 0
own_rules_written (e ∷ es) = own_rules_of e + own_rules_written es
