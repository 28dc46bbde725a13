-- Edits of a table, and the edits that lead from one table to another (iptables-restore(8), --noflush).
use Rattle.std.specs.Prelude.{◌≡◌, ◌↔◌, ◌+◌, ◌-◌, ◌^◌, ◌==◌, Bool, true, false, List, ◌++◌, cond, min, Option, Some, None, is_some}
use Rattle.std.specs.List.{filter, filter_map, fold}
use Rattle.std.specs.FinMap as finite
use Rattle.std.specs.Cmp.Lexicographic.{pointwise}
use Rattle.kp_base.specs.declared.address.Family.{Family}
use Rattle.kp_base.specs.declared.address.Family.TheVariants.{V4, V6}
use Rattle.kp_types.specs.Places.{table_place, nat_of, filter_of}
use Rattle.kp_types.specs.declared.chain.TableName.{TableName}
use Rattle.kp_types.specs.declared.chain.ChainAt.{ChainAt}
use Rattle.kp_types.specs.declared.rule.Rule.{Rule}
use Rattle.kp_types.specs.declared.rule.Edit.{Edit}
use Rattle.kp_types.specs.declared.rule.Edit.TheVariants.{Write, Remove}
use Rattle.kp_types.specs.contracts.rule.RulePartialEq.TheImpl as same_rule
use Rattle.kp_table_defs.specs.Rebuild.{Chains, TableParts}

-- the chains after an edit: a write puts its rules in place of a chain's old ones or makes the chain, a
-- remove takes the chain out, or changes nothing
abbrev pub chains_after_edit : Chains → Edit → Chains
chains_after_edit chains (Write at rules) = finite.insert chains at rules
chains_after_edit chains (Remove at) = finite.remove chains at

-- the table after a batch; the count stands still at its type's end
abbrev pub table_after_batch : TableParts → List Edit → TableParts
table_after_batch t edits = record {
  chains = fold chains_after_edit t.chains edits;
  syncs = min (t.syncs + 1) (2 ^ 64 - 1);
}

-- whether two lists of rules are one
abbrev pub same_rules : List Rule → List Rule → Bool
same_rules = pointwise same_rule.ghosts.eq

-- a chain is found with these rules
abbrev pub is_found_with : List Rule → Option (List Rule) → Bool
is_found_with rules None = false
is_found_with rules (Some found) = same_rules found rules

-- a write, where a chain is new or its rules differ
abbrev pub write_if_changed : Chains → ChainAt × List Rule → Option Edit
write_if_changed before (at, rules) =
    cond (is_found_with rules (finite.get before at)) None (Some (Write at rules))

-- a remove, where a chain is gone
abbrev pub remove_if_gone : Chains → ChainAt × List Rule → Option Edit
remove_if_gone after (at, rules) = cond (is_some (finite.get after at)) None (Some (Remove at))

-- the chains of one table, in order
abbrev pub chains_in : TableName → Chains → List (ChainAt × List Rule)
chains_in table chains = filter (λ e. table_place e.0.table == table_place table) (finite.entries chains)

-- the changes of one table: writes, and then removes, each by name
abbrev pub table_changes : Chains → Chains → TableName → List Edit
table_changes before after table =
    filter_map (write_if_changed before) (chains_in table after)
    ++ filter_map (remove_if_gone after) (chains_in table before)

-- the changes of a family's tables, nat before filter
abbrev pub changes_of : Family → Chains → Chains → List Edit
changes_of family before after =
    table_changes before after (nat_of family) ++ table_changes before after (filter_of family)

-- the changes from one table to another, IPv4 before IPv6
abbrev pub changes_between : Chains → Chains → List Edit
changes_between before after = changes_of V4 before after ++ changes_of V6 before after

-- whether an edit is a write
abbrev pub is_write : Edit → Bool
is_write (Write at rules) = true
is_write (Remove at) = false

-- The test of two lists of rules tells whether they are equal.
abbrev pub SameRulesAreEqual : Type 0
SameRulesAreEqual = (a b : List Rule) → (same_rules a b ≡ true) ↔ (a ≡ b)

-- The changes from one table to another, made in the first, give the chains of the second.
abbrev pub ChangesLeadOver : Type 0
ChangesLeadOver = (before after : Chains) → fold chains_after_edit before (changes_between before after) ≡ after
