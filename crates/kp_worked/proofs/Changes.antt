-- The changes between two tables that are given as lists of chains, by look-ups in the lists.
use Rattle.std.proofs.Common.{◌≡◌, ℕ, cond, List, ◌++◌, filter, filter_map, Option, Some, None, is_some, ◌==◌, ap, ◌∙◌}
use Rattle.std.specs.FinMap.{find, from_entries, get, get-from_entries}
use Rattle.kp_object_defs.specs.Order.{in_order}
use Rattle.kp_object_defs.specs.PortInfo.{PortInfo}
use Rattle.kp_types.proofs.ChainOrder.{chain_total}
use Rattle.kp_base.specs.declared.address.Family.{Family}
use Rattle.kp_base.specs.declared.address.Family.TheVariants.{V4, V6}
use Rattle.kp_types.specs.Places.{chain_cmp, table_place, nat_of, filter_of}
use Rattle.kp_types.specs.declared.chain.ChainAt.{ChainAt}
use Rattle.kp_types.specs.declared.chain.TableName.{TableName}
use Rattle.kp_types.specs.declared.rule.Edit.{Edit}
use Rattle.kp_types.specs.declared.rule.Edit.TheVariants.{Write, Remove}
use Rattle.kp_types.specs.declared.rule.Rule.{Rule}
use Rattle.kp_table_defs.specs.Edits.{changes_between, is_found_with}
use Rattle.kp_table_defs.specs.Layout.{rows_of}
use Rattle.kp_object_defs.proofs.InOrder.{entries_in_order}
use Rattle.kp_worked.specs.Counts.{counted, counts_between, are}
use Rattle.kp_worked.specs.Setting.{setting}

-- chains with their places, in any order
abbrev pub Rows : Type 0
Rows = List (ChainAt × List Rule)

-- the look-up in it
pub found : (rows : Rows) → ◌≡◌ {A = ChainAt → Option (List Rule)} (get (from_entries {R = chain_cmp} rows)) (λ q. find chain_cmp q rows)
found rows = λ i q. get-from_entries chain_total rows q i

-- the changes of one table, by two look-ups and the chains in order
abbrev table_by : (ChainAt → Option (List Rule)) → (ChainAt → Option (List Rule)) → Rows → Rows → TableName → List Edit
table_by before_at after_at before after table =
    filter_map (λ e. cond (is_found_with e.1 (before_at e.0)) None (Some (Write e.0 e.1))) (filter (λ e. table_place e.0.table == table_place table) after)
    ++ filter_map (λ e. cond (is_some (after_at e.0)) None (Some (Remove e.0))) (filter (λ e. table_place e.0.table == table_place table) before)

abbrev family_by : (ChainAt → Option (List Rule)) → (ChainAt → Option (List Rule)) → Rows → Rows → Family → List Edit
family_by before_at after_at before after family =
    table_by before_at after_at before after (nat_of family) ++ table_by before_at after_at before after (filter_of family)

abbrev changes_by : (ChainAt → Option (List Rule)) → (ChainAt → Option (List Rule)) → Rows → Rows → List Edit
changes_by before_at after_at before after =
    family_by before_at after_at before after V4 ++ family_by before_at after_at before after V6

-- the changes from one list of chains to another
abbrev pub changes_listed : Rows → Rows → List Edit
changes_listed before after =
    changes_by (λ q. find chain_cmp q before) (λ q. find chain_cmp q after)
    (in_order chain_cmp before) (in_order chain_cmp after)

-- they are those of the tables
pub changes_are : (before after : Rows)
    → changes_between (from_entries before) (from_entries after) ≡ changes_listed before after
changes_are before after =
    λ i. changes_by (found before i) (found after i) (entries_in_order chain_total before i)
    (entries_in_order chain_total after i)

-- the counts of the changes between the full tables of ports
pub counts_are : (before after : List PortInfo) {written removed : ℕ}
    → counted (changes_listed (rows_of setting before) (rows_of setting after))
    ≡ are written removed
    → counts_between before after ≡ are written removed
counts_are before after h =
    ap counted (changes_are (rows_of setting before) (rows_of setting after)) ∙ h
