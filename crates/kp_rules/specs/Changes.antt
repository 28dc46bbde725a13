-- The edit of one place among the changes of a table.
use Rattle.std.specs.Prelude.{◌≡◌, ◌==◌, Bool, false, cond, List, Option, Some, None, is_some}
use Rattle.std.specs.FinMap as finite
use Rattle.std.specs.List.{All}
use Rattle.kp_base.specs.Net.{same_family}
use Rattle.kp_base.specs.declared.address.Family.{Family}
use Rattle.kp_types.specs.Places.{family_of_table, table_place}
use Rattle.kp_types.specs.declared.chain.TableName.{TableName}
use Rattle.kp_types.specs.declared.chain.ChainAt.{ChainAt}
use Rattle.kp_types.specs.declared.rule.Rule.{Rule}
use Rattle.kp_types.specs.declared.rule.Edit.{Edit}
use Rattle.kp_types.specs.declared.rule.Edit.TheVariants.{Remove}
use Rattle.kp_table_defs.specs.Rebuild.{Chains}
use Rattle.kp_table_defs.specs.Edits.{write_if_changed}

-- whether a place is in a table
abbrev pub is_in : TableName → ChainAt → Bool
is_in table at = table_place at.table == table_place table

-- a place isn't in a family's tables
abbrev pub IsOutside : Family → ChainAt → Type 0
IsOutside family at = same_family (family_of_table at.table) family ≡ false

-- none of these places is
abbrev pub AreOutside : Family → List ChainAt → Type 0
AreOutside family places = All (IsOutside family) places

-- the write of a chain that was found
abbrev pub write_if_found : Chains → ChainAt → Option (List Rule) → Option Edit
write_if_found before at None = None
write_if_found before at (Some rules) = write_if_changed before (at, rules)

-- the write of the chain at a place of a table
abbrev pub write_at : Chains → Chains → TableName → ChainAt → Option Edit
write_at before after table at = cond (is_in table at) (write_if_found before at (finite.get after at)) None

-- the remove of the chain at a place of a table
abbrev pub remove_at : Chains → TableName → ChainAt → Option Edit
remove_at after table at = cond (is_in table at) (cond (is_some (finite.get after at)) None (Some (Remove at))) None
