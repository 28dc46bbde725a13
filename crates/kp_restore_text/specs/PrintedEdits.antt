-- The text of edits, edit by edit.
use Rattle.std.specs.Prelude.{ℕ, ◌==◌, Bool, List, [], map, cond}
use Rattle.std.specs.BTreeSet.{insert_key}
use Rattle.kp_base.specs.Keys.{text_cmp}
use Rattle.kp_types.specs.Places.{table_place}
use Rattle.kp_types.specs.declared.chain.TableName.{TableName}
use Rattle.kp_types.specs.declared.chain.ChainAt.{ChainAt}
use Rattle.kp_types.specs.declared.rule.Edit.{Edit}
use Rattle.kp_object_defs.specs.Order.{distinct_in_order}
use Rattle.kp_restore_defs.specs.TableText.{text_of_lines, declared_line}
use Rattle.kp_restore_defs.specs.BatchText.{place_of, written_lines, removing_lines, edits_in, section_if_edited}
use Rattle.kp_restore_text.specs.Printed.{ended}

-- whether a place is in a table
abbrev pub is_in : TableName → ChainAt → Bool
is_in table at = table_place at.table == table_place table

-- the section of one table's edits
abbrev pub edits_text : TableName → List Edit → List ℕ
edits_text table edits = text_of_lines (section_if_edited table (edits_in table edits))

-- the names of the chains that are edited, once each, by their bytes
abbrev pub edited_names : TableName → List Edit → List (List ℕ)
edited_names table edits = distinct_in_order text_cmp (map (λ e. (place_of e).chain) (edits_in table edits))

-- names with one more, if its chain is in the table
abbrev pub with_name : TableName → ChainAt → List (List ℕ) → List (List ℕ)
with_name table at names = cond (is_in table at) (insert_key text_cmp names at.chain) names

-- the line that declares a chain
abbrev pub declared_text : List ℕ → List ℕ
declared_text chain = ended (declared_line chain)

-- the lines of a write, if it is of the table
abbrev pub written_text : TableName → Edit → List ℕ
written_text table e = cond (is_in table (place_of e)) (text_of_lines (written_lines e)) []

-- the lines of a removal, if it is of the table
abbrev pub removed_text : TableName → Edit → List ℕ
removed_text table e = cond (is_in table (place_of e)) (text_of_lines (removing_lines e)) []
