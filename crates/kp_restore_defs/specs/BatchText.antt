-- Edits as iptables-restore(8) takes them with --noflush: a chain that is declared is emptied first, and the others
-- stay as they are.
use Rattle.std.specs.Prelude.{◌≡◌, ℕ, ◌==◌, ◌&&◌, Bool, true, List, [], ◌∷◌, ◌++◌, map, not, cond, bytes_eq, codes}
use Rattle.std.specs.Ordering.{nat_cmp, ordering_then, is_lt}
use Rattle.std.specs.declared.cmp.Ordering.{Ordering}
use Rattle.std.specs.List.{list_all, list_any, filter, flat_map}
use Rattle.kp_base.specs.Keys.{text_cmp}
use Rattle.kp_base.specs.declared.address.Family.{Family}
use Rattle.kp_types.specs.Chains.{is_chain_name}
pub use Rattle.kp_types.specs.Edits.{place_of}
use Rattle.kp_types.specs.Edits.{is_edit_in}
use Rattle.kp_types.specs.Places.{table_place, nat_of, filter_of}
use Rattle.kp_types.specs.declared.chain.TableName.{TableName}
use Rattle.kp_types.specs.declared.rule.Edit.{Edit}
use Rattle.kp_types.specs.declared.rule.Edit.TheVariants.{Write, Remove}
use Rattle.kp_object_defs.specs.Order.{distinct_in_order}
use Rattle.kp_object_defs.specs.Desired.{is_empty}
use Rattle.kp_table_defs.specs.Ranks.{is_built_in}
use Rattle.kp_restore_defs.specs.RuleText.{rule_line, is_canonical_rule}
use Rattle.kp_restore_defs.specs.TableText.{table_line, declared_line, commit_line, text_of_lines}

-- ---- Lines

-- a chain that is removed
abbrev pub removed_line : List ℕ → List ℕ
removed_line chain = codes "-X " ++ chain

-- the rules of a chain that is written
abbrev pub written_lines : Edit → List (List ℕ)
written_lines (Write at rules) = map (rule_line at.chain) rules
written_lines (Remove at) = []

-- the line that removes a chain
abbrev pub removing_lines : Edit → List (List ℕ)
removing_lines (Write at rules) = []
removing_lines (Remove at) = removed_line at.chain ∷ []

-- the edits of one table
abbrev pub edits_in : TableName → List Edit → List Edit
edits_in table edits = filter (λ e. table_place (place_of e).table == table_place table) edits

-- the section of the edits of one table
abbrev pub edits_section : TableName → List Edit → List (List ℕ)
edits_section table edits =
    table_line table ∷ map declared_line (distinct_in_order text_cmp (map (λ e. (place_of e).chain) edits))
    ++ flat_map written_lines edits ++ flat_map removing_lines edits ++ commit_line ∷ []

-- the section of a table, if it has an edit
abbrev pub section_if_edited : TableName → List Edit → List (List ℕ)
section_if_edited table edits = cond (is_empty edits) [] (edits_section table edits)

-- the section of a table that is edited
abbrev pub section_in : TableName → List Edit → List (List ℕ)
section_in table edits = section_if_edited table (edits_in table edits)

-- both sections of a family, nat before filter
abbrev pub batch_lines : Family → List Edit → List (List ℕ)
batch_lines family edits = section_in (nat_of family) edits ++ section_in (filter_of family) edits

-- the text of edits of a family's tables
abbrev pub batch_text_of : Family → List Edit → List ℕ
batch_text_of family edits = text_of_lines (batch_lines family edits)

-- ---- Edits that have a text of their own

-- writes stand before removes
abbrev pub kind_place : Edit → ℕ
kind_place (Write at rules) = 0
kind_place (Remove at) = 1

-- edits by table, then writes before removes, then by name
abbrev pub edit_cmp : Edit → Edit → Ordering
edit_cmp a b =
    ordering_then (nat_cmp (table_place (place_of a).table) (table_place (place_of b).table))
    (ordering_then (nat_cmp (kind_place a) (kind_place b)) (text_cmp (place_of a).chain (place_of b).chain))

-- each edit stands before all that follow it
abbrev pub are_in_order : List Edit → Bool
are_in_order [] = true
are_in_order (e ∷ es) = list_all (λ other. is_lt (edit_cmp e other)) es && are_in_order es

-- two edits of one place
abbrev pub is_same_place : Edit → Edit → Bool
is_same_place a b =
    (table_place (place_of a).table == table_place (place_of b).table)
    && bytes_eq (place_of a).chain (place_of b).chain

-- no place is edited twice
abbrev pub edit_each_once : List Edit → Bool
edit_each_once [] = true
edit_each_once (e ∷ es) = not (list_any (is_same_place e) es) && edit_each_once es

-- the rules that an edit writes are within their bounds
abbrev pub has_canonical_rules : Family → Edit → Bool
has_canonical_rules family (Write at rules) = list_all (is_canonical_rule family) rules
has_canonical_rules family (Remove at) = true

-- an edit of a chain of a family that isn't built in
abbrev pub is_canonical_edit : Family → Edit → Bool
is_canonical_edit family e =
    is_edit_in family e
    && (is_chain_name (place_of e).chain
    && (not (is_built_in (place_of e).table (place_of e).chain) && has_canonical_rules family e))

-- edits in order, one of a place
abbrev pub is_canonical_batch : Family → List Edit → Bool
is_canonical_batch family edits =
    list_all (is_canonical_edit family) edits && (are_in_order edits && edit_each_once edits)

-- Different canonical batches have different texts.
abbrev pub BatchTextsDiffer : Type 0
BatchTextsDiffer =
    (family : Family) (a b : List Edit) → is_canonical_batch family a ≡ true → is_canonical_batch family b ≡ true
    → batch_text_of family a ≡ batch_text_of family b → a ≡ b
