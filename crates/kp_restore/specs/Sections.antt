-- The two forms of restore text, and the lists of sections that have a text in each (iptables-restore(8)). A text is a
-- list of sections: a table, and the chains that it declares, in order, each with its rules or its removal.
use Rattle.std.specs.Prelude.{ℕ, ◌&&◌, ◌||◌, Bool, true, false, cond, not, List, [], ◌∷◌, ◌++◌, map, bytes_eq, Option, Some, None}
use Rattle.std.specs.List.{list_all, list_any, flat_map}
use Rattle.std.specs.Ordering.{is_lt}
use Rattle.kp_base.specs.Keys.{text_cmp}
use Rattle.kp_base.specs.declared.address.Family.{Family}
use Rattle.kp_types.specs.declared.chain.TableName.{TableName}
use Rattle.kp_types.specs.declared.chain.TableName.TheVariants.{Nat, Filter, Nat6, Filter6}
use Rattle.kp_types.specs.declared.rule.Rule.{Rule}
use Rattle.kp_types.specs.declared.rule.Target.{Target}
use Rattle.kp_types.specs.declared.rule.Target.TheVariants as target
use Rattle.kp_object_defs.specs.Desired.{is_empty}
use Rattle.kp_table_defs.specs.Ranks.{built_in_chains, is_built_in}
use Rattle.kp_restore.specs.Lines.{is_canonical_line}
use Rattle.kp_restore.specs.declared.line.Line.{Line}
use Rattle.kp_restore.specs.declared.line.Line.TheVariants as line
use Rattle.kp_restore.specs.declared.section.Form.{Form}
use Rattle.kp_restore.specs.declared.section.Form.TheVariants.{Whole, Changes}
use Rattle.kp_restore.specs.declared.section.Row.{Row}
use Rattle.kp_restore.specs.declared.section.Section.{Section}

-- ---- Where the forms differ

-- The built-in chains that a section owes before its others: whole tables owe all, and changes declare none.
abbrev pub owed : Form → TableName → List (List ℕ)
owed Whole table = built_in_chains table
owed Changes table = []

-- whole tables remove nothing
abbrev pub may_remove : Form → Bool
may_remove Whole = false
may_remove Changes = true

-- a jump goes to one of these chains
abbrev pub jumps_among : List (List ℕ) → Target → Bool
jumps_among names (target.Jump chain) = list_any (bytes_eq chain) names
jumps_among names target.Return = true
jumps_among names target.Accept = true
jumps_among names target.Drop = true
jumps_among names target.Reject = true
jumps_among names target.SetMark = true
jumps_among names target.FlipMark = true
jumps_among names (target.Dnat endpoint) = true
jumps_among names target.Masquerade = true

-- whole tables jump to the chains alone that their section declares
abbrev pub jumps_in : Form → List (List ℕ) → Rule → Bool
jumps_in Whole names rule = jumps_among names rule.target
jumps_in Changes names rule = true

-- whole tables begin with nat
abbrev pub may_begin : Form → TableName → Bool
may_begin Changes table = true
may_begin Whole Nat = true
may_begin Whole Nat6 = true
may_begin Whole table = false

-- the filter table stands behind the nat table
abbrev pub is_next : TableName → TableName → Bool
is_next Nat Filter = true
is_next Nat6 Filter6 = true
is_next last table = false

-- a section may stand behind the last one
abbrev pub may_open : Form → Option TableName → TableName → Bool
may_open form None table = may_begin form table
may_open form (Some last) table = is_next last table

-- the text may end behind the last section: whole tables owe both
abbrev pub may_end : Form → Option TableName → Bool
may_end Changes last = true
may_end Whole (Some Filter) = true
may_end Whole (Some Filter6) = true
may_end Whole last = false

-- ---- Sections

abbrev pub names_of : List Row → List (List ℕ)
names_of rows = map (λ row. row.chain) rows

-- a chain that isn't built in may be declared behind the last one
abbrev pub is_behind : TableName → Option (List ℕ) → List ℕ → Bool
is_behind table None chain = true
is_behind table (Some last) chain = is_built_in table last || is_lt (text_cmp last chain)

abbrev pub may_follow : TableName → Option (List ℕ) → List ℕ → Bool
may_follow table last chain = not (is_built_in table chain) && is_behind table last chain

-- the names of chains that are declared behind the last one: those that are owed, and then others by their bytes
abbrev pub names_stand : TableName → List (List ℕ) → Option (List ℕ) → List (List ℕ) → Bool
names_stand table owed last [] = is_empty owed
names_stand table (next ∷ owed) last (name ∷ names) = bytes_eq name next && names_stand table owed (Some name) names
names_stand table [] last (name ∷ names) = may_follow table last name && names_stand table [] (Some name) names

-- a chain that is removed has no rules, and jumps lead where they may
abbrev pub fits : Form → List (List ℕ) → Row → Bool
fits form names row =
    (not row.removed || (may_remove form && is_empty row.rules)) && list_all (jumps_in form names) row.rules

-- a section declares a chain
abbrev pub is_section : Form → Section → Bool
is_section form s =
    names_stand s.table (owed form s.table) None (names_of s.rows)
    && (not (is_empty s.rows) && list_all (fits form (names_of s.rows)) s.rows)

-- sections that stand behind the last one
abbrev pub sections_stand : Form → Option TableName → List Section → Bool
sections_stand form last [] = may_end form last
sections_stand form last (s ∷ ss) =
    may_open form last s.table && (is_section form s && sections_stand form (Some s.table) ss)

-- ---- Their lines

abbrev pub declared_part : TableName → List ℕ → Line
declared_part table chain = cond (is_built_in table chain) (line.BuiltIn chain) (line.Declared chain)

abbrev pub rule_parts : Row → List Line
rule_parts row = map (line.Ruled row.chain) row.rules

abbrev pub removed_part : Row → List Line
removed_part row = cond row.removed (line.Removed row.chain ∷ []) []

-- a section that isn't over
abbrev pub open_lines : TableName → List Row → List Line
open_lines table rows =
    line.Section table ∷ map (declared_part table) (names_of rows)
    ++ (flat_map rule_parts rows ++ flat_map removed_part rows)

abbrev pub section_lines : Section → List Line
section_lines s = open_lines s.table s.rows ++ line.Commit ∷ []

abbrev pub lines_of : List Section → List Line
lines_of ss = flat_map section_lines ss

-- the sections of a family's text in a form
abbrev pub is_canonical : Form → Family → List Section → Bool
is_canonical form family ss = sections_stand form None ss && list_all (is_canonical_line family) (lines_of ss)
