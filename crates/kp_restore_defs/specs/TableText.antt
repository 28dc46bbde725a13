-- Whole tables as iptables-restore(8) takes them: a section for each table, with its chains, then their rules.
use Rattle.std.specs.Prelude.{◌≡◌, ℕ, ◌&&◌, Bool, true, List, [], ◌∷◌, ◌++◌, map, not, codes, Option, option_map, is_some}
use Rattle.std.specs.List.{list_all, filter, filter_map, flat_map}
use Rattle.std.specs.FinMap as finite
use Rattle.kp_base.specs.Net.{same_family}
use Rattle.kp_base.specs.declared.address.Family.{Family}
use Rattle.kp_types.specs.Chains.{is_chain_name}
use Rattle.kp_types.specs.Places.{family_of_table, nat_of, filter_of}
use Rattle.kp_types.specs.declared.chain.TableName.{TableName}
use Rattle.kp_types.specs.declared.chain.TableName.TheVariants.{Nat, Filter, Nat6, Filter6}
use Rattle.kp_types.specs.declared.chain.ChainAt.{ChainAt}
use Rattle.kp_types.specs.declared.rule.Rule.{Rule}
use Rattle.kp_types.specs.declared.rule.Target.{Target}
use Rattle.kp_types.specs.declared.rule.Target.TheVariants as target
use Rattle.kp_table_defs.specs.Rebuild.{Chains}
use Rattle.kp_table_defs.specs.Edits.{chains_in}
use Rattle.kp_table_defs.specs.Ranks.{built_in_chains, is_built_in, has_chains_of}
use Rattle.kp_restore_defs.specs.RuleText.{rule_line, is_canonical_rule}

-- ---- Lines

-- lines, each with its line feed
abbrev pub text_of_lines : List (List ℕ) → List ℕ
text_of_lines lines = flat_map (λ line. line ++ 10 ∷ []) lines

-- the first line of a table's section; which family a text is of is told by the program that takes it
abbrev pub table_line : TableName → List ℕ
table_line Nat = codes "*nat"
table_line Filter = codes "*filter"
table_line Nat6 = codes "*nat"
table_line Filter6 = codes "*filter"

-- the last line of a section
abbrev pub commit_line : List ℕ
commit_line = codes "COMMIT"

-- a built-in chain, whose packets are accepted at its end, without its counts
abbrev pub built_in_line : List ℕ → List ℕ
built_in_line chain = 58 ∷ chain ++ codes " ACCEPT [0:0]"

-- another chain
abbrev pub declared_line : List ℕ → List ℕ
declared_line chain = 58 ∷ chain ++ codes " - [0:0]"

-- ---- A table's section

-- a chain's name and rules
abbrev pub Row : Type 0
Row = List ℕ × List Rule

-- a chain that is there
abbrev pub row_at : Chains → TableName → List ℕ → Option Row
row_at chains table name =
    option_map (λ rules. (name, rules)) (finite.get chains (record { table = table; chain = name }))

-- the built-in chains that a table has, in their order
abbrev pub built_in_rows : Chains → TableName → List Row
built_in_rows chains table = filter_map (row_at chains table) (built_in_chains table)

-- its other chains, by their bytes
abbrev pub other_rows : Chains → TableName → List Row
other_rows chains table =
    map (λ e. (e.0.chain, e.1)) (filter (λ e. not (is_built_in table e.0.chain)) (chains_in table chains))

-- the rules of a chain
abbrev pub row_lines : Row → List (List ℕ)
row_lines row = map (rule_line row.0) row.1

-- the section of these chains, built-in ones and others
abbrev pub section_of : TableName → List Row → List Row → List (List ℕ)
section_of table built_in others =
    table_line table ∷ map (λ row. built_in_line row.0) built_in ++ map (λ row. declared_line row.0) others
    ++ flat_map row_lines (built_in ++ others) ++ commit_line ∷ []

-- the section of a table
abbrev pub section_lines : Chains → TableName → List (List ℕ)
section_lines chains table = section_of table (built_in_rows chains table) (other_rows chains table)

-- both sections of a family, nat before filter
abbrev pub table_lines : Family → Chains → List (List ℕ)
table_lines family chains = section_lines chains (nat_of family) ++ section_lines chains (filter_of family)

-- the text of a section
abbrev pub section_text_of : Chains → TableName → List ℕ
section_text_of chains table = text_of_lines (section_lines chains table)

-- the text of a family's tables
abbrev pub table_text_of : Family → Chains → List ℕ
table_text_of family chains = text_of_lines (table_lines family chains)

-- ---- Tables that have a text of their own in a family

-- a jump goes to a chain of the table that there is
abbrev pub jumps_to_declared : Chains → TableName → Target → Bool
jumps_to_declared chains table (target.Jump chain) =
    is_some (finite.get chains (record { table = table; chain = chain }))
jumps_to_declared chains table target.Return = true
jumps_to_declared chains table target.Accept = true
jumps_to_declared chains table target.Drop = true
jumps_to_declared chains table target.Reject = true
jumps_to_declared chains table target.SetMark = true
jumps_to_declared chains table target.FlipMark = true
jumps_to_declared chains table (target.Dnat endpoint) = true
jumps_to_declared chains table target.Masquerade = true

-- a rule that may stand in a table
abbrev pub may_stand : Family → Chains → TableName → Rule → Bool
may_stand family chains table rule = is_canonical_rule family rule && jumps_to_declared chains table rule.target

-- a chain that may
abbrev pub is_canonical_chain : Family → Chains → ChainAt × List Rule → Bool
is_canonical_chain family chains (at, rules) =
    is_chain_name at.chain && list_all (may_stand family chains at.table) rules

-- a chain of a family's tables
abbrev pub is_chain_of : Family → ChainAt × List Rule → Bool
is_chain_of family (at, rules) = same_family (family_of_table at.table) family

-- a table with all built-in chains of a family, whose rules and jumps are within their bounds
abbrev pub is_canonical_part : Family → Chains → Bool
is_canonical_part family chains =
    has_chains_of family chains
    && list_all (is_canonical_chain family chains) (filter (is_chain_of family) (finite.entries chains))

-- such a table, which has chains of the family alone
abbrev pub is_canonical_table : Family → Chains → Bool
is_canonical_table family chains =
    is_canonical_part family chains && list_all (is_chain_of family) (finite.entries chains)

-- Different canonical tables of a family have different texts.
abbrev pub TableTextsDiffer : Type 0
TableTextsDiffer =
    (family : Family) (a b : Chains) → is_canonical_table family a ≡ true → is_canonical_table family b ≡ true
    → table_text_of family a ≡ table_text_of family b → a ≡ b
