-- The table of rows, and the rows of a family's tables of no objects.
use Rattle.std.specs.Prelude.{◌≡◌, ℕ, List, [], ◌∷◌, ◌++◌, drop}
use Rattle.std.specs.FinMap as finite
use Rattle.kp_base.specs.declared.address.Family.{Family}
use Rattle.kp_types.specs.declared.chain.ChainAt.{ChainAt}
use Rattle.kp_types.specs.declared.rule.ChainText.{ChainText}
use Rattle.kp_types.specs.declared.rule.Rule.{Rule}
use Rattle.kp_table_defs.specs.Layout.{nat_rows_with, filter_rows_with}
use Rattle.kp_table_defs.specs.Rebuild.{Chains, TableParts}
use Rattle.kp_chains.specs.Rows.{rows_of_texts}

-- the table of rows, which was edited by no batch
abbrev pub table_with : List (ChainAt × List Rule) → TableParts
table_with rows = record { chains = finite.from_entries rows; syncs = 0 }

-- chains with those of rows; of two rows with one place the first counts
abbrev pub chains_with : List (ChainAt × List Rule) → Chains → Chains
chains_with [] chains = chains
chains_with (r ∷ rs) chains = finite.insert (chains_with rs chains) r.0 r.1

-- a table with the chains of rows
abbrev pub with_rows : List (ChainAt × List Rule) → TableParts → TableParts
with_rows rows table = record table { chains = chains_with rows table.chains }

-- a table with the chains of some rows at the end of a list
abbrev pub HasLastRows : List ChainText → TableParts → TableParts → Type 0
HasLastRows rows before after =
    (left : ℕ) × (after ≡ with_rows (rows_of_texts (drop left rows)) before)

-- the chains that a family's tables have without objects
abbrev pub fixed_rows : Family → List (ChainAt × List Rule)
fixed_rows family = nat_rows_with family [] [] ++ filter_rows_with family [] [] []
