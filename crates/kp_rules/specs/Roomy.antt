-- Chains with room for some more, and how chains and tables are stored.
use Rattle.std.specs.Prelude.{ℕ, refl}
use Rattle.std.specs.Coded.{Coded, code_by, coded×, coded_ℕ, coded_list}
use Rattle.std.specs.FinMap as finite
use Rattle.kp_table_defs.specs.Rebuild.{Chains, TableParts}
use Rattle.kp_types.specs.contracts.chain.ChainAt as place_row
use Rattle.kp_types.specs.contracts.rule.Rule as rule_row

-- the chains, and how many new ones can be written with no more memory
pub record RoomyChains : Type 0 where
  pub chains : Chains
  pub room : ℕ

-- chains are stored as finite maps are
abbrev pub chains_code : Coded Chains
chains_code = finite.code place_row.the_row.coded (coded_list rule_row.the_row.coded)

-- and they with their room as a pair
abbrev pub roomy_code : Coded RoomyChains
roomy_code = code_by (Chains × ℕ) (coded× chains_code coded_ℕ) (λ c. (c.chains, c.room)) (λ p. record { chains = p.0; room = p.1 }) (λ _. refl)

-- and a table as its chains and its count
abbrev pub table_code : Coded TableParts
table_code = code_by (Chains × ℕ) (coded× chains_code coded_ℕ) (λ t. (t.chains, t.syncs)) (λ p. record { chains = p.0; syncs = p.1 }) (λ _. refl)
