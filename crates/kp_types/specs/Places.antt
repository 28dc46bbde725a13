-- The order of the places of chains: by table, IPv4 before IPv6 and nat before filter, and then by the bytes of the
-- name.
use Rattle.std.specs.Prelude.{ℕ}
use Rattle.std.specs.Ordering.{nat_cmp, ordering_then}
use Rattle.std.specs.declared.cmp.Ordering.{Ordering}
use Rattle.kp_base.specs.Keys.{text_cmp}
use Rattle.kp_base.specs.declared.address.Family.{Family}
use Rattle.kp_base.specs.declared.address.Family.TheVariants.{V4, V6}
use Rattle.kp_types.specs.declared.chain.TableName.{TableName}
use Rattle.kp_types.specs.declared.chain.TableName.TheVariants.{Nat, Filter, Nat6, Filter6}
use Rattle.kp_types.specs.declared.chain.ChainAt.{ChainAt}

-- the place of a table among all
abbrev pub table_place : TableName → ℕ
table_place Nat = 0
table_place Filter = 1
table_place Nat6 = 2
table_place Filter6 = 3

-- the family of the packets that pass a table
abbrev pub family_of_table : TableName → Family
family_of_table Nat = V4
family_of_table Filter = V4
family_of_table Nat6 = V6
family_of_table Filter6 = V6

-- the nat table of a family
abbrev pub nat_of : Family → TableName
nat_of V4 = Nat
nat_of V6 = Nat6

-- the filter table of a family
abbrev pub filter_of : Family → TableName
filter_of V4 = Filter
filter_of V6 = Filter6

-- by the places of tables
abbrev pub table_cmp : TableName → TableName → Ordering
table_cmp a b = nat_cmp (table_place a) (table_place b)

-- by table, and then by name
abbrev pub chain_cmp : ChainAt → ChainAt → Ordering
chain_cmp a b = ordering_then (table_cmp a.table b.table) (text_cmp a.chain b.chain)

-- the table of a family in place of another family's
abbrev pub table_in : Family → TableName → TableName
table_in family Nat = nat_of family
table_in family Filter = filter_of family
table_in family Nat6 = nat_of family
table_in family Filter6 = filter_of family

-- the place of a chain in the tables of a family
abbrev pub place_in : Family → ChainAt → ChainAt
place_in family at = record at { table = table_in family at.table }
