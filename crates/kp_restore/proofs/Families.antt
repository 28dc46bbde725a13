-- The two tables of a family.
use Rattle.std.proofs.Common.{◌≡◌, ◌⊎◌, ◌==◌, true, false, refl, sym, ap, ◌∙◌, inl, inr, arith}
use Rattle.std.specs.Ordering.{nat_cmp}
use Rattle.std.specs.declared.cmp.Ordering.TheVariants.{Less, Greater}
use Rattle.std.proofs.lemmas.Bool.{false≢true, false_from_ne_true}
use Rattle.std.proofs.lemmas.Bool.Decides.{nat_tests}
use Rattle.kp_base.specs.Net.{same_family}
use Rattle.kp_base.specs.declared.address.Family.{Family}
use Rattle.kp_base.specs.declared.address.Family.TheVariants.{V4, V6}
use Rattle.kp_types.specs.Places.{table_place, family_of_table, nat_of, filter_of}
use Rattle.kp_types.specs.declared.chain.TableName.{TableName}
use Rattle.kp_types.specs.declared.chain.TableName.TheVariants.{Nat, Filter, Nat6, Filter6}
use Rattle.kp_types.proofs.ChainOrder.{one_table_from_test}

-- a table of a family
abbrev pub IsTableOf : Family → TableName → Type 0
IsTableOf family table = same_family (family_of_table table) family ≡ true

pub nat_is_of : (family : Family) → IsTableOf family (nat_of family)
nat_is_of family = elim family as (λ f. IsTableOf f (nat_of f)) [ V4 ↦ refl | V6 ↦ refl ]

pub filter_is_of : (family : Family) → IsTableOf family (filter_of family)
filter_is_of family = elim family as (λ f. IsTableOf f (filter_of f)) [ V4 ↦ refl | V6 ↦ refl ]

-- a table of a family is its nat or its filter table
pub which_table : (family : Family) (table : TableName) → IsTableOf family table → (table ≡ nat_of family) ⊎ (table ≡ filter_of family)
which_table V4 Nat h = inl refl
which_table V4 Filter h = inr refl
which_table V6 Nat6 h = inl refl
which_table V6 Filter6 h = inr refl
which_table V4 table h = absurd (false≢true h)
which_table V6 table h = absurd (false≢true h)

-- the nat table stands before the filter table
pub nat_first : (family : Family) → nat_cmp (table_place (nat_of family)) (table_place (filter_of family)) ≡ Less
nat_first family = elim family as (λ f. nat_cmp (table_place (nat_of f)) (table_place (filter_of f)) ≡ Less) [ V4 ↦ refl | V6 ↦ refl ]

-- and the filter table after it
pub filter_last : (family : Family) → nat_cmp (table_place (filter_of family)) (table_place (nat_of family)) ≡ Greater
filter_last family = elim family as (λ f. nat_cmp (table_place (filter_of f)) (table_place (nat_of f)) ≡ Greater) [ V4 ↦ refl | V6 ↦ refl ]

pub nat_is_no_filter : (family : Family) → (table_place (nat_of family) == table_place (filter_of family)) ≡ false
nat_is_no_filter family = elim family as (λ f. (table_place (nat_of f) == table_place (filter_of f)) ≡ false) [ V4 ↦ refl | V6 ↦ refl ]

pub filter_is_no_nat : (family : Family) → (table_place (filter_of family) == table_place (nat_of family)) ≡ false
filter_is_no_nat family = elim family as (λ f. (table_place (filter_of f) == table_place (nat_of f)) ≡ false) [ V4 ↦ refl | V6 ↦ refl ]

pub table_tied : (table : TableName) → (table_place table == table_place table) ≡ true
table_tied table = grind (arith, nat_tests)

-- tables of two families are two
pub beside : (family : Family) (table other : TableName) → same_family (family_of_table table) family ≡ false → IsTableOf family other → (table_place table == table_place other) ≡ false
beside family table other h of =
    false_from_ne_true (table_place table == table_place other)
    (λ e. false≢true (sym h ∙ ap (λ t. same_family (family_of_table t) family) (one_table_from_test table other e) ∙ of))
