-- The order of chains' places is total, and tells all places apart; and what the derived comparisons and
-- tests of places answer is what it answers.
use Rattle.std.proofs.Common.{◌≡◌, ◌==◌, ℕ, zero, suc, true, List, refl, sym, ap, ◌∙◌}
use Rattle.std.specs.Ordering.{eq_by_cmp, ordering_then, is_eq}
use Rattle.std.specs.Cmp.{IsTotalOrder}
use Rattle.std.specs.FinMap.{IsAntisymmetric, nat_cmp-IsAntisymmetric}
use Rattle.std.proofs.lemmas.Cmp.{on_total, then_total, nat_cmp_total}
use Rattle.std.proofs.lemmas.Bool.{eqb-true}
use Rattle.std.proofs.lemmas.Map.Lookups.{exact_pairs}
use Rattle.kp_base.specs.Keys.{text_cmp}
use Rattle.kp_base.proofs.KeyOrder.{text_total, text_exact}
use Rattle.kp_types.specs.Places.{table_place, table_cmp, chain_cmp}
use Rattle.kp_types.specs.declared.chain.TableName.{TableName}
use Rattle.kp_types.specs.declared.chain.TableName.TheVariants.{Nat, Filter, Nat6, Filter6}
use Rattle.kp_types.specs.declared.chain.ChainAt.{ChainAt}
use Rattle.kp_types.specs.contracts.chain.TableNameOrd.TheImpl as table_ord
use Rattle.kp_types.specs.contracts.chain.ChainAtOrd.TheImpl as chain_ord
use Rattle.kp_types.specs.contracts.chain.ChainAtOrd.TheImpl.Laws as chain_laws
use Rattle.kp_types.specs.contracts.chain.ChainAtPartialEq.TheImpl as chain_eq

-- the table at a place, which no two tables have
abbrev table_at : ℕ → TableName
table_at zero = Nat
table_at (suc zero) = Filter
table_at (suc (suc zero)) = Nat6
table_at (suc (suc (suc n))) = Filter6

table_there : (t : TableName) → table_at (table_place t) ≡ t
table_there Nat = refl
table_there Filter = refl
table_there Nat6 = refl
table_there Filter6 = refl

one_table : (a b : TableName) → table_place a ≡ table_place b → a ≡ b
one_table a b h = sym (table_there a) ∙ ap table_at h ∙ table_there b

-- the same by the test of numbers
pub one_table_from_test : (a b : TableName) → (table_place a == table_place b) ≡ true → a ≡ b
one_table_from_test a b h = one_table a b (eqb-true (table_place a) (table_place b) h)

table_exact : IsAntisymmetric table_cmp
table_exact a b h = one_table a b (nat_cmp-IsAntisymmetric _ _ h)

-- the derived order of tables
table_matches : (a b : TableName) → table_ord.ghosts.cmp a b ≡ table_cmp a b
table_matches Nat Nat = refl
table_matches Nat Filter = refl
table_matches Nat Nat6 = refl
table_matches Nat Filter6 = refl
table_matches Filter Nat = refl
table_matches Filter Filter = refl
table_matches Filter Nat6 = refl
table_matches Filter Filter6 = refl
table_matches Nat6 Nat = refl
table_matches Nat6 Filter = refl
table_matches Nat6 Nat6 = refl
table_matches Nat6 Filter6 = refl
table_matches Filter6 Nat = refl
table_matches Filter6 Filter = refl
table_matches Filter6 Nat6 = refl
table_matches Filter6 Filter6 = refl

pub chain_total : IsTotalOrder chain_cmp
chain_total = then_total (on_total (λ c. table_place c.table) nat_cmp_total) (on_total (λ c. c.chain) text_total)

pub chain_exact : IsAntisymmetric chain_cmp
chain_exact a b h = ap (λ (p : TableName × List ℕ). record { table = p.0; chain = p.1 }) (exact_pairs table_cmp text_cmp table_exact text_exact (a.table, a.chain) (b.table, b.chain) h)

-- the derived order
pub chain_matches : (a b : ChainAt) → chain_ord.ghosts.cmp a b ≡ chain_cmp a b
chain_matches a b = ap (λ o. ordering_then o (text_cmp a.chain b.chain)) (table_matches a.table b.table)

-- the derived test
pub chain_ties : (a b : ChainAt) → chain_eq.ghosts.eq a b ≡ eq_by_cmp chain_cmp a b
chain_ties a b = chain_laws.matches_eq-law a b ∙ ap is_eq (chain_matches a b)

-- the test of a look-up by the derived order
pub chain_tree_ties : (a b : ChainAt) → eq_by_cmp chain_ord.ghosts.cmp a b ≡ eq_by_cmp chain_cmp a b
chain_tree_ties a b = ap is_eq (chain_matches a b)
