-- Tables without a chain of a family have no changes of it.
use Rattle.std.proofs.Common.{◌≡◌, ◌++◌, true, false, cond, List, [], ◌∷◌, map, suc, Option, Some, None, is_some, refl, sym, ap, ◌∙◌, arith}
use Rattle.std.specs.FinMap.{entries, keys, get}
use Rattle.std.specs.List.{All, filter_map, cons_option, list_all}
use Rattle.std.proofs.lemmas.Bool.{and_parts, false≢true, false_from_ne_true}
use Rattle.std.proofs.lemmas.List.Elements.{All-cons, All-weaker}
use Rattle.kp_base.specs.Net.{same_family}
use Rattle.kp_base.specs.declared.address.Family.{Family}
use Rattle.kp_base.specs.declared.address.Family.TheVariants.{V4, V6}
use Rattle.kp_base.proofs.SameParts.{family_itself, same_family_exact}
use Rattle.kp_types.specs.Places.{family_of_table, nat_of, filter_of}
use Rattle.kp_types.specs.declared.chain.TableName.{TableName}
use Rattle.kp_types.specs.declared.chain.ChainAt.{ChainAt}
use Rattle.kp_types.specs.declared.rule.Edit.TheVariants.{Remove}
use Rattle.kp_types.proofs.ChainOrder.{one_table_from_test}
use Rattle.kp_table_defs.specs.Edits.{table_changes, changes_of}
use Rattle.kp_table_defs.specs.Rebuild.{Chains}
use Rattle.kp_rules.specs.Changes.{IsOutside, AreOutside, is_in, write_at, remove_at, write_if_found}
use Rattle.kp_rules.proofs.ChangeLists.{Entries, added_changes}

-- ---- Places outside a family's tables

-- a place outside a family's tables isn't in one of them
pub not_in : (family : Family) (table : TableName) → family_of_table table ≡ family → (at : ChainAt)
    → IsOutside family at → is_in table at ≡ false
not_in family table of at outside =
    false_from_ne_true (is_in table at) (λ inside.
    false≢true (sym outside ∙ ap (λ t. same_family (family_of_table t) family)
    (one_table_from_test at.table table inside) ∙ ap (λ f. same_family f family) of
    ∙ family_itself family))

pub nat_family : (family : Family) → family_of_table (nat_of family) ≡ family
nat_family V4 = refl
nat_family V6 = refl

pub filter_family : (family : Family) → family_of_table (filter_of family) ≡ family
filter_family V4 = refl
filter_family V6 = refl

-- chains of one family's tables are outside another's
others_outside : (family other : Family) → same_family family other ≡ false → (es : Entries)
    → list_all (λ e. same_family (family_of_table e.0.table) family) es ≡ true
    → AreOutside other (map (λ e. e.0) es)
others_outside family other differ [] h = λ k d lt. absurd (omega (arith, lt))
others_outside family other differ (e ∷ es) h =
    let both = and_parts _ _ h in
    All-cons (IsOutside other) e.0 (map (λ e. e.0) es)
    (ap (λ f. same_family f other) (same_family_exact (family_of_table e.0.table) family both.0)
    ∙ differ)
    (others_outside family other differ es both.1)

-- ---- What gives nothing at each element gives nothing

pub nothing_given : {X Y : Type 0} (f : X → Option Y) (xs : List X) → All (λ x. f x ≡ None) xs
    → filter_map f xs ≡ []
nothing_given f [] none = refl
nothing_given f (x ∷ xs) none =
    (λ i. cons_option (none 0 x (omega arith) i) (filter_map f xs))
    ∙ nothing_given f xs (λ k d lt. none (suc k) d (omega (arith, lt)))

-- ---- Changes

module _ (family : Family) (before after : Chains) where
  table_stays : (table : TableName) → family_of_table table ≡ family
      → AreOutside family (keys before) → AreOutside family (keys after)
      → table_changes before after table ≡ []
  table_stays table of old new =
      let no_write : filter_map (write_at before after table) (keys after) ≡ [] =
      nothing_given (write_at before after table) (keys after)
      (All-weaker (IsOutside family) (λ at. write_at before after table at ≡ None)
      (λ at out. ap (λ b. cond b (write_if_found before at (get after at)) None)
      (not_in family table of at out)) (keys after) new) in
      let no_remove : filter_map (remove_at after table) (keys before) ≡ [] =
      nothing_given (remove_at after table) (keys before)
      (All-weaker (IsOutside family) (λ at. remove_at after table at ≡ None)
      (λ at out. ap (λ b. cond b (cond (is_some (get after at)) None (Some (Remove at))) None)
      (not_in family table of at out)) (keys before) old) in
      sym (added_changes before after table [] _ _ refl refl) ∙ (λ i. no_write i ++ no_remove i)

  -- where no chain is in a family's tables, these have no changes
  pub no_changes_of : AreOutside family (keys before) → AreOutside family (keys after)
      → changes_of family before after ≡ []
  no_changes_of old new =
      λ i.
      table_stays (nat_of family) (nat_family family) old new i
      ++ table_stays (filter_of family) (filter_family family) old new i

-- so tables of one family alone have no changes of another
pub no_changes_beside : (family other : Family) → same_family family other ≡ false
    → (before after : Chains)
    → list_all (λ e. same_family (family_of_table e.0.table) family) (entries before) ≡ true
    → list_all (λ e. same_family (family_of_table e.0.table) family) (entries after) ≡ true
    → changes_of other before after ≡ []
no_changes_beside family other differ before after old new =
    no_changes_of other before after (others_outside family other differ (entries before) old)
    (others_outside family other differ (entries after) new)
