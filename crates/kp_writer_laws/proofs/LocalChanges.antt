-- The changes of a family's tables are those at places in order that hold all at which tables
-- differ.
use Rattle.std.proofs.Common.{◌≡◌, ◌||◌, Bool, true, false, cond, List, [], ◌∷◌, ◌++◌, map, Option}
use Rattle.std.proofs.Common.{Some, None, is_some, option_map, refl, sym, ap, subst, ◌∙◌, T}
use Rattle.std.specs.declared.cmp.Ordering.{Ordering}
use Rattle.std.specs.declared.cmp.Ordering.TheVariants.{Less}
use Rattle.std.specs.List.{AllByRecursion, cons_option, filter_map, list_any}
use Rattle.std.specs.List.Sorted.{IsStrictlySortedBy}
use Rattle.std.specs.Ordering.{eq_by_cmp, is_lt}
use Rattle.std.specs.Cmp.{IsTotalOrder}
use Rattle.std.specs.FinMap.{IsAntisymmetric, contains_key-keys, entries, find, get, is_sorted}
use Rattle.std.specs.FinMap.{keys}
use Rattle.std.specs.FinMap.Entries.{below_all, same_entries}
use Rattle.kp_lemmas.proofs.Booleans.{fact_of_both}
use Rattle.kp_lemmas.proofs.Entries.{entries_found}
use Rattle.kp_lemmas.proofs.Options.{none_of}
use Rattle.kp_lemmas.proofs.Orders.{one_from_tie}
use Rattle.kp_types.specs.Places.{chain_cmp, filter_of, nat_of}
use Rattle.kp_types.specs.declared.chain.ChainAt.{ChainAt}
use Rattle.kp_types.specs.declared.chain.TableName.{TableName}
use Rattle.kp_types.specs.declared.rule.Edit.TheVariants.{Remove, Write}
use Rattle.kp_types.specs.declared.rule.Rule.{Rule}
use Rattle.kp_types.proofs.ChainOrder.{chain_total, chain_exact}
use Rattle.kp_table_defs.specs.Edits.{is_found_with, table_changes}
use Rattle.kp_table_defs.specs.Rebuild.{Chains}
use Rattle.kp_rules.specs.Changes.{is_in, remove_at, write_at, write_if_found}
use Rattle.kp_rules.proofs.ChangeLists.{added_changes}
use Rattle.kp_rules.proofs.ChangesLead.{same_rules_exact}
use Rattle.kp_rules.proofs.MapPlaces.{keys-sorted}
use Rattle.kp_writer_laws.specs.LocalLaws.{ChangesAreLocal, remove_between, table_changes_at}

-- ---- What keys in order give is told by which keys give something

module _ {K X : Type 0} (R : K → K → Ordering) (gives : K → Option X) where
  -- a key with what it gives, if it gives something
  abbrev entry : K → Option (K × X)
  entry k = option_map (λ x. (k, x)) (gives k)

  abbrev entries_by : List K → List (K × X)
  entries_by ks = filter_map entry ks

  given : (ks : List K) → filter_map gives ks ≡ map (λ e. e.1) (entries_by ks)
  given [] = refl
  given (k ∷ ks) =
      elim (gives k) as (λ o. cons_option o (filter_map gives ks)
      ≡ map (λ e. e.1) (cons_option (option_map (λ x. (k, x)) o) (entries_by ks))) [
        | None ↦ given ks
        | Some x ↦ ap (λ xs. x ∷ xs) (given ks)
      ]

  below_given : (k : K) (ks : List K) → AllByRecursion (λ l. R k l ≡ Less) ks
      → T (below_all R k (entries_by ks))
  below_given k [] h = tt
  below_given k (l ∷ ks) h =
      elim (gives l) as (λ o. T (below_all R k (cons_option (option_map (λ x. (l, x)) o)
      (entries_by ks)))) [
        | None ↦ below_given k ks h.1
        | Some x ↦ fact_of_both _ _ (subst (λ o. T (is_lt o)) (sym h.0) tt) (below_given k ks h.1)
      ]

  sorted_given : (ks : List K) → IsStrictlySortedBy R ks → T (is_sorted R (entries_by ks))
  unfolding IsStrictlySortedBy
  sorted_given [] h = tt
  sorted_given (k ∷ ks) h =
      elim (gives k) as (λ o. T (is_sorted R (cons_option (option_map (λ x. (k, x)) o)
      (entries_by ks)))) [
        | None ↦ sorted_given ks h.1
        | Some x ↦ fact_of_both _ _ (below_given k ks h.0) (sorted_given ks h.1)
      ]

  -- whether a key is in a list
  abbrev has : List K → K → Bool
  has ks q = list_any (eq_by_cmp R q) ks

  module _ (exact : IsAntisymmetric R) where
    one_given : (q k : K) (ks : List K) → find R q (entries_by ks) ≡ cond (has ks q) (gives q) None
        → (b : Bool) → eq_by_cmp R q k ≡ b → (o : Option X) → gives k ≡ o
        → find R q (cons_option (option_map (λ x. (k, x)) o) (entries_by ks))
        ≡ cond (b || has ks q) (gives q) None
    one_given q k ks rest true is (Some x) g =
        ap (λ b. cond b (Some x) (find R q (entries_by ks))) is
        ∙ sym (ap gives (one_from_tie exact q k is) ∙ g)
    one_given q k ks rest true is None g =
        rest ∙ either_none (has ks q) (ap gives (one_from_tie exact q k is) ∙ g)
      where
        either_none : (b : Bool) → gives q ≡ None → cond b (gives q) None ≡ gives q
        either_none true n = refl
        either_none false n = sym n
    one_given q k ks rest false is (Some x) g =
        ap (λ b. cond b (Some x) (find R q (entries_by ks))) is ∙ rest
    one_given q k ks rest false is None g = rest

    found_given : (q : K) (ks : List K)
        → find R q (entries_by ks) ≡ cond (has ks q) (gives q) None
    found_given q [] = refl
    found_given q (k ∷ ks) =
        one_given q k ks (found_given q ks) (eq_by_cmp R q k) refl (gives k) refl

    module _ (total : IsTotalOrder R) (ks ls : List K)
        (only : (q : K) → has ks q ≡ true → has ls q ≡ false → gives q ≡ None)
        (also : (q : K) → has ls q ≡ true → has ks q ≡ false → gives q ≡ None) where
      same_found : (q : K) (a b : Bool) → has ks q ≡ a → has ls q ≡ b
          → cond a (gives q) None ≡ cond b (gives q) None
      same_found q true true h k = refl
      same_found q true false h k = only q h k
      same_found q false true h k = sym (also q k h)
      same_found q false false h k = refl

      -- so two lists that differ in keys that give nothing give the same
      pub same_given : IsStrictlySortedBy R ks → IsStrictlySortedBy R ls
          → filter_map gives ks ≡ filter_map gives ls
      same_given kr lr =
          given ks
          ∙ ap (map (λ e. e.1)) (same_entries R total exact (entries_by ks) (entries_by ls)
          (sorted_given ks kr) (sorted_given ls lr) (λ q.
          found_given q ks ∙ same_found q (has ks q) (has ls q) refl refl ∙ sym (found_given q ls)))
          ∙ sym (given ls)

-- ---- Changes at places

-- what gives nothing gives nothing either way
pub in_either : {X : Type 0} (b : Bool) {o : Option X} → o ≡ None → cond b o None ≡ None
in_either true h = h
in_either false h = refl

module _ (before after : Chains) (places : List ChainAt)
    (sorted : IsStrictlySortedBy chain_cmp places)
    (agree : (at : ChainAt) → list_any (eq_by_cmp chain_cmp at) places ≡ false → get after at
    ≡ get before at) where
  -- a place with a chain is one of a table's
  not_there : (m : Chains) (at : ChainAt) → list_any (eq_by_cmp chain_cmp at) (keys m) ≡ false
      → is_some (get m at) ≡ false
  not_there m at h = contains_key-keys m at ∙ h

  no_write : (o : Option (List Rule)) (at : ChainAt) → get before at ≡ o
      → write_if_found before at o ≡ None
  no_write None at h = refl
  no_write (Some rules) at h =
      ap (λ found. cond (is_found_with rules found) None (Some (Write at rules))) h
      ∙ ap (λ b. cond b None (Some (Write at rules))) ((same_rules_exact rules rules).1 refl)

  writes : (table : TableName) → filter_map (write_at before after table) (keys after)
      ≡ filter_map (write_at before after table) places
  writes table =
      same_given chain_cmp (write_at before after table) chain_exact chain_total (keys after) places
      (λ at here out. in_either (is_in table at) (no_write (get after at) at (sym (agree at out))))
      (λ at here out. in_either (is_in table at) (ap (write_if_found before at) (none_of
      (get after at) (not_there after at out))))
      (keys-sorted after) sorted

  no_remove : (table : TableName) (at : ChainAt) → is_some (get after at) ≡ true
      → remove_at after table at ≡ None
  no_remove table at h = in_either (is_in table at) (ap (λ b. cond b None (Some (Remove at))) h)

  -- at the places that have a chain before, both removes are one
  had : (table : TableName) (es : List (ChainAt × List Rule))
      → AllByRecursion (λ e. get before e.0 ≡ Some e.1) es
      → filter_map (remove_at after table) (map (λ e. e.0) es)
      ≡ filter_map (remove_between before after table) (map (λ e. e.0) es)
  had table [] h = refl
  had table (e ∷ es) h =
      ap (cons_option (remove_at after table e.0)) (had table es h.1)
      ∙ ap (λ o. cons_option (cond (is_some o) (remove_at after table e.0) None) (filter_map
      (remove_between before after table) (map (λ e. e.0) es))) (sym h.0)

  removes : (table : TableName) → filter_map (remove_at after table) (keys before)
      ≡ filter_map (remove_between before after table) places
  removes table =
      had table (entries before) (entries_found chain_total before)
      ∙ same_given chain_cmp (remove_between before after table) chain_exact chain_total
      (keys before) places
      (λ at here out. in_either (is_some (get before at)) (no_remove table at (ap is_some
      (agree at out) ∙ contains_key-keys before at ∙ here)))
      (λ at here out. ap (λ b. cond b (remove_at after table at) None) (not_there before at out))
      (keys-sorted before) sorted

  of_table : (table : TableName)
      → table_changes before after table ≡ table_changes_at before after places table
  of_table table =
      sym (added_changes before after table [] _ _ refl refl)
      ∙ (λ i. writes table i ++ removes table i)

pub changes_are_local : ChangesAreLocal
changes_are_local family before after places sorted agree =
    λ i.
    of_table before after places sorted agree (nat_of family) i
    ++ of_table before after places sorted agree (filter_of family) i
