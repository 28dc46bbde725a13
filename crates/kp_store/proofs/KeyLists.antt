-- The keys of a bucket, of which some stand in a list.
use Rattle.std.proofs.Common.{◌≡◌, ◌&&◌, ◌||◌, Bool, true, false, not, cond, List, [], ◌∷◌, ◌++◌, filter, is_some, refl, sym, ap, ◌∙◌}
use Rattle.std.specs.List.{list_any}
use Rattle.std.specs.Ordering.{eq_by_cmp}
use Rattle.std.specs.Cmp.{eq_by_cmp_equiv}
use Rattle.std.specs.FinMap.{insert, remove, contains_key, empty, get-empty}
use Rattle.std.proofs.lemmas.List.Folds.{list_any-append}
use Rattle.kp_lemmas.proofs.Orders.{one_from_tie}
use Rattle.kp_base.specs.Keys.{key_cmp}
use Rattle.kp_base.specs.declared.key.ObjectKey.{ObjectKey}
use Rattle.kp_base.specs.contracts.key.ObjectKeyPartialEq.TheImpl as key_eq
use Rattle.kp_base.proofs.KeyOrder.{key_total, key_exact, key_ties}
use Rattle.kp_store.specs.Indexes.{Keys, is_among, with_keys}
use Rattle.kp_store.proofs.Buckets.{in_inserted, in_removed}
use mathlib.Core.Bool.{or-false, or_assoc}

-- ---- truth values

or_last : (a b c : Bool) → (a || (b || false)) || c ≡ b || (a || c)
or_last true true c = refl
or_last true false c = refl
or_last false true c = refl
or_last false false c = refl

pub or_between : (a b c : Bool) → a || (b || c) ≡ b || (a || c)
or_between true true c = refl
or_between true false c = refl
or_between false b c = refl

without_both : (e a c : Bool) → (not e && a) || (not e && c) ≡ not e && (a || c)
without_both true a c = refl
without_both false a c = refl

-- ---- keys

-- the test of a key
abbrev is_key : ObjectKey → ObjectKey → Bool
is_key q k = eq_by_cmp key_cmp q k

-- what stands in the list, and what beside it
pub in_keys : (ks : List ObjectKey) (m : Keys) (q : ObjectKey) → contains_key (with_keys ks m) q ≡ list_any (is_key q) ks || contains_key m q
in_keys [] m q = refl
in_keys (k ∷ ks) m q =
    in_inserted (with_keys ks m) k q
    ∙ ap (λ b. is_key q k || b) (in_keys ks m q)
    ∙ sym (or_assoc (is_key q k) (list_any (is_key q) ks) (contains_key m q))

-- the same by the test of keys
pub in_bucket : (ks : List ObjectKey) (m : Keys) (q : ObjectKey) → is_among key_eq.ghosts.eq ks q || contains_key m q ≡ contains_key (with_keys ks m) q
in_bucket ks m q = ap (λ b. b || contains_key m q) (listed ks) ∙ sym (in_keys ks m q)
  where
    listed : (ks : List ObjectKey) → is_among key_eq.ghosts.eq ks q ≡ list_any (is_key q) ks
    listed [] = refl
    listed (k ∷ ks) = λ i. key_ties q k i || listed ks i

-- a key alone
pub alone : (key q : ObjectKey) → contains_key (with_keys (key ∷ []) empty) q ≡ is_key q key
alone key q =
    in_inserted empty key q
    ∙ ap (λ b. is_key q key || b) (ap is_some (get-empty key_cmp q))
    ∙ or-false (is_key q key)

-- the keys of the list and those beside it, put beside others
pub in_both : (ks : List ObjectKey) (m : Keys) (q : ObjectKey) (others : Bool) → contains_key m q || (list_any (is_key q) ks || others) ≡ contains_key (with_keys ks m) q || others
in_both ks m q others =
    or_between (contains_key m q) (list_any (is_key q) ks) others
    ∙ sym (or_assoc (list_any (is_key q) ks) (contains_key m q) others)
    ∙ ap (λ b. b || others) (sym (in_keys ks m q))

-- one more in the list
pub pushed : (ks : List ObjectKey) (m : Keys) (key q : ObjectKey) → contains_key (with_keys (ks ++ key ∷ []) m) q ≡ is_key q key || contains_key (with_keys ks m) q
pushed ks m key q =
    in_keys (ks ++ key ∷ []) m q
    ∙ ap (λ b. b || contains_key m q) (list_any-append (is_key q) ks (key ∷ []))
    ∙ or_last (list_any (is_key q) ks) (is_key q key) (contains_key m q)
    ∙ ap (λ b. is_key q key || b) (sym (in_keys ks m q))

-- one more beside it
pub put_beside : (ks : List ObjectKey) (m : Keys) (key q : ObjectKey) → contains_key (with_keys ks (insert m key tt)) q ≡ is_key q key || contains_key (with_keys ks m) q
put_beside ks m key q =
    in_keys ks (insert m key tt) q
    ∙ ap (λ b. list_any (is_key q) ks || b) (in_inserted m key q)
    ∙ or_between (list_any (is_key q) ks) (is_key q key) (contains_key m q)
    ∙ ap (λ b. is_key q key || b) (sym (in_keys ks m q))

-- keys without one
without : (key q : ObjectKey) (ks : List ObjectKey) → list_any (is_key q) (filter (λ o. not (is_key o key)) ks) ≡ not (is_key q key) && list_any (is_key q) ks
without key q [] = by (is_key q key)
  where
    by : (b : Bool) → false ≡ not b && false
    by true = refl
    by false = refl
without key q (o ∷ ks) = by (is_key o key) (is_key q key) refl refl (without key q ks)
  where
    by : (b e : Bool) → is_key o key ≡ b → is_key q key ≡ e → list_any (is_key q) (filter (λ o. not (is_key o key)) ks) ≡ not (is_key q key) && list_any (is_key q) ks → list_any (is_key q) (cond (not b) (o ∷ filter (λ o. not (is_key o key)) ks) (filter (λ o. not (is_key o key)) ks)) ≡ not e && (is_key q o || list_any (is_key q) ks)
    by true true at is rest = rest ∙ ap (λ b. not b && list_any (is_key q) ks) is
    by true false at is rest =
        rest ∙ ap (λ b. not b && list_any (is_key q) ks) is
        ∙ ap (λ b. b || list_any (is_key q) ks) (sym (ap (is_key q) (one_from_tie key_exact o key at) ∙ is))
    by false true at is rest =
        ap (λ b. b || list_any (is_key q) (filter (λ o. not (is_key o key)) ks)) (ap (λ k. is_key k o) (one_from_tie key_exact q key is) ∙ (eq_by_cmp_equiv key_total).symm key o ∙ at)
        ∙ rest ∙ ap (λ b. not b && list_any (is_key q) ks) is
    by false false at is rest = ap (λ b. is_key q o || b) (rest ∙ ap (λ b. not b && list_any (is_key q) ks) is)

-- a key was taken out of both
pub taken : (ks : List ObjectKey) (m : Keys) (key q : ObjectKey) → contains_key (with_keys (filter (λ o. not (is_key o key)) ks) (remove m key)) q ≡ not (is_key q key) && contains_key (with_keys ks m) q
taken ks m key q =
    in_keys (filter (λ o. not (is_key o key)) ks) (remove m key) q
    ∙ (λ i. without key q ks i || in_removed m key q i)
    ∙ without_both (is_key q key) (list_any (is_key q) ks) (contains_key m q)
    ∙ ap (λ b. not (is_key q key) && b) (sym (in_keys ks m q))
