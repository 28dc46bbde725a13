-- Newest values as published ones with what was updated since.
use Rattle.std.proofs.Common.{◌≡◌, Bool, true, false, cond, not, List, [], ◌∷◌, ◌++◌, map, filter}
use Rattle.std.proofs.Common.{Option, Some, None, refl, sym, ap, ◌∙◌}
use Rattle.std.specs.declared.cmp.Ordering.{Ordering}
use Rattle.std.specs.BTreeMap.{is_at}
use Rattle.std.specs.Ordering.{eq_by_cmp, is_eq}
use Rattle.std.specs.Cmp.{IsTotalOrder, eq_by_cmp_equiv}
use Rattle.std.specs.FinMap.{FinMap, IsAntisymmetric, find, get, get-insert, get-remove, same_map}
use Rattle.std.specs.Map.{lookup}
use Rattle.std.specs.Option.{option_eq}
use Rattle.kp_base.proofs.Maps.{lookup-get}
use Rattle.kp_tracker.specs.Tracked.{Tracked, is_other, newest, published, updated, with_value}

-- the value of an update, or else of what is published
abbrev pub update_or : {V : Type 0} → Option (Option V) → Option V → Option V
update_or None was = was
update_or (Some v) was = v

update_of_both : {V : Type 0} (b : Bool) (v : Option V) (o : Option (Option V)) (was : Option V)
    → cond b v (update_or o was) ≡ update_or (cond b (Some v) o) was
update_of_both true v o was = refl
update_of_both false v o was = refl

-- what a sorted map finds
found_by : {K X : Type 0} (C R : K → K → Ordering) → ((a b : K) → C a b ≡ R a b)
    → (es : List (K × X)) (q : K) → lookup (is_at (C q)) es ≡ find R q es
found_by C R sorts [] q = refl
found_by C R sorts (e ∷ es) q =
    λ i. cond (is_eq (sorts q e.0 i)) (Some e.1) (found_by C R sorts es q i)

module _ {K V : Type 0} {R : K → K → Ordering} (total : IsTotalOrder R) where
  -- what is found once a key has a value, or none
  got_with : (m : FinMap R V) (k : K) (v : Option V) (q : K)
      → get (with_value R m k v) q ≡ cond (eq_by_cmp R q k) v (get m q)
  got_with m k None q = get-remove total m k q
  got_with m k (Some v) q = get-insert total m k v q

  -- what is found among the newest values
  pub got_updated : (m : FinMap R V) (es : List (K × Option V)) (q : K)
      → get (updated R m es) q ≡ update_or (find R q es) (get m q)
  got_updated m [] q = refl
  got_updated m (e ∷ es) q =
      got_with (updated R m es) e.0 e.1 q
      ∙ ap (cond (eq_by_cmp R q e.0) e.1) (got_updated m es q)
      ∙ update_of_both (eq_by_cmp R q e.0) e.1 (find R q es) (get m q)

  module _ (C : K → K → Ordering) (sorts : (a b : K) → C a b ≡ R a b) where
    -- what is found among the newest values, by what a sorted map has
    pub got_newest : (t : Tracked K V) (q : K) (o : Option (Option V))
        → o ≡ lookup (is_at (C q)) t.updates
        → get (newest R t) q ≡ update_or o (get (published R t) q)
    got_newest t q o is =
        got_updated (published R t) t.updates q
        ∙ ap (λ f. update_or f (get (published R t) q)) (sym (is ∙ found_by C R sorts t.updates q))

    -- one update more, as a sorted map takes it
    pub updated_more : IsAntisymmetric R → (m : FinMap R V) (es fs : List (K × Option V)) (k : K)
        (v : Option V)
        → ((q : K) → lookup (is_at (C q)) fs ≡ cond (eq_by_cmp C k q) (Some v) (lookup (is_at
        (C q)) es))
        → updated R m fs ≡ with_value R (updated R m es) k v
    updated_more exact m es fs k v h =
        same_map total exact (updated R m fs) (with_value R (updated R m es) k v) (λ q.
        got_updated m fs q
        ∙ ap (λ o. update_or o (get m q)) (sym (found_by C R sorts fs q) ∙ h q
        ∙ (λ i. cond (is_eq (sorts k q i)) (Some v) (found_by C R sorts es q i))
        ∙ ap (λ b. cond b (Some v) (find R q es)) ((eq_by_cmp_equiv total).symm k q))
        ∙ sym (update_of_both (eq_by_cmp R q k) v (find R q es) (get m q))
        ∙ ap (cond (eq_by_cmp R q k) v) (sym (got_updated m es q))
        ∙ sym (got_with (updated R m es) k v q))

-- the last update may be published first
pub published_behind : {K V : Type 0} (R : K → K → Ordering) (m : FinMap R V)
    (es : List (K × Option V)) (e : K × Option V)
    → updated R m (es ++ e ∷ []) ≡ updated R (with_value R m e.0 e.1) es
published_behind R m [] e = refl
published_behind R m (f ∷ es) e = ap (λ n. with_value R n f.0 f.1) (published_behind R m es e)

-- whether one element more passes a test
pub passing_more : {A B C : Type 0} (show : A → B) (key : B → C) (test : B
    → Bool) (xs : List A) (x : A)
    → (b : Bool) → test (show x) ≡ b
    → map key (filter test (map show (xs ++ x ∷ [])))
    ≡ map key (filter test (map show xs)) ++ cond b (key (show x) ∷ []) []
passing_more show key test [] x b is =
    ap (λ t. map key (cond t (show x ∷ []) [])) is
    ∙ elim b as (λ b. map key (cond b (show x ∷ []) []) ≡ cond b (key (show x) ∷ []) [])
    [ true ↦ refl | false ↦ refl ]
passing_more show key test (y ∷ xs) x b is =
    let rest = passing_more show key test xs x b is in
    elim (test (show y)) as (λ t. map key (cond t (show y ∷ filter test (map show (xs ++ x ∷
    []))) (filter test (map show (xs ++ x ∷ [])))) ≡ map key (cond t (show y ∷ filter test
    (map show xs)) (filter test (map show xs))) ++ cond b (key (show x) ∷ []) []) [
      | true ↦ ap (λ ks. key (show y) ∷ ks) rest
      | false ↦ rest
    ]

-- whether an update gives another value, by what a hash table has
pub other_by : {K V : Type 0} {R : K → K → Ordering} {E : K → K → Bool} → IsTotalOrder R
    → ((x y : K) → E x y ≡ eq_by_cmp R x y) → (same : V → V → Bool) (es : List (K × V)) (k : K)
    (v : Option V) (b : Bool) (o : Option V) → b ≡ option_eq same o v → o ≡ lookup (E k) es
    → is_other R same es (k, v) ≡ not b
other_by total ties same es k v b o is found =
    ap not (ap (λ w. option_eq same w v) (sym (found ∙ lookup-get total ties es k)) ∙ sym is)
