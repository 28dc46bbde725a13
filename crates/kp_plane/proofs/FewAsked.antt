-- Services of different keys have at most as many ports as all have together, and as those whose
-- keys pass a test have, where these do.
use Rattle.std.proofs.Common.{◌≡◌, ◌≤◌, ◌+◌, ◌||◌, ℕ, Bool, true, false, cond, List, [], ◌∷◌, map}
use Rattle.std.proofs.Common.{Option, Some, None, T, filter, refl, sym, ap, subst, ◌∙◌, arith}
use Rattle.std.proofs.Math.Bool.{or-true}
use Rattle.std.specs.List.{cons_option, filter_map, list_any, sum_by}
use Rattle.std.proofs.lemmas.List.Sums.{sum_by-cons}
use Rattle.std.specs.Ordering.{eq_by_cmp}
use Rattle.std.specs.declared.cmp.Ordering.{Ordering}
use Rattle.std.specs.Cmp.{IsTotalOrder}
use Rattle.std.specs.FinMap.{FinMap, IsAntisymmetric, entries, entries_sorted, find, get, get-entries}
use Rattle.std.specs.FinMap.{contains_key, contains_key-keys, keys, values, is_sorted}
use Rattle.std.specs.FinMap.Entries.{below_all}
use Rattle.kp_lemmas.proofs.Booleans.{both_facts}
use Rattle.kp_lemmas.proofs.Entries.{find_behind}
use Rattle.kp_lemmas.proofs.Orders.{less_from_fact, one_from_tie, tie_of_itself}
use Rattle.kp_plane.proofs.Sums.{counted_if, sum_passing}

-- what a value counts, if there is one
abbrev weight : {X : Type 0} → (X → ℕ) → Option X → ℕ
weight f None = 0
weight f (Some x) = f x

weighed : {X : Type 0} (f : X → ℕ) (o : Option X) (xs : List X)
    → sum_by f (cons_option o xs) ≡ weight f o + sum_by f xs
weighed f None xs = omega arith
weighed f (Some x) xs = sum_by-cons f x xs

module _ {K X Y : Type 0} {R : K → K → Ordering} (total : IsTotalOrder R)
    (exact : IsAntisymmetric R) (f : X → ℕ) where
  -- the values that entries have at keys
  abbrev count : List (K × X) → List (K × Y) → ℕ
  count es ks = sum_by f (filter_map (λ k. find R k es) (map (λ k. k.0) ks))

  counted : (es : List (K × X)) (k : K × Y) (ks : List (K × Y))
      → count es (k ∷ ks) ≡ weight f (find R k.0 es) + count es ks
  counted es k ks = weighed f (find R k.0 es) (filter_map (λ q. find R q es) (map (λ q. q.0) ks))

  -- an entry doesn't count at keys behind its own
  behind : (e : K × X) (es : List (K × X)) (ks : List (K × Y)) → T (below_all R e.0 ks)
      → count (e ∷ es) ks ≡ count es ks
  behind e es [] below = refl
  behind e es (k ∷ ks) below =
      let both = both_facts _ _ below in
      counted (e ∷ es) k ks
      ∙ (λ i. weight f (find_behind total e (k.0, e.1) es (less_from_fact (R e.0 k.0) both.0) i)
      + behind e es ks both.1 i)
      ∙ sym (counted es k ks)

  -- an entry counts once at most
  one_more : (e : K × X) (es : List (K × X)) (ks : List (K × Y)) → T (is_sorted R ks)
      → count (e ∷ es) ks ≤ f e.1 + count es ks
  one_more e es [] sorted = omega arith
  one_more e es (k ∷ ks) sorted =
      let both = both_facts _ _ sorted in
      by both.0 (one_more e es ks both.1) (eq_by_cmp R k.0 e.0) refl
    where
      by : T (below_all R k.0 ks) → count (e ∷ es) ks ≤ f e.1 + count es ks → (b : Bool)
          → eq_by_cmp R k.0 e.0 ≡ b → count (e ∷ es) (k ∷ ks) ≤ f e.1 + count es (k ∷ ks)
      by under rest true tie =
          let found : find R k.0 (e ∷ es) ≡ Some e.1 =
          ap (λ b. cond b (Some e.1) (find R k.0 es)) tie in
          let below = subst (λ q. T (below_all R q ks)) (one_from_tie exact k.0 e.0 tie) under in
          let same = behind e es ks below in
          let all = counted (e ∷ es) k ks ∙ ap (λ o. weight f o + count (e ∷ es) ks) found in
          let before = counted es k ks in
          omega (arith, all, same, before)
      by under rest false other =
          let passed : find R k.0 (e ∷ es) ≡ find R k.0 es =
          ap (λ b. cond b (Some e.1) (find R k.0 es)) other in
          let all = counted (e ∷ es) k ks ∙ ap (λ o. weight f o + count (e ∷ es) ks) passed in
          let before = counted es k ks in
          omega (arith, all, rest, before)

  nothing : (ks : List (K × Y)) → count [] ks ≡ 0
  nothing [] = refl
  nothing (k ∷ ks) = nothing ks

  among : (es : List (K × X)) (ks : List (K × Y)) → T (is_sorted R ks)
      → count es ks ≤ sum_by f (map (λ e. e.1) es)
  among [] ks sorted = let none = nothing ks in omega (arith, none)
  among (e ∷ es) ks sorted =
      let one = one_more e es ks sorted in
      let rest = among es ks sorted in
      let all = sum_by-cons f e.1 (map (λ d. d.1) es) in
      omega (arith, one, rest, all)

  -- values at the keys of another map count at most what all count
  pub few_of_all : (m : FinMap R X) (s : FinMap R Y)
      → sum_by f (filter_map (get m) (keys s)) ≤ sum_by f (values m)
  few_of_all m s =
      subst (λ (look : K → Option X). sum_by f (filter_map look (keys s)) ≤ sum_by f (values m))
      (λ i q. sym (get-entries m q) i) (among (entries m) (entries s) (entries_sorted s))

module _ {K X : Type 0} {R : K → K → Ordering} (total : IsTotalOrder R)
    (exact : IsAntisymmetric R) (f : X → ℕ) (key_of : X → K) (test : K → Bool) (m : FinMap R X)
    (own : (k : K) (x : X) → get m k ≡ Some x → key_of x ≡ k) where
  -- what counts where the key passes
  abbrev passing : X → ℕ
  passing = counted_if f (λ x. test (key_of x))

  one_same : (k : K) → test k ≡ true → (o : Option X) → get m k ≡ o
      → weight f o ≡ weight passing o
  one_same k passes None at = refl
  one_same k passes (Some x) at =
      sym (ap (λ q. cond (test q) (f x) 0) (own k x at) ∙ ap (λ b. cond b (f x) 0) passes)

  -- at keys that pass all values count
  same_count : (ks : List K) → ((k : K) → list_any (eq_by_cmp R k) ks ≡ true → test k ≡ true)
      → sum_by f (filter_map (get m) ks) ≡ sum_by passing (filter_map (get m) ks)
  same_count [] all = refl
  same_count (k ∷ ks) all =
      let rest = same_count ks
      (λ q there. all q (ap (λ b. eq_by_cmp R q k || b) there ∙ or-true (eq_by_cmp R q k))) in
      let passes = all k (ap (λ b. b || list_any (eq_by_cmp R k) ks) (tie_of_itself total k)) in
      weighed f (get m k) (filter_map (get m) ks)
      ∙ (λ i. one_same k passes (get m k) refl i + rest i)
      ∙ sym (weighed passing (get m k) (filter_map (get m) ks))

  -- values at the keys of another map, which all pass, count at most what all count that pass
  pub few_of_passing : {Y : Type 0} (s : FinMap R Y) → ((k : K) → contains_key s k ≡ true → test k ≡ true)
      → sum_by f (filter_map (get m) (keys s))
      ≤ sum_by f (filter (λ x. test (key_of x)) (values m))
  few_of_passing s passes =
      let same = same_count (keys s) (λ k there. passes k (contains_key-keys s k ∙ there)) in
      let few = few_of_all total exact passing m s in
      let all = sum_passing f (λ x. test (key_of x)) (values m) in
      omega (arith, same, few, all)
