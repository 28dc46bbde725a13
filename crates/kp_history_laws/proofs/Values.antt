-- The values of a finite map that pass a test: a change of a value that doesn't pass leaves them.
use Rattle.std.proofs.Common.{◌≡◌, Bool, true, false, cond, List, [], ◌∷◌, map, filter, Option, Some, None, refl, sym, ap, ◌∙◌, is_lt, Ordering}
use Rattle.std.specs.Ordering.{eq_by_cmp}
use Rattle.std.specs.Cmp.{IsTotalOrder}
use Rattle.std.specs.FinMap.{FinMap, find, is_sorted, get, insert, remove, entries, values, entries_sorted, get-entries, get-insert, get-remove, IsAntisymmetric}
use Rattle.std.specs.FinMap.Entries.{below_all, same_entries}
use Rattle.std.proofs.lemmas.Bool.{and_from, and_parts}
use Rattle.kp_lemmas.proofs.Booleans.{true_from_fact, fact_from_true}
use Rattle.kp_lemmas.proofs.Orders.{one_from_tie}
use Rattle.kp_object_laws.proofs.OwnEntries.{missing}

module _ {K X : Type 0} {R : K → K → Ordering} (total : IsTotalOrder R) (exact : IsAntisymmetric R) (p : X → Bool) where
  -- a value that passes, if there is one
  abbrev pub passing : Option X → Option X
  passing None = None
  passing (Some x) = cond (p x) (Some x) None

  -- the entries whose values pass
  abbrev passed : List (K × X) → List (K × X)
  passed es = filter (λ e. p e.1) es

  values_passed : (es : List (K × X)) → map (λ (e : K × X). e.1) (passed es) ≡ filter p (map (λ e. e.1) es)
  values_passed [] = refl
  values_passed (e ∷ es) =
      elim (p e.1) as (λ b. map (λ (f : K × X). f.1) (cond b (e ∷ passed es) (passed es)) ≡ cond b (e.1 ∷ filter p (map (λ f. f.1) es)) (filter p (map (λ f. f.1) es))) [
        | true ↦ ap (λ rest. e.1 ∷ rest) (values_passed es)
        | false ↦ values_passed es
      ]

  below_passed : (k : K) (es : List (K × X)) → below_all R k es ≡ true → below_all R k (passed es) ≡ true
  below_passed k [] h = refl
  below_passed k (e ∷ es) h =
      let parts = and_parts (is_lt (R k e.0)) (below_all R k es) h in
      let rest = below_passed k es parts.1 in
      elim (p e.1) as (λ b. below_all R k (cond b (e ∷ passed es) (passed es)) ≡ true) [
        | true ↦ and_from _ _ parts.0 rest
        | false ↦ rest
      ]

  sorted_passed : (es : List (K × X)) → is_sorted R es ≡ true → is_sorted R (passed es) ≡ true
  sorted_passed [] h = refl
  sorted_passed (e ∷ es) h =
      let parts = and_parts (below_all R e.0 es) (is_sorted R es) h in
      let rest = sorted_passed es parts.1 in
      elim (p e.1) as (λ b. is_sorted R (cond b (e ∷ passed es) (passed es)) ≡ true) [
        | true ↦ and_from _ _ (below_passed e.0 es parts.0) rest
        | false ↦ rest
      ]

  found_by : (q : K) (e : K × X) (es : List (K × X)) → below_all R e.0 es ≡ true → find R q (passed es) ≡ passing (find R q es)
      → (b : Bool) → eq_by_cmp R q e.0 ≡ b → (c : Bool) → p e.1 ≡ c
      → find R q (cond c (e ∷ passed es) (passed es)) ≡ passing (cond b (Some e.1) (find R q es))
  found_by q e es below rest true is true passes =
      ap (λ t. cond t (Some e.1) (find R q (passed es))) is ∙ sym (ap (λ t. cond t (Some e.1) None) passes)
  found_by q e es below rest true is false fails =
      rest ∙ ap passing (ap (λ k. find R k es) (one_from_tie exact q e.0 is) ∙ missing R e.0 es below)
      ∙ sym (ap (λ t. cond t (Some e.1) None) fails)
  found_by q e es below rest false is true passes = ap (λ t. cond t (Some e.1) (find R q (passed es))) is ∙ rest
  found_by q e es below rest false is false fails = rest

  find_passed : (q : K) (es : List (K × X)) → is_sorted R es ≡ true → find R q (passed es) ≡ passing (find R q es)
  find_passed q [] h = refl
  find_passed q (e ∷ es) h =
      let parts = and_parts (below_all R e.0 es) (is_sorted R es) h in
      found_by q e es parts.0 (find_passed q es parts.1) _ refl (p e.1) refl

  -- maps that have the same passing value at each key have the same passing values
  pub same_passing : (m n : FinMap R X) → ((q : K) → passing (get m q) ≡ passing (get n q)) → filter p (values m) ≡ filter p (values n)
  same_passing m n alike =
      let sorted : (o : FinMap R X) → is_sorted R (entries o) ≡ true = λ o. true_from_fact _ (entries_sorted o) in
      sym (values_passed _)
      ∙ ap (map (λ (e : K × X). e.1)) (same_entries R total exact _ (passed (entries n))
      (fact_from_true (sorted_passed _ (sorted m))) (fact_from_true (sorted_passed _ (sorted n))) (λ q.
      find_passed q _ (sorted m)
      ∙ ap passing (sym (get-entries m q))
      ∙ alike q
      ∙ ap passing (get-entries n q) ∙ sym (find_passed q _ (sorted n)))) ∙ values_passed _

  changed_by : (m : FinMap R X) (k q : K) (o : Option X) → passing (get m k) ≡ None → passing o ≡ None → (b : Bool) → eq_by_cmp R q k ≡ b
      → passing (cond b o (get m q)) ≡ passing (get m q)
  changed_by m k q o old new true is = new ∙ sym (ap (λ x. passing (get m x)) (one_from_tie exact q k is) ∙ old)
  changed_by m k q o old new false is = refl

  -- a value that doesn't pass, in place of one that doesn't either
  pub passing_inserted : (m : FinMap R X) (k : K) (v : X) → passing (get m k) ≡ None → p v ≡ false → filter p (values (insert m k v)) ≡ filter p (values m)
  passing_inserted m k v old new =
      same_passing _ m (λ q. ap passing (get-insert total m k v q)
      ∙ changed_by m k q _ old (ap (λ b. cond b (Some v) None) new) _ refl)

  -- a value that doesn't pass is removed
  pub passing_removed : (m : FinMap R X) (k : K) → passing (get m k) ≡ None → filter p (values (remove m k)) ≡ filter p (values m)
  passing_removed m k old =
      same_passing _ m (λ q.
      ap passing (get-remove total m k q) ∙ changed_by m k q None old refl _ refl)
