-- Entries by names that stand for keys, as the map of their keys.
use Rattle.std.proofs.Common.{◌≡◌, ◌||◌, Bool, true, false, cond, List, [], ◌∷◌, map, Option, Some, None, option_and_then, refl, sym, ap, ◌∙◌, Bor}
use Rattle.std.specs.List.{list_any}
use Rattle.std.specs.Ordering.{eq_by_cmp}
use Rattle.std.specs.Cmp.{eq_by_cmp_equiv}
use Rattle.std.specs.Map.{lookup}
use Rattle.std.specs.FinMap.{find, get, get-from_entries, get-insert, get-remove, from_entries, insert, remove, same_map}
use Rattle.kp_base.specs.Keys.{key_cmp}
use Rattle.kp_base.specs.declared.key.ObjectKey.{ObjectKey}
use Rattle.kp_base.proofs.KeyOrder.{key_total, key_exact}
use Rattle.kp_lemmas.proofs.Orders.{one_from_tie}
use Rattle.kp_store.specs.Named.{is_name, keyed}

-- what a name finds, if there is one
abbrev pub by_name : {K X : Type 0} → (K → K → Bool) → Option K → List (K × X) → Option X
by_name same o es = option_and_then (λ q. lookup (same q) es) o

module _ {K : Type 0} (same : K → K → Bool) (key_of : K → ObjectKey) (name_of : ObjectKey → Option K)
    (own : (q : K) → name_of (key_of q) ≡ Some q)
    (one : (k : ObjectKey) (q : K) → eq_by_cmp key_cmp k (key_of q) ≡ is_name same (name_of k) q) where
  none_found : {X : Type 0} (o : Option K) → None ≡ by_name {X = X} same o []
  none_found None = refl
  none_found (Some q) = refl

  one_found : {X : Type 0} (o : Option K) (e : K × X) (es : List (K × X))
      → cond (is_name same o e.0) (Some e.1) (by_name same o es) ≡ by_name same o (e ∷ es)
  one_found None e es = refl
  one_found (Some q) e es = refl

  -- what a key finds
  found : {X : Type 0} (k : ObjectKey) (es : List (K × X)) → find key_cmp k (keyed key_of es) ≡ by_name same (name_of k) es
  found k [] = none_found (name_of k)
  found k (e ∷ es) =
      (λ i. cond (one k e.0 i) (Some e.1) (found k es i)) ∙ one_found (name_of k) e es

  -- the same in their map
  pub got : {X : Type 0} (k : ObjectKey) (es : List (K × X))
      → get (from_entries {R = key_cmp} (keyed key_of es)) k ≡ by_name same (name_of k) es
  got k es = get-from_entries key_total (keyed key_of es) k ∙ found k es

  -- what a name finds is what its key finds
  pub named : {X : Type 0} (q : K) (es : List (K × X))
      → lookup (same q) es ≡ get (from_entries {R = key_cmp} (keyed key_of es)) (key_of q)
  named q es = sym (got (key_of q) es ∙ ap (λ o. by_name same o es) (own q))

  ties : (p q : K) → eq_by_cmp key_cmp (key_of p) (key_of q) ≡ same p q
  ties p q = one (key_of p) q ∙ ap (λ o. is_name same o q) (own p)

  same_either_way : (p q : K) → same p q ≡ same q p
  same_either_way p q =
      sym (ties p q) ∙ (eq_by_cmp_equiv key_total).symm (key_of p) (key_of q) ∙ ties q p

  -- a key that a name stands for is the name's
  pub owner : (k : ObjectKey) (q : K) → name_of k ≡ Some q → key_of q ≡ k
  owner k q is =
      sym
      (one_from_tie key_exact k (key_of q)
      (one k q ∙ ap (λ o. is_name same o q) is ∙ sym (ties q q)
      ∙ (eq_by_cmp_equiv key_total).refl (key_of q)))

  -- entries that answer as es with o at a name
  changed : {X : Type 0} (es fs : List (K × X)) (q : K) (o : Option X)
      → ((p : K) → lookup (same p) fs ≡ cond (same q p) o (lookup (same p) es)) → (name : Option K)
      → by_name same name fs ≡ cond (is_name same name q) o (by_name same name es)
  changed es fs q o h None = refl
  changed es fs q o h (Some p) = h p ∙ ap (λ b. cond b o (lookup (same p) es)) (same_either_way q p)

  changed_at : {X : Type 0} (es fs : List (K × X)) (q : K) (o : Option X)
      → ((p : K) → lookup (same p) fs ≡ cond (same q p) o (lookup (same p) es)) → (k : ObjectKey)
      → get (from_entries {R = key_cmp} (keyed key_of fs)) k
      ≡ cond (eq_by_cmp key_cmp k (key_of q)) o (get (from_entries {R = key_cmp} (keyed key_of es)) k)
  changed_at es fs q o h k =
      got k fs ∙ changed es fs q o h (name_of k) ∙ (λ i. cond (sym (one k q) i) o (sym (got k es) i))

  -- entries with an object at a name
  pub put_named : {X : Type 0} (es fs : List (K × X)) (q : K) (x : X)
      → ((p : K) → lookup (same p) fs ≡ cond (same q p) (Some x) (lookup (same p) es))
      → from_entries {R = key_cmp} (keyed key_of fs) ≡ insert (from_entries (keyed key_of es)) (key_of q) x
  put_named es fs q x h =
      same_map key_total key_exact _ _ (λ k.
      changed_at es fs q (Some x) h k
      ∙ sym (get-insert key_total (from_entries (keyed key_of es)) (key_of q) x k))

  -- entries without a name
  pub take_named : {X : Type 0} (es fs : List (K × X)) (q : K)
      → ((p : K) → lookup (same p) fs ≡ cond (same q p) None (lookup (same p) es))
      → from_entries {R = key_cmp} (keyed key_of fs) ≡ remove (from_entries (keyed key_of es)) (key_of q)
  take_named es fs q h =
      same_map key_total key_exact _ _ (λ k.
      changed_at es fs q None h k ∙ sym (get-remove key_total (from_entries (keyed key_of es)) (key_of q) k))

  -- a key that no name stands for takes nothing out
  pub take_none : {X : Type 0} (es : List (K × X)) (k : ObjectKey) → name_of k ≡ None
      → from_entries {R = key_cmp} (keyed key_of es) ≡ remove (from_entries (keyed key_of es)) k
  take_none es k none =
      same_map key_total key_exact _ _ (λ q.
      kept q (eq_by_cmp key_cmp q k) refl ∙ sym (get-remove key_total (from_entries (keyed key_of es)) k q))
    where
      kept : (q : ObjectKey) (b : Bool) → eq_by_cmp key_cmp q k ≡ b
          → get (from_entries {R = key_cmp} (keyed key_of es)) q
          ≡ cond b None (get (from_entries {R = key_cmp} (keyed key_of es)) q)
      kept q false t = refl
      kept q true t =
          got q es ∙ ap (λ o. by_name same o es) (ap name_of (one_from_tie key_exact q k t) ∙ none)

-- the keys that the names of entries stand for
pub keys_of_names : {K X : Type 0} (key_of : K → ObjectKey) (k : ObjectKey) (names : List (Bor K)) (es : List (K × X))
    → map (λ q. q.now) names ≡ map (λ e. e.0) es
    → list_any (λ (q : Bor K). eq_by_cmp key_cmp k (key_of q.now)) names
    ≡ list_any (eq_by_cmp key_cmp k) (map (λ e. e.0) (keyed key_of es))
keys_of_names {K} {X} key_of k names es are = shown names ∙ ap (list_any (λ q. eq_by_cmp key_cmp k (key_of q))) are ∙ of_entries es
  where
    shown : (qs : List (Bor K)) → list_any (λ (q : Bor K). eq_by_cmp key_cmp k (key_of q.now)) qs ≡ list_any (λ q. eq_by_cmp key_cmp k (key_of q)) (map (λ q. q.now) qs)
    shown [] = refl
    shown (q ∷ qs) = ap (λ b. eq_by_cmp key_cmp k (key_of q.now) || b) (shown qs)

    of_entries : (fs : List (K × X)) → list_any (λ q. eq_by_cmp key_cmp k (key_of q)) (map (λ e. e.0) fs) ≡ list_any (eq_by_cmp key_cmp k) (map (λ e. e.0) (keyed key_of fs))
    of_entries [] = refl
    of_entries (e ∷ fs) = ap (λ b. eq_by_cmp key_cmp k (key_of e.0) || b) (of_entries fs)
