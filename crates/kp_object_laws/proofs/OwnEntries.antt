-- Elements that stand by their own keys: what a list of them has at a key, and lists of them in order.
use Rattle.std.proofs.Common.{◌≡◌, inl, inr, Bool, true, false, true≢false, cond, List, [], ◌∷◌, map, reverse, Contains, Option, Some, None, filter, refl, sym, ap, subst, ◌∙◌, is_lt, is_eq, Ordering, Less, Equal, Greater}
use Rattle.std.specs.Ordering.{eq_by_cmp}
use Rattle.std.specs.Cmp.{IsTotalOrder, tied_itself}
use Rattle.std.specs.FinMap.{find, put, is_sorted, IsAntisymmetric}
use Rattle.std.specs.FinMap.Entries.{below_all, by_order, same_entries}
use Rattle.std.proofs.lemmas.Bool.{and_from, and_parts}
use Rattle.std.proofs.lemmas.Option.{same_Some}
use Rattle.std.proofs.lemmas.List.Sorted.{Contains-permutation, IsPermutation-sym, IsPermutation-reverse}
use Rattle.std.specs.BTreeSet.{insert_key}
use Rattle.kp_lemmas.proofs.Entries.{put_keys}
use Rattle.kp_lemmas.proofs.Booleans.{fact_from_true}
use Rattle.kp_lemmas.proofs.Orders.{one_from_tie, tie_of_itself, less_from_test}
use Rattle.kp_object_defs.specs.Order.{in_order, by_key, values_of, distinct_in_order}
use Rattle.kp_object_defs.proofs.InOrder.{find-in_order, sorted-in_order, same_order, map-reverse}
use Rattle.kp_object_laws.specs.ObjectLaws.{HaveSameElements}
use Rattle.kp_lemmas.proofs.Members.{first_in, later_in, none_in, in_cases}
use Rattle.kp_object_laws.proofs.SameElements.{same_reversed}

-- elements by their own keys
abbrev pub owned : {K X : Type 0} → (X → K) → List X → List (K × X)
owned key xs = map (λ x. (key x, x)) xs

-- a key below all that stand is not found
pub missing : {K X : Type 0} (R : K → K → Ordering) (k : K) (es : List (K × X)) → below_all R k es ≡ true → find R k es ≡ None
missing R k [] h = refl
missing R k (e ∷ es) h =
    let parts = and_parts (is_lt (R k e.0)) (below_all R k es) h in
    ap (λ o. cond (is_eq o) (Some e.1) (find R k es)) (less_from_test _ parts.0) ∙ missing R k es parts.1

module _ {K X : Type 0} {R : K → K → Ordering} (total : IsTotalOrder R) (exact : IsAntisymmetric R) (key : X → K) where
  -- ---- Look-ups

  found_by : (k : K) (y : X) (ys : List X) (x : X) → (find R k (owned key ys) ≡ Some x → Contains ys x × (key x ≡ k)) → (b : Bool) → eq_by_cmp R k (key y) ≡ b
      → cond b (Some y) (find R k (owned key ys)) ≡ Some x → Contains (y ∷ ys) x × (key x ≡ k)
  found_by k y ys x rest true e h = let same : y ≡ x = same_Some y x h in (subst (Contains (y ∷ ys)) same (first_in y ys), sym (one_from_tie exact k (key y) e ∙ ap key same))
  found_by k y ys x rest false e h = let (c, is) = rest h in (later_in x y ys c, is)

  -- what is found is an element with the key
  pub found_in : (k : K) (xs : List X) (x : X) → find R k (owned key xs) ≡ Some x → Contains xs x × (key x ≡ k)
  found_in k [] x h = absurd (cc)
  found_in k (y ∷ ys) x h = found_by k y ys x (found_in k ys x) _ refl h

  tied_key : (k l : K) → l ≡ k → eq_by_cmp R k l ≡ true
  tied_key k l e = ap (λ m. is_eq (R m l)) (sym e) ∙ tie_of_itself total l

  some_by : (k : K) (y : X) (ys : List X) (x : X) → key x ≡ k → Contains (y ∷ ys) x → (Contains ys x → (z : X) × (find R k (owned key ys) ≡ Some z)) → (b : Bool) → eq_by_cmp R k (key y) ≡ b
      → (z : X) × (cond b (Some y) (find R k (owned key ys)) ≡ Some z)
  some_by k y ys x is c rest true e = (y, refl)
  some_by k y ys x is c rest false e =
      elim (in_cases x y ys c) [
        | inl same ↦ absurd (true≢false (sym (tied_key k (key y) (ap key same ∙ is)) ∙ e))
        | inr d ↦ rest d
      ]

  -- where an element has the key, one is found
  found_some : (k : K) (xs : List X) (x : X) → Contains xs x → key x ≡ k → (z : X) × (find R k (owned key xs) ≡ Some z)
  found_some k [] x c is = absurd (none_in x c)
  found_some k (y ∷ ys) x c is = some_by k y ys x is c (λ d. found_some k ys x d is) _ refl

  -- elements with one key are one
  abbrev pub AreApart : List X → Type 0
  AreApart xs = (x y : X) → Contains xs x → Contains xs y → key x ≡ key y → x ≡ y

  -- lists of the same elements have the same at each key
  pub same_found : (xs ys : List X) → HaveSameElements xs ys → AreApart ys → (k : K) → find R k (owned key xs) ≡ find R k (owned key ys)
  same_found xs ys same apart k = by _ _ refl refl
    where
      by : (a b : Option X) → find R k (owned key xs) ≡ a → find R k (owned key ys) ≡ b → a ≡ b
      by None None p q = refl
      by None (Some y) p q =
          let (c, is) = found_in k ys y q in
          let (z, r) = found_some k xs y ((same y).1 c) is in
          absurd (cc)
      by (Some x) None p q =
          let (c, is) = found_in k xs x p in
          let (z, r) = found_some k ys x ((same x).0 c) is in
          absurd (cc)
      by (Some x) (Some y) p q =
          let (c, is) = found_in k xs x p in
          let (d, was) = found_in k ys y q in
          ap Some (apart x y ((same x).0 c) d (is ∙ sym was))

  -- ---- Lists in order

  not_below : (a b : K) → R a b ≡ Less → a ≡ b → ⊥
  not_below a b less e = let tied = tied_itself total a in cc

  below_in : (k : K) (xs : List X) (x : X) → below_all R k (owned key xs) ≡ true → Contains xs x → R k (key x) ≡ Less
  below_in k [] x h c = absurd (none_in x c)
  below_in k (y ∷ ys) x h c =
      let parts = and_parts (is_lt (R k (key y))) (below_all R k (owned key ys)) h in
      elim (in_cases x y ys c) [
        | inl e ↦ subst (λ z. R k (key z) ≡ Less) e (less_from_test _ parts.0)
        | inr d ↦ below_in k ys x parts.1 d
      ]

  -- in a list in order, elements with one key are one
  pub in_order_apart : (xs : List X) → is_sorted R (owned key xs) ≡ true → AreApart xs
  in_order_apart [] h x y c d same = absurd (none_in x c)
  in_order_apart (z ∷ zs) h x y c d same =
      let parts = and_parts (below_all R (key z) (owned key zs)) (is_sorted R (owned key zs)) h in
      elim (in_cases x z zs c) [
        | inl e ↦
            elim (in_cases y z zs d) [
              | inl f ↦ sym e ∙ f
              | inr f ↦ absurd (not_below (key z) (key y) (below_in (key z) zs y parts.0 f) (ap key e ∙ same))
            ]
        | inr e ↦
            elim (in_cases y z zs d) [
              | inl f ↦ absurd (not_below (key z) (key x) (below_in (key z) zs x parts.0 e) (ap key f ∙ sym same))
              | inr f ↦ in_order_apart zs parts.1 x y e f same
            ]
      ]

  -- each element of a list in order is found by its key
  pub found_itself : (xs : List X) → is_sorted R (owned key xs) ≡ true → (x : X) → Contains xs x → find R (key x) (owned key xs) ≡ Some x
  found_itself xs h x c =
      let (z, found) = found_some (key x) xs x c refl in
      let (d, same) = found_in (key x) xs z found in
      found ∙ ap Some (in_order_apart xs h z x d c same)

  below_filter : (p : X → Bool) (k : K) (xs : List X) → below_all R k (owned key xs) ≡ true → below_all R k (owned key (filter p xs)) ≡ true
  below_filter p k [] h = refl
  below_filter p k (x ∷ xs) h =
      let parts = and_parts (is_lt (R k (key x))) (below_all R k (owned key xs)) h in
      let rest = below_filter p k xs parts.1 in
      elim (p x) as (λ b. below_all R k (owned key (cond b (x ∷ filter p xs) (filter p xs))) ≡ true) [ true ↦ and_from _ _ parts.0 rest | false ↦ rest ]

  -- elements of a list in order, of which those that pass are taken
  pub filter_in_order : (p : X → Bool) (xs : List X) → is_sorted R (owned key xs) ≡ true → is_sorted R (owned key (filter p xs)) ≡ true
  filter_in_order p [] h = refl
  filter_in_order p (x ∷ xs) h =
      let parts = and_parts (below_all R (key x) (owned key xs)) (is_sorted R (owned key xs)) h in
      let rest = filter_in_order p xs parts.1 in
      elim (p x) as (λ b. is_sorted R (owned key (cond b (x ∷ filter p xs) (filter p xs))) ≡ true) [
        | true ↦ and_from _ _ (below_filter p (key x) xs parts.0) rest
        | false ↦ rest
      ]

  -- ---- Entries under their own keys

  abbrev pub AreOwn : List (K × X) → Type 0
  AreOwn [] = Unit {0}
  AreOwn (e ∷ es) = (e.0 ≡ key e.1) × AreOwn es

  own_owned : (xs : List X) → AreOwn (owned key xs)
  own_owned [] = tt
  own_owned (x ∷ xs) = (refl, own_owned xs)

  -- such entries are their values by their own keys
  pub owned_values : (es : List (K × X)) → AreOwn es → owned key (values_of es) ≡ es
  owned_values [] h = refl
  owned_values (e ∷ es) h = λ i. (sym h.0 i, e.1) ∷ owned_values es h.1 i

  values_owned : (xs : List X) → values_of (owned key xs) ≡ xs
  values_owned [] = refl
  values_owned (x ∷ xs) = ap (λ rest. x ∷ rest) (values_owned xs)

  own_put : (k : K) (v : X) (es : List (K × X)) → k ≡ key v → AreOwn es → AreOwn (put R k v es)
  own_put k v [] e h = (e, tt)
  own_put k v (f ∷ es) e h =
      elim (R k f.0) as (λ o. R k f.0 ≡ o → AreOwn (by_order o ((k, v) ∷ f ∷ es) ((f.0, v) ∷ es) (f ∷ put R k v es))) [
        | Less ↦ λ p. (e, h)
        | Equal ↦ λ p. (sym (exact k f.0 p) ∙ e, h.1)
        | Greater ↦ λ p. (h.0, own_put k v es e h.1)
      ] refl

  own_in_order : (es : List (K × X)) → AreOwn es → AreOwn (in_order R es)
  own_in_order [] h = tt
  own_in_order (e ∷ es) h = own_put e.0 e.1 _ h.0 (own_in_order es h.1)

  own_by_key : (xs : List X) → AreOwn (by_key R key xs)
  own_by_key xs = own_in_order _ (subst AreOwn (map-reverse (λ x. (key x, x)) xs) (own_owned _))

  -- the first element of each key is taken, in order
  pub first_in_order : (xs : List X) → is_sorted R (owned key (values_of (in_order R (owned key xs)))) ≡ true
  first_in_order xs = ap (is_sorted R) (owned_values _ (own_in_order _ (own_owned xs))) ∙ sorted-in_order total (owned key xs)

  -- each entry of elements by their keys is of an element
  pub of_element : (xs : List X) (e : K × X) → find R e.0 (by_key R key xs) ≡ Some e.1 → Contains xs e.1 × (key e.1 ≡ e.0)
  of_element xs e h =
      let (c, is) = found_in e.0 _ e.1 (ap (find R e.0) (map-reverse (λ x. (key x, x)) xs) ∙ sym (find-in_order total e.0 _) ∙ h) in
      (Contains-permutation _ xs e.1 (IsPermutation-sym xs (reverse xs) (IsPermutation-reverse xs)) c, is)

  -- elements by their keys are in order
  pub by_key_in_order : (xs : List X) → is_sorted R (owned key (values_of (by_key R key xs))) ≡ true
  by_key_in_order xs = ap (is_sorted R) (owned_values _ (own_by_key xs)) ∙ sorted-in_order total (reverse (owned key xs))

  -- in any order, the elements of a list in order are that list once they are put in order
  pub put_in_order : (xs ys : List X) → HaveSameElements xs ys → is_sorted R (owned key ys) ≡ true → values_of (by_key R key xs) ≡ ys
  put_in_order xs ys same sorted =
      ap values_of
      (same_entries R total exact _ (owned key ys) (fact_from_true (sorted-in_order total (reverse (owned key xs)))) (fact_from_true sorted) (λ k.
      find-in_order total k _
      ∙ ap (find R k) (sym (map-reverse (λ x. (key x, x)) xs))
      ∙ same_found _ ys (same_reversed xs ys same) (in_order_apart ys sorted) k)) ∙ values_owned ys

  -- ---- Maps whose values stand under their own keys

  -- what is found at a key has it
  abbrev pub FoundOwn : List (K × X) → Type 0
  FoundOwn es = (k : K) (x : X) → find R k es ≡ Some x → key x ≡ k

  found_later : (e : K × X) (es : List (K × X)) → below_all R e.0 es ≡ true → FoundOwn (e ∷ es) → FoundOwn es
  found_later e es below own k x h = own k x (by _ refl)
    where
      by : (b : Bool) → eq_by_cmp R k e.0 ≡ b → cond b (Some e.1) (find R k es) ≡ Some x
      by true p = let none : find R k es ≡ None = ap (λ m. find R m es) (one_from_tie exact k e.0 p) ∙ missing R e.0 es below in absurd (cc)
      by false p = h

  -- entries in order under what is found are under their own keys
  pub own_entries : (es : List (K × X)) → is_sorted R es ≡ true → FoundOwn es → AreOwn es
  own_entries [] h own = tt
  own_entries (e ∷ es) h own =
      let parts = and_parts (below_all R e.0 es) (is_sorted R es) h in
      (sym (own e.0 e.1 (ap (λ b. cond b (Some e.1) (find R e.0 es)) (tied_key e.0 e.0 refl))), own_entries es parts.1 (found_later e es parts.0 own))

-- ---- The keys of lists in order

module _ {K : Type 0} (R : K → K → Ordering) where
  -- keys in order
  keys_in_order : List K → List K
  keys_in_order [] = []
  keys_in_order (k ∷ ks) = insert_key R (keys_in_order ks) k

  keys_of_order : {X : Type 0} (es : List (K × X)) → map (λ e. e.0) (in_order R es) ≡ keys_in_order (map (λ e. e.0) es)
  unfolding keys_in_order
  keys_of_order [] = refl
  keys_of_order (e ∷ es) = put_keys R e.0 e.1 _ ∙ ap (λ ks. insert_key R ks e.0) (keys_of_order es)

  -- they are the same for entries with the same keys
  pub same_keys : {X Y : Type 0} (es : List (K × X)) (fs : List (K × Y)) → map (λ e. e.0) es ≡ map (λ f. f.0) fs → map (λ e. e.0) (in_order R es) ≡ map (λ f. f.0) (in_order R fs)
  same_keys es fs same = keys_of_order es ∙ ap keys_in_order same ∙ sym (keys_of_order fs)

module _ {K X : Type 0} {R : K → K → Ordering} (total : IsTotalOrder R) (exact : IsAntisymmetric R) (key : X → K) where
  keys_of_owned : (xs : List X) → map (λ e. e.0) (owned key xs) ≡ map key xs
  keys_of_owned [] = refl
  keys_of_owned (x ∷ xs) = ap (λ ks. key x ∷ ks) (keys_of_owned xs)

  keys_by_themselves : (ks : List K) → map (λ e. e.0) (owned (λ k. k) ks) ≡ ks
  keys_by_themselves [] = refl
  keys_by_themselves (k ∷ ks) = ap (λ rest. k ∷ rest) (keys_by_themselves ks)

  reversed_keys : (ks : List K) → in_order R (owned (λ k. k) (reverse ks)) ≡ in_order R (owned (λ k. k) ks)
  reversed_keys ks =
      same_order total exact _ _
      (same_found total exact (λ k. k) _ ks (same_reversed ks ks (λ x. (λ c. c, λ c. c))) (λ x y c d e. e))

  -- the keys of elements in order are the elements' keys, once each in order
  pub keys_of_elements : (xs : List X) → map (λ e. e.0) (by_key R key xs) ≡ distinct_in_order R (map key xs)
  keys_of_elements xs =
      same_keys R _ _ (sym (ap (map (λ e. e.0)) (map-reverse (λ x. (key x, x)) xs))
      ∙ keys_of_owned _ ∙ map-reverse key xs
      ∙ sym (keys_by_themselves _)) ∙ ap (map (λ e. e.0)) (reversed_keys (map key xs))
