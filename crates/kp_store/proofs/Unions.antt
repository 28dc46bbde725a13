-- The keys of several buckets, and the objects with any of several tags.
use Rattle.std.proofs.Common.{◌≡◌, ℕ, suc, ◌+◌, ◌-◌, ◌<◌, ◌≤◌, arith, drop, ◌||◌, Bool, true, false, List, [], ◌∷◌, map, take, length, get_or, filter, Option, Some, None, cond, is_some, refl, sym, ap, ◌∙◌}
use Rattle.std.proofs.Math.Seq.{drop-cons}
use Rattle.std.specs.List.{list_any, filter_map}
use Rattle.std.specs.Ordering.{eq_by_cmp}
use Rattle.std.specs.FinMap as finite
use Rattle.std.specs.FinMap.{FinMap, find, get, get-entries, contains_key, entries}
use Rattle.std.proofs.lemmas.List.Folds.{list_any_more}
use mathlib.Core.Bool.{or_assoc, or_comm}
use Rattle.kp_base.specs.Keys.{key_cmp}
use Rattle.kp_base.specs.declared.key.ObjectKey.{ObjectKey}
use Rattle.kp_store.specs.Indexes.{Keys, is_among, is_tagged}
use Rattle.kp_store.proofs.Found.{passes, found_passes}

-- a test of one more element
any_more : {X : Type 0} (p : X → Bool) (xs : List X) (i : ℕ) (x : X) → i < length xs → x ≡ get_or xs i x → p x || list_any p (take i xs) ≡ list_any p (take (i + 1) xs)
any_more p xs i x lt is =
    or_comm (p x) (list_any p (take i xs))
    ∙ ap (λ y. list_any p (take i xs) || p y) is
    ∙ sym (list_any_more p xs i x lt)

-- a test of one more element, beside another test
pub more_beside : {X : Type 0} (p : X → Bool) (xs : List X) (i : ℕ) (x : X) (old : Bool)
    → i < length xs → x ≡ get_or xs i x
    → p x || (list_any p (take i xs) || old) ≡ list_any p (take (i + 1) xs) || old
more_beside p xs i x old lt is =
    sym (or_assoc (p x) (list_any p (take i xs)) old) ∙ ap (λ b. b || old) (any_more p xs i x lt is)

-- the same where elements are taken from the last on
pub one_before : {X : Type 0} (p : X → Bool) (xs : List X) (i : ℕ) (x : X) (old : Bool)
    → 0 < i → i ≤ length xs → x ≡ get_or xs (i - 1) x
    → p x || (list_any p (drop i xs) || old) ≡ list_any p (drop (i - 1) xs) || old
one_before p xs i x old some within is =
    let inside : i - 1 < length xs = omega (arith, some, within) in
    let next : suc (i - 1) ≡ i = omega (arith, some) in
    let cut : drop (i - 1) xs ≡ x ∷ drop i xs =
    drop-cons xs (i - 1) x inside ∙ (λ k. sym is k ∷ drop (next k) xs) in
    sym (or_assoc (p x) (list_any p (drop i xs)) old) ∙ ap (λ ys. list_any p ys || old) (sym cut)

-- a key is among the keys of a map
pub among_keys : {X : Type 0} (m : FinMap key_cmp X) (k : ObjectKey) → list_any (eq_by_cmp key_cmp k) (finite.keys m) ≡ contains_key m k
among_keys {X} m k = among (entries m) ∙ ap is_some (sym (get-entries m k))
  where
    by : (b : Bool) (x : X) (o : Option X) (rest : Bool) → rest ≡ is_some o → b || rest ≡ is_some (cond b (Some x) o)
    by true x o rest h = refl
    by false x o rest h = h

    among : (es : List (ObjectKey × X)) → list_any (eq_by_cmp key_cmp k) (map (λ e. e.0) es) ≡ is_some (find key_cmp k es)
    among [] = refl
    among (e ∷ es) = by (eq_by_cmp key_cmp k e.0) e.1 (find key_cmp k es) (list_any (eq_by_cmp key_cmp k) (map (λ e. e.0) es)) (among es)

-- a test of what others show
pub any_shown : {Q X : Type 0} (shown : Q → X) (p : X → Bool) (qs : List Q)
    → list_any (λ q. p (shown q)) qs ≡ list_any p (map shown qs)
any_shown shown p [] = refl
any_shown shown p (q ∷ qs) = ap (λ b. p (shown q) || b) (any_shown shown p qs)

-- the keys of one more bucket
pub union_more : {T : Type 0} (in_bucket : T → Bool) (tags : List T) (i : ℕ) (t : T) (new old : Bool) → i < length tags → t ≡ get_or tags i t → new ≡ in_bucket t || old → old ≡ list_any in_bucket (take i tags) → new ≡ list_any in_bucket (take (i + 1) tags)
union_more in_bucket tags i t new old lt is added before =
    added ∙ ap (λ b. in_bucket t || b) before ∙ any_more in_bucket tags i t lt is

-- the objects of the keys with any of the tags
pub found_any : {T X : Type 0} (same : T → T → Bool) (tags : X → List T) (wanted : List T) (m : FinMap key_cmp X) (keys : Keys) → ((k : ObjectKey) → contains_key keys k ≡ list_any (λ t. is_tagged same tags t (get m k)) wanted) → filter_map (get m) (finite.keys keys) ≡ filter (λ x. list_any (is_among same (tags x)) wanted) (finite.values m)
found_any {T} {X} same tags wanted m keys has = found_passes (λ x. list_any (is_among same (tags x)) wanted) m keys (λ k. has k ∙ agrees (get m k))
  where
    never : (ts : List T) → list_any (λ _. false) ts ≡ false
    never [] = refl
    never (t ∷ ts) = never ts

    agrees : (o : Option X) → list_any (λ t. is_tagged same tags t o) wanted ≡ passes (λ x. list_any (is_among same (tags x)) wanted) o
    agrees None = never wanted
    agrees (Some x) = refl
