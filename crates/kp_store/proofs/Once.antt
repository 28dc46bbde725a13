-- Each key of a bucket stands once, so that their number is that of the list and of the keys beside it.
use Rattle.std.proofs.Common.{◌≡◌, ℕ, suc, ◌+◌, ◌≤◌, ◌<◌, ◌&&◌, ◌||◌, Bool, true, false, not, cond, List, [], ◌∷◌, ◌++◌, filter, map, length, arith, refl, sym, ap, ◌∙◌}
use Rattle.std.specs.List.{AllByRecursion, IsDistinct, list_any}
use Rattle.std.specs.Ordering.{eq_by_cmp}
use Rattle.std.specs.Cmp.{eq_by_cmp_equiv}
use Rattle.std.specs.FinMap.{contains_key, empty, from_entries, insert, len, len-empty, len-insert, remove}
use Rattle.std.proofs.lemmas.Bool.{and_parts}
use Rattle.std.proofs.lemmas.List.{length-append}
use Rattle.kp_base.specs.Keys.{key_cmp}
use Rattle.kp_base.specs.contracts.key.ObjectKeyPartialEq.TheImpl as key_eq
use Rattle.kp_base.specs.declared.key.ObjectKey.{ObjectKey}
use Rattle.kp_base.proofs.KeyOrder.{key_ties, key_total}
use Rattle.kp_store.specs.Indexes.{Keys, are_once, with_keys}
use Rattle.kp_store.proofs.Buckets.{in_inserted}
use Rattle.kp_store.proofs.KeyLists.{pushed, put_beside, taken}
use Rattle.kp_store.proofs.Ordered.{has_entries, none_before}

-- ---- truth values

neither : (a b : Bool) → a || b ≡ false → (a ≡ false) × (b ≡ false)
neither true b none = absurd (cc)
neither false b none = (refl, none)

is_not : (b : Bool) → not b ≡ true → b ≡ false
is_not true h = absurd (cc)
is_not false h = refl

kept_less : (a b : Bool) → b ≡ false → not (a && b) ≡ true
kept_less true b none = ap not none
kept_less false b none = refl

-- ---- lengths

pub one_is_few : (n : ℕ) → n ≡ 1 → n ≤ 8
one_is_few n one = omega arith

pub room_for_one : (ks : List ObjectKey) (key : ObjectKey) (n : ℕ) → length ks < n → length (ks ++ key ∷ []) ≤ n
room_for_one ks key n less = by (length (ks ++ key ∷ [])) (length ks) (length-append ks (key ∷ [])) less
  where
    by : (more some : ℕ) → more ≡ some + 1 → some < n → more ≤ n
    by more some is less = omega arith

-- a list that is no longer has room too
pub no_more : (new old news olds : ℕ) → new ≤ old → new ≡ news → old ≡ olds → olds ≤ 8 → news ≤ 8
no_more new old news olds less is was few = omega arith

-- ---- keys

-- a key that isn't there, and one that is, are not the same
apart : (key k : ObjectKey) → eq_by_cmp key_cmp key k ≡ false → eq_by_cmp key_cmp k key ≡ false
apart key k other = (eq_by_cmp_equiv key_total).symm k key ∙ other

-- one key
pub once_alone : (key : ObjectKey) → are_once (key ∷ []) empty ≡ true
once_alone key = ap (λ b. not b && true) (none_before key)

module _ (m : Keys) (key : ObjectKey) where
  -- a key is told apart from one that is added where it wasn't
  told : (k : ObjectKey) (ks : List ObjectKey) → contains_key (with_keys ks m) k ≡ false → contains_key (with_keys (k ∷ ks) m) key ≡ false → (eq_by_cmp key_cmp k key || contains_key (with_keys ks m) k ≡ false) × (contains_key (with_keys ks m) key ≡ false)
  told k ks once absent =
      let both = neither (eq_by_cmp key_cmp key k) (contains_key (with_keys ks m) key) (sym (in_inserted (with_keys ks m) k key) ∙ absent) in
      ((λ i. apart key k both.0 i || once i), both.1)

  -- one more key in the list
  pub once_pushed : (ks : List ObjectKey) → are_once ks m ≡ true → contains_key (with_keys ks m) key ≡ false → are_once (ks ++ key ∷ []) m ≡ true
  once_pushed [] once absent = ap (λ b. not b && true) absent
  once_pushed (k ∷ ks) once absent =
      let parts = and_parts (not (contains_key (with_keys ks m) k)) (are_once ks m) once in
      let (other, rest) = told k ks (is_not (contains_key (with_keys ks m) k) parts.0) absent in
      λ i. not ((pushed ks m key k ∙ other) i) && once_pushed ks parts.1 rest i

  -- one more key beside it
  pub once_beside : (ks : List ObjectKey) → are_once ks m ≡ true → contains_key (with_keys ks m) key ≡ false → are_once ks (insert m key tt) ≡ true
  once_beside [] once absent = refl
  once_beside (k ∷ ks) once absent =
      let parts = and_parts (not (contains_key (with_keys ks m) k)) (are_once ks m) once in
      let (other, rest) = told k ks (is_not (contains_key (with_keys ks m) k) parts.0) absent in
      λ i. not ((put_beside ks m key k ∙ other) i) && once_beside ks parts.1 rest i

  -- a key that is taken out
  pub once_taken : (ks : List ObjectKey) → are_once ks m ≡ true → are_once (filter (λ o. not (eq_by_cmp key_cmp o key)) ks) (remove m key) ≡ true
  once_taken [] once = refl
  once_taken (k ∷ ks) once =
      by (once_taken ks (and_parts (not (contains_key (with_keys ks m) k)) (are_once ks m) once).1) (not (eq_by_cmp key_cmp k key))
    where
      parts : (not (contains_key (with_keys ks m) k) ≡ true) × (are_once ks m ≡ true)
      parts = and_parts (not (contains_key (with_keys ks m) k)) (are_once ks m) once

      left : List ObjectKey
      left = filter (λ o. not (eq_by_cmp key_cmp o key)) ks

      gone : not (contains_key (with_keys left (remove m key)) k) ≡ true
      gone = ap not (taken ks m key k) ∙ kept_less (not (eq_by_cmp key_cmp k key)) (contains_key (with_keys ks m) k) (is_not (contains_key (with_keys ks m) k) parts.0)

      by : are_once left (remove m key) ≡ true → (b : Bool) → are_once (cond b (k ∷ left) left) (remove m key) ≡ true
      by rest true = λ i. gone i && rest i
      by rest false = rest

more : (a b c d : ℕ) → d ≡ c + 1 → a + b ≡ c → suc a + b ≡ d
more a b c d is e = omega arith

-- the number of the keys
pub count_once : (ks : List ObjectKey) (m : Keys) → are_once ks m ≡ true → length ks + len m ≡ len (with_keys ks m)
count_once [] m once = omega arith
count_once (k ∷ ks) m once =
    let parts = and_parts (not (contains_key (with_keys ks m) k)) (are_once ks m) once in
    let one_more = len-insert key_total (with_keys ks m) k tt ∙ ap (λ b. cond b (len (with_keys ks m)) (len (with_keys ks m) + 1)) (is_not (contains_key (with_keys ks m) k) parts.0) in
    more (length ks) (len m) (len (with_keys ks m)) _ one_more (count_once ks m parts.1)

-- ---- entries whose keys are told apart

next : (a b : ℕ) → a ≡ b → a + 1 ≡ suc b
next a b is = omega arith

-- a key that is told apart from those of entries isn't among them
not_among : {X : Type 0} (key : ObjectKey) (es : List (ObjectKey × X))
    → AllByRecursion (λ k. key_eq.ghosts.eq key k ≡ false) (map (λ e. e.0) es)
    → contains_key (from_entries {R = key_cmp} es) key ≡ false
not_among {X} key es apart = has_entries key es ∙ none es apart
  where
    none : (fs : List (ObjectKey × X))
        → AllByRecursion (λ k. key_eq.ghosts.eq key k ≡ false) (map (λ e. e.0) fs)
        → list_any (eq_by_cmp key_cmp key) (map (λ e. e.0) fs) ≡ false
    none [] all = refl
    none (f ∷ fs) all = λ i. (sym (key_ties key f.0) ∙ all.0) i || none fs all.1 i

-- their map has as many keys
pub count_distinct : {X : Type 0} (es : List (ObjectKey × X))
    → IsDistinct key_eq.ghosts.eq (map (λ e. e.0) es)
    → len (from_entries {R = key_cmp} es) ≡ length es
unfolding IsDistinct
count_distinct {X} [] once = len-empty key_cmp X
count_distinct (e ∷ es) once =
    len-insert key_total (from_entries es) e.0 e.1
    ∙ ap (λ b. cond b (len (from_entries {R = key_cmp} es)) (len (from_entries {R = key_cmp} es) + 1))
    (not_among e.0 es once.0)
    ∙ next (len (from_entries {R = key_cmp} es)) (length es) (count_distinct es once.1)
