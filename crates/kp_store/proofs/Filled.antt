-- No bucket is empty, once a key is added to one or removed.
use Rattle.std.proofs.Common.{◌≡◌, ◌||◌, Bool, true, false, true≢false, cond, List, [], ◌∷◌, map, Option, Some, Result, Ok, Err, OnOk, OnErr, refl, sym, ap, ◌∙◌}
use Rattle.std.specs.List.{list_any}
use Rattle.std.specs.Map.{lookup}
use Rattle.std.specs.Cmp.{IsEquivalence}
use Rattle.std.specs.Ordering.{eq_by_cmp}
use Rattle.std.specs.FinMap.{FinMap, contains_key, empty, from_entries}
use Rattle.kp_lemmas.proofs.Orders.{tie_of_itself}
use Rattle.kp_base.specs.Keys.{key_cmp}
use Rattle.kp_base.specs.declared.key.ObjectKey.{ObjectKey}
use Rattle.kp_base.proofs.KeyOrder.{key_total}
use Rattle.kp_store.specs.Indexes.{Keys, AreFilled, AreFilledBut, with_keys}
use Rattle.kp_store.proofs.Buckets.{in_inserted, lookup_tied}
use Rattle.kp_store.proofs.Ordered.{has_entries}

-- ---- one bucket

-- a map with a key of its own isn't empty
pub not_empty : {X : Type 0} (m : FinMap key_cmp X) (k : ObjectKey) → contains_key m k ≡ true → ¬ (m ≡ empty)
not_empty m k there none =
    absurd (true≢false (sym there ∙ ap (λ m. contains_key m k) none ∙ has_entries k []))

-- nor is a bucket that a key was added to, or that stayed where it wasn't
pub added_or_not : {E : Type 0} (r : Result (Unit {0}) E) (old new : Keys) (key : ObjectKey) → OnOk r ((k : ObjectKey) → contains_key new k ≡ eq_by_cmp key_cmp k key || contains_key old k) → OnErr r (new ≡ old) → ¬ (old ≡ empty) → ¬ (new ≡ empty)
added_or_not (Ok u) old new key is was filled none =
    not_empty new key (is key ∙ ap (λ b. b || contains_key old key) (tie_of_itself key_total key)) none
added_or_not (Err e) old new key is was filled none = filled (sym was ∙ none)

-- nor is a bucket with a key in its list
pub none_listed : (ks : List ObjectKey) (m : Keys) → with_keys ks m ≡ empty → ks ≡ []
none_listed [] m none = refl
none_listed (k ∷ ks) m none =
    absurd (not_empty (with_keys (k ∷ ks) m) k (in_inserted (with_keys ks m) k k ∙ ap (λ b. b || contains_key (with_keys ks m) k) (tie_of_itself key_total k)) none)

-- nor is the map of an entry
pub no_entries : {X : Type 0} (es : List (ObjectKey × X)) → from_entries {R = key_cmp} es ≡ empty → es ≡ []
no_entries [] none = refl
no_entries (e ∷ es) none =
    absurd (not_empty (from_entries (e ∷ es)) e.0 (has_entries e.0 (e ∷ es) ∙ ap (λ b. b || list_any (eq_by_cmp key_cmp e.0) (map (λ e. e.0) es)) (tie_of_itself key_total e.0)) none)

-- ---- all buckets

module _ {T : Type 0} (same : T → T → Bool) (es fs : List (T × Keys)) (tag : T) (o : Option Keys) (h : (t : T) → lookup (same t) fs ≡ cond (same tag t) o (lookup (same t) es)) where
  -- what a tag's bucket becomes, and that others stay
  at : (t : T) (b : Bool) → same tag t ≡ b → lookup (same t) fs ≡ cond b o (lookup (same t) es)
  at t b e = h t ∙ ap (λ b. cond b o (lookup (same t) es)) e

  -- a bucket that is filled, or none, takes the place of one that may be empty
  pub filled_again : AreFilledBut same tag es → ¬ (o ≡ Some empty) → AreFilled same fs
  filled_again filled there t = by (same tag t) refl
    where
      by : (b : Bool) → same tag t ≡ b → ¬ (lookup (same t) fs ≡ Some empty)
      by true e none = there (sym (at t true e) ∙ none)
      by false e none = filled t e (sym (at t false e) ∙ none)

  pub filled_still : AreFilled same es → ¬ (o ≡ Some empty) → AreFilled same fs
  filled_still filled = filled_again (λ t e. filled t)

  -- a bucket that may be empty takes the place of one
  pub filled_beside : AreFilled same es → AreFilledBut same tag fs
  filled_beside filled t e none = filled t (sym (at t false e) ∙ none)

-- where the tag itself finds no empty bucket, none is
pub filled_there : {T : Type 0} (same : T → T → Bool) → IsEquivalence same → (es : List (T × Keys)) (tag : T) → AreFilledBut same tag es → ¬ (lookup (same tag) es ≡ Some empty) → AreFilled same es
filled_there same laws es tag filled there t = by (same tag t) refl
  where
    by : (b : Bool) → same tag t ≡ b → ¬ (lookup (same t) es ≡ Some empty)
    by true e none = there (sym (lookup_tied same laws tag t e es) ∙ none)
    by false e none = filled t e none
