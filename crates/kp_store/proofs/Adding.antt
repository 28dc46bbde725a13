-- Services that are added to those that were touched.
use Rattle.std.proofs.Common.{◌≡◌, ◌||◌, Bool, true, false, Result, Ok, Err, OnErr, OnOk, refl, sym, ap, subst, ◌∙◌}
use mathlib.Core.Bool.{or-false}
use Rattle.std.proofs.Math.Bool.{or-true}
use Rattle.std.specs.Ordering.{eq_by_cmp}
use Rattle.std.specs.FinMap.{contains_key, insert}
use Rattle.kp_base.specs.Keys.{key_cmp}
use Rattle.kp_base.specs.declared.key.ObjectKey.{ObjectKey}
use Rattle.kp_touch_defs.specs.Touches.{is_key}
use Rattle.kp_store.specs.Indexes.{Keys}
use Rattle.kp_store.specs.Touched.{AddsTo, StaysIn, is_touched}
use Rattle.kp_store.specs.declared.touched.Touched.{Touched}
use Rattle.kp_store.proofs.Buckets.{in_inserted, or_later}
use Rattle.kp_store.proofs.KeyLists.{or_between}

-- ---- truth values

in_turn : (a b c : Bool) → b || (a || c) ≡ (a || b) || c
in_turn true true c = refl
in_turn true false c = refl
in_turn false b c = refl

paired : (a b c d : Bool) → (a || b) || (c || d) ≡ (b || c) || (a || d)
paired true true c d = refl
paired true false true d = refl
paired true false false d = refl
paired false true c d = refl
paired false false c d = refl

-- ---- Services

module _ (t : Touched) (new : Keys) where
  -- one key more
  pub one_more : (key : ObjectKey) → new ≡ insert t.keys key tt
      → AddsTo (is_key key) t (record t { keys = new })
  one_more key is k =
      ap (λ m. t.all || contains_key m k) is
      ∙ ap (λ b. t.all || b) (in_inserted t.keys key k)
      ∙ or_between t.all (eq_by_cmp key_cmp k key) (contains_key t.keys k)

  -- other keys and what was touched
  pub joined : (others : Touched)
      → ((k : ObjectKey) → contains_key new k ≡ contains_key others.keys k || contains_key t.keys k)
      → AddsTo (is_touched others) t (record { all = t.all || others.all; keys = new })
  joined others is k =
      ap (λ b. (t.all || others.all) || b) (is k)
      ∙ paired t.all others.all (contains_key others.keys k) (contains_key t.keys k)

  -- keys of which none is lost
  pub none_lost : {T E : Type 0} (r : Result T E)
      → ((k : ObjectKey) → contains_key t.keys k ≡ true → contains_key new k ≡ true)
      → OnErr r (StaysIn t (record t { keys = new }))
  none_lost (Ok x) kept = tt
  none_lost (Err e) kept =
      λ k. or_later t.all (contains_key t.keys k) (contains_key new k) (kept k)

module _ (before after : Touched) (p : ObjectKey → Bool) (adds : AddsTo p before after) where
  -- what was touched still is
  pub still : {T E : Type 0} (r : Result T E) → OnErr r (StaysIn before after)
  still (Ok x) = tt
  still (Err e) = λ k there. adds k ∙ ap (λ b. p k || b) there ∙ or-true (p k)

  -- where nothing was, these are all
  pub these_alone : ((k : ObjectKey) → is_touched before k ≡ false) → (k : ObjectKey)
      → is_touched after k ≡ p k
  these_alone none k = adds k ∙ ap (λ b. p k || b) (none k) ∙ or-false (p k)

  -- another way to say which
  pub as_well : (q : ObjectKey → Bool) → ((k : ObjectKey) → p k ≡ q k) → AddsTo q before after
  as_well q same k = adds k ∙ ap (λ b. b || is_touched before k) (same k)

  -- others after them
  pub and_then : (last : Touched) (q : ObjectKey → Bool) → AddsTo q after last
      → AddsTo (λ k. p k || q k) before last
  and_then last q more k =
      more k ∙ ap (λ b. q k || b) (adds k) ∙ in_turn (p k) (q k) (is_touched before k)

-- another way to say by what they were added
pub by_same : {T E A : Type 0} (r : Result T E) (before after : Touched)
    (by : A → ObjectKey → Bool) {x y : A} → x ≡ y
    → OnOk r (AddsTo (by x) before after) → OnOk r (AddsTo (by y) before after)
by_same r before after by same = subst (λ x. OnOk r (AddsTo (by x) before after)) same

-- none are added
pub none_added : (t : Touched) (p : ObjectKey → Bool) → ((k : ObjectKey) → p k ≡ false)
    → AddsTo p t t
none_added t p none k = ap (λ b. b || is_touched t k) (sym (none k))
