-- The keys of slices that go where others come.
use Rattle.std.proofs.Common.{◌≡◌, ◌||◌, ◌<◌, ◌+◌, ℕ, Bool, true, false, cond, List, [], ◌∷◌, ◌++◌}
use Rattle.std.proofs.Common.{map, take, length, get_or, Option, Some, refl, sym, ap, ◌∙◌}
use Rattle.std.proofs.Math.Bool.{or-false}
use Rattle.std.proofs.lemmas.List.{map-append, take_more}
use Rattle.std.proofs.lemmas.List.Folds.{list_any-append}
use Rattle.std.specs.FinMap as finite
use Rattle.std.specs.FinMap.{get-insert, same_map}
use Rattle.std.specs.List.{list_any}
use Rattle.std.specs.Ordering.{eq_by_cmp}
use Rattle.std.specs.Prelude.{None}
use Rattle.kp_base.specs.Keys.{key_cmp}
use Rattle.kp_base.specs.declared.key.ObjectKey.{ObjectKey}
use Rattle.kp_base.proofs.KeyOrder.{key_exact, key_total}
use Rattle.kp_types.specs.declared.slice.Slice.{Slice}
use Rattle.kp_object_defs.specs.SlicesNow.{Slices}
use Rattle.kp_controller.specs.Replaced.{AreGone, has_key, with_slices, without_keys}
use Rattle.kp_controller.proofs.Kept.{found_without}

either : (came : Bool) (s : Slice) (m n : Option Slice) → (came ≡ false → m ≡ n)
    → cond came (Some s) m ≡ cond came (Some s) n
either true s m n same = refl
either false s m n same = same refl

-- where a slice of a key comes, it doesn't matter what stood there
found_with : (after : List Slice) (m n : Slices) (key : ObjectKey)
    → (has_key after key ≡ false → finite.get m key ≡ finite.get n key)
    → finite.get (with_slices after m) key ≡ finite.get (with_slices after n) key
found_with [] m n key same = same refl
found_with (s ∷ after) m n key same =
    get-insert key_total (with_slices after m) s.key s key
    ∙ either (eq_by_cmp key_cmp key s.key) s (finite.get (with_slices after m) key)
    (finite.get (with_slices after n) key)
    (λ other. found_with after m n key (λ none. same
    (ap (λ came. came || has_key after key) other ∙ none)))
    ∙ sym (get-insert key_total (with_slices after n) s.key s key)

-- so it is enough that these are taken out
pub gone_enough : (before after : List Slice) (gone : List ObjectKey) (m : Slices)
    → AreGone before after gone
    → with_slices after (without_keys gone m)
    ≡ with_slices after (without_keys (map (λ s. s.key) before) m)
gone_enough before after gone m are =
    same_map key_total key_exact _ _ (λ key. found_with after _ _ key (λ none.
    found_without gone m key ∙ ap (λ b. cond b None (finite.get m key)) (are key none)
    ∙ sym (found_without (map (λ s. s.key) before) m key)))

-- ---- one slice after the other

module _ (before after : List Slice) (i : ℕ) (s : Slice) (within : i < length before) (is : s ≡ get_or before i s) where
  -- one more slice has a key where those before it or this one has it
  one_more : (key : ObjectKey)
      → (has_key (take i before) key || eq_by_cmp key_cmp key s.key) ≡ has_key (take (i + 1) before) key
  one_more key =
      let same = eq_by_cmp key_cmp key in
      ap (λ b. has_key (take i before) key || b) (sym (or-false (same s.key)))
      ∙ sym (list_any-append same (map (λ s. s.key) (take i before)) (s.key ∷ []))
      ∙ ap (list_any same) (sym (map-append (λ s. s.key) (take i before) (s ∷ [])))
      ∙ ap (λ t. has_key (take i before ++ t ∷ []) key) is
      ∙ ap (λ ss. has_key ss key) (sym (take_more before i s within))

  -- its key is among those that go
  pub goes : (gone : List ObjectKey) → AreGone (take i before) after gone
      → AreGone (take (i + 1) before) after (gone ++ s.key ∷ [])
  goes gone are key none =
      let same = eq_by_cmp key_cmp key in
      list_any-append same gone (s.key ∷ [])
      ∙ ap (λ b. list_any same gone || b) (or-false (same s.key))
      ∙ ap (λ b. b || same s.key) (are key none)
      ∙ one_more key

  -- or another has it
  pub stays : (gone : List ObjectKey) → AreGone (take i before) after gone
      → ((key : ObjectKey) → has_key after key ≡ false → eq_by_cmp key_cmp key s.key ≡ false)
      → AreGone (take (i + 1) before) after gone
  stays gone are has key none =
      are key none ∙ sym (or-false (has_key (take i before) key))
      ∙ ap (λ b. has_key (take i before) key || b) (sym (has key none))
      ∙ one_more key
