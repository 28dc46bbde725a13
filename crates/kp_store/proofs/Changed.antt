-- An index after a change of its objects.
use Rattle.std.proofs.Common.{◌≡◌, ◌&&◌, ◌||◌, Bool, true, false, not, cond, List, Option, Some, None, refl, sym, ap, ◌∙◌}
use Rattle.std.specs.Ordering.{eq_by_cmp}
use Rattle.std.specs.FinMap.{FinMap, get, insert, remove, get-insert, get-remove}
use Rattle.kp_lemmas.proofs.Orders.{one_from_tie}
use Rattle.kp_base.specs.Keys.{key_cmp}
use Rattle.kp_base.specs.declared.key.ObjectKey.{ObjectKey}
use Rattle.kp_base.proofs.KeyOrder.{key_total, key_exact}
use Rattle.kp_store.specs.Indexes.{Keys, IsIndexOf, has, is_among, is_tag_of, is_tagged}

put_in_place : (b o n h : Bool) → (b ≡ true → h ≡ o) → not (b && (o && not n)) && ((b && (n && not o)) || h) ≡ cond b n h
put_in_place false o n h same = refl
put_in_place true true n false same = let e : false ≡ true = same refl in absurd (cc)
put_in_place true false n true same = let e : true ≡ false = same refl in absurd (cc)
put_in_place true true true true same = refl
put_in_place true true false true same = refl
put_in_place true false true false same = refl
put_in_place true false false false same = refl

taken_out : (b o h : Bool) → (b ≡ true → h ≡ o) → not (b && o) && h ≡ not b && h
taken_out false o h same = refl
taken_out true true h same = refl
taken_out true false true same = let e : true ≡ false = same refl in absurd (cc)
taken_out true false false same = refl

not_before : (n o h : Bool) → h ≡ o → n && not o ≡ true → h ≡ false
not_before true false h same new = same
not_before true true h same new = absurd (cc)
not_before false o h same new = absurd (cc)

module _ {T X : Type 0} (same : T → T → Bool) (tags : X → List T) (m : FinMap key_cmp X) (key : ObjectKey) where
  tagged_put : (x : X) (t : T) (b : Bool) (o : Option X) → cond b (is_among same (tags x) t) (is_tagged same tags t o) ≡ is_tagged same tags t (cond b (Some x) o)
  tagged_put x t true o = refl
  tagged_put x t false o = refl

  tagged_taken : (t : T) (b : Bool) (o : Option X) → not b && is_tagged same tags t o ≡ is_tagged same tags t (cond b None o)
  tagged_taken t true o = refl
  tagged_taken t false o = refl

  -- what the index has at the key
  at_key : (old : List T) (bs : List (T × Keys)) → IsIndexOf same tags m bs → ((t : T) → is_among same old t ≡ is_tagged same tags t (get m key)) → (t : T) (k : ObjectKey) → eq_by_cmp key_cmp k key ≡ true → has same bs t k ≡ is_among same old t
  at_key old bs index is t k e = index t k ∙ ap (λ q. is_tagged same tags t (get m q)) (one_from_tie key_exact k key e) ∙ sym (is t)

  module _ (old : List T) (bs : List (T × Keys)) (index : IsIndexOf same tags m bs) (is : (t : T) → is_among same old t ≡ is_tagged same tags t (get m key)) where
    -- a tag that is gained isn't one from before
    pub gained_anew : (new gained : List T) → ((t : T) → is_among same gained t ≡ is_among same new t && not (is_among same old t)) → (t : T) (k : ObjectKey) → eq_by_cmp key_cmp k key ≡ true → is_among same gained t ≡ true → has same bs t k ≡ false
    gained_anew new gained more t k e h = not_before (is_among same new t) (is_among same old t) (has same bs t k) (at_key old bs index is t k e) (sym (more t) ∙ h)

    pub put_ok : (x : X) (gained lost : List T) → ((t : T) → is_among same gained t ≡ is_among same (tags x) t && not (is_among same old t)) → ((t : T) → is_among same lost t ≡ is_among same old t && not (is_among same (tags x) t)) → (t : T) (k : ObjectKey) → not (is_tag_of same lost key t k) && (is_tag_of same gained key t k || has same bs t k) ≡ is_tagged same tags t (get (insert m key x) k)
    put_ok x gained lost more less t k =
        (λ i. not (eq_by_cmp key_cmp k key && less t i) && ((eq_by_cmp key_cmp k key && more t i) || has same bs t k))
        ∙ put_in_place (eq_by_cmp key_cmp k key) (is_among same old t) (is_among same (tags x) t) (has same bs t k) (at_key old bs index is t k)
        ∙ ap (cond (eq_by_cmp key_cmp k key) (is_among same (tags x) t)) (index t k)
        ∙ tagged_put x t (eq_by_cmp key_cmp k key) (get m k)
        ∙ ap (is_tagged same tags t) (sym (get-insert key_total m key x k))

    pub take_ok : (t : T) (k : ObjectKey) → not (is_tag_of same old key t k) && has same bs t k ≡ is_tagged same tags t (get (remove m key) k)
    take_ok t k =
        taken_out (eq_by_cmp key_cmp k key) (is_among same old t) (has same bs t k) (at_key old bs index is t k)
        ∙ ap (λ h. not (eq_by_cmp key_cmp k key) && h) (index t k)
        ∙ tagged_taken t (eq_by_cmp key_cmp k key) (get m k)
        ∙ ap (is_tagged same tags t) (sym (get-remove key_total m key k))
