-- An apply of what is stored leaves the objects, and so does a delete of what isn't there. No other
-- event does.
use Rattle.std.proofs.Common.{◌≡◌, ◌↔◌, Bool, true, false, not, cond, Option, Some, None, is_some, refl, sym, ap, ◌∙◌}
use Rattle.std.proofs.lemmas.Bool.{false≢true}
use Rattle.std.proofs.lemmas.Option.{none-some, same_Some}
use Rattle.std.specs.Ordering.{eq_by_cmp}
use Rattle.std.specs.FinMap.{FinMap, contains_key, get, get-insert, get-remove, insert, remove, same_map}
use Rattle.kp_lemmas.proofs.Orders.{one_from_tie, tie_of_itself}
use Rattle.kp_base.specs.Keys.{key_cmp}
use Rattle.kp_base.specs.declared.key.ObjectKey.{ObjectKey}
use Rattle.kp_base.proofs.KeyOrder.{key_total, key_exact}
use Rattle.kp_types.specs.declared.event.Kind.{Kind}
use Rattle.kp_types.specs.declared.event.Kind.TheVariants as kind
use Rattle.kp_types.specs.declared.event.Object.{Object}
use Rattle.kp_types.specs.declared.event.Object.TheVariants as object
use Rattle.kp_object_defs.specs.Objects.{Objects, node_key, with_object, without_object}
use Rattle.kp_store.specs.Unchanged.{IsStored, is_there}

-- ---- one map

module _ {X : Type 0} (m : FinMap key_cmp X) (key : ObjectKey) where
  put_at : (x : X) → get m key ≡ Some x → (q : ObjectKey) (b : Bool) → eq_by_cmp key_cmp q key ≡ b
      → cond b (Some x) (get m q) ≡ get m q
  put_at x at q true e = sym at ∙ ap (get m) (sym (one_from_tie key_exact q key e))
  put_at x at q false e = refl

  -- what is there can be put again, and nothing else
  pub put_again : (x : X) → (get m key ≡ Some x) ↔ (insert m key x ≡ m)
  put_again x = (stays, was)
    where
      stays : get m key ≡ Some x → insert m key x ≡ m
      stays at = same_map key_total key_exact (insert m key x) m (λ q.
          get-insert key_total m key x q ∙ put_at x at q (eq_by_cmp key_cmp q key) refl)

      was : insert m key x ≡ m → get m key ≡ Some x
      was same =
          ap (λ n. get n key) (sym same)
          ∙ get-insert key_total m key x key
          ∙ ap (λ b. cond b (Some x) (get m key)) (tie_of_itself key_total key)

  nothing : (o : Option X) → is_some o ≡ false → None ≡ o
  nothing None none = refl
  nothing (Some x) none = absurd (cc)

  taken_at : contains_key m key ≡ false → (q : ObjectKey) (b : Bool) → eq_by_cmp key_cmp q key ≡ b
      → cond b None (get m q) ≡ get m q
  taken_at none q true e =
      nothing (get m key) none ∙ ap (get m) (sym (one_from_tie key_exact q key e))
  taken_at none q false e = refl

  -- what isn't there can be taken, and nothing else
  pub take_absent : (contains_key m key ≡ false) ↔ (remove m key ≡ m)
  take_absent = (stays, was)
    where
      stays : contains_key m key ≡ false → remove m key ≡ m
      stays none = same_map key_total key_exact (remove m key) m (λ q.
          get-remove key_total m key q
          ∙ taken_at none q (eq_by_cmp key_cmp q key) refl)

      was : remove m key ≡ m → contains_key m key ≡ false
      was same =
          ap (λ n. is_some (get n key)) (sym same)
          ∙ ap is_some (get-remove key_total m key key)
          ∙ ap (λ b. is_some (cond b None (get m key))) (tie_of_itself key_total key)

-- ---- all objects

-- where one map stays, all objects do
both : {A B C : Type 0} → A ↔ B → (B → C) → (C → B) → A ↔ C
both same there back = ((λ a. there (same.0 a)), (λ c. same.1 (back c)))

pub stored_stay : (o : Objects) (x : Object) → IsStored o x ↔ (with_object o x ≡ o)
stored_stay o (object.Service s) =
    both (put_again o.services s.key s) (λ e i. record o { services = e i })
    (ap (λ (p : Objects). p.services))
stored_stay o (object.EndpointSlice s) =
    both (put_again o.slices s.key s) (λ e i. record o { slices = e i })
    (ap (λ (p : Objects). p.slices))
stored_stay o (object.Pod p) =
    both (put_again o.pods p.key p) (λ e i. record o { pods = e i })
    (ap (λ (p : Objects). p.pods))
stored_stay o (object.Node n) =
    both (put_again o.nodes (node_key n.name) n) (λ e i. record o { nodes = e i })
    (ap (λ (p : Objects). p.nodes))

pub absent_stay : (o : Objects) (of : Kind) (key : ObjectKey)
    → (is_there o of key ≡ false) ↔ (without_object o of key ≡ o)
absent_stay o kind.Service key =
    both (take_absent o.services key) (λ e i. record o { services = e i })
    (ap (λ (p : Objects). p.services))
absent_stay o kind.EndpointSlice key =
    both (take_absent o.slices key) (λ e i. record o { slices = e i })
    (ap (λ (p : Objects). p.slices))
absent_stay o kind.Pod key =
    both (take_absent o.pods key) (λ e i. record o { pods = e i })
    (ap (λ (p : Objects). p.pods))
absent_stay o kind.Node key =
    both (take_absent o.nodes key) (λ e i. record o { nodes = e i })
    (ap (λ (p : Objects). p.nodes))

-- ---- tests

-- a test that fails where another holds, which holds where something is so
pub fails_where : {P Q : Type 0} (b : Bool) → (b ≡ true) ↔ P → P ↔ Q → (not b ≡ false) ↔ Q
fails_where true is same = ((λ h. same.0 (is.0 refl)), (λ q. refl))
fails_where false is same = ((λ h. absurd (cc)), (λ q. ap not (is.1 (same.1 q))))

-- a test of values is one of what there is of them
pub of_some : {X : Type 0} {b : Bool} {x y : X} → (b ≡ true) ↔ (x ≡ y)
    → (b ≡ true) ↔ (Some x ≡ Some y)
of_some is = ((λ h. ap Some (is.0 h)), (λ e. is.1 (same_Some _ _ e)))

-- what isn't there is no value
pub of_none : {X : Type 0} (x : X) → (false ≡ true) ↔ (None ≡ Some x)
of_none x = ((λ h. absurd (false≢true h)), (λ e. absurd (none-some x e)))

-- a test of what was found is one of what there is
pub of_found : {X : Type 0} {b : Bool} {o p : Option X} {x y : X} → o ≡ p → x ≡ y
    → (b ≡ true) ↔ (o ≡ Some x) → (b ≡ true) ↔ (p ≡ Some y)
of_found found same is =
    ((λ h. sym found ∙ is.0 h ∙ ap Some same), (λ e. is.1 (found ∙ e ∙ ap Some (sym same))))
