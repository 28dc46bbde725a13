-- Each object stays under its own key.
use Rattle.std.proofs.Common.{◌≡◌, Bool, true, false, cond, Some, None, Result, Ok, Err, OnOk, OnErr, refl, sym, ap, ◌∙◌}
use Rattle.std.specs.FinMap.{FinMap, empty, get, get-empty, get-insert, get-remove, insert, remove}
use Rattle.std.specs.Ordering.{eq_by_cmp}
use Rattle.std.proofs.lemmas.Option.{same_Some}
use Rattle.kp_lemmas.proofs.Orders.{one_from_tie}
use Rattle.kp_base.proofs.KeyOrder.{key_total, key_exact}
use Rattle.kp_base.specs.Keys.{key_cmp}
use Rattle.kp_base.specs.declared.key.ObjectKey.{ObjectKey}
use Rattle.kp_types.specs.declared.service.Service.{Service}
use Rattle.kp_types.specs.declared.slice.Slice.{Slice}
use Rattle.kp_types.specs.declared.pod.Pod.{Pod}
use Rattle.kp_types.specs.declared.pod.Node.{Node}
use Rattle.kp_object_defs.specs.Objects.{Objects, node_key}
use Rattle.kp_object_defs.specs.OwnKeys.{AreUnderOwnKeys, IsUnderOwnKeys}

-- what follows from both clauses of a call
pub either_way : {A E P Q G : Type 0} (r : Result A E) → OnOk r P → OnErr r Q → (P → G) → (Q → G) → G
either_way (Ok a) p q f g = f p
either_way (Err e) p q f g = g q

-- ---- one map

module _ {X : Type 0} (key_of : X → ObjectKey) where
  pub of_none : IsUnderOwnKeys key_of empty
  of_none key x h = let none : get (empty {X = X} {R = key_cmp}) key ≡ None = get-empty key_cmp key in absurd (cc)

  inserted_by : (m : FinMap key_cmp X) (v : X) → IsUnderOwnKeys key_of m → (key : ObjectKey) (x : X) (b : Bool) → eq_by_cmp key_cmp key (key_of v) ≡ b → cond b (Some v) (get m key) ≡ Some x → key_of x ≡ key
  inserted_by m v own key x true e h = ap key_of (sym (same_Some v x h)) ∙ sym (one_from_tie key_exact key (key_of v) e)
  inserted_by m v own key x false e h = own key x h

  removed_by : (m : FinMap key_cmp X) → IsUnderOwnKeys key_of m → (key : ObjectKey) (x : X) (b : Bool) → cond b None (get m key) ≡ Some x → key_of x ≡ key
  removed_by m own key x true h = absurd (cc)
  removed_by m own key x false h = own key x h

  -- a map with one more value under its own key
  pub of_inserted : (m new : FinMap key_cmp X) (v : X) → new ≡ insert m (key_of v) v → IsUnderOwnKeys key_of m → IsUnderOwnKeys key_of new
  of_inserted m new v is own key x h = inserted_by m v own key x (eq_by_cmp key_cmp key (key_of v)) refl (sym (get-insert key_total m (key_of v) v key) ∙ ap (λ n. get n key) (sym is) ∙ h)

  -- a map without a key
  pub of_removed : (m new : FinMap key_cmp X) (k : ObjectKey) → new ≡ remove m k → IsUnderOwnKeys key_of m → IsUnderOwnKeys key_of new
  of_removed m new k is own key x h = removed_by m own key x (eq_by_cmp key_cmp key k) (sym (get-remove key_total m k key) ∙ ap (λ n. get n key) (sym is) ∙ h)

  -- a map that stays
  pub of_same : (m new : FinMap key_cmp X) → new ≡ m → IsUnderOwnKeys key_of m → IsUnderOwnKeys key_of new
  of_same m new is own key x h = own key x (ap (λ n. get n key) (sym is) ∙ h)

  -- a map that has one more value under its own key, or stays where memory is out
  pub of_put : {E : Type 0} (r : Result (Unit {0}) E) (m new : FinMap key_cmp X) (key : ObjectKey) (v : X) → OnOk r (new ≡ insert m key v) → OnErr r (new ≡ m) → key ≡ key_of v → IsUnderOwnKeys key_of m → IsUnderOwnKeys key_of new
  of_put r m new key v put kept is own = either_way r put kept (λ e. of_inserted m new v (e ∙ ap (λ k. insert m k v) is) own) (λ e. of_same m new e own)

  -- a map without a key, or one that stays where memory is out
  pub of_taken : {E : Type 0} (r : Result (Unit {0}) E) (m new : FinMap key_cmp X) (key : ObjectKey) → OnOk r (new ≡ remove m key) → OnErr r (new ≡ m) → IsUnderOwnKeys key_of m → IsUnderOwnKeys key_of new
  of_taken r m new key taken kept own = either_way r taken kept (λ e. of_removed m new key e own) (λ e. of_same m new e own)

-- ---- all objects, of which those of one kind are others

module _ (o : Objects) (own : AreUnderOwnKeys o) where
  pub with_services : (new : FinMap key_cmp Service) → IsUnderOwnKeys (λ s. s.key) new → AreUnderOwnKeys (record o { services = new })
  with_services new at = record { services = at; slices = own.slices; pods = own.pods; nodes = own.nodes }

  pub with_slices : (new : FinMap key_cmp Slice) → IsUnderOwnKeys (λ s. s.key) new → AreUnderOwnKeys (record o { slices = new })
  with_slices new at = record { services = own.services; slices = at; pods = own.pods; nodes = own.nodes }

  pub with_pods : (new : FinMap key_cmp Pod) → IsUnderOwnKeys (λ p. p.key) new → AreUnderOwnKeys (record o { pods = new })
  with_pods new at = record { services = own.services; slices = own.slices; pods = at; nodes = own.nodes }

  pub with_nodes : (new : FinMap key_cmp Node) → IsUnderOwnKeys (λ n. node_key n.name) new → AreUnderOwnKeys (record o { nodes = new })
  with_nodes new at = record { services = own.services; slices = own.slices; pods = own.pods; nodes = at }
