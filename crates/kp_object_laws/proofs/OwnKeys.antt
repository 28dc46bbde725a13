-- Each object stands under its own key, after any events.
use Rattle.std.proofs.Common.{◌≡◌, Bool, true, false, cond, List, [], ◌∷◌, Some, None, refl, sym, ap, ◌∙◌}
use Rattle.std.specs.List.{fold}
use Rattle.std.specs.Ordering.{eq_by_cmp}
use Rattle.std.specs.FinMap as finite
use Rattle.std.specs.FinMap.{get, get-entries, get-empty, get-insert, get-remove, entries, entries_sorted, is_sorted, find}
use Rattle.std.proofs.lemmas.Option.{same_Some}
use Rattle.kp_lemmas.proofs.Booleans.{true_from_fact}
use Rattle.kp_lemmas.proofs.Orders.{one_from_tie}
use Rattle.kp_base.specs.Keys.{key_cmp}
use Rattle.kp_base.specs.declared.key.ObjectKey.{ObjectKey}
use Rattle.kp_base.proofs.KeyOrder.{key_total, key_exact}
use Rattle.kp_types.specs.declared.event.Event.{Event}
use Rattle.kp_types.specs.declared.event.Event.TheVariants.{Apply, Delete}
use Rattle.kp_types.specs.declared.event.Kind.TheVariants as kind
use Rattle.kp_types.specs.declared.event.Object.TheVariants as object
use Rattle.kp_object_defs.specs.Objects.{Objects, no_objects, objects_step, node_key}
use Rattle.kp_object_defs.specs.OwnKeys.{IsUnderOwnKeys, AreUnderOwnKeys}
use Rattle.kp_object_laws.specs.ObjectLaws.{OwnKeysAtFirst, OwnKeysAfterEvent, OwnKeysAfterEvents}
use Rattle.kp_object_laws.proofs.OwnEntries.{owned, own_entries, owned_values}

-- ---- One map

module _ {X : Type 0} (key_of : X → ObjectKey) where
  pub of_none : IsUnderOwnKeys key_of finite.empty
  of_none key x h = let none : get (finite.empty {X = X} {R = key_cmp}) key ≡ None = get-empty key_cmp key in absurd (cc)

  inserted_by : (m : finite.FinMap key_cmp X) (v : X) → IsUnderOwnKeys key_of m → (key : ObjectKey) (x : X) (b : Bool) → eq_by_cmp key_cmp key (key_of v) ≡ b → cond b (Some v) (get m key) ≡ Some x → key_of x ≡ key
  inserted_by m v own key x true e h = ap key_of (sym (same_Some v x h)) ∙ sym (one_from_tie key_exact key _ e)
  inserted_by m v own key x false e h = own key x h

  pub of_inserted : (m : finite.FinMap key_cmp X) (v : X) → IsUnderOwnKeys key_of m → IsUnderOwnKeys key_of (finite.insert m (key_of v) v)
  of_inserted m v own key x h = inserted_by m v own key x _ refl (sym (get-insert key_total m (key_of v) v key) ∙ h)

  removed_by : (m : finite.FinMap key_cmp X) → IsUnderOwnKeys key_of m → (key : ObjectKey) (x : X) (b : Bool) → cond b None (get m key) ≡ Some x → key_of x ≡ key
  removed_by m own key x true h = absurd (cc)
  removed_by m own key x false h = own key x h

  pub of_removed : (m : finite.FinMap key_cmp X) (k : ObjectKey) → IsUnderOwnKeys key_of m → IsUnderOwnKeys key_of (finite.remove m k)
  of_removed m k own key x h = removed_by m own key x _ (sym (get-remove key_total m k key) ∙ h)

-- ---- All objects

pub own_at_first : OwnKeysAtFirst
own_at_first = record { services = of_none _; slices = of_none _; pods = of_none _; nodes = of_none _ }

pub own_after_event : OwnKeysAfterEvent
own_after_event o (Apply (object.Service s)) own = record { services = of_inserted (λ x. x.key) o.services s own.services; slices = own.slices; pods = own.pods; nodes = own.nodes }
own_after_event o (Apply (object.EndpointSlice s)) own = record { services = own.services; slices = of_inserted (λ x. x.key) o.slices s own.slices; pods = own.pods; nodes = own.nodes }
own_after_event o (Apply (object.Pod p)) own = record { services = own.services; slices = own.slices; pods = of_inserted (λ x. x.key) o.pods p own.pods; nodes = own.nodes }
own_after_event o (Apply (object.Node n)) own = record { services = own.services; slices = own.slices; pods = own.pods; nodes = of_inserted (λ x. node_key x.name) o.nodes n own.nodes }
own_after_event o (Delete kind.Service key) own = record { services = of_removed (λ x. x.key) o.services key own.services; slices = own.slices; pods = own.pods; nodes = own.nodes }
own_after_event o (Delete kind.EndpointSlice key) own = record { services = own.services; slices = of_removed (λ x. x.key) o.slices key own.slices; pods = own.pods; nodes = own.nodes }
own_after_event o (Delete kind.Pod key) own = record { services = own.services; slices = own.slices; pods = of_removed (λ x. x.key) o.pods key own.pods; nodes = own.nodes }
own_after_event o (Delete kind.Node key) own = record { services = own.services; slices = own.slices; pods = own.pods; nodes = of_removed (λ x. node_key x.name) o.nodes key own.nodes }

after_from : (events : List Event) (o : Objects) → AreUnderOwnKeys o → AreUnderOwnKeys (fold objects_step o events)
after_from [] o own = own
after_from (e ∷ es) o own = after_from es _ (own_after_event o e own)

pub own_after_events : OwnKeysAfterEvents
own_after_events events = after_from events no_objects own_at_first

-- ---- The values of a map

module _ {X : Type 0} (key_of : X → ObjectKey) (m : finite.FinMap key_cmp X) (own : IsUnderOwnKeys key_of m) where
  found_own : (es : List (ObjectKey × X)) → entries m ≡ es → (k : ObjectKey) (x : X) → find key_cmp k es ≡ Some x → key_of x ≡ k
  found_own es is k x h = own k x (get-entries m k ∙ ap (find key_cmp k) is ∙ h)

  entries_in_order : is_sorted key_cmp (entries m) ≡ true
  entries_in_order = true_from_fact _ (entries_sorted m)

  -- are its entries, by their own keys
  pub owned_entries : owned key_of (finite.values m) ≡ entries m
  owned_entries = owned_values key_total key_exact key_of _ (own_entries key_total key_exact key_of _ entries_in_order (found_own _ refl))

  -- in order
  pub values_in_order : is_sorted key_cmp (owned key_of (finite.values m)) ≡ true
  values_in_order = ap (is_sorted key_cmp) owned_entries ∙ entries_in_order

  -- and found by their keys
  pub found_in_values : (k : ObjectKey) → find key_cmp k (owned key_of (finite.values m)) ≡ get m k
  found_in_values k = ap (find key_cmp k) owned_entries ∙ sym (get-entries m k)
