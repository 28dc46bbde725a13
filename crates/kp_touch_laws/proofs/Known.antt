-- An event that says what is known leaves the objects.
use Rattle.std.proofs.Common.{◌≡◌, Bool, true, false, cond, Option, Some, None, refl, sym, ap, ◌∙◌}
use Rattle.std.specs.Ordering.{eq_by_cmp}
use Rattle.std.specs.FinMap.{FinMap, get, get-insert, get-remove, insert, remove, same_map}
use Rattle.kp_lemmas.proofs.Orders.{one_from_tie}
use Rattle.kp_base.specs.Keys.{key_cmp}
use Rattle.kp_base.specs.declared.key.ObjectKey.{ObjectKey}
use Rattle.kp_base.proofs.KeyOrder.{key_total, key_exact}
use Rattle.kp_types.specs.declared.event.Kind.TheVariants as kind
use Rattle.kp_types.specs.declared.event.Object.TheVariants as object
use Rattle.kp_types.specs.declared.event.Event.TheVariants.{Apply, Delete}
use Rattle.kp_object_defs.specs.Objects.{node_key}
use Rattle.kp_touch_laws.specs.KnownObjects.{KnownObjectsStay}

module _ {X : Type 0} (m : FinMap key_cmp X) (k : ObjectKey) where
  -- a key has what it had
  as_before : (had : Option X) → get m k ≡ had → (q : ObjectKey) (b : Bool)
      → eq_by_cmp key_cmp q k ≡ b → cond b had (get m q) ≡ get m q
  as_before had at q true tie = sym (ap (get m) (one_from_tie key_exact q k tie) ∙ at)
  as_before had at q false tie = refl

  put_known : (x : X) → get m k ≡ Some x → insert m k x ≡ m
  put_known x at =
      same_map key_total key_exact (insert m k x) m (λ q.
      get-insert key_total m k x q
      ∙ as_before (Some x) at q (eq_by_cmp key_cmp q k) refl)

  take_none : get m k ≡ None → remove m k ≡ m
  take_none at =
      same_map key_total key_exact (remove m k) m (λ q.
      get-remove key_total m k q
      ∙ as_before None at q (eq_by_cmp key_cmp q k) refl)

pub known_objects_stay : KnownObjectsStay
known_objects_stay o (Apply (object.Service s)) at =
    λ i. record o { services = put_known o.services s.key s at i }
known_objects_stay o (Apply (object.EndpointSlice s)) at =
    λ i. record o { slices = put_known o.slices s.key s at i }
known_objects_stay o (Apply (object.Pod p)) at =
    λ i. record o { pods = put_known o.pods p.key p at i }
known_objects_stay o (Apply (object.Node n)) at =
    λ i. record o { nodes = put_known o.nodes (node_key n.name) n at i }
known_objects_stay o (Delete kind.Service key) at =
    λ i. record o { services = take_none o.services key at i }
known_objects_stay o (Delete kind.EndpointSlice key) at =
    λ i. record o { slices = take_none o.slices key at i }
known_objects_stay o (Delete kind.Pod key) at =
    λ i. record o { pods = take_none o.pods key at i }
known_objects_stay o (Delete kind.Node key) at =
    λ i. record o { nodes = take_none o.nodes key at i }
