-- Objects after events whose numbers are within their bounds.
use Rattle.std.proofs.Common.{◌≡◌, Bool, true, false, cond, List, [], ◌∷◌, Some, None, sym, subst, ◌∙◌}
use Rattle.std.specs.List.{fold}
use Rattle.std.specs.FinMap as finite
use Rattle.std.specs.FinMap.{get, get-empty, get-insert, get-remove}
use Rattle.std.proofs.lemmas.Option.{same_Some}
use Rattle.kp_lemmas.proofs.Members.{first_in, later_in}
use Rattle.kp_base.specs.Keys.{key_cmp}
use Rattle.kp_base.specs.declared.key.ObjectKey.{ObjectKey}
use Rattle.kp_base.proofs.KeyOrder.{key_total}
use Rattle.kp_types.specs.declared.event.Event.{Event}
use Rattle.kp_types.specs.declared.event.Event.TheVariants.{Apply, Delete}
use Rattle.kp_types.specs.declared.event.Kind.TheVariants as kind
use Rattle.kp_types.specs.declared.event.Object.TheVariants as object
use Rattle.kp_object_defs.specs.Objects.{Objects, no_objects, objects_step}
use Rattle.kp_text_laws.specs.Bounds.{AreBounded, AreBoundedEvents, HoldsOfEach, IsBoundedEvent, IsBoundedPod}
use Rattle.kp_text_laws.specs.BoundLaws.{ObjectsAreBounded}

module _ {X : Type 0} (P : X → Type 0) where
  of_none : HoldsOfEach P finite.empty
  of_none key x h =
      let none : get (finite.empty {X = X} {R = key_cmp}) key ≡ None = get-empty key_cmp key in
      absurd (cc)

  inserted_by : (m : finite.FinMap key_cmp X) (v : X) → P v → HoldsOfEach P m → (key : ObjectKey)
      (x : X) (b : Bool) → cond b (Some v) (get m key) ≡ Some x → P x
  inserted_by m v of_v h key x true e = subst P (same_Some v x e) of_v
  inserted_by m v of_v h key x false e = h key x e

  of_inserted : (m : finite.FinMap key_cmp X) (k : ObjectKey) (v : X) → P v → HoldsOfEach P m
      → HoldsOfEach P (finite.insert m k v)
  of_inserted m k v of_v h key x e =
      inserted_by m v of_v h key x _ (sym (get-insert key_total m k v key) ∙ e)

  removed_by : (m : finite.FinMap key_cmp X) → HoldsOfEach P m → (key : ObjectKey) (x : X)
      (b : Bool) → cond b None (get m key) ≡ Some x → P x
  removed_by m h key x true e = absurd (cc)
  removed_by m h key x false e = h key x e

  of_removed : (m : finite.FinMap key_cmp X) (k : ObjectKey) → HoldsOfEach P m
      → HoldsOfEach P (finite.remove m k)
  of_removed m k h key x e = removed_by m h key x _ (sym (get-remove key_total m k key) ∙ e)

at_first : AreBounded no_objects
at_first = record {
  services = of_none _;
  slices = of_none _;
  pods = of_none IsBoundedPod;
}

after_event : (o : Objects) (e : Event) → AreBounded o → IsBoundedEvent e
    → AreBounded (objects_step o e)
after_event o (Apply (object.Service s)) h k = record {
  services = of_inserted _ o.services s.key s k h.services;
  slices = h.slices;
  pods = h.pods;
}
after_event o (Apply (object.EndpointSlice s)) h k = record {
  services = h.services;
  slices = of_inserted _ o.slices s.key s k h.slices;
  pods = h.pods;
}
after_event o (Apply (object.Pod p)) h k = record {
  services = h.services;
  slices = h.slices;
  pods = of_inserted IsBoundedPod o.pods p.key p k h.pods;
}
after_event o (Apply (object.Node n)) h k = record {
  services = h.services;
  slices = h.slices;
  pods = h.pods;
}
after_event o (Delete kind.Service key) h k = record {
  services = of_removed _ o.services key h.services;
  slices = h.slices;
  pods = h.pods;
}
after_event o (Delete kind.EndpointSlice key) h k = record {
  services = h.services;
  slices = of_removed _ o.slices key h.slices;
  pods = h.pods;
}
after_event o (Delete kind.Pod key) h k = record {
  services = h.services;
  slices = h.slices;
  pods = of_removed IsBoundedPod o.pods key h.pods;
}
after_event o (Delete kind.Node key) h k = record {
  services = h.services;
  slices = h.slices;
  pods = h.pods;
}

after_from : (events : List Event) (o : Objects) → AreBounded o → AreBoundedEvents events
    → AreBounded (fold objects_step o events)
after_from [] o h k = h
after_from (e ∷ es) o h k =
    after_from es _ (after_event o e h (k e (first_in e es))) (λ f c. k f (later_in f e es c))

pub objects_are_bounded : ObjectsAreBounded
objects_are_bounded events h = after_from events no_objects at_first h
