-- An event leaves the Services settled that it doesn't touch.
use Rattle.std.proofs.Common.{◌≡◌, ℕ, ◌&&◌, ◌||◌, Bool, true, false, true≢false, cond, not, List, filter, filter_map, Option, Some, None, option_and_then, bytes_eq, is_some, refl, sym, ap, subst, ◌∙◌}
use Rattle.std.specs.List.{list_any}
use Rattle.std.specs.Option.{option_eq}
use Rattle.std.specs.Ordering.{eq_by_cmp}
use Rattle.std.specs.FinMap as finite
use Rattle.std.specs.FinMap.{FinMap, get, get-empty, get-insert, get-remove}
use Rattle.std.proofs.lemmas.Bool.{and_left, false_from_ne_true, or_parts}
use Rattle.std.proofs.lemmas.Option.{same_Some}
use Rattle.std.proofs.lemmas.Slice.Eq.{bytes_eq-Decides}
use Rattle.kp_lemmas.proofs.Equality.{options_exact}
use Rattle.kp_lemmas.proofs.Orders.{one_from_tie}
use Rattle.kp_base.specs.Keys.{key_cmp}
use Rattle.kp_base.specs.declared.address.Family.{Family}
use Rattle.kp_base.specs.declared.key.ObjectKey.{ObjectKey}
use Rattle.kp_base.proofs.KeyOrder.{key_exact, key_total}
use Rattle.kp_types.specs.declared.event.Kind.TheVariants as kind
use Rattle.kp_types.specs.declared.event.Object.TheVariants as object
use Rattle.kp_types.specs.declared.event.Event.{Event}
use Rattle.kp_types.specs.declared.event.Event.TheVariants.{Apply, Delete}
use Rattle.kp_types.specs.declared.pod.Node.{Node}
use Rattle.kp_types.specs.declared.pod.Pod.{Pod}
use Rattle.kp_types.specs.declared.service.Service.{Service}
use Rattle.kp_types.specs.declared.slice.Slice.{Slice}
use Rattle.kp_object_defs.specs.Desired.{desired_endpoints_of, desired_in_zone, selects}
use Rattle.kp_object_defs.specs.Entries.{is_of_service, is_on_node}
use Rattle.kp_object_defs.specs.Objects.{Objects, node_key, objects_step, zone_of}
use Rattle.kp_object_defs.specs.OwnKeys.{AreUnderOwnKeys, IsUnderOwnKeys}
use Rattle.kp_object_defs.specs.PackingLaws.{IsPackingOf, is_managed_for}
use Rattle.kp_object_defs.specs.SlicesNow.{Slices, is_leftover, managed_slices, slices_step}
use Rattle.kp_object_laws.proofs.OwnKeys.{of_inserted, of_removed}
use Rattle.kp_touch_defs.specs.Touches.{is_selected, lost_node_touches, names_service, node_touches, selects_on, selects_pod, touches, zone_touches}
use Rattle.kp_touch_laws.specs.KnownObjects.{KnownObjectsStay}
use Rattle.kp_touch_laws.proofs.Untouched.{put_at, taken_at}
use Rattle.kp_touch_laws.proofs.Zones.{wanted_elsewhere}
use Rattle.kp_settle_laws.specs.Settled.{touches_slices}
use Rattle.kp_settle_laws.specs.SettleLaws.{AreOwn, ControlledAtFirst, MoreArePicked, ObjectsTouch, SlicesTouch}
use Rattle.kp_settle_laws.proofs.Managed.{absent_by_label}
use Rattle.kp_settle_laws.proofs.OwnValues.{passing_alike}

either : (a b : Bool) → (a ≡ false → b ≡ true) → a || b ≡ true
either true b h = refl
either false b h = h refl

-- ---- One value that changes

module _ {X : Type 0} (key_of : X → ObjectKey) (p : X → Bool) (m n : FinMap key_cmp X)
    (own_m : IsUnderOwnKeys key_of m) (own_n : IsUnderOwnKeys key_of n) (k : ObjectKey)
    (new : Option X)
    (at : (q : ObjectKey) → get n q ≡ cond (eq_by_cmp key_cmp q k) new (get m q))
    (before : (x : X) → get m k ≡ Some x → p x ≡ false)
    (after : (x : X) → new ≡ Some x → p x ≡ false) where
  was : (x : X) → p x ≡ true → get n (key_of x) ≡ Some x → get m (key_of x) ≡ Some x
  was x is found = by (eq_by_cmp key_cmp (key_of x) k) refl (sym (at (key_of x)) ∙ found)
    where
      by : (b : Bool) → eq_by_cmp key_cmp (key_of x) k ≡ b
          → cond (eq_by_cmp key_cmp (key_of x) k) new (get m (key_of x)) ≡ Some x
          → get m (key_of x) ≡ Some x
      by true tied h =
          absurd (true≢false (sym is ∙ after x
          (sym (ap (λ b. cond b new (get m (key_of x))) tied) ∙ h)))
      by false other h = sym (ap (λ b. cond b new (get m (key_of x))) other) ∙ h

  stays : (x : X) → p x ≡ true → get m (key_of x) ≡ Some x → get n (key_of x) ≡ Some x
  stays x is found = at (key_of x) ∙ by (eq_by_cmp key_cmp (key_of x) k) refl
    where
      by : (b : Bool) → eq_by_cmp key_cmp (key_of x) k ≡ b
          → cond (eq_by_cmp key_cmp (key_of x) k) new (get m (key_of x)) ≡ Some x
      by true tied =
          absurd (true≢false (sym is ∙ before x
          (ap (get m) (sym (one_from_tie key_exact (key_of x) k tied)) ∙ found)))
      by false other = ap (λ b. cond b new (get m (key_of x))) other ∙ found

  -- where neither the old value passes nor the new one, those that pass stay
  pub passing_stay : filter p (finite.values n) ≡ filter p (finite.values m)
  passing_stay = passing_alike key_of p n m own_n own_m was stays

-- ---- What a Service wants

module _ (family : Family) (o : Objects) (s : Service)
    (stored : get o.services s.key ≡ Some s) where
  -- a pod that isn't selected by the stored Service isn't selected
  unselected : (found : Option Pod) → is_selected o found s.key ≡ false → (p : Pod)
      → found ≡ Some p → selects s p ≡ false
  unselected found none p is =
      sym (ap (λ t. selects_pod t p) stored) ∙ sym (ap (λ f. is_selected o f s.key) is) ∙ none

  wants_by_pods : (pods : FinMap key_cmp Pod)
      → filter (selects s) (finite.values pods) ≡ filter (selects s) (finite.values o.pods)
      → desired_endpoints_of family (record o { pods = pods }) s ≡ desired_endpoints_of family o s
  wants_by_pods pods same = λ i.
      filter_map (λ pod. desired_in_zone family s pod (option_and_then (zone_of o) pod.node))
      (same i)

  -- the zones of nodes, of which one may have changed
  module _ (nodes : FinMap key_cmp Node) (name : List ℕ) (new : Option Node)
      (is : (m : List ℕ) → get nodes (node_key m)
      ≡ cond (bytes_eq m name) new (get o.nodes (node_key m))) where
    abbrev moved : Objects
    moved = record o { nodes = nodes }

    abbrev zone_in : Option Node → Option (List ℕ)
    zone_in n = option_and_then (λ n. n.zone) n

    zone_by : (m : List ℕ) (b : Bool) → bytes_eq m name ≡ b
        → zone_of moved m ≡ zone_in (cond b new (get o.nodes (node_key m)))
    zone_by m b e = ap zone_in (is m ∙ ap (λ b. cond b new (get o.nodes (node_key m))) e)

    same_zones : zone_of o name ≡ zone_in new → (m : List ℕ) (b : Bool) → bytes_eq m name ≡ b
        → zone_of moved m ≡ zone_of o m
    same_zones same m true e =
        zone_by m true e ∙ sym (ap (zone_of o) ((bytes_eq-Decides m name).0 e) ∙ same)
    same_zones same m false e = zone_by m false e

    none_on : selects_on o name s.key ≡ false
        → list_any (selects s) (filter (λ pod. is_on_node name pod.node) (finite.values o.pods))
        ≡ false
    none_on none =
        let on = filter (λ (pod : Pod). is_on_node name pod.node) (finite.values o.pods) in
        ap (λ found. list_any (selects_pod found) on) (sym stored) ∙ none

    abbrev Wanted : Type 0
    Wanted = desired_endpoints_of family moved s ≡ desired_endpoints_of family o s

    wants_by_zones : (own : List ℕ)
        → node_touches own true o name (zone_in new) s.key ≡ false → Wanted
    wants_by_zones own none = by (option_eq bytes_eq (zone_of o name) (zone_in new)) refl none
      where
        by : (b : Bool) → option_eq bytes_eq (zone_of o name) (zone_in new) ≡ b
            → not (option_eq bytes_eq (zone_of o name) (zone_in new))
            && zone_touches own true o name s.key ≡ false → Wanted
        by true same h = λ i.
            filter_map (λ pod. desired_in_zone family s pod
            (option_and_then (λ m. same_zones (options_exact bytes_eq
            (λ x y e. (bytes_eq-Decides x y).0 e) (zone_of o name) (zone_in new) same)
            m (bytes_eq m name) refl i) pod.node))
            (filter (selects s) (finite.values o.pods))
        by false other h =
            let touched = sym (ap (λ b. not b && zone_touches own true o name s.key) other) ∙ h in
            wanted_elsewhere name (zone_of moved) (zone_of o) (λ m e. zone_by m false e) family s
            (finite.values o.pods) (none_on (or_parts _ _ touched).1)

-- an event leaves what a stored Service wants, where it doesn't touch the Service
wants_stay : KnownObjectsStay → (family : Family) (own_node : List ℕ) (o : Objects)
    (event : Event) (s : Service) → AreUnderOwnKeys o → get o.services s.key ≡ Some s
    → touches own_node true o event s.key ≡ false
    → desired_endpoints_of family (objects_step o event) s ≡ desired_endpoints_of family o s
wants_stay known family own_node o (Apply (object.Service t)) s own stored free = refl
wants_stay known family own_node o (Apply (object.EndpointSlice t)) s own stored free = refl
wants_stay known family own_node o (Delete kind.Service key) s own stored free = refl
wants_stay known family own_node o (Delete kind.EndpointSlice key) s own stored free = refl
wants_stay known family own_node o (Apply (object.Pod p)) s own stored free =
    let parts = or_parts _ _ free in
    wants_by_pods family o s stored (finite.insert o.pods p.key p)
    (passing_stay (λ (q : Pod). q.key) (selects s) o.pods _ own.pods
    (of_inserted (λ (q : Pod). q.key) o.pods p own.pods) p.key (Some p)
    (get-insert key_total o.pods p.key p)
    (unselected family o s stored (get o.pods p.key) parts.0)
    (unselected family o s stored (Some p) parts.1))
wants_stay known family own_node o (Delete kind.Pod key) s own stored free =
    wants_by_pods family o s stored (finite.remove o.pods key)
    (passing_stay (λ (q : Pod). q.key) (selects s) o.pods _ own.pods
    (of_removed (λ (q : Pod). q.key) o.pods key own.pods) key None
    (get-remove key_total o.pods key)
    (unselected family o s stored (get o.pods key) (or_parts _ _ free).0)
    (λ p none. absurd (cc)))
wants_stay known family own_node o (Apply (object.Node n)) s own stored free =
    wants_by_zones family o s stored _ n.name (Some n) (put_at o n) own_node free
wants_stay known family own_node o (Delete kind.Node key) s own stored free =
    by (get o.nodes key) refl free
  where
    by : (found : Option Node) → get o.nodes key ≡ found
        → lost_node_touches own_node true o found s.key ≡ false
        → desired_endpoints_of family (objects_step o (Delete kind.Node key)) s
        ≡ desired_endpoints_of family o s
    by None at h =
        ap (λ p. desired_endpoints_of family p s) (known o (Delete kind.Node key) at)
    by (Some n) at h =
        wants_by_zones family o s stored _ n.name None
        (taken_at o key n.name (own.nodes key n at)) own_node h

-- ---- Services

-- an event leaves the Service of each key that it doesn't touch
services_stay : (own_node : List ℕ) (controller : Bool) (o : Objects) (event : Event)
    (key : ObjectKey) → touches own_node controller o event key ≡ false
    → get (objects_step o event).services key ≡ get o.services key
services_stay own_node controller o (Apply (object.Service t)) key free =
    get-insert key_total o.services t.key t key
    ∙ ap (λ b. cond b (Some t) (get o.services key)) free
services_stay own_node controller o (Delete kind.Service gone) key free =
    get-remove key_total o.services gone key
    ∙ ap (λ b. cond b None (get o.services key)) free
services_stay own_node controller o (Apply (object.EndpointSlice t)) key free = refl
services_stay own_node controller o (Apply (object.Pod p)) key free = refl
services_stay own_node controller o (Apply (object.Node n)) key free = refl
services_stay own_node controller o (Delete kind.EndpointSlice gone) key free = refl
services_stay own_node controller o (Delete kind.Pod gone) key free = refl
services_stay own_node controller o (Delete kind.Node gone) key free = refl

-- a slice is left over as before, where its Service stays
left_alike : (o p : Objects) (service : ObjectKey) (t : Slice) → is_of_service service t ≡ true
    → get p.services service ≡ get o.services service → is_leftover p t ≡ is_leftover o t
left_alike o p service t of same =
    ap (λ b. t.managed && b)
    (absent_by_label p service t of
    ∙ ap (λ (found : Option Service). not (is_some found)) same
    ∙ sym (absent_by_label o service t of))

-- ---- The laws

pub controlled_at_first : ControlledAtFirst
controlled_at_first config on = (
  λ s at has free family.
      let none : get (finite.empty {X = Service} {R = key_cmp}) s.key ≡ None =
      get-empty key_cmp s.key in
      absurd (cc),
  λ t service at left of.
      let none : get (finite.empty {X = Slice} {R = key_cmp}) t.key ≡ None =
      get-empty key_cmp t.key in
      absurd (cc),
)

pub more_are_picked : MoreArePicked
more_are_picked picked more config o m wider controlled on = (
  λ s at has free.
      (controlled on).0 s at has
      (false_from_ne_true _ (λ is. true≢false (sym (wider s.key is) ∙ free))),
  λ t service at left of. wider service ((controlled on).1 t service at left of),
)

pub objects_touch : KnownObjectsStay → ObjectsTouch
objects_touch known picked config o m event own controlled on = (
  λ s at has free family.
      let parts = or_parts (touches config.node config.controller o event s.key) _ free in
      let stored = sym (services_stay config.node config.controller o event s.key parts.0) ∙ at in
      let wanted = wants_stay known family config.node o event s own stored
      (ap (λ b. touches config.node b o event s.key) (sym on) ∙ parts.0) in
      subst (λ ws. IsPackingOf config.max_per_slice ws (managed_slices family s.key m))
      (sym wanted) ((controlled on).0 s stored has parts.1 family),
  λ t service at left of.
      let as_before = λ (free : touches config.node config.controller o event service ≡ false).
      (controlled on).1 t service at
      (sym (left_alike o (objects_step o event) service t of
      (services_stay config.node config.controller o event service free)) ∙ left) of in
      either (touches config.node config.controller o event service) (picked service) as_before,
)

module _ (family : Family) (m : Slices) (own : AreOwn m) (service : ObjectKey) where
  unmanaged_by : (found : Option Slice) → names_service found service ≡ false → (t : Slice)
      → found ≡ Some t → is_managed_for family service t ≡ false
  unmanaged_by found none t is =
      and_left _ _ (sym (ap (λ f. names_service f service) is) ∙ none)

  managed_stay : (event : Event) → touches_slices m event service ≡ false
      → managed_slices family service (slices_step m event) ≡ managed_slices family service m
  managed_stay (Apply (object.EndpointSlice t)) free =
      let parts = or_parts _ _ free in
      passing_stay (λ (u : Slice). u.key) (is_managed_for family service) m _ own
      (of_inserted (λ (u : Slice). u.key) m t own) t.key (Some t) (get-insert key_total m t.key t)
      (unmanaged_by (get m t.key) parts.0) (unmanaged_by (Some t) parts.1)
  managed_stay (Delete kind.EndpointSlice key) free =
      passing_stay (λ (u : Slice). u.key) (is_managed_for family service) m _ own
      (of_removed (λ (u : Slice). u.key) m key own) key None (get-remove key_total m key)
      (unmanaged_by (get m key) (or_parts _ _ free).0) (λ t none. absurd (cc))
  managed_stay (Apply (object.Service t)) free = refl
  managed_stay (Apply (object.Pod p)) free = refl
  managed_stay (Apply (object.Node n)) free = refl
  managed_stay (Delete kind.Service key) free = refl
  managed_stay (Delete kind.Pod key) free = refl
  managed_stay (Delete kind.Node key) free = refl

module _ (m : Slices) (service : ObjectKey) where
  -- a slice that an event leaves was there, or the event touches the Service that it names
  was_there : (event : Event) (t : Slice) → get (slices_step m event) t.key ≡ Some t
      → is_of_service service t ≡ true → touches_slices m event service ≡ false
      → get m t.key ≡ Some t
  was_there (Apply (object.EndpointSlice u)) t at of free =
      by (eq_by_cmp key_cmp t.key u.key) (sym (get-insert key_total m u.key u t.key) ∙ at)
    where
      by : (b : Bool) → cond b (Some u) (get m t.key) ≡ Some t → get m t.key ≡ Some t
      by true h =
          absurd (true≢false (sym (ap (is_of_service service) (same_Some u t h) ∙ of)
          ∙ (or_parts _ _ free).1))
      by false h = h
  was_there (Delete kind.EndpointSlice key) t at of free =
      by (eq_by_cmp key_cmp t.key key) (sym (get-remove key_total m key t.key) ∙ at)
    where
      by : (b : Bool) → cond b None (get m t.key) ≡ Some t → get m t.key ≡ Some t
      by true h = absurd (cc)
      by false h = h
  was_there (Apply (object.Service u)) t at of free = at
  was_there (Apply (object.Pod p)) t at of free = at
  was_there (Apply (object.Node n)) t at of free = at
  was_there (Delete kind.Service key) t at of free = at
  was_there (Delete kind.Pod key) t at of free = at
  was_there (Delete kind.Node key) t at of free = at

pub slices_touch : SlicesTouch
slices_touch picked config o m event own controlled on = (
  λ s at has free family.
      let parts = or_parts (touches_slices m event s.key) _ free in
      subst (IsPackingOf config.max_per_slice (desired_endpoints_of family o s))
      (sym (managed_stay family m own s.key event parts.0))
      ((controlled on).0 s at has parts.1 family),
  λ t service at left of.
      either (touches_slices m event service) (picked service) (λ free.
      (controlled on).1 t service (was_there m service event t at of free) left of),
)
