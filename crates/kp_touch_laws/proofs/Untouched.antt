-- An event leaves the inputs of each port of a Service that it doesn't touch: one law for each kind
-- of object.
use Rattle.std.proofs.Common.{◌≡◌, ℕ, ◌&&◌, ◌||◌, Bool, true, false, cond, bytes_eq, List, [], ◌∷◌, Option, Some, None, option_and_then, option_map, refl, sym, ap, ◌∙◌}
use Rattle.std.specs.Ordering.{eq_by_cmp}
use Rattle.std.specs.FinMap.{get, get-insert, get-remove}
use Rattle.std.proofs.lemmas.Bool.{or_parts}
use Rattle.kp_lemmas.proofs.Orders.{one_from_tie}
use Rattle.kp_base.specs.Keys.{key_cmp}
use Rattle.kp_base.specs.declared.key.ObjectKey.{ObjectKey}
use Rattle.kp_base.specs.declared.key.PortKey.{PortKey}
use Rattle.kp_base.proofs.KeyOrder.{key_total, key_exact, key_ties}
use Rattle.kp_types.specs.Setting.{Setting, Settings, view_of}
use Rattle.kp_types.specs.declared.pod.Node.{Node}
use Rattle.kp_types.specs.declared.pod.Pod.{Pod}
use Rattle.kp_types.specs.declared.service.Service.{Service}
use Rattle.kp_types.specs.declared.slice.Slice.{Slice}
use Rattle.kp_types.specs.declared.event.Event.TheVariants.{Apply, Delete}
use Rattle.kp_types.specs.declared.event.Kind.TheVariants as kind
use Rattle.kp_types.specs.declared.event.Object.TheVariants as object
use Rattle.kp_object_defs.specs.Desired.{has_selector}
use Rattle.kp_object_defs.specs.Objects.{Objects, node_key, objects_step}
use Rattle.kp_object_defs.specs.OwnKeys.{AreUnderOwnKeys}
use Rattle.kp_table_defs.specs.Parts.{rules_of_port}
use Rattle.kp_object_laws.specs.ObjectLaws.{OwnKeysAfterEvent}
use Rattle.kp_history_defs.specs.Affected.{is_pod_of, is_slice_of, selects_some}
use Rattle.kp_history_defs.specs.DirtyPorts.{dirty_keys}
use Rattle.kp_history_defs.specs.Inputs.{inputs_of}
use Rattle.kp_history_laws.specs.EventLaws.{UnaffectedService, has_port}
use Rattle.kp_history_laws.specs.DirtyLaws.{CleanInfos, DirtyAreChanged}
use Rattle.kp_history_laws.specs.PortLaws.{ChangedInputs}
use Rattle.kp_touch_defs.specs.Touches.{is_selected, lost_node_touches, names_service, pod_touches, selects_pod}
use Rattle.kp_touch_laws.specs.TouchLaws.{LeaveByAll, LeavesUntouched, UntouchedInputs}
use Rattle.kp_touch_laws.specs.TouchLaws.{UntouchedInfos, UntouchedRules, known_at}
use Rattle.kp_touch_laws.proofs.Zones.{no_zone, node_stays}

-- ---- What doesn't touch a Service doesn't affect it

pub named_alike : (service : ObjectKey) (o : Option Slice)
    → is_slice_of service o ≡ names_service o service
named_alike service None = refl
named_alike service (Some s) = refl

pub selected_alike : (o : Objects) (service : ObjectKey) (s : Service) → get o.services service ≡ Some s
    → (pod : Option Pod) → selects_some s pod ≡ is_selected o pod service
selected_alike o service s at None = refl
selected_alike o service s at (Some p) = ap (λ found. selects_pod found p) (sym at)

both_off : (controller selector a b : Bool) → controller && (a || b) ≡ false
    → (controller && selector) && (a || b) ≡ false
both_off true true a b h = h
both_off true false a b h = refl
both_off false selector a b h = refl

pods_alike : (settings : Settings) (o : Objects) (service : ObjectKey) (before after : Option Pod)
    → pod_touches settings.config.controller o before after service ≡ false
    → (found : Option Service) → get o.services service ≡ found
    → is_pod_of settings.config.controller found before after ≡ false
pods_alike settings o service before after h None at = refl
pods_alike settings o service before after h (Some s) at =
    let alike = selected_alike o service s at in
    both_off settings.config.controller (has_selector s) (selects_some s before)
    (selects_some s after)
    ((λ i. settings.config.controller && (alike before i || alike after i)) ∙ h)

or_none : (a : Bool) → a || false ≡ false → a ≡ false
or_none true h = h
or_none false h = h

-- ---- Nodes

-- the node of a name, if there is one
abbrev node_of : Objects → List ℕ → Option Node
node_of o m = get o.nodes (node_key m)

-- what a name finds after one node changed
pub put_at : (o : Objects) (n : Node) (m : List ℕ)
    → node_of (objects_step o (Apply (object.Node n))) m
    ≡ cond (bytes_eq m n.name) (Some n) (node_of o m)
put_at o n m =
    get-insert key_total o.nodes (node_key n.name) n (node_key m)
    ∙ ap (λ b. cond b (Some n) (node_of o m)) (sym (key_ties (node_key m) (node_key n.name)))

pub taken_at : (o : Objects) (key : ObjectKey) (name : List ℕ) → node_key name ≡ key → (m : List ℕ)
    → node_of (objects_step o (Delete kind.Node key)) m
    ≡ cond (bytes_eq m name) None (node_of o m)
taken_at o key name is m =
    get-remove key_total o.nodes key (node_key m)
    ∙ ap (λ k. cond (eq_by_cmp key_cmp (node_key m) k) None (node_of o m)) (sym is)
    ∙ ap (λ b. cond b None (node_of o m)) (sym (key_ties (node_key m) (node_key name)))

-- there was none
none_taken : (o : Objects) (key : ObjectKey) → get o.nodes key ≡ None
    → (m : List ℕ) (b : Bool) → eq_by_cmp key_cmp (node_key m) key ≡ b
    → node_of (objects_step o (Delete kind.Node key)) m ≡ node_of o m
none_taken o key none m true tie =
    get-remove key_total o.nodes key (node_key m)
    ∙ ap (λ b. cond b None (node_of o m)) tie
    ∙ sym (ap (get o.nodes) (one_from_tie key_exact (node_key m) key tie) ∙ none)
none_taken o key none m false tie =
    get-remove key_total o.nodes key (node_key m) ∙ ap (λ b. cond b None (node_of o m)) tie

-- ---- All kinds

module _ (unaffected : UnaffectedService) where
  pub untouched_inputs : UntouchedInputs
  untouched_inputs settings o (Apply (object.Service s)) key own h =
      unaffected settings o (Apply (object.Service s)) key own (key_ties key.object s.key ∙ h)
  untouched_inputs settings o (Delete kind.Service k) key own h =
      unaffected settings o (Delete kind.Service k) key own (key_ties key.object k ∙ h)
  untouched_inputs settings o (Apply (object.EndpointSlice s)) key own h =
      let parts = or_parts _ _ h in
      unaffected settings o (Apply (object.EndpointSlice s)) key own
      (λ i. (named_alike key.object (get o.slices s.key) ∙ parts.0) i || parts.1 i)
  untouched_inputs settings o (Delete kind.EndpointSlice k) key own h =
      unaffected settings o (Delete kind.EndpointSlice k) key own
      (named_alike key.object (get o.slices k) ∙ or_none _ h)
  untouched_inputs settings o (Apply (object.Pod p)) key own h =
      unaffected settings o (Apply (object.Pod p)) key own
      (pods_alike settings o key.object (get o.pods p.key) (Some p) h
      (get o.services key.object) refl)
  untouched_inputs settings o (Delete kind.Pod k) key own h =
      unaffected settings o (Delete kind.Pod k) key own
      (pods_alike settings o key.object (get o.pods k) None h (get o.services key.object) refl)
  untouched_inputs settings o (Apply (object.Node n)) key own h =
      node_stays settings o _ key n.name (Some n) (put_at o n) h
  untouched_inputs settings o (Delete kind.Node k) key own h = by (get o.nodes k) refl h
    where
      by : (found : Option Node) → get o.nodes k ≡ found
          → lost_node_touches settings.config.node settings.config.controller o found key.object
          ≡ false
          → inputs_of settings (objects_step o (Delete kind.Node k)) key ≡ inputs_of settings o key
      by None at h =
          no_zone settings o _ key
          (λ m. ap (option_and_then (λ (n : Node). n.zone)) (none_taken o k at m _ refl))
      by (Some n) at h =
          node_stays settings o _ key n.name None (taken_at o k n.name (own.nodes k n at)) h

  module _
      (own_after : OwnKeysAfterEvent) (changed : ChangedInputs) (dirty : DirtyAreChanged)
      (clean : CleanInfos) where
    -- a port with the same inputs isn't dirty
    pub untouched_infos : UntouchedInfos
    untouched_infos family settings o event key own h =
        by (has_port (dirty_keys view o (objects_step o event)) key) refl
      where
        view : Setting
        view = view_of family settings

        next : Objects
        next = objects_step o event

        after : AreUnderOwnKeys next
        after = own_after o event own

        by : (b : Bool) → has_port (dirty_keys view o next) key ≡ b
            → known_at family settings next key ≡ known_at family settings o key
        by true is =
            absurd
            (changed settings o next key (dirty settings family o next key own after is)
            (untouched_inputs settings o event key own h))
        by false is = clean view o next key own after is

    pub untouched_rules : UntouchedRules
    untouched_rules family settings o event key own h =
        ap (option_map (rules_of_port (view_of family settings)))
        (untouched_infos family settings o event key own h)

-- ---- Events one after the other

module _ {X : Type 0} (of : Settings → Objects → PortKey → X) (own_after : OwnKeysAfterEvent)
    (leaves : LeavesUntouched of) where
  pub leave_by_all : LeaveByAll of
  leave_by_all settings o [] key own h = refl
  leave_by_all settings o (e ∷ es) key own h =
      let parts = or_parts _ _ h in
      leave_by_all settings (objects_step o e) es key (own_after o e own) parts.1
      ∙ leaves settings o e key own parts.0
