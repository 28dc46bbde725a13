-- An event leaves the inputs of each port that it doesn't affect.
use Rattle.std.proofs.Common.{◌≡◌, Bool, true, false, true≢false, cond, ◌&&◌, ◌||◌, List, [], filter, filter_map, flat_map, Option, Some, None, option_map, option_and_then, refl, sym, ap, ◌∙◌}
use Rattle.std.specs.Ordering.{eq_by_cmp}
use Rattle.std.specs.FinMap as finite
use Rattle.std.specs.FinMap.{get, get-insert, get-remove}
use Rattle.std.proofs.lemmas.Bool.{or_parts}
use Rattle.kp_base.specs.Keys.{key_cmp}
use Rattle.kp_base.specs.declared.address.Family.{Family}
use Rattle.kp_base.specs.declared.key.ObjectKey.{ObjectKey}
use Rattle.kp_base.specs.declared.key.PortKey.{PortKey}
use Rattle.kp_base.proofs.KeyOrder.{key_total, key_exact, key_ties}
use Rattle.kp_types.specs.Setting.{FamilyConfig, Settings, both_families, config_of_family, view_of}
use Rattle.kp_types.specs.declared.info.ServiceSources.{ServiceSources}
use Rattle.kp_types.specs.declared.pod.Pod.{Pod}
use Rattle.kp_types.specs.declared.service.Service.{Service}
use Rattle.kp_types.specs.declared.service.ServicePort.{ServicePort}
use Rattle.kp_types.specs.declared.slice.Slice.{Slice}
use Rattle.kp_types.specs.declared.slice.Wanted.{Wanted}
use Rattle.kp_types.specs.declared.event.Event.{Event}
use Rattle.kp_types.specs.declared.event.Event.TheVariants.{Apply, Delete}
use Rattle.kp_types.specs.declared.event.Kind.TheVariants as kind
use Rattle.kp_types.specs.declared.event.Object.TheVariants as object
use Rattle.kp_object_defs.specs.Desired.{has_selector, is_reconciled, selects, desired_of, desired_endpoints_of}
use Rattle.kp_object_defs.specs.Entries.{is_of_service, sources_of, entries_from, slices_of, unmanaged}
use Rattle.kp_object_defs.specs.Objects.{Objects, objects_step, zone_of}
use Rattle.kp_object_defs.specs.OwnKeys.{AreUnderOwnKeys}
use Rattle.kp_object_defs.specs.Packing.{same_object}
use Rattle.kp_object_defs.specs.PortByKey.{port_keys, port_named}
use Rattle.kp_object_defs.specs.PortInfo.{port_key_of}
use Rattle.kp_table_defs.specs.Parts.{rules_of_port}
use Rattle.kp_history_defs.specs.Affected.{affects, affected_ports, is_slice_of, is_pod_of, selects_some}
use Rattle.kp_history_defs.specs.Inputs.{inputs_in, inputs_of, ports_of_either}
use Rattle.kp_history_laws.specs.EventLaws.{has_port, UnaffectedService, UnaffectedInputs, UnaffectedRules}
use Rattle.kp_object_laws.specs.ObjectLaws.{OwnKeysAfterEvent}
use Rattle.kp_history_defs.specs.KeptRules.{rules_at}
use Rattle.kp_history_laws.proofs.Ports.{has_filtered, has_either, no_inputs, info_by, info_by_inputs}
use Rattle.kp_history_laws.proofs.Values.{passing, passing_inserted, passing_removed}

-- inputs are the same where the Service is, and where each port of it has the same
same_by : (settings : Settings) (o p : Objects) (key : PortKey) → get p.services key.object ≡ get o.services key.object
    → ((s : Service) → get o.services key.object ≡ Some s → (port : ServicePort) → inputs_in settings p s port ≡ inputs_in settings o s port)
    → inputs_of settings p key ≡ inputs_of settings o key
same_by settings o p key at each =
    ap (option_and_then (λ s. option_map (inputs_in settings p s) (port_named key s))) at ∙ service _ refl
  where
    port : (s : Service) → get o.services key.object ≡ Some s → (found : Option ServicePort) → option_map (inputs_in settings p s) found ≡ option_map (inputs_in settings o s) found
    port s is None = refl
    port s is (Some q) = ap Some (each s is q)

    service : (found : Option Service) → get o.services key.object ≡ found
        → option_and_then (λ s. option_map (inputs_in settings p s) (port_named key s)) found ≡ option_and_then (λ s. option_map (inputs_in settings o s) (port_named key s)) found
    service None is = refl
    service (Some s) is = port s is _

-- what a port contributes to the tables of a family is told by its inputs
pub same_rules : (settings : Settings) (family : Family) (o p : Objects) (key : PortKey)
    → inputs_of settings p key ≡ inputs_of settings o key
    → rules_at (view_of family settings) p key ≡ rules_at (view_of family settings) o key
same_rules settings family o p key same =
    ap (option_map (rules_of_port (view_of family settings)))
    (info_by_inputs settings family p key ∙ ap (option_and_then (info_by family key)) same
    ∙ sym (info_by_inputs settings family o key))

-- ---- Services

-- another Service was put in its place, or removed
other_key : (a b : ObjectKey) → same_object a b ≡ false → eq_by_cmp key_cmp a b ≡ false
other_key a b h = sym (key_ties a b) ∙ h

-- ---- Slices

none_passes : (service : ObjectKey) (o : Option Slice) → is_slice_of service o ≡ false → passing key_total key_exact (is_of_service service) o ≡ None
none_passes service None h = refl
none_passes service (Some s) h = ap (λ b. cond b (Some s) None) h

-- the sources of a Service's endpoints, by its slices
sources_by_slices : (family : Family) (config : FamilyConfig) (o : Objects) (s : Service)
    (slices : finite.FinMap key_cmp Slice)
    → filter (is_of_service s.key) (finite.values slices) ≡ slices_of o s.key
    → sources_of family config (record o { slices = slices }) s ≡ sources_of family config o s
sources_by_slices family config o s slices same =
    ap (λ (xs : List Slice). cond (is_reconciled config s)
    (let r : ServiceSources =
    record { service = s; wanted = desired_endpoints_of family o s; slices = unmanaged xs } in r)
    (let r : ServiceSources = record { service = s; wanted = []; slices = xs } in r)) same

slices_stay : (settings : Settings) (o : Objects) (slices : finite.FinMap key_cmp Slice) (key : PortKey) → AreUnderOwnKeys o
    → filter (is_of_service key.object) (finite.values slices) ≡ filter (is_of_service key.object) (finite.values o.slices)
    → inputs_of settings (record o { slices = slices }) key ≡ inputs_of settings o key
slices_stay settings o slices key own same =
    same_by settings o _ key refl (λ s at port.
    let named : s.key ≡ key.object = own.services key.object s at in
    let of_s : filter (is_of_service s.key) (finite.values slices) ≡ slices_of o s.key =
    ap (λ k. filter (is_of_service k) (finite.values slices)) named ∙ same ∙ sym (ap (λ k. filter (is_of_service k) (finite.values o.slices)) named) in
    λ i. record {
      service = s;
      entries = flat_map (λ f. entries_from f settings.config.node
          (sources_by_slices f (config_of_family f settings.config) o s slices of_s i)
          (port_key_of s port)) both_families;
      zone = zone_of o settings.config.node;
    })

-- ---- Pods

none_selected : (s : Service) (o : Option Pod) → selects_some s o ≡ false → passing key_total key_exact (selects s) o ≡ None
none_selected s None h = refl
none_selected s (Some p) h = ap (λ b. cond b (Some p) None) h

-- the sources of a Service's endpoints, where the controller makes slices for it and where it doesn't
abbrev managed : Objects → Service → List Wanted → ServiceSources
managed o s wanted = record { service = s; wanted = wanted; slices = unmanaged (slices_of o s.key) }

abbrev others : Objects → Service → ServiceSources
others o s = record { service = s; wanted = []; slices = slices_of o s.key }

-- they are the same where the Service selects the same pods, if the controller makes slices for it
sources_by_pods : (family : Family) (config : FamilyConfig) (o : Objects) (s : Service)
    (pods : finite.FinMap key_cmp Pod)
    → (is_reconciled config s ≡ true
    → filter (selects s) (finite.values pods) ≡ filter (selects s) (finite.values o.pods))
    → sources_of family config (record o { pods = pods }) s ≡ sources_of family config o s
sources_by_pods family config o s pods same = by _ refl
  where
    by : (b : Bool) → is_reconciled config s ≡ b
        → cond b (managed o s (desired_endpoints_of family (record o { pods = pods }) s)) (others o s)
        ≡ cond b (managed o s (desired_endpoints_of family o s)) (others o s)
    by true is = ap (λ xs. managed o s (filter_map (desired_of family (zone_of o) s) xs)) (same is)
    by false is = refl

-- whether the controller makes slices for a Service
abbrev makes_slices : Settings → Service → Bool
makes_slices settings s = settings.config.controller && has_selector s

pods_stay : (settings : Settings) (o : Objects) (pods : finite.FinMap key_cmp Pod) (key : PortKey)
    → ((s : Service) → get o.services key.object ≡ Some s → makes_slices settings s ≡ true
    → filter (selects s) (finite.values pods) ≡ filter (selects s) (finite.values o.pods))
    → inputs_of settings (record o { pods = pods }) key ≡ inputs_of settings o key
pods_stay settings o pods key same =
    same_by settings o _ key refl (λ s at port i. record {
      service = s;
      entries = flat_map (λ f. entries_from f settings.config.node
          (sources_by_pods f (config_of_family f settings.config) o s pods (same s at) i)
          (port_key_of s port)) both_families;
      zone = zone_of o settings.config.node;
    })

-- a Service that the controller makes slices for selects the pod neither before nor after
neither : (settings : Settings) (o : Objects) (key : ObjectKey) (before after : Option Pod)
    → is_pod_of settings.config.controller (get o.services key) before after ≡ false
    → (s : Service) → get o.services key ≡ Some s → makes_slices settings s ≡ true
    → (selects_some s before || selects_some s after) ≡ false
neither settings o key before after h s at is =
    sym (ap (λ b. b && (selects_some s before || selects_some s after)) is) ∙ sym (ap (λ found. is_pod_of settings.config.controller found before after) at) ∙ h

-- ---- Events, one law for each kind of object

pub unaffected_service : UnaffectedService
unaffected_service settings o (Apply (object.Service s)) key own h =
    same_by settings o _ key
    (get-insert key_total o.services s.key s key.object ∙ ap (λ b. cond b (Some s) (get o.services key.object)) (other_key key.object s.key h)) (λ t at port. refl)
unaffected_service settings o (Delete kind.Service k) key own h =
    same_by settings o _ key
    (get-remove key_total o.services k key.object ∙ ap (λ b. cond b None (get o.services key.object)) (other_key key.object k h)) (λ t at port. refl)
unaffected_service settings o (Apply (object.EndpointSlice s)) key own h =
    let parts = or_parts _ _ h in
    slices_stay settings o _ key own
    (passing_inserted key_total key_exact _ o.slices s.key s (none_passes key.object _ parts.0) parts.1)
unaffected_service settings o (Delete kind.EndpointSlice k) key own h =
    slices_stay settings o _ key own
    (passing_removed key_total key_exact _ o.slices k (none_passes key.object _ h))
unaffected_service settings o (Apply (object.Pod p)) key own h =
    pods_stay settings o _ key (λ s at is.
    let parts = or_parts _ _ (neither settings o key.object _ _ h s at is) in
    passing_inserted key_total key_exact _ o.pods p.key p (none_selected s _ parts.0) parts.1)
unaffected_service settings o (Delete kind.Pod k) key own h =
    pods_stay settings o _ key (λ s at is.
    let parts = or_parts _ false (neither settings o key.object _ None h s at is) in
    passing_removed key_total key_exact _ o.pods k (none_selected s _ parts.0))
unaffected_service settings o (Apply (object.Node n)) key own h = absurd (true≢false h)
unaffected_service settings o (Delete kind.Node k) key own h = absurd (true≢false h)

-- ---- Ports

-- a port that an event doesn't affect is of another Service, or there is none of this name before and after
module _ (settings : Settings) (o : Objects) (event : Event) (key : PortKey) where
  no_port : has_port (affected_ports settings o event) key ≡ false → affects settings o event key.object ≡ true
      → (has_port (port_keys o) key || has_port (port_keys (objects_step o event)) key) ≡ false
  no_port h is =
      sym (has_either o (objects_step o event) key)
      ∙ sym (ap (λ b. b && has_port (ports_of_either o (objects_step o event)) key) is)
      ∙ sym (has_filtered (λ k. affects settings o event k.object) _ key) ∙ h

  unaffected_by : AreUnderOwnKeys o → AreUnderOwnKeys (objects_step o event) → has_port (affected_ports settings o event) key ≡ false
      → (b : Bool) → affects settings o event key.object ≡ b → inputs_of settings (objects_step o event) key ≡ inputs_of settings o key
  unaffected_by own own_after h true is =
      let parts = or_parts _ _ (no_port h is) in
      no_inputs _ own_after key settings parts.1 ∙ sym (no_inputs o own key settings parts.0)
  unaffected_by own own_after h false is = unaffected_service settings o event key own is

module _ (own_after : OwnKeysAfterEvent) where
  pub unaffected_inputs : UnaffectedInputs
  unaffected_inputs settings o event key own h =
      unaffected_by settings o event key own (own_after o event own) h _ refl

  pub unaffected_rules : UnaffectedRules
  unaffected_rules family settings o event key own h =
      same_rules settings family o _ key (unaffected_inputs settings o event key own h)
