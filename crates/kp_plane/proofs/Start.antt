-- Before the first event.
use Rattle.std.proofs.Common.{◌≡◌, ◌≤◌, ℕ, length, subst, arith, List, [], None, is_some, false, sym}
use Rattle.std.proofs.Common.{ap, refl, take, map, ◌∙◌}
use Rattle.std.specs.FinMap as finite
use Rattle.std.specs.Option.{option_and_then}
use Rattle.kp_base.specs.Keys.{key_cmp, port_key_cmp}
use Rattle.kp_base.specs.declared.key.ObjectKey.{ObjectKey}
use Rattle.kp_base.specs.declared.key.PortKey.{PortKey}
use Rattle.kp_base.specs.declared.address.Family.{Family}
use Rattle.kp_base.specs.declared.config.Config.{Config}
use Rattle.kp_types.specs.Setting.{Setting}
use Rattle.kp_types.specs.declared.event.Event.{Event}
use Rattle.kp_choice_defs.specs.Settings.{setting_of, settings_of}
use Rattle.kp_object_defs.specs.Objects.{Objects, no_objects, objects_after}
use Rattle.kp_object_defs.specs.PortByKey.{info_at, info_in}
use Rattle.kp_history_defs.specs.DirtyPorts.{dirty_port, dirty_ports}
use Rattle.kp_history_laws.specs.DirtyLaws.{NoneDirty}
use Rattle.kp_writer.specs.Known.{ArePortsOf}
use Rattle.kp_writer.specs.Written.{WriterParts, new_writer}
use Rattle.kp_events.specs.JournalContents.{Contents}
use Rattle.kp_history.specs.Invariant.{IsHistory}
use Rattle.kp_history.specs.Parts.{PlaneParts}
use Rattle.kp_history.specs.declared.history.History.{History}
use Rattle.kp_plane.specs.Collected.{is_collected}
use Rattle.kp_plane.specs.Families.{Both, IsWritten, KnowsRest, per_family}
use Rattle.kp_plane.specs.Invariant.{IsAtPlace, IsPlane, IsPortsAt, IsSlicesAt}
use Rattle.kp_plane.specs.declared.per_family.PerFamily.{PerFamily}
use Rattle.kp_plane.specs.declared.place.ObjectsAt.{ObjectsAt}
use Rattle.kp_plane.specs.declared.ports_at.PortsAt.{PortsAt}
use Rattle.kp_plane.specs.declared.slices_at.SlicesAt.{SlicesAt}
use Rattle.kp_plane.proofs.Each.{both_new, dual_new}
use Rattle.kp_plane.proofs.PastEvents.{past_none}
use Rattle.kp_plane.proofs.Touching.{both_answers}

-- what holds of all fields then
pub first_plane : (config : Config) (j : Contents) (h : History) (s : PortsAt)
    → (explained : ObjectsAt) (slices : SlicesAt)
    → j ≡ (record { events = []; most = config.max_events })
    → ((events : List Event)
    → IsHistory (record { config = config; events = events; counts = [] }) h)
    → ((events : List Event)
    → IsPortsAt (record { config = config; events = events; counts = [] }) s)
    → ((events : List Event) → IsAtPlace events explained) → explained.at ≡ 0
    → ((c : Config) (events : List Event) (counts : List ℕ) → IsSlicesAt c events counts slices)
    → IsPlane (record { config = config; events = j.events; counts = h.counts.items }) j.most h s
    explained slices
first_plane config j h s explained slices is history ports early zero_at made =
    let first : h.counts.items ≡ [] = (history j.events).counts in
    let room : length j.events ≤ j.most =
    subst (λ (k : Contents). length k.events ≤ k.most) (sym is) (omega arith) in
    subst (λ (counts : List ℕ). IsPlane (record {
      config = config;
      events = j.events;
      counts = counts;
    }) j.most h s explained slices) (sym first) (record {
      limit = ap (λ (k : Contents). k.most) is;
      room = room;
      holds = record { history = history j.events; ports = ports j.events };
      explained_at = early j.events;
      to = omega (arith, zero_at);
      slices_at = made config j.events [];
    })

-- of no objects nothing is known
pub none_known : (setting : Setting) (key : PortKey)
    → info_at setting.family setting.config no_objects key ≡ None
none_known setting key =
    ap (option_and_then (info_in setting.family setting.config no_objects key))
    (finite.get-empty key_cmp key.object)

-- so a new writer wrote and knows what they tell
module _ (config : Config) (family : Family) where
  nothing_told : ArePortsOf (setting_of family config) no_objects finite.empty
  nothing_told key =
      finite.get-empty port_key_cmp key ∙ sym (none_known (setting_of family config) key)

  nothing_written : IsWritten config no_objects family (new_writer family config)
  nothing_written = record { family = refl; config = refl; written = nothing_told }

-- no port is dirty between the same objects
pub none_dirty : NoneDirty → (setting : Setting) (o : Objects) → dirty_ports setting o o ≡ []
none_dirty clean setting o = ap (map (dirty_port setting o)) (clean setting o)

-- what is known of ports before the first event
pub first_ports : NoneDirty → (config : Config) (events : List Event) (s : PortsAt)
    → IsAtPlace events s.latest → s.latest.at ≡ 0
    → ((k : ObjectKey) → is_collected s.touched k ≡ false)
    → s.writers ≡ per_family config (λ family. new_writer family config)
    → s.dirty ≡ per_family config (λ family. [])
    → IsPortsAt (record { config = config; events = events; counts = [] }) s
first_ports clean config events s place at untouched new dirty =
    let first : s.latest.objects ≡ no_objects =
    place.objects ∙ ap (λ (n : ℕ). objects_after (take n events)) at in
    let writers = λ (family : Family). new_writer family config in
    record {
      place = place;
      dual = ap (λ (x : PerFamily WriterParts). is_some x.six) new ∙ dual_new config writers;
      written = subst (Both (IsWritten config no_objects)) (sym new)
          (both_new config writers (IsWritten config no_objects) (nothing_written config));
      untouched = subst (λ o. Both (KnowsRest o (is_collected s.touched)) s.writers) (sym first)
          (subst (Both (KnowsRest no_objects (is_collected s.touched))) (sym new)
          (both_new config writers (KnowsRest no_objects (is_collected s.touched))
          (λ family key none. nothing_told config family key)));
      since = record {
        later = omega (arith, at);
        few = λ k some. absurd (both_answers (is_collected s.touched k) some (untouched k));
      };
      past = λ k none. past_none (settings_of config) no_objects s.latest.objects k first;
      last = λ k none. past_none (settings_of config) no_objects no_objects k refl;
      dirty = dirty ∙ (λ i. per_family config (λ family.
          sym (none_dirty clean (setting_of family config) no_objects) i));
    }

-- what contracts see of them
pub first_parts : (config : Config) (j : Contents) (h : History) → j ≡ (record { events = []; most = config.max_events }) → ((events : List Event) → IsHistory (record { config = config; events = events; counts = [] }) h)
    → ◌≡◌ {A = PlaneParts} (record { config = config; events = j.events; counts = h.counts.items }) (record { config = config; events = []; counts = [] })
first_parts config j h is history = λ i. record { config = config; events = (is i).events; counts = (history []).counts i }
