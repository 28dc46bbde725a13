-- Events that touch no port of a Service leave its endpoints, and so what its health port answers.
use Rattle.std.proofs.Common.{◌≡◌, false, cond, List, [], ◌∷◌, map, Contains, Option, Some, None, option_and_then, option_map, refl, sym, ap, ◌∙◌}
use Rattle.std.specs.FinMap.{get, get-insert, get-remove}
use Rattle.std.specs.List.{fold}
use Rattle.std.proofs.lemmas.Bool.{or_parts}
use Rattle.std.proofs.lemmas.Option.{same_Some}
use Rattle.kp_lemmas.proofs.Members.{first_in, later_in}
use Rattle.kp_base.specs.declared.config.Config.{Config}
use Rattle.kp_base.specs.declared.key.ObjectKey.{ObjectKey}
use Rattle.kp_base.proofs.KeyOrder.{key_total}
use Rattle.kp_types.specs.Setting.{Settings, node_config}
use Rattle.kp_types.specs.declared.event.Event.{Event}
use Rattle.kp_types.specs.declared.event.Event.TheVariants.{Apply, Delete}
use Rattle.kp_types.specs.declared.event.Kind.TheVariants as kind
use Rattle.kp_types.specs.declared.event.Object.TheVariants as object
use Rattle.kp_types.specs.declared.service.Service.{Service}
use Rattle.kp_types.specs.declared.service.ServicePort.{ServicePort}
use Rattle.kp_choice_defs.specs.Settings.{settings_of}
use Rattle.kp_object_defs.specs.Entries.{entries_of_both}
use Rattle.kp_object_defs.specs.Objects.{Objects, objects_step}
use Rattle.kp_object_defs.specs.PortByKey.{port_named}
use Rattle.kp_object_defs.specs.PortInfo.{port_key_of}
use Rattle.kp_object_laws.proofs.PortByKey.{port_is_named}
use Rattle.kp_history_defs.specs.Inputs.{inputs_in, inputs_of}
use Rattle.kp_touch_laws.specs.TouchLaws.{InputsByAll, touches_in, touches_one}
use Rattle.kp_health_defs.specs.HealthPorts.{health_at, health_in, health_of}
use Rattle.kp_health_laws.specs.UntouchedHealth.{HealthByAll}

-- ---- The Service itself

-- an event that doesn't touch a Service leaves it
service_stays : (settings : Settings) (o : Objects) (event : Event) (service : ObjectKey)
    → touches_in settings o event service ≡ false
    → get (objects_step o event).services service ≡ get o.services service
service_stays settings o (Apply (object.Service s)) service h =
    get-insert key_total o.services s.key s service
    ∙ ap (λ b. cond b (Some s) (get o.services service)) h
service_stays settings o (Apply (object.EndpointSlice s)) service h = refl
service_stays settings o (Apply (object.Pod p)) service h = refl
service_stays settings o (Apply (object.Node n)) service h = refl
service_stays settings o (Delete kind.Service key) service h =
    get-remove key_total o.services key service
    ∙ ap (λ b. cond b None (get o.services service)) h
service_stays settings o (Delete kind.EndpointSlice key) service h = refl
service_stays settings o (Delete kind.Pod key) service h = refl
service_stays settings o (Delete kind.Node key) service h = refl

service_stays_by_all : (settings : Settings) (o : Objects) (events : List Event)
    (service : ObjectKey) → touches_one settings o events service ≡ false
    → get (fold objects_step o events).services service ≡ get o.services service
service_stays_by_all settings o [] service h = refl
service_stays_by_all settings o (e ∷ es) service h =
    let parts = or_parts _ _ h in
    service_stays_by_all settings (objects_step o e) es service parts.1
    ∙ service_stays settings o e service parts.0

-- ---- Its endpoints

-- functions that agree on a list's elements
maps_alike : {A B : Type 0} (f g : A → B) (xs : List A)
    → ((x : A) → Contains xs x → f x ≡ g x) → map f xs ≡ map g xs
maps_alike f g [] alike = refl
maps_alike f g (x ∷ xs) alike =
    λ i. alike x (first_in x xs) i
    ∷ maps_alike f g xs (λ y c. alike y (later_in y x xs c)) i

module _ (config : Config) (s : Service) where
  -- the inputs of one of its ports
  named : (o : Objects) → get o.services s.key ≡ Some s → (p : ServicePort) → Contains s.ports p
      → inputs_of (settings_of config) o (port_key_of s p)
      ≡ Some (inputs_in (settings_of config) o s p)
  named o at p c =
      ap (option_and_then (λ t. option_map (inputs_in (settings_of config) o t)
      (port_named (port_key_of s p) t))) at
      ∙ ap (option_map (inputs_in (settings_of config) o s)) (port_is_named s p c)

  -- where these stay, so do its endpoints and what its health port answers
  health_stays : (o after : Objects) → get o.services s.key ≡ Some s
      → get after.services s.key ≡ Some s
      → ((p : ServicePort) → inputs_of (settings_of config) after (port_key_of s p)
      ≡ inputs_of (settings_of config) o (port_key_of s p))
      → health_in config after s ≡ health_in config o s
  health_stays o after at later same =
      ap (health_of config s) (maps_alike
      (λ p. entries_of_both (node_config config) after s (port_key_of s p))
      (λ p. entries_of_both (node_config config) o s (port_key_of s p)) s.ports (λ p c.
      ap (λ i. i.entries) (same_Some (inputs_in (settings_of config) after s p)
      (inputs_in (settings_of config) o s p)
      (sym (named after later p c) ∙ same p ∙ named o at p c))))

-- ---- By any events

pub health_by_all : InputsByAll → HealthByAll
health_by_all inputs config o events service own h =
    by (get o.services service) refl
    (service_stays_by_all (settings_of config) o events service h)
  where
    by : (found : Option Service) → get o.services service ≡ found
        → get (fold objects_step o events).services service ≡ get o.services service
        → health_at config (fold objects_step o events) service ≡ health_at config o service
    by None at stays =
        ap (option_and_then (health_in config (fold objects_step o events))) (stays ∙ at)
        ∙ sym (ap (option_and_then (health_in config o)) at)
    by (Some s) at stays =
        let is : s.key ≡ service = own.services service s at in
        let here = ap (get o.services) is ∙ at in
        let later = ap (get (fold objects_step o events).services) is ∙ stays ∙ at in
        ap (option_and_then (health_in config (fold objects_step o events))) (stays ∙ at)
        ∙ health_stays config s o (fold objects_step o events) here later
        (λ p. inputs (settings_of config) o events (port_key_of s p) own
        (ap (touches_one (settings_of config) o events) is ∙ h))
        ∙ sym (ap (option_and_then (health_in config o)) at)
