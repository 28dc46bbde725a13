-- The map of no objects.
use Rattle.std.proofs.Common.{◌≡◌, Bool, true, false, cond, List, [], map, Option, Some, None, refl}
use Rattle.std.proofs.Common.{sym, ap, ◌∙◌}
use Rattle.std.specs.FinMap as finite
use Rattle.std.specs.FinMap.{get, get-empty}
use Rattle.std.specs.Option.{unwrap_or}
use Rattle.kp_lemmas.proofs.Entries.{empty_entries}
use Rattle.kp_base.specs.Keys.{key_cmp, port_key_cmp}
use Rattle.kp_base.specs.declared.address.Family.{Family}
use Rattle.kp_base.specs.declared.address.Family.TheVariants.{V4, V6}
use Rattle.kp_base.specs.declared.config.Config.{Config}
use Rattle.kp_base.specs.declared.key.ObjectKey.{ObjectKey}
use Rattle.kp_base.specs.declared.key.PortKey.{PortKey}
use Rattle.kp_types.specs.Setting.{FamilyConfig, config_for, has_tables_of}
use Rattle.kp_types.specs.declared.service.Service.{Service}
use Rattle.kp_choice_defs.specs.Settings.{settings_of}
use Rattle.kp_object_defs.specs.Entries.{sources_of}
use Rattle.kp_object_defs.specs.Objects.{no_objects, zone_of}
use Rattle.kp_object_defs.specs.PortInfo.{PortInfo, infos_from, port_infos}
use Rattle.kp_vmap_defs.proofs.KnownPorts.{infos_in_order}
use Rattle.kp_vmap_defs.specs.VerdictMap.{by_name, destination_cmp, infos_of, map_of}
use Rattle.kp_vmap.specs.Family.{IsPlaced, known_in}
use Rattle.kp_vmap.specs.Kept.{map_kept}
use Rattle.kp_vmap.specs.Places.{PortMap, at_place, if_at}
use Rattle.kp_vmap.specs.declared.family.FamilyPorts.{FamilyPorts}
use Rattle.kp_vmap.proofs.Replacing.{map_of_named}

-- no objects tell of a port
no_ports : (family : Family) (config : FamilyConfig) → port_infos family config no_objects ≡ []
no_ports family config =
    ap (λ (es : List (ObjectKey × Service)). infos_from family config.node
    (zone_of no_objects config.node)
    (map (sources_of family config no_objects) (map (λ e. e.1) es)))
    (empty_entries key_cmp)

none_if : (b : Bool) (infos : List PortInfo) → infos ≡ [] → cond b infos [] ≡ []
none_if true infos h = h
none_if false infos h = refl

no_infos : (config : Config) (family : Family) → infos_of config no_objects family ≡ []
no_infos config family =
    none_if (has_tables_of family (settings_of config))
    (port_infos family (config_for family config) no_objects)
    (no_ports family (config_for family config))

-- so a map that knows of none is theirs
pub map_of_none : (config made : Config) (four six : FamilyPorts) → made ≡ config
    → known_in four ≡ finite.empty → known_in six ≡ finite.empty
    → map_kept made four six ≡ map_of config no_objects
map_of_none config made four six is f s =
    λ i. record {
      config = is i;
      four = map_of_named (infos_of config no_objects V4) (known_in four)
          (infos_in_order config no_objects V4) (f ∙ ap by_name (sym (no_infos config V4))) i;
      six = map_of_named (infos_of config no_objects V6) (known_in six)
          (infos_in_order config no_objects V6) (s ∙ ap by_name (sym (no_infos config V6))) i;
    }

-- where nothing is kept, no port stands anywhere
pub none_placed : (f : FamilyPorts) → f.ports.entries ≡ [] → f.places.entries ≡ [] → IsPlaced f
none_placed f ports places =
    let unknown : (key : PortKey) → get (known_in f) key ≡ None = λ key.
    ap (λ es. get (finite.from_entries {R = port_key_cmp} es) key) ports
    ∙ get-empty port_key_cmp key in
    record {
      own = λ key i h. let no : None ≡ Some i = sym (unknown key) ∙ h in absurd (cc);
      places = λ d key.
          ap (λ es. get (at_place es d) key) places
          ∙ ap (λ (o : Option PortMap). get (unwrap_or o finite.empty) key)
          (get-empty destination_cmp d)
          ∙ get-empty port_key_cmp key
          ∙ sym (ap (if_at d) (unknown key));
    }
