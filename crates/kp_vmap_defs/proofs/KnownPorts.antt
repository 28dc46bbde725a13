-- What a map knows of ports, in their order, is what it was made of; and so it decides as the objects do.
use Rattle.std.proofs.Common.{◌≡◌, ℕ, Bool, true, false, cond, List, [], ◌∷◌, map, refl, sym, ap, ◌∙◌}
use Rattle.std.specs.FinMap as finite
use Rattle.std.specs.FinMap.{entries, entries-from_sorted, from_sorted, get-from_entries, get-from_sorted, same_map}
use Rattle.kp_lemmas.proofs.Booleans.{fact_from_true}
use Rattle.kp_base.specs.Keys.{port_key_cmp}
use Rattle.kp_base.proofs.KeyOrder.{port_key_exact, port_key_total}
use Rattle.kp_base.specs.declared.address.Family.{Family}
use Rattle.kp_base.specs.declared.address.Family.TheVariants.{V4, V6}
use Rattle.kp_base.specs.declared.config.Config.{Config}
use Rattle.kp_base.specs.declared.key.PortKey.{PortKey}
use Rattle.kp_types.specs.Packets.{family_of_packet}
use Rattle.kp_types.specs.Setting.{Setting, config_for, has_tables_of, view_of}
use Rattle.kp_types.specs.declared.packet.Packet.{Packet}
use Rattle.kp_choice_defs.specs.Recent.{RecentParts}
use Rattle.kp_choice_defs.specs.Settings.{settings_of}
use Rattle.kp_object_defs.specs.Objects.{Objects}
use Rattle.kp_object_defs.specs.PortInfo.{PortInfo, port_infos}
use Rattle.kp_door_defs.specs.Decision.{decision_if}
use Rattle.kp_table_laws.proofs.PortOrder.{ports_are_in_order}
use Rattle.kp_table_laws.specs.Laws.{AreInOrder}
use Rattle.kp_vmap_defs.specs.MapLaws.{MapDecides, MapKnowsPorts}
use Rattle.kp_vmap_defs.specs.Remainder.{remainder_settings}
use Rattle.kp_vmap_defs.specs.VerdictMap.{by_name, infos_of}

named_values : (infos : List PortInfo) → map (λ (e : PortKey × PortInfo). e.1) (map (λ i. (i.key, i)) infos) ≡ infos
named_values [] = refl
named_values (i ∷ infos) = ap (λ rest. i ∷ rest) (named_values infos)

-- ports in order are the entries of their map under their names
pub entries_by_name : (infos : List PortInfo) → AreInOrder infos → entries (by_name infos) ≡ map (λ i. (i.key, i)) infos
entries_by_name infos h =
    let es : List (PortKey × PortInfo) = map (λ i. (i.key, i)) infos in
    ap entries (same_map port_key_total port_key_exact (by_name infos) (from_sorted {R = port_key_cmp} es)
    (λ q. get-from_entries port_key_total es q ∙ sym (get-from_sorted port_key_cmp es q (fact_from_true h))))
    ∙ entries-from_sorted port_key_cmp es (fact_from_true h)

-- and the values of it
pub values_by_name : (infos : List PortInfo) → AreInOrder infos → finite.values (by_name infos) ≡ infos
values_by_name infos h =
    ap (map (λ (e : PortKey × PortInfo). e.1))
    (entries_by_name infos h)
    ∙ named_values infos

in_order_if : (b : Bool) (infos : List PortInfo) → AreInOrder infos → AreInOrder (cond b infos [])
in_order_if true infos h = h
in_order_if false infos h = refl

-- the ports that objects tell of are in order
pub infos_in_order : (config : Config) (o : Objects) (family : Family) → AreInOrder (infos_of config o family)
infos_in_order config o family =
    in_order_if (has_tables_of family (settings_of config)) _ (ports_are_in_order family (config_for family config) o)

pub map_knows_ports : MapKnowsPorts
map_knows_ports config o V4 = values_by_name (infos_of config o V4) (infos_in_order config o V4)
map_knows_ports config o V6 = values_by_name (infos_of config o V6) (infos_in_order config o V6)

decides_if : (b : Bool) (setting : Setting) (infos : List PortInfo) (packet : Packet) (draws : ℕ → ℕ) (lists : RecentParts)
    → decision_if b setting (cond b infos []) packet draws lists ≡ decision_if b setting infos packet draws lists
decides_if true setting infos packet draws lists = refl
decides_if false setting infos packet draws lists = refl

pub map_decides : MapDecides
map_decides config o packet draws lists =
    let family = family_of_packet packet in
    let settings = remainder_settings config in
    ap (λ infos. decision_if (has_tables_of family settings) (view_of family settings) infos packet draws lists)
    (map_knows_ports config o family)
    ∙ decides_if (has_tables_of family settings) (view_of family settings)
    (port_infos family (config_for family config) o) packet draws lists
