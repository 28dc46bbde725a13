-- What a map is once the staged ports of both families are kept.
use Rattle.std.proofs.Common.{◌≡◌, ℕ, ◌+◌, ◌≤◌, Bool, true, false, cond, List, [], ◌∷◌, map, Option}
use Rattle.std.proofs.Common.{Some, refl, sym, ap, ◌∙◌, arith}
use Rattle.std.specs.FinMap as finite
use Rattle.std.specs.FinMap.{get, get-from_entries, same_map}
use Rattle.std.specs.List.{list_any, sum_by}
use Rattle.kp_base.specs.Net.{same_family}
use Rattle.kp_base.specs.Keys.{port_key_cmp}
use Rattle.kp_base.specs.declared.address.Family.{Family}
use Rattle.kp_base.specs.declared.address.Family.TheVariants.{V4, V6}
use Rattle.kp_base.specs.declared.config.Config.{Config}
use Rattle.kp_base.specs.declared.key.PortKey.{PortKey}
use Rattle.kp_base.proofs.KeyOrder.{port_key_exact, port_key_total}
use Rattle.kp_types.specs.Setting.{FamilyConfig, both_families, config_for, has_tables_of}
use Rattle.kp_choice_defs.specs.Settings.{setting_of, settings_of}
use Rattle.kp_door_defs.specs.Doors.{doors_of}
use Rattle.kp_object_defs.specs.Objects.{Objects}
use Rattle.kp_object_defs.specs.Order.{rises}
use Rattle.kp_object_defs.specs.OwnKeys.{AreUnderOwnKeys}
use Rattle.kp_object_defs.specs.PortByKey.{info_at}
use Rattle.kp_object_defs.specs.PortInfo.{PortInfo, port_infos}
use Rattle.kp_object_laws.proofs.PortByKey.{info_has_key}
use Rattle.kp_history_laws.specs.DirtyLaws.{InfosByName}
use Rattle.kp_history_laws.specs.EventLaws.{has_port}
use Rattle.kp_table_laws.specs.Laws.{AreInOrder}
use Rattle.kp_tracker.specs.Tracked.{updated}
use Rattle.kp_vmap_defs.proofs.KnownPorts.{infos_in_order, values_by_name}
use Rattle.kp_vmap_defs.specs.VerdictMap.{VerdictMap, by_destination, by_name, infos_of, map_door}
use Rattle.kp_vmap_defs.specs.VerdictMap.{map_of, map_of_infos}
use Rattle.kp_vmap.specs.Kept.{IsKept, map_kept, map_of_ports}
use Rattle.kp_vmap.specs.Places.{PortMap, at_place, staged_at}
use Rattle.kp_vmap.specs.Replaced.{HoldsChanges, doors_in, most_steps}
use Rattle.kp_vmap.specs.declared.family.FamilyPorts.{FamilyPorts}
use Rattle.kp_vmap.specs.declared.family.Next.{Next}
use Rattle.kp_vmap_defs.specs.declared.door.Destination.{Destination}
use Rattle.kp_vmap.specs.Family.{IsNext, known_in}
use Rattle.kp_vmap.proofs.DirtyPorts.{kept_ports, placed_again}

-- ports stay under their names
own_after : (family : Family) (config : FamilyConfig) (o : Objects) → AreUnderOwnKeys o
    → (dirty : List PortKey) (m n : PortMap)
    → ((key : PortKey) (i : PortInfo) → get m key ≡ Some i → i.key ≡ key)
    → n ≡ updated port_key_cmp m (map (λ key. (key, info_at family config o key)) dirty)
    → (key : PortKey) (i : PortInfo) → get n key ≡ Some i → i.key ≡ key
own_after family config o own dirty m n before is key i h =
    by (has_port dirty key)
    (sym (ap (λ x. get x key) is ∙ kept_ports (info_at family config o) m dirty key) ∙ h)
  where
    by : (b : Bool) → cond b (info_at family config o key) (get m key) ≡ Some i → i.key ≡ key
    by true g = info_has_key family config o key i own g
    by false g = before key i g

-- the map of ports by name
pub map_of_named : (infos : List PortInfo) (m : PortMap) → AreInOrder infos → m ≡ by_name infos
    → map_of_ports m ≡ map_of_infos infos
map_of_named infos m h is =
    ap map_of_ports is
    ∙ (λ j. record {
      doors = by_destination (map map_door (doors_of (values_by_name infos h j)));
      infos = by_name infos;
    })

-- the ports of a family are those that the objects tell, once its dirty ports are
pub ports_after : InfosByName
    → (family : Family) (config : Config) (o : Objects) (dirty : List PortKey) (m n : PortMap)
    → AreUnderOwnKeys o
    → n ≡ updated port_key_cmp m
    (map (λ key. (key, info_at family (config_for family config) o key)) dirty)
    → ((key : PortKey) → has_port dirty key ≡ false
    → get m key ≡ info_at family (config_for family config) o key)
    → n ≡ by_name (port_infos family (config_for family config) o)
ports_after law family config o dirty m n own is others =
    let known : PortKey → Option PortInfo = info_at family (config_for family config) o in
    let infos = port_infos family (config_for family config) o in
    same_map port_key_total port_key_exact _ _ (λ q.
    ap (λ x. get x q) is
    ∙ kept_ports known m dirty q
    ∙ by q (has_port dirty q) refl
    ∙ sym (get-from_entries port_key_total (map (λ i. (i.key, i)) infos) q
    ∙ law (setting_of family config) o q own))
  where
    by : (q : PortKey) (b : Bool) → has_port dirty q ≡ b
        → cond b (info_at family (config_for family config) o q) (get m q)
        ≡ info_at family (config_for family config) o q
    by q true has = refl
    by q false has = others q has

-- ---- families of a node

has_four : (config : Config) → has_tables_of V4 (settings_of config) ≡ true
has_four config = by config.dual
  where
    by : (b : Bool) → list_any (same_family V4) (cond b both_families (V4 ∷ [])) ≡ true
    by true = refl
    by false = refl

has_six : (config : Config) → has_tables_of V6 (settings_of config) ≡ config.dual
has_six config = by config.dual
  where
    by : (b : Bool) → list_any (same_family V6) (cond b both_families (V4 ∷ [])) ≡ b
    by true = refl
    by false = refl

-- the ports of IPv4
pub four_are : (config : Config) (o : Objects) (n : PortMap)
    → n ≡ by_name (port_infos V4 (config_for V4 config) o) → n ≡ by_name (infos_of config o V4)
four_are config o n is =
    is ∙ ap (λ b. by_name (cond b (port_infos V4 (config_for V4 config) o) []))
    (sym (has_four config))

-- those of IPv6: none, where the node has no tables of it
pub six_are : InfosByName → (config : Config) (o : Objects) (dirty : List PortKey) (m n : PortMap)
    → AreUnderOwnKeys o
    → n ≡ updated port_key_cmp m
    (map (λ key. (key, info_at V6 (config_for V6 config) o key)) (cond config.dual dirty []))
    → (has_tables_of V6 (settings_of config) ≡ true → (key : PortKey) → has_port dirty key ≡ false
    → get m key ≡ info_at V6 (config_for V6 config) o key)
    → (config.dual ≡ false → m ≡ finite.empty)
    → n ≡ by_name (infos_of config o V6)
six_are law config o dirty m n own is others none =
    by config.dual refl is ∙ ap (λ b. by_name (cond b (port_infos V6 (config_for V6 config) o) []))
    (sym (has_six config))
  where
    by : (b : Bool) → config.dual ≡ b
        → n ≡ updated port_key_cmp m
        (map (λ key. (key, info_at V6 (config_for V6 config) o key)) (cond b dirty []))
        → n ≡ by_name (cond b (port_infos V6 (config_for V6 config) o) [])
    by true dual is = ports_after law V6 config o dirty m n own is (others (has_six config ∙ dual))
    by false alone is = is ∙ none alone

-- names in order, or none
pub rises_if : (b : Bool) (dirty : List PortKey) → rises port_key_cmp dirty ≡ true
    → rises port_key_cmp (cond b dirty []) ≡ true
rises_if true dirty h = h
rises_if false dirty h = refl

-- ---- steps

-- the doors of both families, if there are two
pub both_steps : (m : VerdictMap) (o : Objects) (dirty : List PortKey) (start middle last : ℕ)
    → middle ≤ start + doors_in m o dirty V4
    → last ≤ middle + doors_in m o (cond m.config.dual dirty []) V6
    → last ≤ start + most_steps m o dirty
both_steps m o dirty start middle last first second = by m.config.dual second
  where
    by : (b : Bool) → last ≤ middle + doors_in m o (cond b dirty []) V6
        → last ≤ start + sum_by (doors_in m o dirty) (cond b both_families (V4 ∷ []))
    by true h = omega (arith, first, h)
    by false h = omega (arith, first, h)

first_steps : (m : VerdictMap) (o : Objects) (dirty : List PortKey) (b : Bool) (start middle : ℕ)
    → middle ≤ start + doors_in m o dirty V4
    → middle ≤ start + sum_by (doors_in m o dirty) (cond b both_families (V4 ∷ []))
first_steps m o dirty true start middle h = omega (arith, h)
first_steps m o dirty false start middle h = omega (arith, h)

-- those of IPv4 are among them
pub steps_of_four : (m : VerdictMap) (o : Objects) (dirty : List PortKey) (start middle : ℕ)
    → middle ≤ start + doors_in m o dirty V4 → middle ≤ start + most_steps m o dirty
steps_of_four m o dirty start middle h = first_steps m o dirty m.config.dual start middle h

-- ---- both families

module _ (config : Config) (o : Objects) (own : AreUnderOwnKeys o) (dirty : List PortKey)
    (four six four_after six_after : FamilyPorts) (next_four next_six : Next)
    (kept : IsKept config four six)
    (staged_four : IsNext V4 (config_for V4 config) o dirty four.places.entries next_four)
    (staged_six : IsNext V6 (config_for V6 config) o (cond config.dual dirty []) six.places.entries
    next_six)
    (ports_four : known_in four_after ≡ updated port_key_cmp (known_in four) next_four.ports.items)
    (ports_six : known_in six_after ≡ updated port_key_cmp (known_in six) next_six.ports.items)
  where
    four_updated : known_in four_after
        ≡ updated port_key_cmp (known_in four)
        (map (λ key. (key, info_at V4 (config_for V4 config) o key)) dirty)
    four_updated = ports_four ∙ ap (updated port_key_cmp (known_in four)) staged_four.ports

    six_updated : known_in six_after
        ≡ updated port_key_cmp (known_in six)
        (map (λ key. (key, info_at V6 (config_for V6 config) o key)) (cond config.dual dirty []))
    six_updated = ports_six ∙ ap (updated port_key_cmp (known_in six)) staged_six.ports

    -- ports are found at the destinations of their doors
    pub kept_again :
        ((d : Destination) → at_place four_after.places.entries d
        ≡ staged_at four.places.entries next_four.places.entries d)
        → ((d : Destination) → at_place six_after.places.entries d
        ≡ staged_at six.places.entries next_six.places.entries d)
        → IsKept config four_after six_after
    kept_again places_four places_six = record {
      four_placed = record {
        own = own_after V4 (config_for V4 config) o own dirty (known_in four) (known_in four_after)
            kept.four_placed.own four_updated;
        places = placed_again V4 (config_for V4 config) o dirty four four_after next_four
            kept.four_placed staged_four ports_four places_four;
      };
      six_placed = record {
        own = own_after V6 (config_for V6 config) o own (cond config.dual dirty []) (known_in six)
            (known_in six_after) kept.six_placed.own six_updated;
        places = placed_again V6 (config_for V6 config) o (cond config.dual dirty []) six six_after
            next_six kept.six_placed staged_six ports_six places_six;
      };
      no_six = λ alone.
          six_updated
          ∙ ap (λ b. updated port_key_cmp (known_in six)
          (map (λ key. (key, info_at V6 (config_for V6 config) o key)) (cond b dirty []))) alone
          ∙ kept.no_six alone;
    }

    module _ (law : InfosByName) (holds : HoldsChanges (map_kept config four six) o dirty) where
      four_named : known_in four_after ≡ by_name (infos_of config o V4)
      four_named =
          four_are config o (known_in four_after)
          (ports_after law V4 config o dirty (known_in four) (known_in four_after) own four_updated
          (holds.others V4 (has_four config)))

      six_named : known_in six_after ≡ by_name (infos_of config o V6)
      six_named =
          six_are law config o dirty (known_in six) (known_in six_after) own six_updated
          (holds.others V6) kept.no_six

      -- the map is that of the objects, where the dirty ports hold what changed
      pub replaced : map_kept config four_after six_after ≡ map_of config o
      replaced = λ i. record {
        config = config;
        four =
            map_of_named (infos_of config o V4) (known_in four_after) (infos_in_order config o V4)
            four_named i;
        six = map_of_named (infos_of config o V6) (known_in six_after) (infos_in_order config o V6)
            six_named i;
      }
