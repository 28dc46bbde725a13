-- The lines of the dirty ports are the lines of all ports.
use Rattle.std.proofs.Common.{◌≡◌, ℕ, Bool, true, false, cond, List, [], ◌∷◌, ◌++◌, map, flat_map, Option, Some, None, refl, sym, ap, ◌∙◌, append-nil}
use Rattle.std.specs.FinMap.{find}
use Rattle.std.specs.List.{list_any}
use Rattle.std.specs.Ordering.{eq_by_cmp}
use Rattle.std.proofs.lemmas.Bool.{or_parts}
use Rattle.std.proofs.lemmas.List.Folds.{list_any-append}
use Rattle.kp_base.specs.Keys.{port_key_cmp}
use Rattle.kp_base.specs.Net.{same_family}
use Rattle.kp_base.specs.declared.address.Family.{Family}
use Rattle.kp_base.specs.declared.address.Family.TheVariants.{V4, V6}
use Rattle.kp_base.specs.declared.config.Config.{Config}
use Rattle.kp_base.specs.declared.key.PortKey.{PortKey}
use Rattle.kp_types.specs.Setting.{both_families, config_for, table_families}
use Rattle.kp_choice_defs.specs.Names.{chain_name}
use Rattle.kp_choice_defs.specs.Settings.{setting_of, settings_of}
use Rattle.kp_object_defs.specs.Objects.{Objects}
use Rattle.kp_object_defs.specs.OwnKeys.{AreUnderOwnKeys}
use Rattle.kp_object_defs.specs.PortByKey.{info_at}
use Rattle.kp_object_defs.specs.PortInfo.{PortInfo, infos_by_family}
use Rattle.kp_history_defs.specs.DirtyPorts.{dirty_keys, dirty_port, dirty_ports}
use Rattle.kp_history_defs.specs.declared.dirty.DirtyPort.{DirtyPort}
use Rattle.kp_history_laws.specs.DirtyLaws.{InfosByName}
use Rattle.kp_history_laws.specs.EventLaws.{has_port}
use Rattle.kp_history_laws.proofs.DirtyPorts.{clean_infos}
use Rattle.kp_change_defs.specs.ChangeText.{change_lines, change_text, port_lines}
use Rattle.kp_change_defs.specs.DoorChanges.{door_changes, names_of}
use Rattle.kp_changes.specs.Lines.{dirty_in, dirty_lines, dirty_named, dirty_text, lines_named, lines_of}
use Rattle.kp_changes.proofs.Doors.{unchanged}
use Rattle.kp_changes.proofs.Pieces.{alike}
use Rattle.kp_port_by_key.proofs.Sparse.{found_name, sparse, told_in}

-- ---- A port by its name

-- an element of a list is found only where its name is listed
not_named : {X : Type 0} (name : X → PortKey) (xs : List X) (key : PortKey)
    → has_port (map name xs) key ≡ false → find port_key_cmp key (map (λ x. (name x, x)) xs) ≡ None
not_named name [] key h = refl
not_named name (x ∷ xs) key h =
    let parts = or_parts (eq_by_cmp port_key_cmp key (name x)) (has_port (map name xs) key) h in
    ap (λ b. cond b (Some x) (find port_key_cmp key (map (λ y. (name y, y)) xs))) parts.0
    ∙ not_named name xs key parts.1

module _ (by_name : InfosByName) (config : Config) (before after : Objects)
    (own : AreUnderOwnKeys before) (own_after : AreUnderOwnKeys after) where
  abbrev infos_before : Family → List PortInfo
  infos_before = infos_by_family (settings_of config) before

  abbrev infos_after : Family → List PortInfo
  infos_after = infos_by_family (settings_of config) after

  abbrev dirty : Family → List DirtyPort
  dirty family = dirty_ports (setting_of family config) before after

  -- the lines of a port in a family
  abbrev lines : PortKey → Family → List ℕ
  lines = port_lines (chain_name config.name_length) infos_before infos_after

  -- what is known of a port before and after
  abbrev was : Family → PortKey → Option PortInfo
  was family key = info_at family (config_for family config) before key

  abbrev is_now : Family → PortKey → Option PortInfo
  is_now family key = info_at family (config_for family config) after key

  lines_known : (family : Family) (key : PortKey)
      → lines key family
      ≡ lines_of family config after (door_changes (was family key) (is_now family key))
  lines_known family key =
      λ i. lines_of family config after
      (door_changes (by_name (setting_of family config) before key own i)
      (by_name (setting_of family config) after key own_after i))

  -- ---- In a family

  found_dirty : (family : Family) (keys : List PortKey) (key : PortKey)
      → dirty_named (map (dirty_port (setting_of family config) before) keys) key
      ≡ cond (has_port keys key) (Some (dirty_port (setting_of family config) before key)) None
  found_dirty family keys key =
      ap (find port_key_cmp key) (paired keys)
      ∙ found_name (dirty_port (setting_of family config) before) key keys
    where
      paired : (ks : List PortKey)
          → map {B = PortKey × DirtyPort} (λ d. (d.key, d))
          (map (dirty_port (setting_of family config) before) ks)
          ≡ map {B = PortKey × DirtyPort}
          (λ k. (k, dirty_port (setting_of family config) before k)) ks
      paired [] = refl
      paired (k ∷ ks) =
          ap (λ rest. (k, dirty_port (setting_of family config) before k) ∷ rest) (paired ks)

  -- the lines of a port are those of the dirty port of its name
  by_dirty : (family : Family) (key : PortKey)
      → dirty_lines family config after (dirty_named (dirty family) key) ≡ lines key family
  by_dirty family key =
      ap (dirty_lines family config after) (found_dirty family keys key)
      ∙ by (has_port keys key) refl ∙ sym (lines_known family key)
    where
      keys : List PortKey
      keys = dirty_keys (setting_of family config) before after

      by : (b : Bool) → has_port keys key ≡ b
          → dirty_lines family config after
          (cond b (Some (dirty_port (setting_of family config) before key)) None)
          ≡ lines_of family config after (door_changes (was family key) (is_now family key))
      by true is = refl
      by false is =
          sym (ap (lines_of family config after)
          (ap (door_changes (was family key))
          (clean_infos (setting_of family config) before after key own own_after is)
          ∙ unchanged (was family key)))

  -- ---- In both families

  -- the lines of a port in all families
  abbrev told : PortKey → List ℕ
  told = change_lines (settings_of config) infos_before infos_after

  abbrev four : List DirtyPort
  four = dirty_in config before after V4

  abbrev six : List DirtyPort
  six = dirty_in config before after V6

  by_both : (key : PortKey) → lines_named config after four six key ≡ told key
  by_both key = by config.dual
    where
      by : (dual : Bool)
          → dirty_lines V4 config after
          (dirty_named
          (cond (list_any (same_family V4) (cond dual both_families (V4 ∷ []))) (dirty V4) []) key)
          ++ dirty_lines V6 config after
          (dirty_named
          (cond (list_any (same_family V6) (cond dual both_families (V4 ∷ []))) (dirty V6) []) key)
          ≡ flat_map (lines key) (cond dual both_families (V4 ∷ []))
      by true =
          (λ i. by_dirty V4 key i ++ by_dirty V6 key i)
          ∙ ap (λ l. lines key V4 ++ l) (sym (append-nil (lines key V6)))
      by false = ap (λ l. l ++ []) (by_dirty V4 key)

  -- ---- All ports

  -- the names of dirty ports
  abbrev names : List PortKey
  names = map (λ d. d.key) four ++ map (λ d. d.key) six

  -- a port that isn't dirty has no line
  clean : (key : PortKey) → has_port names key ≡ false → told key ≡ []
  clean key none =
      let parts =
      or_parts (has_port (map (λ d. d.key) four) key) (has_port (map (λ d. d.key) six) key)
      (sym (list_any-append (eq_by_cmp port_key_cmp key) (map (λ d. d.key) four)
      (map (λ d. d.key) six)) ∙ none) in
      sym (by_both key)
      ∙ (λ i. dirty_lines V4 config after (not_named (λ (d : DirtyPort). d.key) four key parts.0 i)
      ++ dirty_lines V6 config after (not_named (λ (d : DirtyPort). d.key) six key parts.1 i))

  -- the names of the ports of families
  abbrev known_in : List Family → List PortKey
  known_in families =
      flat_map (λ family. names_of (infos_before family) ++ names_of (infos_after family)) families

  unknown_in : (families : List Family) (key : PortKey) → has_port (known_in families) key ≡ false
      → flat_map (lines key) families ≡ []
  unknown_in [] key none = refl
  unknown_in (family ∷ families) key none =
      let test = eq_by_cmp port_key_cmp key in
      let own_names = names_of (infos_before family) ++ names_of (infos_after family) in
      let parts = or_parts (has_port own_names key) (has_port (known_in families) key)
      (sym (list_any-append test own_names (known_in families)) ∙ none) in
      let each =
      or_parts (has_port (names_of (infos_before family)) key)
      (has_port (names_of (infos_after family)) key)
      (sym (list_any-append test (names_of (infos_before family)) (names_of (infos_after family)))
      ∙ parts.0) in
      (λ i. lines_of family config after
      (door_changes (not_named (λ (p : PortInfo). p.key) (infos_before family) key each.0 i)
      (not_named (λ (p : PortInfo). p.key) (infos_after family) key each.1 i))
      ++ flat_map (lines key) families)
      ∙ unknown_in families key parts.1

  -- a port that is dirty is known in a family, so that all lines are those of dirty ports
  pub all_told : dirty_text config after four six
      ≡ change_text (settings_of config) infos_before infos_after
  all_told =
      alike (lines_named config after four six) told by_both _
      ∙ sparse told names (known_in (table_families config)) (λ key tells.
      told_in told names key (clean key) tells
      ∙ sym (told_in told (known_in (table_families config)) key
      (unknown_in (table_families config) key) tells))
