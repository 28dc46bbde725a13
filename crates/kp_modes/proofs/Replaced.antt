-- The ports that a sync changed hold all of which a map knows something else.
use Rattle.std.proofs.Common.{◌≡◌, ◌-◌, ◌++◌, true, false, cond, List, [], ◌∷◌, is_some, map, refl}
use Rattle.std.proofs.Common.{sym, ap, subst, ◌∙◌}
use Rattle.std.specs.FinMap.{get, get-from_entries, is_sorted}
use Rattle.std.specs.FinMap.Entries.{below_all, is_some-find}
use Rattle.std.specs.List.{list_all}
use Rattle.std.specs.Ordering.{eq_by_cmp, is_lt}
use Rattle.std.proofs.lemmas.Bool.{and_from, and_parts, or_parts}
use Rattle.std.proofs.lemmas.List.Folds.{list_any-append}
use Rattle.kp_base.specs.Keys.{port_key_cmp}
use Rattle.kp_base.specs.declared.address.Family.{Family}
use Rattle.kp_base.specs.declared.address.Family.TheVariants.{V4, V6}
use Rattle.kp_base.specs.declared.config.Config.{Config}
use Rattle.kp_base.specs.declared.key.PortKey.{PortKey}
use Rattle.kp_base.proofs.KeyOrder.{port_key_total}
use Rattle.kp_types.specs.Setting.{Setting, config_for, has_tables_of}
use Rattle.kp_choice_defs.specs.Settings.{setting_of, settings_of}
use Rattle.kp_history_defs.specs.DirtyPorts.{dirty_keys, dirty_port}
use Rattle.kp_history_defs.specs.declared.dirty.DirtyPort.{DirtyPort}
use Rattle.kp_history_laws.specs.DirtyLaws.{CleanInfos, InfosByName}
use Rattle.kp_history_laws.specs.EventLaws.{has_port}
use Rattle.kp_object_defs.specs.Objects.{Objects}
use Rattle.kp_object_defs.specs.Order.{distinct_in_order, in_order, rises}
use Rattle.kp_object_defs.specs.OwnKeys.{AreUnderOwnKeys}
use Rattle.kp_object_defs.specs.PortByKey.{info_at}
use Rattle.kp_object_defs.specs.PortInfo.{port_infos}
use Rattle.kp_object_defs.proofs.InOrder.{find-in_order, sorted-in_order}
use Rattle.kp_object_laws.specs.ObjectLaws.{OwnKeysAfterEvents}
use Rattle.kp_plane.specs.Parts.{PlaneParts, dirty_after, dirty_in, objects_before, objects_in}
use Rattle.kp_plane.specs.Parts.{syncs_in}
use Rattle.kp_vmap.specs.Replaced.{HoldsChanges}
use Rattle.kp_vmap_defs.specs.VerdictMap.{VerdictMap, by_name, infos_of, map_in, map_of}
use Rattle.kp_modes.proofs.Synced.{own_covered}

-- ---- Names in order

behind_first : (k : PortKey) (es : List (PortKey × PortKey)) → below_all port_key_cmp k es ≡ true
    → list_all (λ l. is_lt (port_key_cmp k l)) (map (λ e. e.0) es) ≡ true
behind_first k [] h = refl
behind_first k (e ∷ es) h =
    let parts = and_parts (is_lt (port_key_cmp k e.0)) (below_all port_key_cmp k es) h in
    and_from (is_lt (port_key_cmp k e.0))
    (list_all (λ l. is_lt (port_key_cmp k l)) (map (λ f. f.0) es)) parts.0
    (behind_first k es parts.1)

sorted_rise : (es : List (PortKey × PortKey)) → is_sorted port_key_cmp es ≡ true
    → rises port_key_cmp (map (λ e. e.0) es) ≡ true
sorted_rise [] h = refl
sorted_rise (e ∷ es) h =
    let parts = and_parts (below_all port_key_cmp e.0 es) (is_sorted port_key_cmp es) h in
    and_from (list_all (λ l. is_lt (port_key_cmp e.0 l)) (map (λ f. f.0) es))
    (rises port_key_cmp (map (λ f. f.0) es))
    (behind_first e.0 es parts.0) (sorted_rise es parts.1)

-- the names of dirty ports of both families, in order
abbrev pub names_of_both : List DirtyPort → List DirtyPort → List PortKey
names_of_both four six =
    distinct_in_order port_key_cmp (map (λ d. d.key) four ++ map (λ d. d.key) six)

pub names_rise : (four six : List DirtyPort) → rises port_key_cmp (names_of_both four six) ≡ true
names_rise four six =
    let keys = map (λ (d : DirtyPort). d.key) four ++ map (λ (d : DirtyPort). d.key) six in
    sorted_rise (in_order port_key_cmp (map (λ k. (k, k)) keys))
    (sorted-in_order port_key_total (map (λ k. (k, k)) keys))

themselves : (ks : List PortKey) → map (λ (e : PortKey × PortKey). e.0) (map (λ k. (k, k)) ks) ≡ ks
themselves [] = refl
themselves (k ∷ ks) = ap (λ rest. k ∷ rest) (themselves ks)

-- names once each, in order, are these names
still_named : (key : PortKey) (keys : List PortKey)
    → has_port keys key ≡ has_port (distinct_in_order port_key_cmp keys) key
still_named key keys =
    let es : List (PortKey × PortKey) = map (λ k. (k, k)) keys in
    sym (is_some-find port_key_cmp key es ∙ ap (λ ks. has_port ks key) (themselves keys))
    ∙ sym (ap is_some (find-in_order port_key_total key es))
    ∙ is_some-find port_key_cmp key (in_order port_key_cmp es)

-- a name that isn't among them is of neither family
neither : (four six : List DirtyPort) (key : PortKey)
    → has_port (names_of_both four six) key ≡ false
    → (has_port (map (λ d. d.key) four) key ≡ false) × (has_port (map (λ d. d.key) six) key ≡ false)
neither four six key misses =
    let mine = map (λ (d : DirtyPort). d.key) four in
    let theirs = map (λ (d : DirtyPort). d.key) six in
    or_parts (has_port mine key) (has_port theirs key)
    (sym (list_any-append (eq_by_cmp port_key_cmp key) mine theirs)
    ∙ still_named key (mine ++ theirs) ∙ misses)

-- ---- What a map knows

known_by : (family : Family) (config : Config) (o : Objects)
    → (map_in family (map_of config o)).infos ≡ by_name (infos_of config o family)
known_by V4 config o = refl
known_by V6 config o = refl

-- a map knows of a port what the objects tell
known_at : InfosByName → (family : Family) (config : Config) (o : Objects) → AreUnderOwnKeys o
    → has_tables_of family (settings_of config) ≡ true → (key : PortKey)
    → get (map_in family (map_of config o)).infos key ≡ info_at family
    (config_for family config) o key
known_at law family config o own has key =
    let infos = port_infos family (config_for family config) o in
    ap (λ m. get m key) (known_by family config o)
    ∙ ap (λ b. get (by_name (cond b infos [])) key) has
    ∙ get-from_entries port_key_total (map (λ i. (i.key, i)) infos) key
    ∙ law (setting_of family config) o key own

keys_named : (setting : Setting) (before : Objects) (ks : List PortKey)
    → map (λ (d : DirtyPort). d.key) (map (dirty_port setting before) ks) ≡ ks
keys_named setting before [] = refl
keys_named setting before (k ∷ ks) = ap (λ rest. k ∷ rest) (keys_named setting before ks)

module _ (clean : CleanInfos) (law : InfosByName) (own : OwnKeysAfterEvents) (p : PlaneParts) where
  own_before : AreUnderOwnKeys (objects_before p)
  own_before = own_covered own p (syncs_in p - 1)

  own_now : AreUnderOwnKeys (objects_in p)
  own_now = own_covered own p (syncs_in p)

  -- of a port that isn't dirty a family knows the same
  kept_info : (family : Family) → has_tables_of family (settings_of p.config) ≡ true
      → (key : PortKey)
      → has_port (map (λ d. d.key) (dirty_in family p)) key ≡ false
      → info_at family (config_for family p.config) (objects_in p) key
      ≡ info_at family (config_for family p.config) (objects_before p) key
  kept_info family has key misses =
      let setting = setting_of family p.config in
      let keys = dirty_keys setting (objects_before p) (objects_in p) in
      clean setting (objects_before p) (objects_in p) key own_before own_now
      (sym (ap (λ b. has_port
      (map (λ (d : DirtyPort). d.key) (cond b (dirty_after family p) [])) key) has
      ∙ ap (λ ks. has_port ks key) (keys_named setting (objects_before p) keys))
      ∙ misses)

  others : (family : Family) → has_tables_of family (settings_of p.config) ≡ true → (key : PortKey)
      → has_port (map (λ d. d.key) (dirty_in family p)) key ≡ false
      → get (map_in family (map_of p.config (objects_before p))).infos key
      ≡ info_at family (config_for family p.config) (objects_in p) key
  others family has key misses =
      known_at law family p.config (objects_before p) own_before has key
      ∙ sym (kept_info family has key misses)

  all_held : HoldsChanges (map_of p.config (objects_before p)) (objects_in p)
      (names_of_both (dirty_in V4 p) (dirty_in V6 p))
  all_held = record {
    in_order = names_rise (dirty_in V4 p) (dirty_in V6 p);
    others = by;
  }
    where
      by : (family : Family) → has_tables_of family (settings_of p.config) ≡ true → (key : PortKey)
          → has_port (names_of_both (dirty_in V4 p) (dirty_in V6 p)) key ≡ false
          → get (map_in family (map_of p.config (objects_before p))).infos key
          ≡ info_at family (config_for family p.config) (objects_in p) key
      by V4 has key misses =
          others V4 has key (neither (dirty_in V4 p) (dirty_in V6 p) key misses).0
      by V6 has key misses =
          others V6 has key (neither (dirty_in V4 p) (dirty_in V6 p) key misses).1

  -- the dirty ports of a plane hold what changes of the map of before
  pub held : (m : VerdictMap) (o : Objects) (four six : List DirtyPort) (names : List PortKey)
      → m ≡ map_of p.config (objects_before p) → o ≡ objects_in p
      → four ≡ dirty_in V4 p → six ≡ dirty_in V6 p → names ≡ names_of_both four six
      → HoldsChanges m o names
  held m o four six names is are first second named =
      subst (λ m. HoldsChanges m o names) (sym is)
      (subst (λ o. HoldsChanges (map_of p.config (objects_before p)) o names) (sym are)
      (subst (HoldsChanges (map_of p.config (objects_before p)) (objects_in p))
      (sym (named ∙ (λ i. names_of_both (first i) (second i)))) all_held))

  -- and so the map is that of the objects that the sync covers
  pub replaced_by : (m n : VerdictMap) (o : Objects) → m ≡ map_of p.config (objects_before p)
      → o ≡ objects_in p
      → n ≡ map_of m.config o → n ≡ map_of p.config (objects_in p)
  replaced_by m n o is are made = made ∙ (λ i. map_of (is i).config (are i))

-- their names are in order
pub named_rise : (four six : List DirtyPort) (names : List PortKey) → names ≡ names_of_both four six
    → rises port_key_cmp names ≡ true
named_rise four six names is = ap (rises port_key_cmp) is ∙ names_rise four six
