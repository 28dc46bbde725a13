-- The full table of objects may be given accept rules, and those of the objects' health ports
-- change no verdict.
use Rattle.std.proofs.Common.{◌≡◌, Bool, true, false, cond, List, [], ◌∷◌, map, not, Some, None, flat_map, refl, ap, ◌∙◌}
use Rattle.std.specs.FinMap.{find, get, get-empty, get-from_entries}
use Rattle.std.specs.List.{list_all}
use Rattle.std.specs.Ordering.{eq_by_cmp}
use Rattle.std.proofs.lemmas.Bool.{and_parts, not-true}
use Rattle.kp_lemmas.proofs.Members.{all_flat_map, all_map}
use Rattle.kp_base.specs.declared.address.Family.{Family}
use Rattle.kp_base.specs.declared.address.Family.TheVariants.{V4}
use Rattle.kp_base.specs.declared.config.Config.{Config}
use Rattle.kp_types.specs.Places.{chain_cmp}
use Rattle.kp_types.specs.Setting.{Setting, Settings, has_tables_of, view_of}
use Rattle.kp_types.specs.declared.chain.ChainAt.{ChainAt}
use Rattle.kp_types.specs.declared.rule.Rule.{Rule}
use Rattle.kp_types.proofs.ChainOrder.{chain_total}
use Rattle.kp_choice_defs.specs.Settings.{settings_of}
use Rattle.kp_object_defs.specs.Desired.{is_empty}
use Rattle.kp_object_defs.specs.Objects.{Objects}
use Rattle.kp_object_defs.specs.PortInfo.{PortInfo, infos_by_family}
use Rattle.kp_table_defs.specs.Keys.{own_keys}
use Rattle.kp_table_defs.specs.Layout.{port_rows, row_of_key, rows_of}
use Rattle.kp_table_defs.specs.Rebuild.{full_table}
use Rattle.kp_table_laws.specs.Families.{chains_of_families}
use Rattle.kp_table_laws.proofs.Families.{family_stands_alone, none_beside}
use Rattle.kp_walk_laws.proofs.Ranked.{full_table_ranked_objects_by, hashed_prefixed_by}
use Rattle.kp_health_defs.specs.AcceptRules.{accept_chain, health_batch_of}
use Rattle.kp_health_defs.specs.HealthPorts.{healths}
use Rattle.kp_health_defs.specs.declared.health.Health.{Health}
use Rattle.kp_health_laws.specs.AcceptLaws.{DecideAlike, FullTableMayAccept, HealthDecidesAlike, HealthJumpDecidesAlike, with_batch, with_jump}
use Rattle.kp_health_laws.proofs.AcceptWalks.{batch_decides_alike, jump_decides_alike}

-- ---- No chain of the name

-- a chain and its rules
abbrev Row : Type 0
Row = ChainAt × List Rule

-- a row is at another place
abbrev is_elsewhere : Row → Bool
is_elsewhere r = not (eq_by_cmp chain_cmp accept_chain r.0)

none_there : (rows : List Row) → list_all is_elsewhere rows ≡ true
    → find chain_cmp accept_chain rows ≡ None
none_there [] h = refl
none_there (r ∷ rows) h =
    let both = and_parts (is_elsewhere r) (list_all is_elsewhere rows) h in
    ap (λ b. cond b (Some r.1) (find chain_cmp accept_chain rows)) (not-true _ both.0)
    ∙ none_there rows both.1

module _ (settings : Settings) (infos : Family → List PortInfo) where
  abbrev setting : Setting
  setting = view_of V4 settings

  -- no chain of a port is one of the filter, and no fixed one has the name
  none_of_family : find chain_cmp accept_chain (rows_of setting (infos V4)) ≡ None
  none_of_family =
      none_there (flat_map (port_rows setting) (infos V4))
      (all_flat_map is_elsewhere (port_rows setting) (infos V4)
      (λ i c. all_map is_elsewhere (row_of_key setting i) (own_keys i) (λ k d. refl)))

  free_by : (b : Bool) → has_tables_of V4 settings ≡ b
      → get (chains_of_families settings infos) accept_chain ≡ None
  free_by true has =
      family_stands_alone settings infos V4 has accept_chain refl
      ∙ get-from_entries chain_total (rows_of setting (infos V4)) accept_chain
      ∙ none_of_family
  free_by false lacks =
      none_beside settings infos V4 lacks accept_chain refl ∙ get-empty chain_cmp accept_chain

pub full_table_may_accept : FullTableMayAccept
full_table_may_accept settings o prefixed = record {
  ranked = (full_table_ranked_objects_by settings o prefixed).ranked;
  free = free_by settings (infos_by_family settings o) (has_tables_of V4 settings) refl;
}

-- ---- Health ports

pub health_decides_alike : HealthDecidesAlike
health_decides_alike config o =
    batch_decides_alike (full_table (settings_of config) o).chains
    (map (λ h. h.port) (healths config o))
    (full_table_may_accept (settings_of config) o (hashed_prefixed_by config.name_length))

jump_by : (config : Config) (o : Objects) (hs : List Health) → is_empty hs ≡ false
    → DecideAlike (with_jump (with_batch (full_table (settings_of config) o).chains
    (health_batch_of (map (λ h. h.port) hs)))) (full_table (settings_of config) o).chains
jump_by config o [] h = absurd (cc)
jump_by config o (first ∷ hs) h =
    jump_decides_alike (full_table (settings_of config) o).chains first.port
    (map (λ h. h.port) hs)
    (full_table_may_accept (settings_of config) o (hashed_prefixed_by config.name_length))

pub health_jump_decides_alike : HealthJumpDecidesAlike
health_jump_decides_alike config o some = jump_by config o (healths config o) some
