-- What a replace asks of the ports that it is told, and the steps that it may take.
use Rattle.std.specs.Prelude.{◌≡◌, ℕ, true, false, List}
use Rattle.std.specs.FinMap as finite
use Rattle.std.specs.List.{sum_by}
use Rattle.kp_base.specs.Keys.{port_key_cmp}
use Rattle.kp_base.specs.declared.address.Family.{Family}
use Rattle.kp_base.specs.declared.key.PortKey.{PortKey}
use Rattle.kp_types.specs.Setting.{config_for, has_tables_of, table_families}
use Rattle.kp_choice_defs.specs.Settings.{settings_of}
use Rattle.kp_object_defs.specs.Objects.{Objects}
use Rattle.kp_object_defs.specs.Order.{rises}
use Rattle.kp_object_defs.specs.PortByKey.{info_at}
use Rattle.kp_history_laws.specs.EventLaws.{has_port}
use Rattle.kp_vmap_defs.specs.VerdictMap.{VerdictMap, map_in}
use Rattle.kp_vmap.specs.Family.{dirty_doors}

-- Ports in order and once each, and among them at least those of which a family of the node knows something else in
-- the map than the objects tell.
pub record HoldsChanges (m : VerdictMap) (o : Objects) (dirty : List PortKey) : Type 0 where
  pub in_order : rises port_key_cmp dirty ≡ true
  pub others : (family : Family) → has_tables_of family (settings_of m.config) ≡ true
      → (key : PortKey) → has_port dirty key ≡ false
      → finite.get (map_in family m).infos key ≡ info_at family (config_for family m.config) o key

-- how many doors these ports have together in a family, in the map and by the objects
abbrev pub doors_in : VerdictMap → Objects → List PortKey → Family → ℕ
doors_in m o dirty family =
    sum_by (dirty_doors family (config_for family m.config) o (map_in family m).infos) dirty

-- as many steps may be taken as they have in all families of the node
abbrev pub most_steps : VerdictMap → Objects → List PortKey → ℕ
most_steps m o dirty = sum_by (doors_in m o dirty) (table_families m.config)
