-- What the writers of a node's families know of ports, as it was written last and as it is now.
use Rattle.std.specs.Prelude.{◌≡◌, ℕ, Bool, cond, List, ◌∷◌, slice_get, Option, None, Some, IfSome}
use Rattle.std.specs.List.{filter_map, sum_by}
use Rattle.std.specs.Option.{option_map, option_to_list}
use Rattle.kp_base.specs.declared.address.Family.{Family}
use Rattle.kp_base.specs.declared.address.Family.TheVariants.{V4, V6}
use Rattle.kp_base.specs.declared.config.Config.{Config}
use Rattle.kp_base.specs.declared.key.ObjectKey.{ObjectKey}
use Rattle.kp_base.specs.declared.key.PortKey.{PortKey}
use Rattle.kp_types.specs.declared.chain.Clash.{Clash}
use Rattle.kp_object_defs.specs.Objects.{Objects}
use Rattle.kp_table_defs.specs.Rebuild.{Chains}
use Rattle.kp_table_laws.specs.Families.{HasTablesOf}
use Rattle.kp_writer.specs.Known.{ArePortsOf}
use Rattle.kp_writer.specs.Own.{own_rule_count}
use Rattle.kp_writer.specs.Written.{WriterParts, chains_of, clash_of, dirty_of, setting_in}
use Rattle.kp_plane.specs.Known.{AreDirty, KnowsOthers, rules_of}
use Rattle.kp_plane.specs.declared.per_family.PerFamily.{PerFamily}

-- ---- What each family has

-- what holds of what each family has
abbrev pub Both : {T : Type 0} → (Family → T → Type 0) → PerFamily T → Type 0
Both P x = P V4 x.four × IfSome x.six (P V6)

-- that of a family
abbrev pub of_family : {T : Type 0} → Family → PerFamily T → Option T
of_family V4 x = Some x.four
of_family V6 x = x.six

-- that of each, one after the other
abbrev pub listed : {T : Type 0} → PerFamily T → List T
listed x = x.four ∷ option_to_list x.six

-- something of each family that a node has tables of
abbrev pub per_family : {T : Type 0} → Config → (Family → T) → PerFamily T
per_family config f = record { four = f V4; six = cond config.dual (Some (f V6)) None }

-- what comes of that of each
abbrev pub map_both : {T U : Type 0} → (T → U) → PerFamily T → PerFamily U
map_both f x = record { four = f x.four; six = option_map f x.six }

-- ---- Writers

-- a family's writer wrote what objects tell
pub record IsWritten (node : Config) (o : Objects) (own : Family) (w : WriterParts) : Type 0 where
  pub family : w.family ≡ own
  pub config : w.config ≡ node
  pub written : ArePortsOf (setting_in w) o w.written

-- a writer knows what they tell of each port whose Service wasn't touched, which a test tells
abbrev pub KnowsRest : Objects → (ObjectKey → Bool) → Family → WriterParts → Type 0
KnowsRest o touched family w = KnowsOthers (setting_in w) o touched w.newest

-- and of each port
abbrev pub IsNewest : Objects → Family → WriterParts → Type 0
IsNewest o family w = ArePortsOf (setting_in w) o w.newest

-- the names that a family is given have each port of which objects tell something else than it
-- wrote
abbrev pub HasDirty : Objects → (Family → List PortKey) → Family → WriterParts → Type 0
HasDirty o keys family w = AreDirty (setting_in w) w.written o (keys w.family)

-- how many rules the ports of these names have in the shared chains of a writer's family
abbrev pub rules_by : Objects → (Family → List PortKey) → WriterParts → ℕ
rules_by o keys w = rules_of (setting_in w) o (keys w.family)

-- and in those of each family
abbrev pub rules_in : Objects → (Family → List PortKey) → PerFamily WriterParts → ℕ
rules_in o keys writers = sum_by (rules_by o keys) (listed writers)

-- whether the newest ports of a family have no clash
abbrev pub HasNoClash : Family → WriterParts → Type 0
HasNoClash family w = clash_of w w.newest ≡ None

-- the clash of the newest ports of the first family that has one
abbrev pub newest_clash : PerFamily WriterParts → Option Clash
newest_clash writers = slice_get (filter_map (λ w. clash_of w w.newest) (listed writers)) 0

-- how many rules the dirty ports of a family have in their own chains
abbrev pub own_dirty_rules : WriterParts → ℕ
own_dirty_rules w = own_rule_count (setting_in w) (dirty_of w w.newest)

-- among chains those of a family are the ones that were written, without a clash
pub record Stands (chains : Chains) (family : Family) (w : WriterParts) : Type 0 where
  pub table : HasTablesOf w.family chains (chains_of w w.written)
  pub apart : clash_of w w.written ≡ None
