-- The laws of the walk over the full table.
use Rattle.std.specs.Prelude.{◌≡◌, ℕ, ◌^◌, ◌<◌, ◌≤◌, true, false, not, List, [], ◌++◌, codes, length, None}
use Rattle.std.specs.List.{Contains}
use Rattle.std.specs.FinMap.{get}
use Rattle.kp_base.specs.declared.key.PortKey.{PortKey}
use Rattle.kp_base.specs.declared.key.Endpoint.{Endpoint}
use Rattle.kp_base.specs.declared.address.Family.{Family}
use Rattle.kp_base.specs.declared.address.Family.TheVariants.{V4}
use Rattle.kp_base.specs.declared.config.Config.{Config}
use Rattle.kp_types.specs.Chains.{is_chain_name}
use Rattle.kp_types.specs.Packets.{family_of_packet}
use Rattle.kp_types.specs.Setting.{FamilyConfig, Naming, Setting, Settings, has_tables_of, view_of}
use Rattle.kp_types.specs.declared.chain.ChainKey.{ChainKey}
use Rattle.kp_types.specs.declared.chain.ChainKey.TheVariants as key
use Rattle.kp_types.specs.declared.chain.PortChain.{PortChain}
use Rattle.kp_types.specs.declared.packet.Packet.{Packet}
use Rattle.kp_choice_defs.specs.Names.{chain_name, first_clash, port_chain_prefix}
use Rattle.kp_choice_defs.specs.Recent.{RecentParts}
use Rattle.kp_choice_defs.specs.Settings.{pick_by_draws, settings_of}
use Rattle.kp_object_defs.specs.Desired.{is_empty}
use Rattle.kp_object_defs.specs.Objects.{Objects}
use Rattle.kp_object_defs.specs.PortInfo.{PortInfo, is_accessible, port_infos}
use Rattle.kp_door_defs.specs.Decision.{Decided, decision_among, decision_from, decision_of}
use Rattle.kp_table_defs.specs.Keys.{all_endpoints}
use Rattle.kp_table_defs.specs.Plain.{HasNoRecent}
use Rattle.kp_table_defs.specs.Ranks.{has_chains_of, is_ranked}
use Rattle.kp_table_defs.specs.StandIn.{stand_in_name}
use Rattle.kp_table_defs.specs.Rebuild.{Chains, clash_among, clash_of, full_chains, full_table, needed_keys}
use Rattle.kp_table_defs.specs.Walk.{Walked, walk_of}
use Rattle.kp_table_laws.specs.Families.{chains_of_families}
use Rattle.kp_table_laws.specs.Laws.{HaveOwnKeys}

-- A port that may be reached from outside the cluster has endpoints in the list of the whole
-- cluster where it has any.
abbrev pub OffersAny : PortInfo → Type 0
OffersAny i = is_accessible i ≡ true → i.lists.has_any ≡ not (is_empty i.lists.cluster)

-- What holds of each port that is known of objects: its address is of the family, where no endpoint
-- is usable it has none, and it offers some from outside where it has any.
pub record IsKnown (family : Family) (i : PortInfo) : Type 0 where
  pub address : i.address.family ≡ family
  pub none : i.lists.has_any ≡ false → (i.lists.cluster ≡ []) × (i.lists.local ≡ [])
  pub any : OffersAny i

-- the names of the chains of ports and endpoints begin as kube-proxy's do
pub record IsPrefixed (name_of : Naming) : Type 0 where
  pub port : (kind : PortChain) (k : PortKey)
      → (rest : List ℕ) × (name_of (key.Port kind k) ≡ port_chain_prefix kind ++ rest)
  pub endpoint : (k : PortKey) (f : Endpoint)
      → (rest : List ℕ) × (name_of (key.Sep k f) ≡ codes "KUBE-SEP-" ++ rest)

-- a walk and a decision agree on the verdict, and on the recent lists afterwards
pub record Agree (w : Walked) (d : Decided) : Type 0 where
  pub verdict : w.verdict ≡ d.verdict
  pub lists : w.lists ≡ d.lists

-- what the law of walking asks of the ports of a family: keys of their own, what holds of known
-- ports, and no clash
pub record IsDecided (setting : Setting) (infos : List PortInfo) : Type 0 where
  pub own : HaveOwnKeys infos
  pub known : (i : PortInfo) → Contains infos i → IsKnown setting.family i
  pub apart : clash_among setting infos ≡ None

-- Walking a family's full table decides each packet of the family as the objects do, where no two
-- chains that are needed have one name.
abbrev pub WalkDecides : Type 0
WalkDecides =
    (setting : Setting) (infos : List PortInfo) (packet : Packet) (draws : ℕ → ℕ)
    (lists : RecentParts)
    → family_of_packet packet ≡ setting.family
    → setting.pick ≡ pick_by_draws → IsPrefixed setting.name_of → IsDecided setting infos
    → Agree
    (walk_of (λ q. get (full_chains setting infos) q) setting.config.addresses packet draws lists)
    (decision_from setting infos packet draws lists)

-- Walking the tables of all families of a node decides every packet so, where this holds of each
-- family that it has tables of.
abbrev pub WalkDecidesAmong : Type 0
WalkDecidesAmong =
    (settings : Settings) (infos : Family → List PortInfo) (packet : Packet) (draws : ℕ → ℕ)
    (lists : RecentParts)
    → settings.pick ≡ pick_by_draws → IsPrefixed settings.name_of
    → ((family : Family) → has_tables_of family settings ≡ true
    → IsDecided (view_of family settings) (infos family))
    → Agree
    (walk_of (λ q. get (chains_of_families settings infos) q) settings.config.addresses packet draws
    lists)
    (decision_among settings infos packet draws lists)

-- The ports of some objects have keys of their own.
abbrev pub PortKeysOnce : Type 0
PortKeysOnce =
    (family : Family) (config : FamilyConfig) (o : Objects)
    → HaveOwnKeys (port_infos family config o)

-- What is known of them is so.
abbrev pub KnownPorts : Type 0
KnownPorts =
    (family : Family) (config : FamilyConfig) (o : Objects) (i : PortInfo)
    → Contains (port_infos family config o) i → IsKnown family i

-- So over objects a clash is all that can be in the way.
abbrev pub WalkDecidesObjects : Type 0
WalkDecidesObjects =
    (settings : Settings) (o : Objects) (packet : Packet) (draws : ℕ → ℕ) (lists : RecentParts)
    → settings.pick ≡ pick_by_draws → IsPrefixed settings.name_of
    → clash_of settings o ≡ None
    → Agree
    (walk_of (λ q. get (full_table settings o).chains q) settings.config.addresses packet draws
    lists)
    (decision_of settings o packet draws lists)

-- Under the product's names and picks nothing else is asked.
abbrev pub ProductDecides : Type 0
ProductDecides =
    (config : Config) (o : Objects) (packet : Packet) (draws : ℕ → ℕ) (lists : RecentParts)
    → clash_of (settings_of config) o ≡ None
    → Agree
    (walk_of (λ q. get (full_table (settings_of config) o).chains q) config.addresses packet draws
    lists)
    (decision_of (settings_of config) o packet draws lists)

-- an endpoint of IPv4, whose numbers are those that an address and a port may have
pub record IsSmall (f : Endpoint) : Type 0 where
  pub family : f.address.family ≡ V4
  pub number : f.address.number < 2 ^ 32
  pub port : f.port < 2 ^ 16

-- The stand-in names of the chains of one port don't clash.
abbrev pub StandInApart : Type 0
StandInApart =
    (infos : List PortInfo) → length infos ≤ 1
    → ((i : PortInfo) (f : Endpoint) → Contains infos i → Contains (all_endpoints i) f → IsSmall f)
    → first_clash stand_in_name (needed_keys infos) ≡ None

-- Each stand-in name is a name that a chain may have.
abbrev pub StandInNames : Type 0
StandInNames = (k : ChainKey) → is_chain_name (stand_in_name k) ≡ true

-- Without session affinity no rule of the full table asks or changes a recent list.
abbrev pub FullTablePlain : Type 0
FullTablePlain =
    (setting : Setting) (infos : List PortInfo)
    → ((i : PortInfo) → Contains infos i → i.affinity ≡ None)
    → HasNoRecent (λ q. get (full_chains setting infos) q)

-- The stand-in names begin so.
abbrev pub StandInPrefixed : Type 0
StandInPrefixed = IsPrefixed stand_in_name

-- The hashed names do, of any length.
abbrev pub HashedPrefixed : Type 0
HashedPrefixed = (length : ℕ) → IsPrefixed (chain_name length)

-- Each jump of a family's table goes to a chain that it has, of a greater rank, and it has the
-- built-in chains.
pub record IsSound (family : Family) (chains : Chains) : Type 0 where
  pub ranked : is_ranked chains ≡ true
  pub built_in : has_chains_of family chains ≡ true

-- Clash or not, the full table of a family is so.
abbrev pub FullTableRanked : Type 0
FullTableRanked =
    (setting : Setting) (infos : List PortInfo) → IsPrefixed setting.name_of
    → ((i : PortInfo) → Contains infos i → OffersAny i)
    → IsSound setting.family (full_chains setting infos)

-- So for each family of a node.
pub record AreSound (settings : Settings) (chains : Chains) : Type 0 where
  pub ranked : is_ranked chains ≡ true
  pub built_in : (family : Family) → has_tables_of family settings ≡ true
      → has_chains_of family chains ≡ true

-- The tables of all families are so, too.
abbrev pub FullTablesRanked : Type 0
FullTablesRanked =
    (settings : Settings) (infos : Family → List PortInfo) → IsPrefixed settings.name_of
    → ((family : Family) (i : PortInfo) → Contains (infos family) i → OffersAny i)
    → AreSound settings (chains_of_families settings infos)

-- Over objects nothing else is asked.
abbrev pub FullTableRankedObjects : Type 0
FullTableRankedObjects =
    (settings : Settings) (o : Objects) → IsPrefixed settings.name_of
    → AreSound settings (full_table settings o).chains
