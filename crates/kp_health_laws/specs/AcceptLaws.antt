-- The rules that accept packets to health ports change no verdict.
use Rattle.std.specs.Prelude.{◌≡◌, ℕ, true, false, List, [], ◌∷◌, ◌++◌, codes, Option, Some, None}
use Rattle.std.specs.List.{fold}
use Rattle.std.specs.FinMap as finite
use Rattle.kp_base.specs.Net.{AddressParts}
use Rattle.kp_base.specs.declared.config.Config.{Config}
use Rattle.kp_types.specs.Setting.{Settings}
use Rattle.kp_types.specs.declared.chain.ChainAt.{ChainAt}
use Rattle.kp_types.specs.declared.chain.TableName.TheVariants.{Filter}
use Rattle.kp_types.specs.declared.packet.Packet.{Packet}
use Rattle.kp_types.specs.declared.rule.Edit.{Edit}
use Rattle.kp_types.specs.declared.rule.Rule.{Rule}
use Rattle.kp_choice_defs.specs.Recent.{RecentParts}
use Rattle.kp_choice_defs.specs.Settings.{settings_of}
use Rattle.kp_object_defs.specs.Desired.{is_empty}
use Rattle.kp_object_defs.specs.Objects.{Objects}
use Rattle.kp_table_defs.specs.Edits.{chains_after_edit}
use Rattle.kp_table_defs.specs.Layout.{jump_to, kube_node_ports}
use Rattle.kp_table_defs.specs.Ranks.{is_ranked}
use Rattle.kp_table_defs.specs.Rebuild.{Chains, full_table}
use Rattle.kp_table_defs.specs.Walk.{Walked, walk_of}
use Rattle.kp_walk_laws.specs.Laws.{IsPrefixed}
use Rattle.kp_health_defs.specs.AcceptRules.{accept_chain, health_batch_in, health_batch_of}
use Rattle.kp_health_defs.specs.HealthPorts.{healths}

-- ---- Tables with accept rules

-- the chains after a batch
abbrev pub with_batch : Chains → List Edit → Chains
with_batch chains edits = fold chains_after_edit chains edits

-- the place of the built-in chain for packets to the node
abbrev pub input_chain : ChainAt
input_chain = record { table = Filter; chain = codes "INPUT" }

-- a rule behind those that were found, or nothing where there is no chain
abbrev pub appended : Chains → ChainAt → Rule → Option (List Rule) → Chains
appended chains at rule None = chains
appended chains at rule (Some rules) = finite.insert chains at (rules ++ rule ∷ [])

-- the chains where a rule stands last in one (iptables(8), `-A`)
abbrev pub with_last_rule : Chains → ChainAt → Rule → Chains
with_last_rule chains at rule = appended chains at rule (finite.get chains at)

-- the chains where packets to the node pass the accept rules last
abbrev pub with_jump : Chains → Chains
with_jump chains = with_last_rule chains input_chain (jump_to kube_node_ports)

-- ---- Walks

-- two walks with one verdict, which leave the same recent lists
pub record HaveOneEnd (a b : Walked) : Type 0 where
  pub verdict : a.verdict ≡ b.verdict
  pub lists : a.lists ≡ b.lists

-- walks of each packet through two tables have one end
abbrev pub DecideAlike : Chains → Chains → Type 0
DecideAlike a b =
    (addresses : List AddressParts) (packet : Packet) (draws : ℕ → ℕ) (lists : RecentParts)
    → HaveOneEnd (walk_of (λ q. finite.get a q) addresses packet draws lists)
    (walk_of (λ q. finite.get b q) addresses packet draws lists)

-- ---- Laws

-- A table may be given accept rules whose jumps go to chains of greater ranks, and which doesn't
-- have a chain of that name.
pub record MayAccept (chains : Chains) : Type 0 where
  pub ranked : is_ranked chains ≡ true
  pub free : finite.get chains accept_chain ≡ None

-- The accept rules of any ports change no verdict of such a table while nothing jumps to them,
abbrev pub BatchDecidesAlike : Type 0
BatchDecidesAlike =
    (chains : Chains) (ports : List ℕ) → MayAccept chains
    → DecideAlike (with_batch chains (health_batch_of ports)) chains

-- and where packets to the node pass them last.
abbrev pub JumpDecidesAlike : Type 0
JumpDecidesAlike =
    (chains : Chains) (port : ℕ) (ports : List ℕ) → MayAccept chains
    → DecideAlike (with_jump (with_batch chains (health_batch_of (port ∷ ports)))) chains

-- The full table of any objects is such a table.
abbrev pub FullTableMayAccept : Type 0
FullTableMayAccept =
    (settings : Settings) (o : Objects) → IsPrefixed settings.name_of
    → MayAccept (full_table settings o).chains

-- the full table of objects under the product's names, with the accept rules of their health ports
abbrev pub accepting_table : Config → Objects → Chains
accepting_table config o =
    with_batch (full_table (settings_of config) o).chains (health_batch_in config o)

-- The accept rules of the health ports of objects change no verdict of the objects' full table,
abbrev pub HealthDecidesAlike : Type 0
HealthDecidesAlike =
    (config : Config) (o : Objects)
    → DecideAlike (accepting_table config o) (full_table (settings_of config) o).chains

-- nor do they where packets to the node pass them last, if there is a health port.
abbrev pub HealthJumpDecidesAlike : Type 0
HealthJumpDecidesAlike =
    (config : Config) (o : Objects) → is_empty (healths config o) ≡ false
    → DecideAlike (with_jump (accepting_table config o)) (full_table (settings_of config) o).chains
