-- Laws of the full table: it is what each Service port contributes, joined in order between the fixed rules.
use Rattle.std.specs.Prelude.{◌≡◌, ◌↔◌, ℕ, Bool, true, false, List, map, Option, None, Some, is_some, ◌⊎◌}
use Rattle.std.specs.FinMap.{find, is_sorted}
use Rattle.std.specs.List.{Contains, flat_map}
use Rattle.kp_base.specs.Keys.{port_key_cmp}
use Rattle.kp_base.specs.declared.address.Family.{Family}
use Rattle.kp_types.specs.Places.{chain_cmp}
use Rattle.kp_types.specs.Setting.{FamilyConfig, Naming, Setting}
use Rattle.kp_types.specs.declared.chain.ChainAt.{ChainAt}
use Rattle.kp_types.specs.declared.chain.ChainKey.{ChainKey}
use Rattle.kp_types.specs.declared.chain.TableName.{TableName}
use Rattle.kp_types.specs.declared.rule.Rule.{Rule}
use Rattle.kp_choice_defs.specs.Names.{first_clash}
use Rattle.kp_object_defs.specs.Objects.{Objects}
use Rattle.kp_object_defs.specs.PortInfo.{PortInfo, port_infos}
use Rattle.kp_table_defs.specs.Keys.{own_keys}
use Rattle.kp_table_defs.specs.Layout.{place_of_key, port_rows, rules_of_key}
use Rattle.kp_table_defs.specs.Parts.{rules_by_port, table_of_ports}
use Rattle.kp_table_defs.specs.Rebuild.{full_chains, needed_keys}
use Rattle.kp_table_defs.specs.Matching.{Surroundings, WalkState}
use Rattle.kp_table_defs.specs.Traversal.{Takes}
use Rattle.kp_table_defs.specs.Walk.{Outcome, Next, Left, Ended, Stuck, chain_outcome, rules_outcome}

-- ports in the order of their names, each once
abbrev pub AreInOrder : List PortInfo → Type 0
AreInOrder infos = is_sorted port_key_cmp (map (λ i. (i.key, i)) infos) ≡ true

-- What is known of the ports of some objects is in order.
abbrev pub PortsAreInOrder : Type 0
PortsAreInOrder = (family : Family) (config : FamilyConfig) (o : Objects) → AreInOrder (port_infos family config o)

-- The contributions of ports make their full table.
abbrev pub PortsMakeTheTable : Type 0
PortsMakeTheTable =
    (setting : Setting) (infos : List PortInfo) → AreInOrder infos
    → table_of_ports setting.family (rules_by_port setting infos) ≡ full_chains setting infos

-- each port of a list has a key of its own
abbrev pub HaveOwnKeys : List PortInfo → Type 0
HaveOwnKeys infos = (i j : PortInfo) → Contains infos i → Contains infos j → i.key ≡ j.key → i ≡ j

-- each key of a list has a name of its own
abbrev pub HaveOwnNames : Naming → List ChainKey → Type 0
HaveOwnNames name_of keys =
    (k l : ChainKey) → Contains keys k → Contains keys l → name_of k ≡ name_of l → k ≡ l

-- No two chains that ports need have one name exactly where the keys of their own chains have names of their own.
abbrev pub NoClashIsOwnNames : Type 0
NoClashIsOwnNames =
    (name_of : Naming) (infos : List PortInfo)
    → (first_clash name_of (needed_keys infos) ≡ None) ↔ HaveOwnNames name_of (flat_map own_keys infos)

-- So the chain that is found under the name of a port's key has that key's rules.
abbrev pub OwnChainsAreFound : Type 0
OwnChainsAreFound =
    (setting : Setting) (infos : List PortInfo) → HaveOwnKeys infos
    → first_clash setting.name_of (needed_keys infos) ≡ None
    → (i : PortInfo) → Contains infos i → (k : ChainKey) → Contains (own_keys i) k
    → find chain_cmp (place_of_key setting k) (flat_map (port_rows setting) infos)
    ≡ Some (rules_of_key setting i k)

-- The chains of changed ports may stand beside those of ports that are kept: their names differ, and
-- no chain of a kept port stands in the place of one.
pub record StandApart (setting : Setting) (kept changed : List PortInfo) : Type 0 where
  pub own : HaveOwnNames setting.name_of (flat_map own_keys changed)
  pub free : (k : ChainKey) → Contains (flat_map own_keys changed) k
      → is_some (find chain_cmp (place_of_key setting k) (flat_map (port_rows setting) kept)) ≡ false

-- Where some ports changed, and the chains of the others don't clash, no two chains that are needed
-- have one name exactly where the places of the changed ports' chains are free and differ.
abbrev pub NoClashOfChangedPorts : Type 0
NoClashOfChangedPorts =
    (setting : Setting) (infos kept changed : List PortInfo)
    → ((i : PortInfo) → Contains infos i ↔ (Contains kept i ⊎ Contains changed i))
    → ((i j : PortInfo) → Contains kept i → Contains changed j → i.key ≡ j.key → ⊥)
    → first_clash setting.name_of (needed_keys kept) ≡ None
    → (first_clash setting.name_of (needed_keys infos) ≡ None) ↔ StandApart setting kept changed

-- whether an outcome is one of a walk that wasn't stuck
abbrev pub is_settled : Outcome → Bool
is_settled (Next s) = true
is_settled (Left s) = true
is_settled (Ended end path s) = true
is_settled Stuck = false

-- Rules take a state to an outcome exactly where walking them, with some bound on jumps, has this outcome and
-- isn't stuck.
abbrev pub TraversalIsWalk : Type 0
TraversalIsWalk =
    (e : Surroundings) (at : ChainAt → Option (List Rule)) (table : TableName) (rules : List Rule) (s : WalkState) (o : Outcome)
    → Takes e at table rules s o
    ↔ ((n : ℕ) × (rules_outcome e (chain_outcome e at table n) rules s ≡ o) × (is_settled o ≡ true))
