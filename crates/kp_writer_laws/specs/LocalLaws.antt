-- Laws of look-ups and changes that some ports and some places decide.
use Rattle.std.specs.Prelude.{◌≡◌, ◌↔◌, Bool, false, cond, not, List, [], ◌++◌, map, Option, None, is_some}
use Rattle.std.specs.FinMap as finite
use Rattle.std.specs.FinMap.{find}
use Rattle.std.specs.List.{Contains, filter, filter_map, flat_map, list_any}
use Rattle.std.specs.List.Sorted.{IsStrictlySortedBy}
use Rattle.std.specs.Ordering.{eq_by_cmp}
use Rattle.kp_base.specs.Keys.{port_key_cmp}
use Rattle.kp_base.specs.declared.address.Family.{Family}
use Rattle.kp_base.specs.declared.key.PortKey.{PortKey}
use Rattle.kp_types.specs.Places.{chain_cmp, nat_of, filter_of}
use Rattle.kp_types.specs.Setting.{Setting}
use Rattle.kp_types.specs.declared.chain.ChainAt.{ChainAt}
use Rattle.kp_types.specs.declared.chain.TableName.{TableName}
use Rattle.kp_types.specs.declared.rule.Edit.{Edit}
use Rattle.kp_types.specs.declared.rule.Rule.{Rule}
use Rattle.kp_choice_defs.specs.Names.{first_clash}
use Rattle.kp_object_defs.specs.PortInfo.{PortInfo}
use Rattle.kp_table_defs.specs.Edits.{changes_of}
use Rattle.kp_table_defs.specs.Layout.{filter_rows_with, nat_rows_with, port_rows}
use Rattle.kp_table_defs.specs.Rebuild.{Chains, full_chains, needed_keys}
use Rattle.kp_table_laws.specs.Laws.{AreInOrder, StandApart}
use Rattle.kp_rules.specs.Changes.{remove_at, write_at}

-- a port's chain at a place, if it has one
abbrev pub own_chain : Setting → ChainAt → PortInfo → Option (List Rule)
own_chain setting at i = find chain_cmp at (port_rows setting i)

-- Ports without a chain at a place don't matter to a look-up there.
abbrev pub LookUpsAreLocal : Type 0
LookUpsAreLocal =
    (setting : Setting) (infos : List PortInfo) (at : ChainAt) (matters : PortInfo → Bool)
    → ((i : PortInfo) → Contains infos i → matters i ≡ false → own_chain setting at i ≡ None)
    → find chain_cmp at (flat_map (port_rows setting) infos)
    ≡ find chain_cmp at (flat_map (port_rows setting) (filter matters infos))

-- the chains of a table of no ports
abbrev pub fixed_rows : Family → List (ChainAt × List Rule)
fixed_rows family = nat_rows_with family [] [] ++ filter_rows_with family [] [] []

-- The tables of ports before and after agree at a place that isn't a fixed chain's, where the ports
-- are the same but for some, and none of these has a chain there.
abbrev pub TablesAgreeElsewhere : Type 0
TablesAgreeElsewhere =
    (setting : Setting) (before after : List PortInfo) (at : ChainAt) (kept : PortInfo → Bool)
    → filter kept before ≡ filter kept after
    → ((i : PortInfo) → Contains before i → kept i ≡ false → own_chain setting at i ≡ None)
    → ((i : PortInfo) → Contains after i → kept i ≡ false → own_chain setting at i ≡ None)
    → find chain_cmp at (fixed_rows setting.family) ≡ None
    → finite.get (full_chains setting before) at ≡ finite.get (full_chains setting after) at

-- what is known of the port of a name, if there is one
abbrev pub info_of : List PortInfo → PortKey → Option PortInfo
info_of infos key = find port_key_cmp key (map (λ i. (i.key, i)) infos)

-- whether a name is one of some
abbrev pub is_one_of : List PortKey → PortKey → Bool
is_one_of keys key = list_any (eq_by_cmp port_key_cmp key) keys

-- of each name but some the same is known before and after
abbrev pub AreKnownAlikeBut : List PortKey → List PortInfo → List PortInfo → Type 0
AreKnownAlikeBut keys before after =
    (key : PortKey) → is_one_of keys key ≡ false → info_of after key ≡ info_of before key

-- Ports in order are the same but for those of some names, where of each other name the same is
-- known before and after.
abbrev pub OtherPortsStay : Type 0
OtherPortsStay =
    (before after : List PortInfo) (keys : List PortKey) → AreInOrder before → AreInOrder after
    → AreKnownAlikeBut keys before after
    → filter (λ i. not (is_one_of keys i.key)) before
    ≡ filter (λ i. not (is_one_of keys i.key)) after

-- no two chains that ports need have one name
abbrev pub HaveNoClash : Setting → List PortInfo → Type 0
HaveNoClash setting infos = first_clash setting.name_of (needed_keys infos) ≡ None

-- Of ports without a clash some have none.
abbrev pub SomeHaveNoClash : Type 0
SomeHaveNoClash =
    (setting : Setting) (infos : List PortInfo) (kept : PortInfo → Bool)
    → HaveNoClash setting infos → HaveNoClash setting (filter kept infos)

-- Where the ports before had no clash, and of each name but some the same is known, the ports after
-- have none exactly where the places of the chains of those of these names are free and differ.
abbrev pub NoClashIsLocal : Type 0
NoClashIsLocal =
    (setting : Setting) (before after : List PortInfo) (keys : List PortKey)
    → AreInOrder before → AreInOrder after
    → AreKnownAlikeBut keys before after
    → HaveNoClash setting before
    → HaveNoClash setting after
    ↔ StandApart setting (filter (λ i. not (is_one_of keys i.key)) after)
    (filter (λ i. is_one_of keys i.key) after)

-- a remove of a chain that stood before, where it is gone
abbrev pub remove_between : Chains → Chains → TableName → ChainAt → Option Edit
remove_between before after table at =
    cond (is_some (finite.get before at)) (remove_at after table at) None

-- the changes of one table at some places
abbrev pub table_changes_at : Chains → Chains → List ChainAt → TableName → List Edit
table_changes_at before after places table =
    filter_map (write_at before after table) places
    ++ filter_map (remove_between before after table) places

-- the changes of a family's tables at some places, nat before filter
abbrev pub changes_at_of : Family → Chains → Chains → List ChainAt → List Edit
changes_at_of family before after places =
    table_changes_at before after places (nat_of family)
    ++ table_changes_at before after places (filter_of family)

-- The changes of a family's tables are those at places in order that hold all at which tables
-- differ.
abbrev pub ChangesAreLocal : Type 0
ChangesAreLocal =
    (family : Family) (before after : Chains) (places : List ChainAt)
    → IsStrictlySortedBy chain_cmp places
    → ((at : ChainAt) → list_any (eq_by_cmp chain_cmp at) places ≡ false
    → finite.get after at ≡ finite.get before at)
    → changes_of family before after ≡ changes_at_of family before after places
