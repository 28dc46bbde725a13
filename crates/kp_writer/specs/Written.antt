-- What a writer keeps of ports: what is known of each in a family as it was written last, and the
-- newest.
use Rattle.std.specs.Prelude.{◌≡◌, Bool, true, not, List, Option, Some, refl}
use Rattle.std.specs.Coded.{Coded, code_by, coded×}
use Rattle.std.specs.List.{filter}
use Rattle.std.specs.FinMap as finite
use Rattle.std.specs.Option.{option_eq, option_map}
use Rattle.kp_base.specs.Keys.{port_key_cmp}
use Rattle.kp_base.specs.contracts.address.Family as family_row
use Rattle.kp_base.specs.contracts.config.Config as config_row
use Rattle.kp_base.specs.contracts.key.PortKey as key_row
use Rattle.kp_base.specs.declared.address.Family.{Family}
use Rattle.kp_base.specs.declared.config.Config.{Config}
use Rattle.kp_base.specs.declared.key.PortKey.{PortKey}
use Rattle.kp_types.specs.Setting.{Setting}
use Rattle.kp_types.specs.contracts.info.PortInfo as info_row
use Rattle.kp_types.specs.declared.chain.Clash.{Clash}
use Rattle.kp_types.specs.declared.rule.Edit.{Edit}
use Rattle.kp_choice_defs.specs.Settings.{setting_of}
use Rattle.kp_object_defs.specs.PortInfo.{PortInfo}
use Rattle.kp_table_defs.specs.Edits.{changes_of}
use Rattle.kp_table_defs.specs.Rebuild.{Chains, clash_among, full_chains}
use Rattle.kp_history_defs.specs.DirtyPorts.{same_info}
use Rattle.kp_blocks.specs.Joined.{BlocksByPort, port_block}
use Rattle.kp_tracker.specs.Tracked as tracked
use Rattle.kp_tracker.specs.Tracked.{Tracked}

-- the ports by name
abbrev pub Ports : Type 0
Ports = finite.FinMap port_key_cmp PortInfo

-- the family, the configuration, and what is known of ports: as they were written last, and now
pub record WriterParts : Type 0 where
  pub family : Family
  pub config : Config
  pub written : Ports
  pub newest : Ports

-- a writer with other newest ports
abbrev pub with_newest : WriterParts → Ports → WriterParts
with_newest w ports = record w { newest = ports }

-- a writer that has written nothing, and knows of no port
abbrev pub new_writer : Family → Config → WriterParts
new_writer family config = record {
  family = family;
  config = config;
  written = finite.empty;
  newest = finite.empty;
}

-- a writer that has written its newest ports
abbrev pub all_written : WriterParts → WriterParts
all_written w = record w { written = w.newest }

-- of ports that are tracked, those that were published
abbrev pub written_in : Tracked PortKey PortInfo → Ports
written_in ports = tracked.published port_key_cmp ports

-- and the newest
abbrev pub newest_in : Tracked PortKey PortInfo → Ports
newest_in ports = tracked.newest port_key_cmp ports

-- what contracts see of a writer's fields
abbrev pub parts : Family → Config → Tracked PortKey PortInfo → WriterParts
parts family config ports = record {
  family = family;
  config = config;
  written = written_in ports;
  newest = newest_in ports;
}

-- they are stored as these four are
abbrev pub writer_code : Coded WriterParts
writer_code =
    let ports = finite.code {R = port_key_cmp} key_row.the_row.coded info_row.the_row.coded in
    code_by _ (coded× family_row.the_row.coded (coded× config_row.the_row.coded
    (coded× ports ports)))
    (λ w. (w.family, (w.config, (w.written, w.newest))))
    (λ p. record { family = p.0; config = p.1.0; written = p.1.1.0; newest = p.1.1.1 }) (λ _. refl)

-- what tables and names are told
abbrev pub setting_in : WriterParts → Setting
setting_in w = setting_of w.family w.config

-- the family's full tables of ports
abbrev pub chains_of : WriterParts → Ports → Chains
chains_of w ports = full_chains (setting_in w) (finite.values ports)

-- the clash of ports, if there is one
abbrev pub clash_of : WriterParts → Ports → Option Clash
clash_of w ports = clash_among (setting_in w) (finite.values ports)

-- the edits that lead from what was written to the newest ports
abbrev pub next_edits : WriterParts → List Edit
next_edits w =
    changes_of w.family (chains_of w w.written) (chains_of w w.newest)

-- whether something else is known of a port than was written
abbrev pub is_pending : Ports → Ports → PortKey → Bool
is_pending written newest key =
    not (option_eq same_info (finite.get written key) (finite.get newest key))

-- the dirty ones of some ports: those of which something else is known than was written
abbrev pub dirty_of : WriterParts → Ports → List PortInfo
dirty_of w ports =
    filter (λ i. is_pending w.written w.newest i.key) (finite.values ports)

-- each port stands under its own key
abbrev pub AreUnderOwnKeys : Ports → Type 0
AreUnderOwnKeys ports =
    (key : PortKey) (i : PortInfo) → finite.get ports key ≡ Some i → i.key ≡ key

-- blocks are those of ports
abbrev pub AreBlocksOf : Setting → Ports → BlocksByPort → Type 0
AreBlocksOf setting ports blocks =
    (key : PortKey)
    → finite.get blocks key ≡ option_map (port_block setting) (finite.get ports key)

-- old blocks are those of what was written, of each port of which something else is known
abbrev pub AreOldBlocks : Setting → Ports → Ports → BlocksByPort → Type 0
AreOldBlocks setting written newest old =
    (key : PortKey) → is_pending written newest key ≡ true
    → finite.get old key ≡ option_map (port_block setting) (finite.get written key)

-- what a writer keeps: ports under their own keys, the blocks of the newest, and those of what was
-- written where these differ
pub record IsKept (w : WriterParts) (kept aside : BlocksByPort) : Type 0 where
  pub written : AreUnderOwnKeys w.written
  pub newest : AreUnderOwnKeys w.newest
  pub blocks : AreBlocksOf (setting_in w) w.newest kept
  pub old : AreOldBlocks (setting_in w) w.written w.newest aside
