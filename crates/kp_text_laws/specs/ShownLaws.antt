-- What a replay shows is read back: the sections of a family's tables, and its part of the batch of
-- the last sync.
use Rattle.std.specs.Prelude.{◌≡◌, ◌-◌, ℕ, Bool, true, List, ◌∷◌, ◌++◌, Ok}
use Rattle.kp_base.specs.declared.address.Family.{Family}
use Rattle.kp_base.specs.declared.address.Family.TheVariants.{V4, V6}
use Rattle.kp_base.specs.declared.config.Config.{Config}
use Rattle.kp_json.specs.Places.{Place}
use Rattle.kp_types.specs.Places.{filter_of, nat_of}
use Rattle.kp_types.specs.Setting.{Settings, has_tables_of, view_of}
use Rattle.kp_types.specs.declared.event.Event.{Event}
use Rattle.kp_table_defs.specs.Edits.{changes_between}
use Rattle.kp_table_defs.specs.Rebuild.{Chains}
use Rattle.kp_history_defs.specs.History.{chains_covered}
use Rattle.kp_restore_defs.specs.BatchText.{batch_text_of}
use Rattle.kp_restore_defs.specs.TableText.{section_text_of, table_text_of}
use Rattle.kp_text_defs.specs.ConfigText.{read_config}
use Rattle.kp_text_defs.specs.PacketText.{read_packet}
use Rattle.kp_text_defs.specs.ScriptLines.{line_of}
use Rattle.kp_text_defs.specs.declared.packet.PacketLine.{PacketLine}
use Rattle.kp_text_defs.specs.declared.script.Op.{Op}
use Rattle.kp_text_defs.specs.declared.script.Op.TheVariants as op
use Rattle.kp_text_defs.specs.declared.script.ScriptLine.{ScriptLine}
use Rattle.kp_text_defs.specs.declared.script.Shown.{Shown}
use Rattle.kp_text_defs.specs.declared.script.Shown.TheVariants as shown
use Rattle.kp_run_defs.specs.ReplayText.{Standing, chains_in, last_edits, replay_of, settings_in, shown_text, syncs_in}
use Rattle.kp_text_laws.specs.Bounds.{AreBoundedEvents, IsBoundedConfig, is_bounded_address}
use Rattle.kp_text_laws.specs.TableLaws.{IsPrintable, IsReadableBatch, IsReadableTable}

-- ---- Lines

-- A configuration that is read is within its bounds.
abbrev pub ConfigIsBounded : Type 0
ConfigIsBounded = (p : Place) (config : Config) → read_config p ≡ Ok config → IsBoundedConfig config

-- a packet's addresses are within their bounds, and of one family
pub record IsBoundedPacket (line : PacketLine) : Type 0 where
  pub source : is_bounded_address line.packet.source ≡ true
  pub target : is_bounded_address line.packet.target ≡ true
  pub one_family : line.packet.source.family ≡ line.packet.target.family

-- So is a packet that is read.
abbrev pub PacketIsBounded : Type 0
PacketIsBounded = (p : Place) (line : PacketLine) → read_packet p ≡ Ok line → IsBoundedPacket line

-- the numbers of an operation
abbrev pub IsBoundedOp : Op → Type 0
IsBoundedOp (op.Config config) = IsBoundedConfig config
IsBoundedOp (op.Events events) = AreBoundedEvents events
IsBoundedOp op.Sync = Unit {0}
IsBoundedOp (op.Packet packet) = IsBoundedPacket packet
IsBoundedOp (op.Explain packet) = IsBoundedPacket packet
IsBoundedOp (op.Show what) = Unit {0}

-- So is what a line is read as.
abbrev pub LinesAreBounded : Type 0
LinesAreBounded =
    (bytes : List ℕ) (first : Bool) (line : ScriptLine) → line_of bytes first ≡ Ok line
    → IsBoundedOp line.op

-- a replay's configuration and events are within their bounds
pub record IsBoundedStanding (s : Standing) : Type 0 where
  pub config : IsBoundedConfig s.config
  pub events : AreBoundedEvents s.events

-- So are those of each replay, whatever its lines.
abbrev pub ReplaysAreBounded : Type 0
ReplaysAreBounded = (lines : List (List ℕ)) → IsBoundedStanding (replay_of lines).at

-- ---- Histories

-- After any syncs of events within their bounds the table is read back in each family that the node
-- has tables of,
abbrev pub CoveredTablesReadBack : Type 0
CoveredTablesReadBack =
    (settings : Settings) (events : List Event) (counts : List ℕ) (n : ℕ) (family : Family)
    → has_tables_of family settings ≡ true → IsPrintable (view_of family settings)
    → AreBoundedEvents events
    → IsReadableTable family (chains_covered settings events counts n)

-- and so are the changes between two of these tables.
abbrev pub CoveredChangesReadBack : Type 0
CoveredChangesReadBack =
    (settings : Settings) (events : List Event) (counts : List ℕ) (m n : ℕ) (family : Family)
    → has_tables_of family settings ≡ true → IsPrintable (view_of family settings)
    → AreBoundedEvents events
    → IsReadableBatch family (chains_covered settings events counts m)
    (chains_covered settings events counts n)
    (changes_between (chains_covered settings events counts m)
    (chains_covered settings events counts n))

-- ---- What is shown

-- The sections of a family's nat and filter tables are the text of its tables.
abbrev pub SectionsAreTable : Type 0
SectionsAreTable =
    (family : Family) (chains : Chains)
    → table_text_of family chains
    ≡ section_text_of chains (nat_of family) ++ section_text_of chains (filter_of family)

-- what is asked to be shown of a family: nat, filter, and batch
abbrev pub nat_shown : Family → Shown
nat_shown V4 = shown.Nat
nat_shown V6 = shown.Nat6

abbrev pub filter_shown : Family → Shown
filter_shown V4 = shown.Filter
filter_shown V6 = shown.Filter6

abbrev pub batch_shown : Family → Shown
batch_shown V4 = shown.Batch
batch_shown V6 = shown.Batch6

-- nat and then filter, as they are shown
abbrev pub both_shown : Family → Standing → List ℕ
both_shown family s = shown_text (nat_shown family) s ++ shown_text (filter_shown family) s

-- what is shown of nat and of filter is the text of the family's tables, which is read back
pub record ShowsTable (family : Family) (s : Standing) : Type 0 where
  pub table : IsReadableTable family (chains_in s)
  pub printed : both_shown family s ≡ table_text_of family (chains_in s)

-- so it is in each replay, in each family that its node has tables of
abbrev pub ShownTablesReadBack : Type 0
ShownTablesReadBack =
    (lines : List (List ℕ)) (family : Family)
    → has_tables_of family (settings_in (replay_of lines).at) ≡ true
    → ShowsTable family (replay_of lines).at

-- the chains before the last sync
abbrev pub chains_before : Standing → Chains
chains_before s = chains_covered (settings_in s) s.events s.counts (syncs_in s - 1)

-- what is shown as batch after a sync is the text of the family's part of the last sync's edits,
-- which are read back and lead from the table before to the table
pub record ShowsBatch (family : Family) (s : Standing) : Type 0 where
  pub batch : IsReadableBatch family (chains_before s) (chains_in s) (last_edits s)
  pub printed : (n : ℕ) (counts : List ℕ) → s.counts ≡ n ∷ counts
      → shown_text (batch_shown family) s ≡ batch_text_of family (last_edits s)

-- so it is in each replay, in each family that its node has tables of
abbrev pub ShownBatchesReadBack : Type 0
ShownBatchesReadBack =
    (lines : List (List ℕ)) (family : Family)
    → has_tables_of family (settings_in (replay_of lines).at) ≡ true
    → ShowsBatch family (replay_of lines).at
