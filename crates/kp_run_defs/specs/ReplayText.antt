-- The text of a replay (this project's choice): a plain fold over the lines of the input, whose state is the
-- configuration, the accepted events, how many of them each sync covers more than the one before it, and the
-- recent lists. Tables, batches and slices are functions of these. A sync prints how the full table changed; a
-- packet is answered by the decision on the objects that the last sync covers, and its trail is the walk of
-- their full table.
use Rattle.std.specs.Prelude.{ℕ, suc, ◌+◌, ◌-◌, nat_lt, Bool, true, false, List, [], ◌∷◌, ◌++◌, length, sum, not, count_by, Option, Some, None}
use Rattle.std.specs.List.{fold}
use Rattle.std.specs.FinMap as finite
use Rattle.kp_base.specs.declared.address.Family.{Family}
use Rattle.kp_base.specs.declared.address.Family.TheVariants.{V4, V6}
use Rattle.kp_base.specs.declared.config.Config.{Config}
use Rattle.kp_types.specs.Setting.{Settings, both_families}
use Rattle.kp_types.specs.declared.chain.Clash.{Clash}
use Rattle.kp_types.specs.declared.chain.TableName.{TableName}
use Rattle.kp_types.specs.declared.chain.TableName.TheVariants as table
use Rattle.kp_types.specs.declared.event.Event.{Event}
use Rattle.kp_types.specs.declared.rule.Edit.{Edit}
use Rattle.kp_types.specs.declared.slice.Slice.{Slice}
use Rattle.kp_choice_defs.specs.Recent.{RecentParts}
use Rattle.kp_choice_defs.specs.Settings.{settings_of}
use Rattle.kp_object_defs.specs.Objects.{Objects, objects_after}
use Rattle.kp_object_defs.specs.SlicesNow.{slices_now}
use Rattle.kp_door_defs.specs.Decision.{Decided, decision_of}
use Rattle.kp_table_defs.specs.Edits.{changes_between, is_write}
use Rattle.kp_table_defs.specs.Rebuild.{Chains, clash_of}
use Rattle.kp_table_defs.specs.Walk.{Walked}
use Rattle.kp_history_defs.specs.History.{objects_covered, chains_covered}
use Rattle.kp_restore_defs.specs.BatchText.{batch_text_of}
use Rattle.kp_restore_defs.specs.TableText.{section_text_of}
use Rattle.kp_text_defs.specs.declared.line_refusal.LineRefusal.{LineRefusal}
use Rattle.kp_text_defs.specs.declared.line_refusal.LineRefusal.TheVariants.{JournalFull, ChainClash}
use Rattle.kp_text_defs.specs.declared.packet.PacketLine.{PacketLine}
use Rattle.kp_text_defs.specs.declared.said.Said.{Said}
use Rattle.kp_text_defs.specs.declared.said.Said.TheVariants.{Nothing, Asks, Refuses}
use Rattle.kp_text_defs.specs.declared.script.Op.{Op}
use Rattle.kp_text_defs.specs.declared.script.Op.TheVariants as op
use Rattle.kp_text_defs.specs.declared.script.Shown.{Shown}
use Rattle.kp_text_defs.specs.declared.script.Shown.TheVariants as shown
use Rattle.kp_text_defs.specs.Answers.{explain_text}
use Rattle.kp_text_defs.specs.ConfigText.{default_config}
use Rattle.kp_text_defs.specs.Printed.{sync_text}
use Rattle.kp_text_defs.specs.Refusals.{refusal_text}
use Rattle.kp_text_defs.specs.SaidLines.{given_as, said}
use Rattle.kp_text_defs.specs.Slices.{slices_text}
pub use Rattle.kp_run_defs.specs.AnswerText.{draws_at, walk_at, answer_text}

-- ---- The state

-- Where a replay stands: whether no line but blank ones was read, the configuration, the accepted events, how
-- many of them each sync covers more than the one before it, the recent lists, and whether a line was refused.
pub record Standing : Type 0 where
  pub fresh : Bool
  pub config : Config
  pub events : List Event
  pub counts : List ℕ
  pub lists : RecentParts
  pub refused : Bool

-- recent lists without a source
abbrev pub no_sources : ℕ → RecentParts
no_sources size = record { size = size; parts = finite.empty }

-- before the first line
abbrev pub beginning : Standing
beginning = record {
  fresh = true;
  config = default_config;
  events = [];
  counts = [];
  lists = no_sources default_config.recent_size;
  refused = false;
}

-- what tables and decisions are told
abbrev pub settings_in : Standing → Settings
settings_in s = settings_of s.config

-- how many syncs there were
abbrev pub syncs_in : Standing → ℕ
syncs_in s = length s.counts

-- how many events no sync covers yet
abbrev pub uncovered_in : Standing → ℕ
uncovered_in s = length s.events - sum s.counts

-- the objects that the last sync covers
abbrev pub objects_in : Standing → Objects
objects_in s = objects_covered s.events s.counts (syncs_in s)

-- the chains of their full table
abbrev pub chains_in : Standing → Chains
chains_in s = chains_covered (settings_in s) s.events s.counts (syncs_in s)

-- the edits of the last sync, where there was one
abbrev pub last_edits : Standing → List Edit
last_edits s =
    changes_between (chains_covered (settings_in s) s.events s.counts (syncs_in s - 1))
    (chains_in s)

-- the slices by now
abbrev pub slices_in : Standing → List Slice
slices_in s = finite.values (slices_now both_families s.config s.events s.counts)

-- ---- Steps

-- what a line prints, and where it leads
pub record Line : Type 0 where
  pub text : List ℕ
  pub next : Standing

-- a refused line changes nothing but that one was refused
abbrev pub refuse : ℕ → LineRefusal → Standing → Line
refuse number refusal s = record { text = refusal_text number refusal; next = record s { refused = true } }

-- a line that prints nothing
abbrev pub quiet : Standing → Line
quiet s = record { text = []; next = s }

-- a line that changes nothing
abbrev pub print : List ℕ → Standing → Line
print text s = record { text = text; next = s }

-- a configuration, of which the recent lists have their size
abbrev pub config_line : Config → Standing → Line
config_line config s = quiet (record s { config = config; lists = no_sources config.recent_size })

-- there is room for so many events more
abbrev pub has_room : Standing → ℕ → Bool
has_room s n = not (nat_lt s.config.max_events (length s.events + n))

-- events, of which all are accepted or none
abbrev pub events_line : ℕ → List Event → Bool → Standing → Line
events_line number events true s = quiet (record s { events = s.events ++ events })
events_line number events false s = refuse number (JournalFull (length s.events)) s

-- the line of the last sync
abbrev pub synced_text : Standing → ℕ → List ℕ
synced_text s n =
    sync_text (syncs_in s) n (count_by is_write (last_edits s)) (count_by (λ e. not (is_write e)) (last_edits s))

-- a sync covers all events
abbrev pub synced : Standing → Standing
synced s = record s { counts = s.counts ++ uncovered_in s ∷ [] }

-- a sync, or its refusal, after which no event is lost
abbrev pub sync_line : ℕ → Option Clash → Standing → Line
sync_line number (Some clash) s = refuse number (ChainClash clash) s
sync_line number None s = record { text = synced_text (synced s) (uncovered_in s); next = synced s }

-- the decision on a packet
abbrev pub decided : ℕ → PacketLine → Standing → Decided
decided number p s =
    decision_of (settings_in s) (objects_in s) p.packet (draws_at number p.draws) s.lists

-- the walk of a packet
abbrev pub walked : ℕ → PacketLine → Standing → Walked
walked number p s = walk_at (λ at. finite.get (chains_in s) at) s.config.addresses number p s.lists

-- a packet prints its verdict and its trail, and may be remembered in recent lists
abbrev pub packet_line : ℕ → PacketLine → Standing → Line
packet_line number p s = record {
  text = answer_text number (syncs_in s) p (decided number p s).verdict (walked number p s).trail;
  next = record s { lists = (decided number p s).lists };
}

-- an explained packet prints its verdict and the reason, and is not remembered
abbrev pub explain_line : ℕ → PacketLine → Standing → Line
explain_line number p s =
    let d = decided number p s in
    print (explain_text number (syncs_in s) (record { verdict = d.verdict; reason = d.reason })) s

-- the edits of a family's tables at the last sync in the form of iptables-restore, or nothing before
-- the first
abbrev pub batch_shown : Family → List ℕ → List Edit → List ℕ
batch_shown family [] edits = []
batch_shown family (n ∷ counts) edits = batch_text_of family edits

-- the section of a table that a node may have or lack
abbrev pub section_if : Bool → Chains → TableName → List ℕ
section_if true chains name = section_text_of chains name
section_if false chains name = []

-- what is shown; of tables of IPv6 nothing where the node has none
abbrev pub shown_text : Shown → Standing → List ℕ
shown_text shown.Slices s = slices_text (slices_in s) false
shown_text shown.Endpoints s = slices_text (slices_in s) true
shown_text shown.Nat s = section_text_of (chains_in s) table.Nat
shown_text shown.Filter s = section_text_of (chains_in s) table.Filter
shown_text shown.Batch s = batch_shown V4 s.counts (last_edits s)
shown_text shown.Nat6 s = section_if s.config.dual (chains_in s) table.Nat6
shown_text shown.Filter6 s = section_if s.config.dual (chains_in s) table.Filter6
shown_text shown.Batch6 s = batch_shown V6 s.counts (last_edits s)

-- an operation
abbrev pub op_line : ℕ → Op → Standing → Line
op_line number (op.Config config) s = config_line config s
op_line number (op.Events events) s = events_line number events (has_room s (length events)) s
op_line number op.Sync s = sync_line number (clash_of (settings_in s) (objects_after s.events)) s
op_line number (op.Packet p) s = packet_line number p s
op_line number (op.Explain p) s = explain_line number p s
op_line number (op.Show what) s = print (shown_text what s) s

-- what a line says: a blank one is passed over, and any other is no longer the first
abbrev pub said_line : ℕ → Said → Standing → Line
said_line number Nothing s = quiet s
said_line number (Asks line) s = op_line number line.op (record s { fresh = false })
said_line number (Refuses refusal) s = refuse number refusal (record s { fresh = false })

-- a line as it is given: nothing of one that is too long
abbrev pub given_line : ℕ → Option (List ℕ) → Standing → Line
given_line number given s = said_line number (said given s.fresh) s

-- a line
abbrev pub line_at : ℕ → List ℕ → Standing → Line
line_at number bytes s = given_line number (given_as bytes) s

-- ---- All lines

-- how far a replay has come: how many lines there were, what they printed, and where it stands
pub record Progress : Type 0 where
  pub number : ℕ
  pub text : List ℕ
  pub at : Standing

-- before the first line
abbrev pub at_start : Progress
at_start = record { number = 0; text = []; at = beginning }

-- what a line adds
abbrev pub with_line : Progress → Line → Progress
with_line r line = record { number = suc r.number; text = r.text ++ line.text; at = line.next }

-- one more line
abbrev pub after_line : Progress → List ℕ → Progress
after_line r bytes = with_line r (line_at (suc r.number) bytes r.at)

-- the replay of lines
abbrev pub replay_of : List (List ℕ) → Progress
replay_of lines = fold after_line at_start lines
