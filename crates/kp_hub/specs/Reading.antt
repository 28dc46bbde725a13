-- What a packet line is answered from the table after the records that a pass has seen.
use Rattle.std.specs.Prelude.{◌≡◌, ℕ, List, ◌⊎◌, length}
use Rattle.std.specs.FinMap.{get}
use Rattle.kp_base.specs.declared.config.Config.{Config}
use Rattle.kp_choice_defs.specs.Recent.{RecentParts}
use Rattle.kp_run_defs.specs.AnswerText.{answer_text, draws_at, walk_at}
use Rattle.kp_table_defs.specs.Rebuild.{TableParts}
use Rattle.kp_table_defs.specs.Walk.{Walked}
use Rattle.kp_text_defs.specs.declared.packet.PacketLine.{PacketLine}
use Rattle.kp_walker.specs.Sets.{ComesToSet}
use Rattle.kp_publish.specs.declared.entry.Entry.{Entry}
use Rattle.kp_publish.specs.Entries.{GoesOnFrom, records_of, table_of}
use Rattle.kp_hub.specs.Known.{Worker}

-- The reader has entered and left: what it saw goes on from all that it saw before or learned of,
-- and nothing else changed.
pub record Reads (before after : Worker) : Type 0 where
  pub seen : GoesOnFrom after.seen before.seen
  pub told : GoesOnFrom after.seen before.told
  pub learned : GoesOnFrom after.seen before.learned
  pub stays : after ≡ record before { seen = after.seen }

-- the walk of a line's packet through the table after these records, on the configured node
abbrev pub walk_after : TableParts → Config → List Entry → ℕ → PacketLine → RecentParts → Walked
walk_after start config seen number line lists =
    walk_at (get (table_of start seen).chains) config.addresses number line lists

-- what the line is answered
abbrev pub answer_after :
    TableParts → Config → List Entry → ℕ → PacketLine → RecentParts → List ℕ
answer_after start config seen number line lists =
    let w = walk_after start config seen number line lists in
    answer_text number (length (records_of seen)) line w.verdict w.trail

-- the walk comes to a set of its source in a list that lacks it, and the recent lists are these by
-- then
abbrev pub OnTheWay :
    TableParts → Config → List Entry → ℕ → PacketLine → RecentParts → RecentParts → Type 0
OnTheWay start config seen number line before left =
    ComesToSet (get (table_of start seen).chains) config.addresses line.packet
    (draws_at number line.draws) before left

-- where memory ran out the recent lists are as they stood on the way, or those of the whole walk
abbrev pub HasWalked :
    TableParts → Config → List Entry → ℕ → PacketLine → RecentParts → RecentParts → Type 0
HasWalked start config seen number line before left =
    OnTheWay start config seen number line before left
    ⊎ (left ≡ (walk_after start config seen number line before).lists)
