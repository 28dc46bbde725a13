-- What a line is answered from a snapshot, by the walk of its packet.
use Rattle.std.specs.Prelude.{◌≡◌, ℕ, List, ◌⊎◌}
use Rattle.std.specs.FinMap.{get}
use Rattle.kp_choice_defs.specs.Recent.{RecentParts}
use Rattle.kp_run_defs.specs.AnswerText.{answer_text, draws_at, walk_at}
use Rattle.kp_table_defs.specs.Walk.{Walked}
use Rattle.kp_text_defs.specs.declared.packet.PacketLine.{PacketLine}
use Rattle.kp_walker.specs.Sets.{ComesToSet}
use Rattle.kp_answers.specs.declared.snapshot.Snapshot.{Snapshot}

-- the walk of a line's packet through the snapshot's table
abbrev pub walk_in : Snapshot → ℕ → PacketLine → RecentParts → Walked
walk_in s number line lists = walk_at (get s.table.now.chains) s.node.now number line lists

-- what the line is answered
abbrev pub answer_in : Snapshot → ℕ → PacketLine → RecentParts → List ℕ
answer_in s number line lists =
    let w = walk_in s number line lists in
    answer_text number s.sync line w.verdict w.trail

-- the walk comes to a set of its source in a list that lacks it, and the recent lists are these by
-- then
abbrev pub IsOnWay : Snapshot → ℕ → PacketLine → RecentParts → RecentParts → Type 0
IsOnWay s number line before left =
    ComesToSet (get s.table.now.chains) s.node.now line.packet (draws_at number line.draws) before
    left

-- where memory ran out the recent lists are as they stood on the way, or those of the whole walk
abbrev pub IsPartly : Snapshot → ℕ → PacketLine → RecentParts → RecentParts → Type 0
IsPartly s number line before left =
    IsOnWay s number line before left ⊎ (left ≡ (walk_in s number line before).lists)
