-- The mode `track` (this project's choice): a replay whose node is stateful. What its state is, and what is taken from
-- it, is that of all openers that were ever kept.
use Rattle.std.specs.Prelude.{ℕ, [], length, Option, Some, None}
use Rattle.kp_choice_defs.specs.Recent.{RecentParts}
use Rattle.kp_text_defs.specs.declared.packet.PacketLine.{PacketLine}
use Rattle.kp_run_defs.specs.ReplayText.{decided, walked}
use Rattle.kp_mode_defs.specs.Mode.{Answered, Covered, Mode, explained, objects_at, standing_at}
use Rattle.kp_track_defs.specs.declared.flow.Flow.{Flow}
use Rattle.kp_track_defs.specs.declared.flow.Owned.{Owned}
use Rattle.kp_track_defs.specs.Stands.{stands_by}
use Rattle.kp_track_defs.specs.Tracking.{Tracked, after_opened, after_owned, after_sync, is_kept, nothing_tracked, owned}
use Rattle.kp_track_mode_defs.specs.FlowText.{opened_text, owned_text}

-- the flow of a line
abbrev pub flow_of : PacketLine → Flow
flow_of p = record { packet = p.packet; source_port = p.source_port }

-- a flow that opens is answered as in a replay, and recent lists go by such flows alone
abbrev pub opens : Covered → ℕ → PacketLine → RecentParts → Tracked → Answered Tracked
opens c number p lists t =
    let d = decided number p (standing_at c lists) in
    record {
      text = opened_text number (length c.counts) p d.verdict (walked number p (standing_at c lists)).trail
          (is_kept t (flow_of p) d.verdict);
      lists = d.lists;
      state = after_opened t (flow_of p) d.verdict;
    }

-- an owned flow follows its connection
abbrev pub flow_by : Covered → ℕ → PacketLine → RecentParts → Tracked → Option Owned → Answered Tracked
flow_by c number p lists t None = opens c number p lists t
flow_by c number p lists t (Some answer) = record {
  text = owned_text number (length c.counts) p answer;
  lists = lists;
  state = after_owned t (flow_of p);
}

-- what a packet comes to
abbrev pub tracked_packet : Covered → ℕ → PacketLine → RecentParts → Tracked → Answered Tracked
tracked_packet c number p lists t = flow_by c number p lists t (owned t (flow_of p))

-- `track`: an accepted sync clears what was sent to UDP endpoints that no longer stand, and says nothing of it
abbrev pub tracking : Mode Tracked
tracking = record {
  start = λ config. nothing_tracked;
  packet = tracked_packet;
  explain = explained;
  synced = λ before now state. ([], after_sync (stands_by now.config (objects_at now)) state);
  ending = λ now state. [];
}
