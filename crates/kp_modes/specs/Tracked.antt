-- What the mode `track` keeps: the entries of live openers, and how many lists of UDP ports have each endpoint; and
-- what a flow that opens comes to.
use Rattle.std.specs.Prelude.{◌≡◌, ℕ, Bool, false, List}
use Rattle.std.specs.List.{AllByRecursion}
use Rattle.kp_base.specs.declared.config.Config.{Config}
use Rattle.kp_base.specs.declared.key.Endpoint.{Endpoint}
use Rattle.kp_choice_defs.specs.Recent.{RecentParts}
use Rattle.kp_door_defs.specs.Decision.{Decided}
use Rattle.kp_object_defs.specs.Objects.{Objects}
use Rattle.kp_plane.specs.Parts.{PlaneParts, decided_in, syncs_in, walked_in}
use Rattle.kp_run_defs.specs.AnswerText.{draws_at}
use Rattle.kp_text_defs.specs.declared.packet.PacketLine.{PacketLine}
use Rattle.kp_track_defs.specs.declared.flow.Entry.{Entry}
use Rattle.kp_track_defs.specs.Kept.{Kept, keeps, kept_after_opened, kept_part}
use Rattle.kp_track_defs.specs.Stands.{stands_by}
use Rattle.kp_track_defs.specs.Tracking.{Tracked, loses}
use Rattle.kp_track_mode_defs.specs.FlowText.{opened_text}
use Rattle.kp_track_mode_defs.specs.TrackMode.{flow_of}
use Rattle.kp_udp_endpoints.specs.Counts.{AreCounted, Counts}

-- what was sent to an endpoint of UDP was sent to one that stands
abbrev pub AllStand : (Endpoint → Bool) → List Entry → Type 0
AllStand stands es = AllByRecursion (λ e. loses stands e ≡ false) es

-- what is kept stands for all openers: it has the live ones, those of UDP go to endpoints that stand, and as many are
-- counted of each endpoint as there are lists with it
pub record StandsFor (k : Kept) (c : Counts) (config : Config) (o : Objects) (t : Tracked) : Type 0 where
  pub kept : k ≡ kept_part t
  pub counted : AreCounted config o c
  pub standing : AllStand (stands_by config o) k.entries

-- the decision on a line's packet
abbrev pub decision_of_line : PlaneParts → ℕ → PacketLine → RecentParts → Decided
decision_of_line p number line lists = decided_in p line.packet (draws_at number line.draws) lists

-- what is printed of a flow that opens
abbrev pub open_text : PlaneParts → ℕ → PacketLine → RecentParts → Kept → List ℕ
open_text p number line lists k =
    let verdict = (decision_of_line p number line lists).verdict in
    opened_text number (syncs_in p) line verdict (walked_in p line.packet (draws_at number line.draws) lists).trail
    (keeps k (flow_of line) verdict)

-- what is kept after it
abbrev pub open_kept : PlaneParts → ℕ → PacketLine → RecentParts → Kept → Kept
open_kept p number line lists k =
    kept_after_opened k (flow_of line) (decision_of_line p number line lists).verdict
