-- Packets that are answered and explained from what is seen of their parts.
use Rattle.std.proofs.Common.{◌≡◌, ◌++◌, ℕ, List, ◌∙◌}
use Rattle.kp_answers.specs.Walks.{answer_in, walk_in}
use Rattle.kp_answers.specs.declared.snapshot.Snapshot.{Snapshot}
use Rattle.kp_choice_defs.specs.Recent.{RecentParts}
use Rattle.kp_mode_defs.specs.Mode.{standing_at}
use Rattle.kp_plane.specs.Parts.{PlaneParts, decided_in, explained_in, objects_in, settings_in, syncs_in, walked_in}
use Rattle.kp_run_defs.specs.ReplayText.{answer_text, draws_at, packet_line}
use Rattle.kp_text_defs.specs.declared.packet.PacketLine.{PacketLine}
use Rattle.kp_types.specs.declared.packet.Packet.{Packet}
use Rattle.kp_walk_laws.specs.Laws.{Agree}
use Rattle.kp_workers.specs.Workers.{SeesAs}
use Rattle.kp_workers.proofs.AnswerLemmas.{sees_decides}
use Rattle.kp_mode.specs.Calls.{covered_by}

-- what is answered from a snapshot is the line of a replay
pub text_alike : (number : ℕ) (p : PacketLine) (plane : PlaneParts) (s : Snapshot) (lists : RecentParts)
    (before now : List ℕ) → s.sync ≡ syncs_in plane
    → walk_in s number p lists ≡ walked_in plane p.packet (draws_at number p.draws) lists
    → Agree (walk_in s number p lists) (decided_in plane p.packet (draws_at number p.draws) lists)
    → now ≡ before ++ answer_in s number p lists
    → now ≡ before ++ (packet_line number p (standing_at (covered_by plane) lists)).text
text_alike number p plane s lists before now syncs walk agree text =
    text ∙ (λ i. before ++ answer_text number (syncs i) p (agree.verdict i) (walk i).trail)

-- explanations by recent lists that have in the part of a packet's source what others have are the same
pub explained_alike : (plane : PlaneParts) (packet : Packet) (draws : ℕ → ℕ) (own all : RecentParts)
    → SeesAs packet.source own all
    → explained_in plane packet draws own ≡ explained_in plane packet draws all
explained_alike plane packet draws own all sees =
    let same = sees_decides (settings_in plane) (objects_in plane) packet draws own all sees in
    λ i. record { verdict = same.0 i; reason = same.1 i }
