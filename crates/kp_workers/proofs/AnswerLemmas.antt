-- What a line is answered, as a step in the part of its packet's source, and what such a packet
-- can't tell.
use Rattle.std.proofs.Common.{◌≡◌, ℕ, ◌%◌, List, ap, sym, ◌∙◌}
use Rattle.std.specs.FinMap.{get}
use Rattle.kp_choice_defs.specs.Recent.{RecentParts}
use Rattle.kp_door_defs.specs.Decision.{Decided, decision_of}
use Rattle.kp_object_defs.specs.Objects.{Objects}
use Rattle.kp_part_laws.specs.Beside.{IsInPart}
use Rattle.kp_part_laws.specs.Unseen.{kept_parts}
use Rattle.kp_part_laws.proofs.Decisions.{decides_unseen}
use Rattle.kp_part_laws.proofs.Pointwise.{parts_unseen}
use Rattle.kp_part_laws.proofs.Steps.{walk_in_part}
use Rattle.kp_run_defs.specs.AnswerText.{answer_text, draws_at}
use Rattle.kp_text_defs.specs.declared.packet.PacketLine.{PacketLine}
use Rattle.kp_types.specs.Setting.{Settings}
use Rattle.kp_types.specs.declared.packet.Packet.{Packet}
use Rattle.kp_types.specs.declared.verdict.Verdict.{Verdict}
use Rattle.kp_answers.specs.Walks.{answer_in, walk_in}
use Rattle.kp_answers.specs.declared.snapshot.Snapshot.{Snapshot}
use Rattle.kp_workers.specs.Workers.{SeesAs}

module _ (s : Snapshot) (number : ℕ) (line : PacketLine) where
  -- what is told of the walk of its packet, and the recent lists after it
  abbrev pub telling : {B : Type 0} → (Verdict → List (List (List ℕ)) → B)
      → RecentParts → B × RecentParts
  telling tell lists = let w = walk_in s number line lists in (tell w.verdict w.trail, w.lists)

  -- it looks at the part of the packet's source alone
  pub told_in_part : {B : Type 0} (tell : Verdict → List (List (List ℕ)) → B)
      → IsInPart (line.packet.source.number % 16) (telling tell)
  told_in_part tell =
      walk_in_part tell (get s.table.now.chains) s.node.now line.packet (draws_at number line.draws)

  -- what the line is answered, and the recent lists after it
  abbrev pub answering : RecentParts → List ℕ × RecentParts
  answering lists = (answer_in s number line lists, (walk_in s number line lists).lists)

  pub answer_in_part : IsInPart (line.packet.source.number % 16) answering
  answer_in_part =
      told_in_part (λ verdict trail. answer_text number s.sync line verdict trail)

-- lists that a packet can't tell from others decide on it alike, for the same reason
pub sees_decides : (settings : Settings) (objects : Objects) (packet : Packet) (draws : ℕ → ℕ)
    (own all : RecentParts) → SeesAs packet.source own all
    → ((decision_of settings objects packet draws own).verdict
    ≡ (decision_of settings objects packet draws all).verdict)
    × ((decision_of settings objects packet draws own).reason
    ≡ (decision_of settings objects packet draws all).reason)
sees_decides settings objects packet draws own all (keeps, has, same) =
    let decide = decision_of settings objects packet draws in
    let unseen = parts_unseen keeps packet.source has in
    let mine = decides_unseen (kept_parts keeps) settings objects packet draws own unseen in
    let theirs = decides_unseen (kept_parts keeps) settings objects packet draws all unseen in (
      ap (λ (d : Decided). d.verdict) (sym mine ∙ ap decide same ∙ theirs),
      ap (λ (d : Decided). d.reason) (sym mine ∙ ap decide same ∙ theirs),
    )
