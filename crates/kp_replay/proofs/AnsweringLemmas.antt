-- Lines that are answered beside each other: each looks at one part of the recent lists, and does
-- what it does alone.
use Rattle.std.proofs.Common.{◌≡◌, ℕ, Bool, true, false, List, [], ◌++◌, ◌||◌, ap, refl, sym, ◌∙◌}
use Rattle.std.specs.Prelude.{Ok, Err}
use Rattle.std.specs.List.{concat, list_any}
use Rattle.std.proofs.Math.Bool.{or-false}
use Rattle.kp_answers.specs.Walks.{answer_in, walk_in}
use Rattle.kp_answers.specs.declared.snapshot.Snapshot.{Snapshot}
use Rattle.kp_choice_defs.specs.Recent.{RecentParts}
use Rattle.kp_part_laws.specs.Beside.{IsInPart, one_by_one}
use Rattle.kp_plane.specs.Parts as parts
use Rattle.kp_plane.specs.Parts.{decided_in, walked_in}
use Rattle.kp_run_defs.specs.ReplayText.{answer_text, draws_at, op_line, packet_line}
use Rattle.kp_text_defs.specs.declared.packet.PacketLine.{PacketLine}
use Rattle.kp_text_defs.specs.declared.said.Said.{Said}
use Rattle.kp_text_defs.specs.declared.said.Said.TheVariants.{Nothing, Asks, Refuses}
use Rattle.kp_text_defs.specs.declared.script.Op.{Op}
use Rattle.kp_text_defs.specs.declared.script.Op.TheVariants as op
use Rattle.kp_walk_laws.specs.Laws.{Agree}
use Rattle.kp_replay.specs.Answering.{part_of, part_of_op, part_of_read, part_of_said, step_of, step_of_op, step_of_read, step_of_said}
use Rattle.kp_replay.specs.Groups.{AreAside, ReadAs, as_read, goes_aside, is_packet, is_refusal, is_refused, later_line, may_go_aside, reads_line, refuses}
use Rattle.kp_replay.specs.Steps.{Takes, standing_of}
use Rattle.kp_replay.specs.declared.reads.Read.{Read}
use Rattle.kp_replay.specs.declared.replay.Replay.{Replay}
use Rattle.kp_workers.proofs.AnswerLemmas.{answer_in_part}
use Rattle.kp_replay.proofs.GroupLemmas.{Asides, asides, with_lists}

-- ---- One part

op_in_part : (s : Snapshot) (number : ℕ) (o : Op) → IsInPart (part_of_op o) (step_of_op s number o)
op_in_part s number (op.Config config) = λ change lists unseen. refl
op_in_part s number (op.Events events) = λ change lists unseen. refl
op_in_part s number op.Sync = λ change lists unseen. refl
op_in_part s number (op.Packet line) = answer_in_part s number line
op_in_part s number (op.Explain line) = λ change lists unseen. refl
op_in_part s number (op.Show what) = λ change lists unseen. refl

said_in_part : (s : Snapshot) (number : ℕ) (says : Said)
    → IsInPart (part_of_said says) (step_of_said s number says)
said_in_part s number Nothing = λ change lists unseen. refl
said_in_part s number (Asks line) = op_in_part s number line.op
said_in_part s number (Refuses refusal) = λ change lists unseen. refl

as_in_part : (s : Snapshot) (number : ℕ) (said : ReadAs)
    → IsInPart (part_of_read said) (step_of_read s number said)
as_in_part s number (Ok says) = said_in_part s number says
as_in_part s number (Err refused) = λ change lists unseen. refl

-- a line
pub read_in_part : (s : Snapshot) (read : Read) → IsInPart (part_of read) (step_of s read)
read_in_part s read = as_in_part s read.number read.said

-- ---- What a replay does

or_one : (b : Bool) → b || true ≡ true
or_one true = refl
or_one false = refl

module _ (r : Replay) (s : Snapshot) (syncs : s.sync ≡ parts.syncs_in r.plane)
    (walks : (number : ℕ) (line : PacketLine) (lists : RecentParts) → walk_in s number line lists
    ≡ walked_in r.plane line.packet (draws_at number line.draws) lists)
    (agrees : (number : ℕ) (line : PacketLine) (lists : RecentParts)
    → Agree (walk_in s number line lists)
    (decided_in r.plane line.packet (draws_at number line.draws) lists)) where
  packet_aside : (number : ℕ) (line : PacketLine) (lists : RecentParts) (refused : Bool)
      → packet_line number line (with_lists (standing_of r) lists refused) ≡ record {
        text = answer_in s number line lists;
        next = with_lists (standing_of r) (walk_in s number line lists).lists (refused || false);
      }
  packet_aside number line lists refused =
      let agree = agrees number line lists in
      λ i. record {
        text =
            answer_text number (sym syncs i) line (sym agree.verdict i)
            (sym (walks number line lists) i).trail;
        next = with_lists (standing_of r) (sym agree.lists i) (sym (or-false refused) i);
      }

  op_aside : (number : ℕ) (o : Op) → is_packet o ≡ true → (lists : RecentParts) (refused : Bool)
      → op_line number o (with_lists (standing_of r) lists refused) ≡ record {
        text = (step_of_op s number o lists).0;
        next = with_lists (standing_of r) (step_of_op s number o lists).1 (refused || false);
      }
  op_aside number (op.Config config) h = absurd (cc)
  op_aside number (op.Events events) h = absurd (cc)
  op_aside number op.Sync h = absurd (cc)
  op_aside number (op.Packet line) h = packet_aside number line
  op_aside number (op.Explain line) h = absurd (cc)
  op_aside number (op.Show what) h = absurd (cc)

  said_aside : (number : ℕ) (says : Said) → goes_aside says ≡ true → (lists : RecentParts) (refused : Bool)
      → later_line number says (with_lists (standing_of r) lists refused) ≡ record {
        text = (step_of_said s number says lists).0;
        next = with_lists (standing_of r) (step_of_said s number says lists).1 (refused || refuses says);
      }
  said_aside number Nothing h lists refused =
      λ i. record { text = []; next = with_lists (standing_of r) lists (sym (or-false refused) i) }
  said_aside number (Asks line) h lists refused = op_aside number line.op h lists refused
  said_aside number (Refuses refusal) h lists refused = λ i. record {
    text = (step_of_said s number (Refuses refusal) lists).0;
    next = with_lists (standing_of r) lists (sym (or_one refused) i);
  }

  as_aside : (number : ℕ) (said : ReadAs) → may_go_aside said ≡ true → (lists : RecentParts) (refused : Bool)
      → as_read number said (with_lists (standing_of r) lists refused) ≡ record {
        text = (step_of_read s number said lists).0;
        next = with_lists (standing_of r) (step_of_read s number said lists).1 (refused || is_refusal said);
      }
  as_aside number (Ok says) h lists refused = said_aside number says h lists refused
  as_aside number (Err refusal) h lists refused = absurd (cc)

  -- lines that are answered beside others do what their steps say
  pub answered_aside : Asides (step_of s) (standing_of r)
  answered_aside read h lists refused = as_aside read.number read.said h lists refused

  -- all of them were answered
  pub answered_all : (reads : List Read) → AreAside reads → (lists : RecentParts) (refused : Bool)
      (before now : List ℕ) → refused ≡ (r.refused || list_any is_refused reads)
      → lists ≡ (one_by_one (step_of s) reads r.lists).1
      → now ≡ before ++ concat (one_by_one (step_of s) reads r.lists).0
      → Takes (reads_line reads (standing_of r)) (with_lists (standing_of r) lists refused) before now
  answered_all reads aside lists refused before now are left text =
      let all = asides (step_of s) (standing_of r) answered_aside reads aside r.lists r.refused in
      record {
        stands =
            (λ i. with_lists (standing_of r) (left i) (are i)) ∙ ap (λ line. line.next) (sym all);
        text = text ∙ ap (λ line. before ++ line.text) (sym all);
      }
