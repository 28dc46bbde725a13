-- What lines are answered beside each other, from a snapshot.
use Rattle.std.specs.Prelude.{ℕ, ◌%◌, List, [], Result, Ok, Err}
use Rattle.kp_answers.specs.Walks.{answer_in, walk_in}
use Rattle.kp_answers.specs.declared.snapshot.Snapshot.{Snapshot}
use Rattle.kp_choice_defs.specs.Recent.{RecentParts}
use Rattle.kp_text_defs.specs.Refusals.{refusal_text}
use Rattle.kp_text_defs.specs.declared.packet.PacketLine.{PacketLine}
use Rattle.kp_base.specs.declared.memory.NoMemory.{NoMemory}
use Rattle.kp_text_defs.specs.declared.said.Said.{Said}
use Rattle.kp_text_defs.specs.declared.said.Said.TheVariants.{Nothing, Asks, Refuses}
use Rattle.kp_text_defs.specs.declared.script.Op.{Op}
use Rattle.kp_text_defs.specs.declared.script.Op.TheVariants as op
use Rattle.kp_replay.specs.declared.reads.Read.{Read}

-- the part of recent lists that a packet's line looks at
abbrev pub part_of_packet : PacketLine → ℕ
part_of_packet line = line.packet.source.number % 16

-- what it is answered from a snapshot, and the recent lists after it
abbrev pub step_of_packet : Snapshot → ℕ → PacketLine → RecentParts → List ℕ × RecentParts
step_of_packet s number line lists =
    (answer_in s number line lists, (walk_in s number line lists).lists)

-- The same of what lines say; of all but packets' lines the first part, at which they don't look.
abbrev pub part_of_op : Op → ℕ
part_of_op (op.Config config) = 0
part_of_op (op.Events events) = 0
part_of_op op.Sync = 0
part_of_op (op.Packet line) = part_of_packet line
part_of_op (op.Explain line) = 0
part_of_op (op.Show what) = 0

abbrev pub part_of_said : Said → ℕ
part_of_said Nothing = 0
part_of_said (Asks line) = part_of_op line.op
part_of_said (Refuses refusal) = 0

abbrev pub part_of_read : Result Said NoMemory → ℕ
part_of_read (Ok says) = part_of_said says
part_of_read (Err refused) = 0

abbrev pub part_of : Read → ℕ
part_of read = part_of_read read.said

-- lines that are answered nothing, and change nothing
abbrev pub unanswered : RecentParts → List ℕ × RecentParts
unanswered lists = ([], lists)

abbrev pub step_of_op : Snapshot → ℕ → Op → RecentParts → List ℕ × RecentParts
step_of_op s number (op.Config config) = unanswered
step_of_op s number (op.Events events) = unanswered
step_of_op s number op.Sync = unanswered
step_of_op s number (op.Packet line) = step_of_packet s number line
step_of_op s number (op.Explain line) = unanswered
step_of_op s number (op.Show what) = unanswered

abbrev pub step_of_said : Snapshot → ℕ → Said → RecentParts → List ℕ × RecentParts
step_of_said s number Nothing = unanswered
step_of_said s number (Asks line) = step_of_op s number line.op
step_of_said s number (Refuses refusal) = λ lists. (refusal_text number refusal, lists)

abbrev pub step_of_read : Snapshot → ℕ → Result Said NoMemory → RecentParts → List ℕ × RecentParts
step_of_read s number (Ok says) = step_of_said s number says
step_of_read s number (Err refused) = unanswered

abbrev pub step_of : Snapshot → Read → RecentParts → List ℕ × RecentParts
step_of s read = step_of_read s read.number read.said
