-- What lines of a stream are answered, and how that is kept until it is printed.
use Rattle.std.specs.Prelude.{◌≡◌, ℕ, Bool, true, false, cond, List, [], ◌∷◌, ◌++◌, map, length, Option, Some, None, string_bytes}
use Rattle.std.specs.List.{flat_map}
use Rattle.kp_base.specs.declared.key.Endpoint.{Endpoint}
use Rattle.kp_types.specs.declared.chain.Clash.{Clash}
use Rattle.kp_types.specs.declared.verdict.Verdict.{Verdict}
use Rattle.kp_types.specs.declared.verdict.Verdict.TheVariants as verdicts
use Rattle.kp_table_defs.specs.Walk.{Walked}
use Rattle.kp_text_defs.specs.declared.packet.PacketLine.{PacketLine}
use Rattle.kp_run_defs.specs.AnswerText.{answer_text}
use Rattle.kp_live.specs.declared.answers.Answer.{Answer}
use Rattle.kp_live.specs.declared.answers.Answer.TheVariants as answer
use Rattle.kp_live.specs.declared.answers.Answers.{Answers}
use Rattle.kp_live.specs.declared.answers.ToldOn.{ToldOn}
use Rattle.kp_live.specs.declared.answers.Piece.{Piece}
use Rattle.kp_live.specs.declared.answers.Piece.TheVariants as piece

-- What a line that syncs or sends a packet is answered: a text, or what becomes of its packet by
-- the sync of this number, or the two chains of one name for which a sync was refused, whose text
-- isn't known before the run has ended.
pub data Told : Type 0 where
  Says : List ℕ → Told
  Decides : ℕ → Verdict → Told
  Denies : Clash → Told

-- what a packet's line is told by the walk through the table of a sync: a text where it asks for
-- its trail
abbrev pub packet_told : ℕ → ℕ → PacketLine → Walked → Told
packet_told number sync line w =
    cond line.trail (Says (answer_text number sync line w.verdict w.trail))
    (Decides sync w.verdict)

-- the text that is kept of it
abbrev pub bytes_told : Told → List ℕ
bytes_told (Says bytes) = bytes
bytes_told (Decides sync verdict) = []
bytes_told (Denies clash) = []

-- the clash that refused it
abbrev pub clashes_told : Told → List Clash
clashes_told (Says bytes) = []
clashes_told (Decides sync verdict) = []
clashes_told (Denies clash) = clash ∷ []

-- what is kept of a packet that goes to an endpoint, by whether its source is masqueraded
abbrev pub piece_to : ℕ → Endpoint → Bool → Piece
piece_to sync endpoint true = piece.Masked sync endpoint
piece_to sync endpoint false = piece.To sync endpoint

-- what is kept of what becomes of a packet
abbrev pub piece_decided : ℕ → Verdict → Piece
piece_decided sync (verdicts.To endpoint masked) = piece_to sync endpoint masked
piece_decided sync verdicts.Rejected = piece.Rejected sync
piece_decided sync verdicts.Dropped = piece.Dropped sync
piece_decided sync verdicts.LeftAlone = piece.LeftAlone sync

-- what becomes of the packet, by what is kept of it, and the number of its sync
abbrev pub decided_in : Piece → Option (ℕ × Verdict)
decided_in (piece.Text bytes) = None
decided_in (piece.To sync endpoint) = Some (sync, verdicts.To endpoint false)
decided_in (piece.Masked sync endpoint) = Some (sync, verdicts.To endpoint true)
decided_in (piece.Rejected sync) = Some (sync, verdicts.Rejected)
decided_in (piece.Dropped sync) = Some (sync, verdicts.Dropped)
decided_in (piece.LeftAlone sync) = Some (sync, verdicts.LeftAlone)
decided_in piece.Refusal = None

-- what is kept of a line's answer beside its text and its clash
abbrev pub piece_told : Told → Piece
piece_told (Says bytes) = piece.Text (length bytes)
piece_told (Decides sync verdict) = piece_decided sync verdict
piece_told (Denies clash) = piece.Refusal

-- These answers are in order what is kept as one text, pieces and clashes.
pub record Keeps
    (text : List ℕ) (pieces : List Piece) (clashes : List Clash) (told : List Told) : Type 0 where
  pub text_is : text ≡ flat_map bytes_told told
  pub pieces_are : pieces ≡ map piece_told told
  pub clashes_are : clashes ≡ flat_map clashes_told told

-- what answers hold
abbrev pub Holds : Answers → List Told → Type 0
Holds a told = Keeps (string_bytes a.text) a.pieces.items a.clashes.items told

-- The text of one more answer stands behind what they hold, of which there are so many bytes.
pub record HasText (a : Answers) (before : ℕ) (told : List Told) (bytes : List ℕ) : Type 0 where
  pub text_is : string_bytes a.text ≡ flat_map bytes_told told ++ bytes
  pub before_is : before ≡ length (flat_map bytes_told told)
  pub pieces_are : a.pieces.items ≡ map piece_told told
  pub clashes_are : a.clashes.items ≡ flat_map clashes_told told

-- what is left of answers that are told one by one
abbrev pub HoldsOn : ToldOn → List Told → Type 0
HoldsOn t told = Keeps t.text.now t.pieces.now t.clashes.now told

-- it is this answer
abbrev pub IsAnswer : Option Answer → Told → Type 0
IsAnswer None told = ⊥
IsAnswer (Some (answer.Text bytes)) told = told ≡ Says bytes.now
IsAnswer (Some (answer.Decision sync verdict)) told = told ≡ Decides sync verdict
IsAnswer (Some (answer.Refusal clash)) told = told ≡ Denies clash.now
