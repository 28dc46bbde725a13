-- Lines of a script (this project's choice). A line is a JSON object: a command, or an event text, which is read as
-- Kubernetes prints objects. The first fault in the order of reading counts: no object, the stream, the command's name,
-- its place, and its members by their rows.
use Rattle.std.specs.Prelude.{ℕ, Bool, true, false, List, [], ◌∷◌, codes, bytes_eq, Option, Some, None, Result, Ok, Err}
use Rattle.std.specs.Map.{lookup}
use Rattle.serde_json.specs.Find.{as_object}
use Rattle.kp_json.specs.Places.{Place, member_at, needed_at, text_at}
use Rattle.kp_json.specs.declared.fault.BadField.{BadField}
use Rattle.kp_types.specs.declared.event.Event.{Event}
use Rattle.kp_row_defs.specs.Fields.{text_in, chosen, texts_of}
use Rattle.kp_row_defs.specs.Rows.{Row, field, needed, optional, filled_port_name_text, choice, row_fault, unless_fault}
use Rattle.kp_event_defs.specs.EventText.{Refused, not_event, unsupported, bad_field, read_events}
use Rattle.kp_text_defs.specs.JsonText.{json_of}
use Rattle.kp_text_defs.specs.StreamNames.{stream_of}
use Rattle.kp_text_defs.specs.declared.script.Op.{Op}
use Rattle.kp_text_defs.specs.declared.script.Op.TheVariants as op
use Rattle.kp_text_defs.specs.declared.script.Shown.{Shown}
use Rattle.kp_text_defs.specs.declared.script.Shown.TheVariants.{Slices, Endpoints, Nat, Filter, Batch, Nat6, Filter6, Batch6}
use Rattle.kp_text_defs.specs.declared.script.ScriptLine.{ScriptLine}
use Rattle.kp_text_defs.specs.declared.stream.Stream.{Stream}
use Rattle.kp_text_defs.specs.declared.line_refusal.LineRefusal.{LineRefusal}
use Rattle.kp_text_defs.specs.declared.line_refusal.LineRefusal.TheVariants.{BadJson, NotEvent, UnsupportedKind, Bad, UnknownOp, ConfigLate}
use Rattle.kp_text_defs.specs.ConfigText.{read_config}
use Rattle.kp_text_defs.specs.PacketText.{read_packet}

infixl 10 ◌>>=◌
-- one reading behind another, up to the first refusal
abbrev pub ◌>>=◌ : {A B : Type 0} → Result A LineRefusal → (A → Result B LineRefusal) → Result B LineRefusal
(Ok x) >>= f = f x
(Err refusal) >>= f = Err refusal

-- what has to be there, or else this refusal
abbrev pub or_refusal : {A : Type 0} → LineRefusal → Option A → Result A LineRefusal
or_refusal refusal None = Err refusal
or_refusal refusal (Some x) = Ok x

-- the reading of members
abbrev pub of_members : {A : Type 0} → Result A BadField → Result A LineRefusal
of_members (Ok x) = Ok x
of_members (Err fault) = Err (Bad fault)

-- why a line is refused whose events are
abbrev pub of_refused : Refused → LineRefusal
of_refused not_event = NotEvent
of_refused (unsupported kind) = UnsupportedKind kind
of_refused (bad_field fault) = Bad fault

-- the reading of events
abbrev pub of_events : Result (List Event) Refused → Result Op LineRefusal
of_events (Ok events) = Ok (op.Events events)
of_events (Err why) = Err (of_refused why)

-- the row of a line's stream, which matters where streams run side by side
abbrev pub stream_row : Row
stream_row = field (codes "by") optional filled_port_name_text

-- the stream of a line
abbrev pub stream_from : Place → Stream
stream_from p = stream_of (text_in (codes "by") p)

-- the stream of the line at a place, or the fault of its row
abbrev pub read_stream : Place → Result Stream BadField
read_stream p = unless_fault (row_fault stream_row p) (stream_from p)

-- what may be shown
abbrev pub shows : List (List ℕ × Shown)
shows =
    (codes "slices", Slices) ∷ (codes "endpoints", Endpoints) ∷ (codes "nat", Nat) ∷ (codes "filter", Filter)
    ∷ (codes "batch", Batch) ∷ (codes "nat6", Nat6) ∷ (codes "filter6", Filter6)
    ∷ (codes "batch6", Batch6) ∷ []

-- the row of what is shown
abbrev pub show_row : Row
show_row = field (codes "what") needed (choice (texts_of shows))

-- what is shown at a place, or the fault of its row
abbrev pub read_shown : Place → Result Shown BadField
read_shown p = unless_fault (row_fault show_row p) (chosen shows Slices (text_in (codes "what") p))

-- the commands
pub data Command : Type 0 where
  config : Command
  event : Command
  sync : Command
  packet : Command
  explain : Command
  show : Command

-- the names of the commands
abbrev pub commands : List (List ℕ × Command)
commands =
    (codes "config", config) ∷ (codes "event", event) ∷ (codes "sync", sync) ∷ (codes "packet", packet)
    ∷ (codes "explain", explain) ∷ (codes "show", show) ∷ []

-- what is read, as an operation
abbrev pub as_op : {A : Type 0} → (A → Op) → Result A BadField → Result Op LineRefusal
as_op of read = of_members read >>= λ x. Ok (of x)

-- a configuration, where the line is the first
abbrev pub config_op : Bool → Place → Result Op LineRefusal
config_op true p = as_op op.Config (read_config p)
config_op false p = Err ConfigLate

-- the events of a member, which has to be there
abbrev pub event_op : Place → Result Op LineRefusal
event_op p = of_members (needed_at p (codes "event")) >>= λ q. of_events (read_events q)

-- the operation of a command
abbrev pub op_of : Bool → Place → Command → Result Op LineRefusal
op_of first p config = config_op first p
op_of first p event = event_op p
op_of first p sync = Ok op.Sync
op_of first p packet = as_op op.Packet (read_packet p)
op_of first p explain = as_op op.Explain (read_packet p)
op_of first p show = as_op op.Show (read_shown p)

-- the command of a name
abbrev pub command_of : List ℕ → Result Command LineRefusal
command_of name = or_refusal (UnknownOp name) (lookup (bytes_eq name) commands)

-- the operation of a command by its name
abbrev pub op_named : Bool → Place → List ℕ → Result Op LineRefusal
op_named first p name = command_of name >>= op_of first p

-- the operation of a line by its member `op`; without one it is an event text
abbrev pub op_at : Bool → Place → Option Place → Result Op LineRefusal
op_at first p None = of_events (read_events p)
op_at first p (Some q) = of_members (text_at q) >>= op_named first p

-- the line of a stream and an operation
abbrev pub with_stream : Stream → Op → Result ScriptLine LineRefusal
with_stream stream operation = Ok (record { by = stream; op = operation })

-- the line at a place, or why it is refused
abbrev pub read_script : Bool → Place → Result ScriptLine LineRefusal
read_script first p = do
  _ms ← or_refusal NotEvent (as_object p.value)
  stream ← of_members (read_stream p)
  operation ← op_at first p (member_at p (codes "op"))
  with_stream stream operation

-- the line that bytes are, or why they are refused; it may be the first of a script or a later one
abbrev pub line_of : List ℕ → Bool → Result ScriptLine LineRefusal
line_of bytes first =
    or_refusal BadJson (json_of bytes) >>= λ d. read_script first (record { value = d; path = [] })
