-- What a live run reads (this project's choice): all lines of the input, before anything is run.
-- Each is refused, passed over, or becomes work of its stream. Of the lines that read, those that
-- ask for what isn't for live are refused, then those of one stream too many, then those whose
-- events the journal has no room for. A refused line belongs to no stream.
use Rattle.std.specs.Prelude.{ℕ, suc, ◌+◌, ◌==◌, ◌&&◌, nat_lt, Bool, true, false, List, [], ◌∷◌, ◌++◌, length, not, cond, codes, bytes_eq, position, unwrap_or, is_none, Option, Some, None}
use Rattle.std.specs.List.{filter, flat_map, fold, range_with_len}
use Rattle.kp_base.specs.declared.config.Config.{Config}
use Rattle.kp_types.specs.Setting.{Settings}
use Rattle.kp_types.specs.declared.event.Event.{Event}
use Rattle.kp_choice_defs.specs.Settings.{settings_of}
use Rattle.kp_text_defs.specs.declared.line_refusal.LineRefusal.{LineRefusal}
use Rattle.kp_text_defs.specs.declared.line_refusal.LineRefusal.TheVariants.{JournalFull, NotLive, StreamsFull}
use Rattle.kp_text_defs.specs.declared.said.Said.{Said}
use Rattle.kp_text_defs.specs.declared.said.Said.TheVariants.{Nothing, Asks, Refuses}
use Rattle.kp_text_defs.specs.declared.script.Op.{Op}
use Rattle.kp_text_defs.specs.declared.script.Op.TheVariants as op
use Rattle.kp_text_defs.specs.ConfigText.{default_config}
use Rattle.kp_text_defs.specs.SaidLines.{given_as, said}
use Rattle.kp_text_defs.specs.StreamNames.{stream_name}
use Rattle.kp_run_defs.specs.declared.live.RefusedLine.{RefusedLine}
use Rattle.kp_run_defs.specs.declared.live.StreamLine.{StreamLine}
use Rattle.kp_run_defs.specs.declared.live.Work.{Work}
use Rattle.kp_run_defs.specs.declared.live.Work.TheVariants.{Feeds, Syncs, Sends}

-- ---- What is read

-- How far the reading has come: how many lines there were, whether all of them were blank, the
-- configuration, the names of the streams in the order of their first lines, how many events were
-- accepted, the lines of streams, and the refused ones.
pub record Reading : Type 0 where
  pub number : ℕ
  pub fresh : Bool
  pub config : Config
  pub streams : List (List ℕ)
  pub accepted : ℕ
  pub lines : List StreamLine
  pub refused : List RefusedLine

-- before the first line
abbrev pub nothing_read : Reading
nothing_read = record {
  number = 0;
  fresh = true;
  config = default_config;
  streams = [];
  accepted = 0;
  lines = [];
  refused = [];
}

-- ---- Streams

-- as many streams as there may be
abbrev pub stream_limit : ℕ
stream_limit = 64

-- the place of the stream of this name, if there is one
abbrev pub stream_at : List (List ℕ) → List ℕ → Option ℕ
stream_at names name = position (λ n. bytes_eq n name) names

-- the streams with that of this name, which comes last where it has no place yet
abbrev pub with_stream_at : Option ℕ → List ℕ → List (List ℕ) → List (List ℕ)
with_stream_at (Some place) name names = names
with_stream_at None name names = names ++ name ∷ []

-- a line of this stream would be of one too many
abbrev pub is_past_streams : List (List ℕ) → List ℕ → Bool
is_past_streams names name =
    is_none (stream_at names name) && not (nat_lt (length names) stream_limit)

-- ---- Steps

-- a line is refused
abbrev pub refuse_line : LineRefusal → Reading → Reading
refuse_line why r = record r {
  refused = r.refused ++ record { number = r.number; why = why } ∷ [];
}

-- the events that work feeds
abbrev pub events_fed : Work → List Event
events_fed (Feeds events) = events
events_fed Syncs = []
events_fed (Sends p) = []

-- a line is accepted as work of the stream of this name, which has this place or is the next one
abbrev pub accept_at : Option ℕ → List ℕ → Work → Reading → Reading
accept_at place name work r = record r {
  streams = with_stream_at place name r.streams;
  accepted = r.accepted + length (events_fed work);
  lines = r.lines ++ record {
    number = r.number;
    stream = unwrap_or place (length r.streams);
    work = work;
  } ∷ [];
}

-- a line is accepted as work of the stream of this name
abbrev pub accept_line : List ℕ → Work → Reading → Reading
accept_line name work r = accept_at (stream_at r.streams name) name work r

-- a line is accepted, unless its events are more than the journal has room for
abbrev pub accept_within : List ℕ → Work → Reading → Reading
accept_within name work r =
    cond (nat_lt r.config.max_events (r.accepted + length (events_fed work)))
    (refuse_line (JournalFull r.accepted) r) (accept_line name work r)

-- the same, unless its stream is one too many
abbrev pub add_work : List ℕ → Work → Reading → Reading
add_work name work r =
    cond (is_past_streams r.streams name) (refuse_line StreamsFull r) (accept_within name work r)

-- An operation of the stream of this name. A configuration belongs to no stream.
abbrev pub add_op : List ℕ → Op → Reading → Reading
add_op name (op.Config config) r = record r { config = config }
add_op name (op.Events events) r = add_work name (Feeds events) r
add_op name op.Sync r = add_work name Syncs r
add_op name (op.Packet p) r = add_work name (Sends p) r
add_op name (op.Explain p) r = refuse_line (NotLive (codes "explain")) r
add_op name (op.Show what) r = refuse_line (NotLive (codes "show")) r

-- one line more, which isn't blank
abbrev pub next_line : Reading → Reading
next_line r = record r { number = suc r.number; fresh = false }

-- one more line that says this; a blank one is counted and passed over
abbrev pub after_said : Reading → Said → Reading
after_said r Nothing = record r { number = suc r.number }
after_said r (Asks line) = add_op (stream_name line.by) line.op (next_line r)
after_said r (Refuses why) = refuse_line why (next_line r)

-- one more line as it is given: nothing of one that is too long
abbrev pub after_given : Reading → Option (List ℕ) → Reading
after_given r given = after_said r (said given r.fresh)

-- one more line
abbrev pub after_live_line : Reading → List ℕ → Reading
after_live_line r bytes = after_given r (given_as bytes)

-- the lines of an input, as they are read
abbrev pub reading_of : List (List ℕ) → Reading
reading_of lines = fold after_live_line nothing_read lines

-- lines that say this
abbrev pub reading_of_said : List Said → Reading
reading_of_said lines = fold after_said nothing_read lines

-- ---- What each stream has to do

-- what tables and decisions are told
abbrev pub settings_read : Reading → Settings
settings_read r = settings_of r.config

-- a line belongs to the stream at this place
abbrev pub is_line_of : ℕ → StreamLine → Bool
is_line_of stream line = stream == line.stream

-- the places of the streams
abbrev pub places_of : Reading → List ℕ
places_of r = range_with_len 0 (length r.streams)

-- the lines of a stream
abbrev pub lines_of_stream : Reading → ℕ → List StreamLine
lines_of_stream r stream = filter (is_line_of stream) r.lines

-- the events that a stream feeds
abbrev pub events_of_stream : Reading → ℕ → List Event
events_of_stream r stream = flat_map (λ line. events_fed line.work) (lines_of_stream r stream)

-- the names of the streams that run; where no line belongs to one, a single `main` runs
abbrev pub running_streams : Reading → List (List ℕ)
running_streams r = cond (nat_lt 0 (length r.streams)) r.streams (codes "main" ∷ [])
