-- A configuration is read from the first line alone, and before the first line there are no events.
use Rattle.std.proofs.Common.{◌≡◌, ℕ, List, [], Bool, true, false, cond, refl, ap, subst}
use Rattle.std.specs.Prelude.{Result, Ok, Err, IfOk, Option, Some, None, codes, ⊤}
use Rattle.serde_json.specs.Find.{as_object}
use Rattle.kp_json.specs.Places.{Place, member_at, needed_at, text_at}
use Rattle.kp_types.specs.declared.chain.Clash.{Clash}
use Rattle.kp_types.specs.declared.event.Event.{Event}
use Rattle.kp_event_defs.specs.EventText.{Refused, read_events}
use Rattle.kp_text_defs.specs.JsonText.{json_of}
use Rattle.kp_text_defs.specs.PacketText.{read_packet}
use Rattle.kp_text_defs.specs.ScriptLines.{◌>>=◌, or_refusal, of_members, of_events, read_stream, read_shown, Command, config, event, sync, packet, explain, show, op_of, command_of, op_named, op_at, with_stream, read_script, line_of}
use Rattle.kp_text_defs.specs.declared.line_refusal.LineRefusal.{LineRefusal}
use Rattle.kp_text_defs.specs.declared.line_refusal.LineRefusal.TheVariants.{BadJson, NotEvent}
use Rattle.kp_text_defs.specs.declared.script.Op.{Op}
use Rattle.kp_text_defs.specs.declared.script.Op.TheVariants as op
use Rattle.kp_text_defs.specs.declared.script.ScriptLine.{ScriptLine}
use Rattle.kp_text_defs.specs.declared.stream.Stream.{Stream}
use Rattle.kp_text_defs.specs.declared.said.Said.{Said}
use Rattle.kp_text_defs.specs.declared.said.Said.TheVariants.{Nothing, Asks, Refuses}
use Rattle.kp_text_defs.specs.SaidLines.{is_blank, said, said_of}
use Rattle.kp_run_defs.specs.ReplayText.{Standing, events_line, given_line, op_line, said_line, sync_line}
use Rattle.kp_line_laws.specs.Lines.{HasNoEvents, IsReady, MaySay, MayTake}

-- ---- What is read from a later line

-- no configuration
abbrev pub NotConfig : Op → Type 0
NotConfig (op.Config c) = ⊥
NotConfig (op.Events events) = ⊤
NotConfig op.Sync = ⊤
NotConfig (op.Packet p) = ⊤
NotConfig (op.Explain p) = ⊤
NotConfig (op.Show what) = ⊤

-- what holds of all that a reading may give
bound : {A B : Type 0} (P : B → Type 0) (r : Result A LineRefusal) (f : A → Result B LineRefusal) → ((x : A) → IfOk (f x) P) → IfOk (r >>= f) P
bound P (Ok x) f h = h x
bound P (Err e) f h = tt

events_free : (r : Result (List Event) Refused) → IfOk (of_events r) NotConfig
events_free (Ok events) = tt
events_free (Err why) = tt

op_free : (p : Place) (c : Command) → IfOk (op_of false p c) NotConfig
op_free p config = tt
op_free p event = bound NotConfig (of_members (needed_at p (codes "event"))) (λ q. of_events (read_events q)) (λ q. events_free (read_events q))
op_free p sync = tt
op_free p packet = bound NotConfig (of_members (read_packet p)) (λ x. Ok (op.Packet x)) (λ x. tt)
op_free p explain = bound NotConfig (of_members (read_packet p)) (λ x. Ok (op.Explain x)) (λ x. tt)
op_free p show = bound NotConfig (of_members (read_shown p)) (λ x. Ok (op.Show x)) (λ x. tt)

at_free : (p : Place) (at : Option Place) → IfOk (op_at false p at) NotConfig
at_free p None = events_free (read_events p)
at_free p (Some q) = bound NotConfig (of_members (text_at q)) (op_named false p) (λ name. bound NotConfig (command_of name) (op_of false p) (op_free p))

abbrev pub IsFree : ScriptLine → Type 0
IsFree line = NotConfig line.op

line_free : (stream : Stream) (r : Result Op LineRefusal) → IfOk r NotConfig → IfOk (r >>= with_stream stream) IsFree
line_free stream (Ok o) h = h
line_free stream (Err e) h = tt

script_free : (p : Place) → IfOk (read_script false p) IsFree
script_free p =
    bound IsFree (or_refusal NotEvent (as_object p.value))
    (λ _ms. of_members (read_stream p) >>= λ stream. op_at false p (member_at p (codes "op")) >>= with_stream stream) (λ _ms.
    bound IsFree (of_members (read_stream p)) (λ stream. op_at false p (member_at p (codes "op")) >>= with_stream stream) (λ stream.
    line_free stream (op_at false p (member_at p (codes "op"))) (at_free p (member_at p (codes "op")))))

pub later_free : (bytes : List ℕ) → IfOk (line_of bytes false) IsFree
later_free bytes = bound IsFree (or_refusal BadJson (json_of bytes)) (λ d. read_script false (record { value = d; path = [] })) (λ d. script_free (record { value = d; path = [] }))

-- ---- What a line may ask for

free_op : (s : Standing) (o : Op) → NotConfig o → MayTake s o
free_op s (op.Config c) h = absurd h
free_op s (op.Events events) h = tt
free_op s op.Sync h = tt
free_op s (op.Packet p) h = tt
free_op s (op.Explain p) h = tt
free_op s (op.Show what) h = tt

early_op : (s : Standing) (o : Op) → HasNoEvents s → MayTake s o
early_op s (op.Config c) h = h
early_op s (op.Events events) h = tt
early_op s op.Sync h = tt
early_op s (op.Packet p) h = tt
early_op s (op.Explain p) h = tt
early_op s (op.Show what) h = tt

-- what a line asks for that was read may come
pub may_take : (s : Standing) (bytes : List ℕ) (first : Bool) (line : ScriptLine) → (first ≡ true → HasNoEvents s) → line_of bytes first ≡ Ok line → MayTake s line.op
may_take s bytes true line ready read = early_op s line.op (ready refl)
may_take s bytes false line ready read = free_op s line.op (subst (λ r. IfOk r IsFree) read (later_free bytes))

-- ---- Ready for the next line

events_fresh : (number : ℕ) (events : List Event) (room : Bool) (s : Standing) → (events_line number events room s).next.fresh ≡ s.fresh
events_fresh number events true s = refl
events_fresh number events false s = refl

sync_fresh : (number : ℕ) (clash : Option Clash) (s : Standing) → (sync_line number clash s).next.fresh ≡ s.fresh
sync_fresh number (Some clash) s = refl
sync_fresh number None s = refl

pub op_fresh : (number : ℕ) (o : Op) (s : Standing) → (op_line number o s).next.fresh ≡ s.fresh
op_fresh number (op.Config c) s = refl
op_fresh number (op.Events events) s = events_fresh number events _ s
op_fresh number op.Sync s = sync_fresh number _ s
op_fresh number (op.Packet p) s = refl
op_fresh number (op.Explain p) s = refl
op_fresh number (op.Show what) s = refl

pub no_longer : (s : Standing) → s.fresh ≡ false → IsReady s
no_longer s h = λ e. absurd (cc)

said_ready : (number : ℕ) (says : Said) (s : Standing) → IsReady s → IsReady (said_line number says s).next
said_ready number Nothing s ready = ready
said_ready number (Asks line) s ready = no_longer _ (op_fresh number line.op (record s { fresh = false }))
said_ready number (Refuses refusal) s ready = no_longer (record s { fresh = false; refused = true }) refl

-- behind a line the next one may come
pub next_ready : (number : ℕ) (given : Option (List ℕ)) (s : Standing) → IsReady s → IsReady (given_line number given s).next
next_ready number given s ready = said_ready number (said given s.fresh) s ready

-- ---- What a line may ask for that is given

asked : (r : Result ScriptLine LineRefusal) (line : ScriptLine) → said_of r ≡ Asks line → r ≡ Ok line
asked (Ok l) line h = let same : l ≡ line = cc in ap Ok same
asked (Err e) line h = absurd (cc)

asked_short : (blank : Bool) (r : Result ScriptLine LineRefusal) (line : ScriptLine) → cond blank Nothing (said_of r) ≡ Asks line → r ≡ Ok line
asked_short true r line h = absurd (cc)
asked_short false r line h = asked r line h

-- what is asked for was read of its bytes
pub asked_by : (given : Option (List ℕ)) (first : Bool) (line : ScriptLine) → said given first ≡ Asks line → (bytes : List ℕ) × (line_of bytes first ≡ Ok line)
asked_by None first line h = absurd (cc)
asked_by (Some bytes) first line h = (bytes, asked_short (is_blank bytes) (line_of bytes first) line h)

may_by : (s : Standing) (given : Option (List ℕ)) → IsReady s → (says : Said) → said given s.fresh ≡ says → MaySay s says
may_by s given ready Nothing is = tt
may_by s given ready (Asks line) is =
    let read = asked_by given s.fresh line is in
    may_take (record s { fresh = false }) read.0 s.fresh line
    (λ first. let none = ready first in record { events = none.events; counts = none.counts }) read.1
may_by s given ready (Refuses refusal) is = tt

-- and may come
pub may_say : (s : Standing) (given : Option (List ℕ)) → IsReady s → MaySay s (said given s.fresh)
may_say s given ready = may_by s given ready (said given s.fresh) refl
