-- Worked examples of live runs: how lines are read, one run that is legal, and for each condition
-- of a legal run some that break it. The lines are given as they were read.
use Rattle.std.specs.Prelude.{◌≡◌, ◌<◌, ◌-◌, ◌^◌, ℕ, false, List, [], ◌∷◌, map, get_or, codes}
use Rattle.std.proofs.lemmas.List.Elements.{All-nil}
use Rattle.std.specs.List.{range_with_len}
use Rattle.kp_base.specs.Net.{v4_address}
use Rattle.kp_base.specs.declared.key.PortKey.{PortKey}
use Rattle.kp_base.specs.declared.port.Proto.TheVariants.{Tcp}
use Rattle.kp_types.specs.declared.chain.ChainKey.TheVariants.{Port}
use Rattle.kp_types.specs.declared.chain.Clash.{Clash}
use Rattle.kp_types.specs.declared.chain.PortChain.TheVariants.{Svc, Ext}
use Rattle.kp_types.specs.declared.event.Event.{Event}
use Rattle.kp_types.specs.declared.event.Event.TheVariants.{Delete}
use Rattle.kp_types.specs.declared.event.Kind.TheVariants as kind
use Rattle.kp_types.specs.declared.packet.Origin.TheVariants.{Wire}
use Rattle.kp_history_defs.specs.declared.fed.Fed.{Fed}
use Rattle.kp_text_defs.specs.declared.draws.Draws.TheVariants as draws
use Rattle.kp_text_defs.specs.declared.line_refusal.LineRefusal.{LineRefusal}
use Rattle.kp_text_defs.specs.declared.line_refusal.LineRefusal.TheVariants.{BadJson, JournalFull, NotLive, StreamsFull}
use Rattle.kp_text_defs.specs.declared.packet.PacketLine.{PacketLine}
use Rattle.kp_text_defs.specs.declared.said.Said.{Said}
use Rattle.kp_text_defs.specs.declared.said.Said.TheVariants.{Asks, Refuses}
use Rattle.kp_text_defs.specs.declared.script.Op.{Op}
use Rattle.kp_text_defs.specs.declared.script.Op.TheVariants as op
use Rattle.kp_text_defs.specs.declared.script.Shown.TheVariants.{Nat}
use Rattle.kp_text_defs.specs.declared.stream.Stream.TheVariants.{Named}
use Rattle.kp_text_defs.specs.ConfigText.{default_config}
use Rattle.kp_run_defs.specs.declared.live.RefusedLine.{RefusedLine}
use Rattle.kp_run_defs.specs.LiveLines.{Reading, nothing_read, after_said, reading_of_said, running_streams, stream_limit}
use Rattle.kp_run_defs.specs.LegalRuns.{Mark, Shows, Refuses, LiveRun, IsLegalRun}

-- ---- Lines

-- a line as it was read
abbrev pub Read : Type 0
Read = Said

-- a line of a stream
abbrev pub by : List ℕ → Op → Read
by name operation = Asks (record { by = Named name; op = operation })

-- a pod is gone
abbrev pub gone : List ℕ → Event
gone name = Delete kind.Pod (record { namespace = codes "default"; name = name })

-- a packet
abbrev pub sent : PacketLine
sent = record {
  packet = record {
    from = Wire;
    source = v4_address 1;
    target = v4_address 2;
    proto = Tcp;
    port = 80;
    now = 0;
  };
  source_port = 0;
  draws = draws.List [];
  trail = false;
  low = All-nil (λ draw. draw < 2 ^ 31);
}

-- ---- Reading

-- a line was refused
abbrev pub refused : ℕ → LineRefusal → RefusedLine
refused number why = record { number = number; why = why }

-- what isn't for live is refused, is of no stream, and a single stream runs
abbrev pub NotForLive : Type 0
NotForLive =
    let r = reading_of_said
    (by (codes "a") (op.Show Nat) ∷ by (codes "b") (op.Explain sent) ∷ []) in
    (r.refused
    ≡ refused 1 (NotLive (codes "show")) ∷ refused 2 (NotLive (codes "explain")) ∷ [])
    × (running_streams r ≡ codes "main" ∷ [])

-- streams stand in the order of their first lines that are accepted; a configuration makes none,
-- and a line without an event makes one
abbrev pub StreamsInOrder : Type 0
StreamsInOrder =
    (reading_of_said
    (by (codes "c") (op.Config default_config) ∷ Refuses BadJson ∷ by (codes "b") (op.Events [])
    ∷ by (codes "a") op.Sync ∷ by (codes "b") (op.Packet sent) ∷ [])).streams
    ≡ codes "b" ∷ codes "a" ∷ []

-- as many streams as there may be, and a full journal
abbrev pub full : Reading
full = record nothing_read {
  streams = map (λ n. n ∷ []) (range_with_len 0 stream_limit);
  accepted = 1000000;
}

-- a line of one stream more is refused as that, though its event has no room either
abbrev pub StreamsBeforeJournal : Type 0
StreamsBeforeJournal =
    (after_said full (by (codes "a") (op.Events (gone (codes "x") ∷ [])))).refused
    ≡ refused 1 StreamsFull ∷ []

-- a line of a stream that is there is refused for its event
abbrev pub JournalIsFull : Type 0
JournalIsFull =
    (after_said full (by (codes "?") (op.Events (gone (codes "x") ∷ [])))).refused
    ≡ refused 1 (JournalFull 1000000) ∷ []

-- a line that has no room makes no stream
abbrev pub RefusedMakesNone : Type 0
RefusedMakesNone =
    (after_said (record nothing_read { accepted = 1000000 })
    (by (codes "a") (op.Events (gone (codes "x") ∷ [])))).streams
    ≡ []

-- ---- Runs

-- a run of lines, with the marks of its lines from the first on
abbrev pub run_of : List Read → List Fed → List ℕ → List Mark → LiveRun
run_of lines journal counts marks = record {
  reading = reading_of_said lines;
  journal = journal;
  counts = counts;
  marks = λ number. get_or marks (number - 1) (Shows 0);
}

-- an event of a stream, by the stream's place and its number in it
abbrev pub fed : ℕ → ℕ → Event → Fed
fed stream number event = record { feeder = stream; number = number; event = event }

-- stream a feeds an event and syncs, twice; stream b sends a packet, feeds one, and sends again
abbrev pub two_streams : List Read
two_streams =
    by (codes "a") (op.Events (gone (codes "x") ∷ [])) ∷ by (codes "a") op.Sync
    ∷ by (codes "b") (op.Packet sent) ∷ by (codes "a") (op.Events (gone (codes "y") ∷ []))
    ∷ by (codes "a") op.Sync ∷ by (codes "b") (op.Events (gone (codes "z") ∷ []))
    ∷ by (codes "b") (op.Packet sent) ∷ []

-- a journal in which the other stream's event came between
abbrev pub mixed : List Fed
mixed =
    fed 0 1 (gone (codes "x")) ∷ fed 1 1 (gone (codes "z")) ∷ fed 0 2 (gone (codes "y")) ∷ []

-- one event at the first sync, two at the second, and none at the end
abbrev pub whole_counts : List ℕ
whole_counts = 1 ∷ 2 ∷ 0 ∷ []

-- the packets are answered before any sync and after the first
abbrev pub fitting : List Mark
fitting =
    Shows 0 ∷ Shows 1 ∷ Shows 0 ∷ Shows 0 ∷ Shows 2 ∷ Shows 0 ∷ Shows 1 ∷ []

-- it is legal
abbrev pub Legal : Type 0
Legal = IsLegalRun (run_of two_streams mixed whole_counts fitting)

-- a run isn't legal
abbrev pub IsBroken : LiveRun → Type 0
IsBroken run = IsLegalRun run → ⊥

-- ---- Broken journals

-- an event that was fed isn't in the journal
abbrev pub LostEvent : Type 0
LostEvent =
    IsBroken (run_of two_streams (fed 0 1 (gone (codes "x")) ∷ fed 1 1 (gone (codes "z")) ∷ [])
    (1 ∷ 1 ∷ 0 ∷ []) fitting)

-- an event is in the journal twice
abbrev pub EventTwice : Type 0
EventTwice =
    IsBroken (run_of two_streams (fed 1 1 (gone (codes "z")) ∷ mixed) (1 ∷ 3 ∷ 0 ∷ []) fitting)

-- a stream's events come in another order
abbrev pub EventsTurned : Type 0
EventsTurned =
    IsBroken (run_of two_streams
    (fed 0 2 (gone (codes "y")) ∷ fed 1 1 (gone (codes "z")) ∷ fed 0 1 (gone (codes "x")) ∷ [])
    whole_counts fitting)

-- an event is of a stream that isn't there
abbrev pub EventOfNoStream : Type 0
EventOfNoStream =
    IsBroken (run_of two_streams (fed 2 1 (gone (codes "z")) ∷ mixed) (1 ∷ 3 ∷ 0 ∷ []) fitting)

-- ---- Broken records

-- the records cover more events than there are
abbrev pub CoversTooMuch : Type 0
CoversTooMuch = IsBroken (run_of two_streams mixed (1 ∷ 2 ∷ 1 ∷ []) fitting)

-- no record covers the last event, though its objects have no clash
abbrev pub CoversTooLittle : Type 0
CoversTooLittle = IsBroken (run_of two_streams mixed (1 ∷ 1 ∷ 0 ∷ []) fitting)

-- both syncs are accepted, and the one at the end has no record of its own
abbrev pub NoLastRecord : Type 0
NoLastRecord = IsBroken (run_of two_streams mixed (1 ∷ 2 ∷ []) fitting)

-- syncs of two streams have one record
abbrev pub OneRecordForTwo : Type 0
OneRecordForTwo =
    IsBroken (run_of (by (codes "a") op.Sync ∷ by (codes "b") op.Sync ∷ []) [] (0 ∷ [])
    (Shows 1 ∷ Shows 1 ∷ []))

-- ---- Broken lines

-- two syncs of a stream show one record
abbrev pub SyncTwice : Type 0
SyncTwice =
    IsBroken (run_of two_streams mixed whole_counts
    (Shows 0 ∷ Shows 1 ∷ Shows 0 ∷ Shows 0 ∷ Shows 1 ∷ Shows 0 ∷ Shows 1 ∷ []))

-- a sync shows a record that isn't there
abbrev pub SyncOfNoRecord : Type 0
SyncOfNoRecord =
    IsBroken (run_of two_streams mixed whole_counts
    (Shows 0 ∷ Shows 1 ∷ Shows 0 ∷ Shows 0 ∷ Shows 4 ∷ Shows 0 ∷ Shows 1 ∷ []))

-- a packet shows a record that isn't there
abbrev pub PacketOfNoRecord : Type 0
PacketOfNoRecord =
    IsBroken (run_of two_streams mixed whole_counts
    (Shows 0 ∷ Shows 1 ∷ Shows 0 ∷ Shows 0 ∷ Shows 2 ∷ Shows 0 ∷ Shows 4 ∷ []))

-- a packet shows less than one before it in its stream
abbrev pub PacketGoesBack : Type 0
PacketGoesBack =
    IsBroken (run_of two_streams mixed whole_counts
    (Shows 0 ∷ Shows 1 ∷ Shows 2 ∷ Shows 0 ∷ Shows 2 ∷ Shows 0 ∷ Shows 1 ∷ []))

-- a packet shows less than a sync before it in its stream
abbrev pub PacketBeforeSync : Type 0
PacketBeforeSync =
    IsBroken (run_of (by (codes "a") op.Sync ∷ by (codes "a") (op.Packet sent) ∷ []) []
    (0 ∷ 0 ∷ []) (Shows 1 ∷ Shows 0 ∷ []))

-- ---- Broken refusals

-- a port of a Service
abbrev pub web_port : PortKey
web_port = record {
  object = record { namespace = codes "default"; name = codes "web" };
  port_name = [];
  proto = Tcp;
}

-- two chains of one name that no objects need
abbrev pub made_up : Clash
made_up = record { name = codes "KUBE-SVC-"; first = Port Svc web_port; second = Port Ext web_port }

-- a sync is refused by a clash that there never was
abbrev pub MadeUpClash : Type 0
MadeUpClash =
    IsBroken (run_of (by (codes "a") op.Sync ∷ []) [] (0 ∷ []) (Refuses made_up ∷ []))

-- a packet is refused
abbrev pub RefusedPacket : Type 0
RefusedPacket =
    IsBroken (run_of (by (codes "a") (op.Packet sent) ∷ []) [] (0 ∷ []) (Refuses made_up ∷ []))
