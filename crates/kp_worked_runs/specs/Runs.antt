-- Worked examples of live runs (this project's choice), from their lines to the text that they
-- print: of each one run that the rules allow, and one that they don't, since the objects of its
-- record have a clash. The lines are given as they were read. All are of the stream main but those
-- of the last run.
use Rattle.std.specs.Prelude.{◌≡◌, ◌<◌, ◌^◌, ℕ, false, List, [], ◌∷◌, ◌++◌, codes}
use Rattle.std.proofs.Common.{lit≤}
use Rattle.std.proofs.lemmas.List.Elements.{All-nil}
use Rattle.kp_base.specs.declared.config.Config.{Config}
use Rattle.kp_types.specs.declared.event.Event.{Event}
use Rattle.kp_types.specs.declared.event.Event.TheVariants.{Apply}
use Rattle.kp_types.specs.declared.event.Object.TheVariants as object
use Rattle.kp_types.specs.declared.slice.SliceEndpoint.{SliceEndpoint}
use Rattle.kp_restore_defs.specs.TableText.{text_of_lines}
use Rattle.kp_text_defs.specs.declared.draws.Draws.TheVariants as draws
use Rattle.kp_text_defs.specs.declared.line_refusal.LineRefusal.TheVariants.{NotLive}
use Rattle.kp_text_defs.specs.declared.packet.PacketLine.{PacketLine}
use Rattle.kp_text_defs.specs.declared.said.Said.TheVariants.{Asks}
use Rattle.kp_text_defs.specs.declared.script.Op.{Op}
use Rattle.kp_text_defs.specs.declared.script.Op.TheVariants as op
use Rattle.kp_text_defs.specs.declared.script.Shown.TheVariants.{Nat}
use Rattle.kp_text_defs.specs.declared.stream.Stream.TheVariants.{Main}
use Rattle.kp_run_defs.specs.declared.live.StreamLine.{StreamLine}
use Rattle.kp_run_defs.specs.declared.live.Work.{Work}
use Rattle.kp_run_defs.specs.declared.live.Work.TheVariants.{Feeds, Syncs, Sends}
use Rattle.kp_run_defs.specs.LegalRuns.{Shows, LiveRun, IsLegalRun}
use Rattle.kp_run_defs.specs.LiveText.{live_text}
use Rattle.kp_run_defs.specs.WorkedLive.{Read, by, run_of, fed, refused, IsBroken}
use Rattle.kp_worked.specs.Setting.{config, default_key, first, second, slice_of, other_pod, to_web}
use Rattle.kp_worked.specs.Events.{apply_web}
use Rattle.kp_worked_runs.specs.Printed.{nat_of_none, nat_of_one, filter_with}

-- ---- Lines

-- a line of the stream main
abbrev pub main : Op → Read
main operation = Asks (record { by = Main; op = operation })

-- the node's configuration, with names of chains of their prefixes alone
abbrev pub plain : Config
plain = record config { name_length = 0; name_to = lit≤ tt }

-- the Service's slice with these endpoints is applied
abbrev pub apply_slice : List SliceEndpoint → Event
apply_slice endpoints =
    Apply (object.EndpointSlice (record (slice_of (codes "web") endpoints) {
      key = default_key (codes "web-x");
    }))

-- a line of an event
abbrev pub feeds : Event → Read
feeds event = main (op.Events (event ∷ []))

-- a packet of a pod to the Service, without draws
abbrev pub sent : PacketLine
sent = record {
  packet = to_web other_pod;
  source_port = 0;
  draws = draws.List [];
  trail = false;
  low = All-nil (λ draw. draw < 2 ^ 31);
}

-- a line of the only stream, as it was read
abbrev pub read : ℕ → Work → StreamLine
read number work = record { number = number; stream = 0; work = work }

-- a run prints these lines
abbrev pub Prints : LiveRun → List (List ℕ) → Type 0
Prints run lines = live_text run ≡ text_of_lines lines

-- ---- The empty input

-- the sync at its end has a record of no events
abbrev pub empty : LiveRun
empty = run_of [] [] (0 ∷ []) []

-- it is legal
abbrev pub EmptyIsLegal : Type 0
EmptyIsLegal = IsLegalRun empty

-- it prints the record and the table of no objects
abbrev pub EmptyPrints : Type 0
EmptyPrints =
    Prints empty
    ((codes "record 1: events 0, written 0, removed 0" ∷ codes "final: record 1" ∷ [])
    ++ nat_of_none ++ filter_with [])

-- ---- What isn't for live

-- what is shown is refused, and the Service is applied
abbrev pub showing : LiveRun
showing =
    run_of (main (op.Config config) ∷ main (op.Show Nat) ∷ feeds apply_web ∷ [])
    (fed 0 1 apply_web ∷ []) (1 ∷ []) []

-- the refusal makes no stream, and the events come from line 3
abbrev pub ShowingReads : Type 0
ShowingReads =
    (showing.reading.refused ≡ refused 2 (NotLive (codes "show")) ∷ [])
    × (showing.reading.lines ≡ read 3 (Feeds (apply_web ∷ [])) ∷ [])

-- it is legal
abbrev pub ShowingIsLegal : Type 0
ShowingIsLegal = IsLegalRun showing

-- it prints the refusal first; packets to the Service, which has no endpoint, are rejected
abbrev pub ShowingPrints : Type 0
ShowingPrints =
    Prints showing
    ((codes "line 2: refused: op \"show\" is not for live"
    ∷ codes "event 1: main 1 apply Service default/web"
    ∷ codes "record 1: events 1, written 1, removed 0" ∷ codes "final: record 1" ∷ [])
    ++ nat_of_none
    ++ filter_with
    (codes "-A KUBE-SERVICES -d 10.96.0.10/32 -p tcp -m tcp --dport 80 -j REJECT" ∷ []))

-- ---- A sync and a packet

-- the Service and its slice of one endpoint, a sync, and a packet
abbrev pub synced : LiveRun
synced =
    run_of
    (main (op.Config plain) ∷ feeds apply_web ∷ feeds (apply_slice (first ∷ [])) ∷ main op.Sync
    ∷ main (op.Packet sent) ∷ [])
    (fed 0 1 apply_web ∷ fed 0 2 (apply_slice (first ∷ [])) ∷ []) (2 ∷ 0 ∷ [])
    (Shows 0 ∷ Shows 0 ∷ Shows 0 ∷ Shows 1 ∷ Shows 1 ∷ [])

-- the lines behind the configuration are work of the only stream
abbrev pub SyncedReads : Type 0
SyncedReads =
    synced.reading.lines
    ≡ read 2 (Feeds (apply_web ∷ [])) ∷ read 3 (Feeds (apply_slice (first ∷ []) ∷ []))
    ∷ read 4 Syncs ∷ read 5 (Sends sent) ∷ []

-- it is legal
abbrev pub SyncedIsLegal : Type 0
SyncedIsLegal = IsLegalRun synced

-- it prints the sync's record and that of the end, and the packet goes to the endpoint
abbrev pub SyncedPrints : Type 0
SyncedPrints =
    Prints synced
    ((codes "event 1: main 1 apply Service default/web"
    ∷ codes "event 2: main 2 apply EndpointSlice default/web-x"
    ∷ codes "record 1: events 2, written 3, removed 0"
    ∷ codes "record 2: events 0, written 0, removed 0"
    ∷ codes "sync 4: record 1" ∷ codes "packet 5 at 1: to 10.244.1.2:8080"
    ∷ codes "final: record 2" ∷ [])
    ++ nat_of_one (codes "10.244.1.2") ++ filter_with [])

-- ---- Answers between syncs

-- the same, and then another endpoint in place of the first, a sync, and a packet
abbrev pub moved : LiveRun
moved =
    run_of
    (main (op.Config plain) ∷ feeds apply_web ∷ feeds (apply_slice (first ∷ [])) ∷ main op.Sync
    ∷ main (op.Packet sent) ∷ feeds (apply_slice (second ∷ [])) ∷ main op.Sync
    ∷ main (op.Packet sent) ∷ [])
    (fed 0 1 apply_web ∷ fed 0 2 (apply_slice (first ∷ []))
    ∷ fed 0 3 (apply_slice (second ∷ [])) ∷ [])
    (2 ∷ 1 ∷ 0 ∷ [])
    (Shows 0 ∷ Shows 0 ∷ Shows 0 ∷ Shows 1 ∷ Shows 1 ∷ Shows 0 ∷ Shows 2 ∷ Shows 2 ∷ [])

-- it is legal
abbrev pub MovedIsLegal : Type 0
MovedIsLegal = IsLegalRun moved

-- each packet goes to the endpoint of its own record; the table is that of the last
abbrev pub MovedPrints : Type 0
MovedPrints =
    Prints moved
    ((codes "event 1: main 1 apply Service default/web"
    ∷ codes "event 2: main 2 apply EndpointSlice default/web-x"
    ∷ codes "event 3: main 3 apply EndpointSlice default/web-x"
    ∷ codes "record 1: events 2, written 3, removed 0"
    ∷ codes "record 2: events 1, written 1, removed 0"
    ∷ codes "record 3: events 0, written 0, removed 0"
    ∷ codes "sync 4: record 1" ∷ codes "packet 5 at 1: to 10.244.1.2:8080"
    ∷ codes "sync 7: record 2" ∷ codes "packet 8 at 2: to 10.244.2.3:8080"
    ∷ codes "final: record 3" ∷ [])
    ++ nat_of_one (codes "10.244.2.3") ++ filter_with [])

-- ---- A clash at the end

-- the Service and its slice of two endpoints, whose chains have one name
abbrev pub clashing : List Read
clashing =
    main (op.Config plain) ∷ feeds apply_web ∷ feeds (apply_slice (first ∷ second ∷ [])) ∷ []

-- no record is made
abbrev pub refused_at_end : LiveRun
refused_at_end =
    run_of clashing (fed 0 1 apply_web ∷ fed 0 2 (apply_slice (first ∷ second ∷ [])) ∷ []) [] []

-- it is legal
abbrev pub RefusedIsLegal : Type 0
RefusedIsLegal = IsLegalRun refused_at_end

-- it prints the clash, and the table of no objects
abbrev pub RefusedPrints : Type 0
RefusedPrints =
    Prints refused_at_end
    ((codes "event 1: main 1 apply Service default/web"
    ∷ codes "event 2: main 2 apply EndpointSlice default/web-x"
    ∷ (codes "final: refused: chain name KUBE-SEP- of default/web/TCP 10.244.1.2:8080"
    ++ codes " and of default/web/TCP 10.244.2.3:8080")
    ∷ [])
    ++ nat_of_none ++ filter_with [])

-- a run whose record covers both events isn't legal: their objects have no table
abbrev pub RecordHasClash : Type 0
RecordHasClash =
    IsBroken
    (run_of clashing (fed 0 1 apply_web ∷ fed 0 2 (apply_slice (first ∷ second ∷ [])) ∷ [])
    (2 ∷ []) [])

-- ---- All parts of the text

-- what is shown is refused; the stream a feeds the Service and syncs, and b its slice and a packet
abbrev pub whole : LiveRun
whole =
    run_of
    (main (op.Config plain) ∷ main (op.Show Nat) ∷ by (codes "a") (op.Events (apply_web ∷ []))
    ∷ by (codes "b") (op.Events (apply_slice (first ∷ []) ∷ [])) ∷ by (codes "a") op.Sync
    ∷ by (codes "b") (op.Packet sent) ∷ [])
    (fed 1 1 (apply_slice (first ∷ [])) ∷ fed 0 1 apply_web ∷ []) (2 ∷ 0 ∷ [])
    (Shows 0 ∷ Shows 0 ∷ Shows 0 ∷ Shows 0 ∷ Shows 1 ∷ Shows 1 ∷ [])

-- it is legal
abbrev pub WholeIsLegal : Type 0
WholeIsLegal = IsLegalRun whole

-- it prints refused lines, events, records, answers, how it ended, and the table, in this order
abbrev pub WholePrints : Type 0
WholePrints =
    Prints whole
    ((codes "line 2: refused: op \"show\" is not for live"
    ∷ codes "event 1: b 1 apply EndpointSlice default/web-x"
    ∷ codes "event 2: a 1 apply Service default/web"
    ∷ codes "record 1: events 2, written 3, removed 0"
    ∷ codes "record 2: events 0, written 0, removed 0"
    ∷ codes "sync 5: record 1" ∷ codes "packet 6 at 1: to 10.244.1.2:8080"
    ∷ codes "final: record 2" ∷ [])
    ++ nat_of_one (codes "10.244.1.2") ++ filter_with [])
