-- Runs that are legal but for one fault: the number of an event, an event, or what a sync or a packet
-- shows; and legal ones beside them. The lines are given as they were read.
use Rattle.std.specs.Prelude.{ℕ, List, [], ◌∷◌, codes}
use Rattle.kp_history_defs.specs.declared.fed.Fed.{Fed}
use Rattle.kp_text_defs.specs.declared.script.Op.TheVariants as op
use Rattle.kp_run_defs.specs.LegalRuns.{IsLegalRun, LiveRun, Mark, Shows}
use Rattle.kp_run_defs.specs.WorkedLive.{IsBroken, Read, by, fed, fitting, gone, run_of}
use Rattle.kp_run_defs.specs.WorkedLive.{sent, two_streams, whole_counts}

-- ---- The journal of the legal run of two streams

-- with this last event
abbrev pub ends_with : Fed → LiveRun
ends_with last =
    run_of two_streams (fed 0 1 (gone (codes "x")) ∷ fed 1 1 (gone (codes "z")) ∷ last ∷ [])
    whole_counts fitting

-- the second event of its stream has another number
abbrev pub WrongNumber : Type 0
WrongNumber = IsBroken (ends_with (fed 0 7 (gone (codes "y"))))

-- it is another event
abbrev pub WrongEvent : Type 0
WrongEvent = IsBroken (ends_with (fed 0 2 (gone (codes "w"))))

-- ---- What a stream has seen

-- stream a sends a packet, syncs and sends one again; stream b syncs meanwhile
abbrev pub syncing : List Read
syncing =
    by (codes "a") (op.Packet sent) ∷ by (codes "b") op.Sync ∷ by (codes "a") op.Sync
    ∷ by (codes "a") (op.Packet sent) ∷ []

-- the syncs show records 1 and 2, and the packets these
abbrev pub shows_packets : Mark → Mark → LiveRun
shows_packets first last =
    run_of syncing [] (0 ∷ 0 ∷ 0 ∷ []) (first ∷ Shows 1 ∷ Shows 2 ∷ last ∷ [])

-- packets may show the records of another stream's sync and of the end
abbrev pub PacketsMayShow : Type 0
PacketsMayShow = IsLegalRun (shows_packets (Shows 1) (Shows 3))

-- a packet may not show less than a sync before it
abbrev pub PacketForgets : Type 0
PacketForgets = IsBroken (shows_packets (Shows 1) (Shows 1))

-- nor may a sync show less than a packet before it
abbrev pub SyncForgets : Type 0
SyncForgets = IsBroken (shows_packets (Shows 3) (Shows 3))

-- nor may a packet show the record of its stream's next sync
abbrev pub PacketIsAhead : Type 0
PacketIsAhead = IsBroken (shows_packets (Shows 2) (Shows 2))

-- ---- What a sync covers

-- a stream feeds an event and syncs; its record is the first
abbrev pub covers_first : List ℕ → LiveRun
covers_first counts =
    run_of (by (codes "a") (op.Events (gone (codes "x") ∷ [])) ∷ by (codes "a") op.Sync ∷ [])
    (fed 0 1 (gone (codes "x")) ∷ []) counts (Shows 0 ∷ Shows 1 ∷ [])

-- the first record covers the event
abbrev pub SyncHasEvent : Type 0
SyncHasEvent = IsLegalRun (covers_first (1 ∷ 0 ∷ []))

-- the second one does, which isn't the sync's
abbrev pub SyncLacksEvent : Type 0
SyncLacksEvent = IsBroken (covers_first (0 ∷ 1 ∷ []))

-- ---- Records of syncs

-- two streams sync, and there are records enough
abbrev pub two_syncs : Mark → Mark → LiveRun
two_syncs first second =
    run_of (by (codes "a") op.Sync ∷ by (codes "b") op.Sync ∷ []) [] (0 ∷ 0 ∷ 0 ∷ [])
    (first ∷ second ∷ [])

-- they may show them in another order
abbrev pub SyncsAreApart : Type 0
SyncsAreApart = IsLegalRun (two_syncs (Shows 2) (Shows 1))

-- but not the same one
abbrev pub SyncsShareRecord : Type 0
SyncsShareRecord = IsBroken (two_syncs (Shows 1) (Shows 1))
