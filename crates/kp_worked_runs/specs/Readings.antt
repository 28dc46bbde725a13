-- How lines are read for live: at most 64 streams, the room of the journal, and the numbers of blank
-- and of too long lines.
use Rattle.std.specs.Prelude.{◌≡◌, ℕ, true, List, [], ◌∷◌, map, length, codes}
use Rattle.std.specs.List.{range_with_len}
use Rattle.std.proofs.Common.{lit≤}
use Rattle.kp_base.specs.declared.config.Config.{Config}
use Rattle.kp_text_defs.specs.declared.line_refusal.LineRefusal.TheVariants.{ConfigLate}
use Rattle.kp_text_defs.specs.declared.line_refusal.LineRefusal.TheVariants.{JournalFull, NotLive}
use Rattle.kp_text_defs.specs.declared.line_refusal.LineRefusal.TheVariants.{StreamsFull, TooLongLine}
use Rattle.kp_text_defs.specs.SaidLines.{is_blank}
use Rattle.kp_text_defs.specs.declared.script.Op.{Op}
use Rattle.kp_text_defs.specs.declared.script.Op.TheVariants as op
use Rattle.kp_text_defs.specs.declared.script.Shown.TheVariants.{Nat}
use Rattle.kp_run_defs.specs.declared.live.Work.TheVariants.{Feeds, Syncs}
use Rattle.kp_run_defs.specs.LiveLines.{Reading, after_said, nothing_read, reading_of}
use Rattle.kp_run_defs.specs.LiveLines.{reading_of_said}
use Rattle.kp_run_defs.specs.WorkedLive.{by, full, gone, refused}
use Rattle.kp_worked.specs.Setting.{config}
use Rattle.kp_worked_runs.specs.Inputs.{config_with, sync_text, told_by}
use Rattle.kp_worked_runs.specs.Runs.{main, read}

-- ---- Streams

-- so many streams, whose names are one byte each
abbrev pub streams : ℕ → List (List ℕ)
streams n = map (λ byte. byte ∷ []) (range_with_len 0 n)

-- what a line of the stream @, whose byte is 64, becomes where there are these
abbrev pub behind : List (List ℕ) → Op → Reading
behind names operation =
    after_said (record nothing_read { streams = names }) (by (codes "@") operation)

-- the 64th stream is taken,
abbrev pub LastIsTaken : Type 0
LastIsTaken =
    let r = after_said (record nothing_read { streams = streams 63 }) (by (codes "?") op.Sync) in
    (r.streams ≡ streams 64) × (r.refused ≡ [])

-- of which there are no more,
abbrev pub SixtyFour : Type 0
SixtyFour = full.streams ≡ streams 64

-- one more is refused,
abbrev pub OneMore : Type 0
OneMore =
    let r = behind (streams 64) op.Sync in
    (r.streams ≡ streams 64) × (r.refused ≡ refused 1 StreamsFull ∷ [])

-- and what isn't for live is told before that
abbrev pub NotLiveFirst : Type 0
NotLiveFirst = (behind (streams 64) (op.Show Nat)).refused ≡ refused 1 (NotLive (codes "show")) ∷ []

-- ---- A journal of two events

-- its configuration
abbrev pub small : Config
small = record config { max_events = 2; events_from = lit≤ tt; events_to = lit≤ tt }

-- a line of one event, one of two, which has no room, one of one again, and a sync
abbrev pub SmallReads : Type 0
SmallReads =
    let r = reading_of_said
    (main (op.Config small) ∷ main (op.Events (gone (codes "x") ∷ []))
    ∷ main (op.Events (gone (codes "y") ∷ gone (codes "z") ∷ []))
    ∷ main (op.Events (gone (codes "w") ∷ [])) ∷ main op.Sync ∷ []) in
    (r.refused ≡ refused 3 (JournalFull 1) ∷ []) × (r.accepted ≡ 2)
    × (r.lines
    ≡ read 2 (Feeds (gone (codes "x") ∷ [])) ∷ read 4 (Feeds (gone (codes "w") ∷ []))
    ∷ read 5 Syncs ∷ [])

-- two events of one line have room, and then none has
abbrev pub SmallAtOnce : Type 0
SmallAtOnce =
    let r = reading_of_said
    (main (op.Config small) ∷ main (op.Events (gone (codes "x") ∷ gone (codes "y") ∷ []))
    ∷ main (op.Events (gone (codes "z") ∷ [])) ∷ []) in
    (r.refused ≡ refused 3 (JournalFull 2) ∷ []) × (r.accepted ≡ 2)

-- ---- Numbers of lines

-- blank lines are counted, and the line after them is still the first: a configuration is read
abbrev pub BlankBefore : Type 0
BlankBefore =
    let r = reading_of ([] ∷ codes " " ∷ config_with [] ∷ sync_text ∷ []) in
    (r.lines ≡ read 4 Syncs ∷ []) × (r.refused ≡ []) × (told_by r.config ≡ told_by config)

-- so are those between lines
abbrev pub BlankBetween : Type 0
BlankBetween =
    (reading_of (sync_text ∷ [] ∷ sync_text ∷ [])).lines ≡ read 1 Syncs ∷ read 3 Syncs ∷ []

-- A line of 16,777,217 bytes is refused, and counted. The line after it isn't the first: a
-- configuration comes late.
abbrev pub TooLong : Type 0
TooLong =
    (bytes : List ℕ) → length bytes ≡ 16777217
    → let r = reading_of (bytes ∷ config_with [] ∷ sync_text ∷ []) in
    (r.refused ≡ refused 1 TooLongLine ∷ refused 2 ConfigLate ∷ [])
    × (r.lines ≡ read 3 Syncs ∷ [])

-- One of 16,777,216 blank bytes is passed over.
abbrev pub Longest : Type 0
Longest =
    (bytes : List ℕ) → length bytes ≡ 16777216 → is_blank bytes ≡ true
    → let r = reading_of (bytes ∷ sync_text ∷ []) in
    (r.refused ≡ []) × (r.lines ≡ read 2 Syncs ∷ [])
