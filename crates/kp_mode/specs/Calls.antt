-- What the calls of a mode see of a plane, and what they do.
use Rattle.std.specs.Prelude.{◌≡◌, ◌-◌, ◌++◌, ℕ, List, length, string_bytes, take, Result, Ok, Err, String}
use Rattle.kp_base.specs.declared.memory.NoMemory.{NoMemory}
use Rattle.kp_choice_defs.specs.Recent.{RecentParts}
use Rattle.kp_mode_defs.specs.Mode.{Answered, Covered}
use Rattle.kp_plane.specs.Notes.{last_note}
use Rattle.kp_plane.specs.Parts.{PlaneParts, uncovered_in}
use Rattle.kp_plane.specs.declared.note.SyncNote.{SyncNote}
use Rattle.kp_print.specs.Fronts.{HasFront}

-- what a plane shows a mode
abbrev pub covered_by : PlaneParts → Covered
covered_by p = record { config = p.config; events = p.events; counts = p.counts }

-- the plane as it was before its last sync
abbrev pub before_sync : PlaneParts → PlaneParts
before_sync p = record p { counts = take (length p.counts - 1) p.counts }

-- what is told of its last sync
abbrev pub note_of : PlaneParts → SyncNote
note_of p = last_note (uncovered_in (before_sync p)) p

-- What a call of a mode does, by its result. Done, the text grew by this, and what is kept stands for this state.
-- Without memory the text keeps what stood in it, and what is kept is partly so.
abbrev pub Adds : {S A B : Type 0} → Result (Unit {0}) NoMemory → (S → Type 0) → Type 0 → List ℕ → S → String A → String B
    → Type 0
Adds (Ok done) stands partly text state before now = (string_bytes now ≡ string_bytes before ++ text) × stands state
Adds (Err refused) stands partly text state before now = HasFront now before × partly

-- What a packet does so, which leaves these recent lists too.
abbrev pub Answers : {S A B : Type 0} → Result (Unit {0}) NoMemory → (S → Type 0) → Type 0 → Answered S → RecentParts
    → String A → String B → Type 0
Answers (Ok done) stands partly answered lists before now =
    (string_bytes now ≡ string_bytes before ++ answered.text) × (lists ≡ answered.lists) × stands answered.state
Answers (Err refused) stands partly answered lists before now = HasFront now before × partly
