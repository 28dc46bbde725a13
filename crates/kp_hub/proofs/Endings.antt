-- What a pass knows of a history that ended.
use Rattle.std.proofs.Common.{◌≡◌, ℕ, ◌<◌, true, List, [], ◌∷◌, Option, Some, None, map, subst, ◌∙◌}
use Rattle.std.specs.List.{AllByRecursion}
use mathlib.Core.List.{IsPrefix}
use Rattle.kp_types.specs.declared.sync.SyncRecord.{SyncRecord}
use Rattle.kp_publish.specs.declared.entry.Entry.{Entry}
use Rattle.kp_publish.specs.Entries.{GoesOnFrom, is_ended, records_of}
use Rattle.kp_publish.specs.Knows.{Knows}
use Rattle.kp_hub.specs.Finishing.{Begins}
use Rattle.kp_hub.specs.Known.{IsOutside, Worker, known, uncounted, worker_of}

-- what goes on from an ended front has its records
pub all_read : (front seen : List Entry) (records : List SyncRecord) → is_ended front ≡ true → records_of front ≡ records
    → GoesOnFrom seen front → records_of seen ≡ records
all_read front seen records ended are on = on.ended ended ∙ are

-- what it goes on from begins them
pub begins_all : (earlier later : List Entry) (records : List SyncRecord) → GoesOnFrom later earlier → records_of later ≡ records
    → Begins earlier records
begins_all earlier later records on are = subst (IsPrefix (records_of earlier)) are on.begins

-- the front that was learned last begins the longest
pub learned_in_told : (r : Option Knows) (learned : List Entry) (a b : ℕ) → IsOutside r learned
    → IsPrefix (worker_of r learned a b).learned (worker_of r learned a b).told
learned_in_told (Some reader) learned a b outside = outside
learned_in_told None learned a b outside = absurd outside

-- what passes that count nothing any more know, they knew before
pub knew_fewer : (n : ℕ) (ws : List Worker)
    → AllByRecursion (λ (w : Worker). known w < n) (map uncounted ws)
    → AllByRecursion (λ (w : Worker). known w < n) ws
knew_fewer n [] all = tt
knew_fewer n (w ∷ ws) all = (all.0, knew_fewer n ws all.1)
