-- What becomes of a record that isn't published.
use Rattle.std.specs.Prelude.{◌≡◌, [], ◌∷◌, ◌++◌}
use Rattle.kp_types.specs.declared.sync.SyncRecord.{SyncRecord}
use Rattle.kp_publish.specs.declared.entry.Entry.TheVariants.{Record}
use Rattle.kp_publish.specs.declared.fault.PublishFault.{PublishFault}
use Rattle.kp_publish.specs.declared.fault.PublishFault.TheVariants.{NoMemoryBack, NoMemoryPending}
use Rattle.kp_publish.specs.Pending.{Keeps}

-- it comes back and all else is as before, or it is kept after those that are pending
abbrev pub IsKeptOrBack : PublishFault → SyncRecord → Keeps → Keeps → Type 0
IsKeptOrBack (NoMemoryBack back refused) next before now =
    (back ≡ next) × (now ≡ record before { refusals = now.refusals })
IsKeptOrBack (NoMemoryPending refused) next before now = now.newest ≡ before.newest ++ Record next ∷ []
