-- What changes where events are taken, and where that stops.
use Rattle.std.specs.Prelude.{◌≡◌, ◌<◌, ◌+◌, ◌⊎◌, ℕ, None, length}
use mathlib.Core.List.{IsPrefix}
use Rattle.kp_base.specs.declared.config.Config.{Config}
use Rattle.kp_feed.specs.Feeding.{AreWhole}
use Rattle.kp_hub.specs.declared.notes.Stop.{Stop}
use Rattle.kp_hub.specs.declared.notes.Stop.TheVariants.{QueueEmpty, Budget, JournalFull}
use Rattle.kp_hub.specs.Taken.{Taken, all_taken}

-- More was taken, in the queue's order, and stands at the end of the journal or waits. The feeders
-- stay.
pub record TakesMore (before after : Taken) : Type 0 where
  pub journal : IsPrefix before.journal after.journal
  pub taken : IsPrefix (all_taken before) (all_taken after)
  pub feeders : after.feeders ≡ before.feeders
  pub ended : after.ended ≡ before.ended

-- nothing was taken; only the syncs may differ
abbrev pub IsSameBut : Taken → Taken → Type 0
IsSameBut before after = after ≡ record before { counts = after.counts }

-- the journal holds as many events as it may
abbrev pub IsFull : Config → Taken → Type 0
IsFull config t = length t.journal ≡ config.max_events

-- the most events that one sync takes
abbrev pub budget : ℕ
budget = 65536

-- Why no more is taken: the journal is full; or, where it isn't, so many were taken; or, where
-- neither is so, the queue was empty once all was taken.
abbrev pub StopsAt : Config → Stop → Taken → Taken → Type 0
StopsAt config JournalFull before after = IsFull config after
StopsAt config Budget before after =
    (length after.journal < config.max_events)
    × (length after.journal ≡ length before.journal + budget)
StopsAt config QueueEmpty before after =
    (length after.journal < config.max_events)
    × (length after.journal < length before.journal + budget)
    × AreWhole after.journal after.ended after.feeders

-- nothing is left to be taken: the journal is full, or all was taken and nothing waits
abbrev pub IsDone : Config → Taken → Type 0
IsDone config t =
    IsFull config t ⊎ ((t.waits ≡ None) × AreWhole t.journal t.ended t.feeders)
