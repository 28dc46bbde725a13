-- What the calls change in the passes.
use Rattle.std.specs.Prelude.{◌≡◌, ℕ, zero, suc, List, [], ◌∷◌, ◌++◌, map}
use Rattle.kp_types.specs.declared.event.Event.{Event}
use Rattle.kp_history_defs.specs.declared.fed.Fed.{Fed}
use Rattle.kp_feed.specs.declared.rule.Ended.{Ended}
use Rattle.kp_feed.specs.Passes.{QueueId, Feeder}
use Rattle.kp_feed.specs.Taking.{Taker}

-- a feeder that has fed nothing
abbrev pub new_feeder : QueueId → ℕ → Feeder
new_feeder queue n = record { queue = queue; feeder = n; fed = [] }

-- so many of them, numbered from 0
abbrev pub new_feeders : QueueId → ℕ → List Feeder
new_feeders queue zero = []
new_feeders queue (suc n) = new_feeders queue n ++ new_feeder queue n ∷ []

-- it is one of this queue's, and has fed nothing
abbrev pub IsNew : QueueId → Feeder → Type 0
IsNew queue pass = (pass.queue ≡ queue) × (pass.fed ≡ [])

-- a taker that has taken nothing
abbrev pub new_taker : QueueId → ℕ → Taker
new_taker queue n = record { queue = queue; feeders = n; taken = []; ended = [] }

-- the taker has made one more feeder
abbrev pub with_feeder : Taker → Taker
with_feeder taker = record taker { feeders = suc taker.feeders }

-- the feeder has fed one more event
abbrev pub with_fed : Feeder → Event → Feeder
with_fed pass event = record pass { fed = pass.fed ++ event ∷ [] }

-- the taker has taken one more event
abbrev pub with_taken : Taker → Fed → Taker
with_taken taker f = record taker { taken = taker.taken ++ f ∷ [] }

-- what a feeder has fed once it has ended
abbrev pub ended_of : Feeder → Ended
ended_of pass = record { feeder = pass.feeder; fed = pass.fed }

-- the taker has ended these feeders
abbrev pub with_ended : Taker → List Feeder → Taker
with_ended taker passes = record taker { ended = taker.ended ++ map ended_of passes }
