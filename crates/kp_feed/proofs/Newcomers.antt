-- Feeders that were just made.
use Rattle.std.proofs.Common.{ℕ, zero, suc, [], ◌∷◌, refl}
use Rattle.std.specs.List.{AllByRecursion}
use Rattle.kp_lemmas.proofs.ListFacts.{all_append}
use Rattle.kp_feed.specs.Passes.{QueueId}
use Rattle.kp_feed.specs.Calls.{new_feeder, new_feeders, IsNew}

pub all_new : (queue : QueueId) (n : ℕ) → AllByRecursion (IsNew queue) (new_feeders queue n)
all_new queue zero = tt
all_new queue (suc n) = all_append (IsNew queue) (new_feeders queue n) (new_feeder queue n ∷ []) (all_new queue n) ((refl, refl), tt)
