-- What a hub begins with: the table of no objects, and passes that were just made.
use Rattle.std.proofs.Common.{◌≡◌, ℕ, zero, suc, [], List, length, replicate, ap, sym, subst, ◌∙◌}
use Rattle.std.proofs.lemmas.List.{length-replicate}
use Rattle.std.specs.List.{AllByRecursion}
use Rattle.kp_base.specs.declared.config.Config.{Config}
use Rattle.kp_lemmas.proofs.ListFacts.{all_weaker}
use Rattle.kp_feed.specs.Passes.{Feeder, QueueId}
use Rattle.kp_feed.specs.Calls.{IsNew, new_feeders}
use Rattle.kp_feed.proofs.Newcomers.{all_new}
use Rattle.kp_plane.specs.Parts.{PlaneParts, table_in}
use Rattle.kp_publish.specs.Knows.{Knows}
use Rattle.kp_hub.specs.State.{first_table}

-- the table before the first sync
pub first_table_is : (config : Config) (p : PlaneParts) → p ≡ record { config = config; events = []; counts = [] }
    → table_in p ≡ first_table config
first_table_is config p none = ap table_in none

-- readers that were just made have seen and learned nothing
all_nothing : (n : ℕ) (r : Knows) → r.seen ≡ [] → r.told ≡ [] → AllByRecursion (λ (x : Knows). (x.seen ≡ []) × (x.told ≡ [])) (replicate n r)
all_nothing zero r seen told = tt
all_nothing (suc n) r seen told = ((seen, told), all_nothing n r seen told)

pub new_readers : (n : ℕ) (r : Knows) (readers : List Knows) → readers ≡ replicate n r → r.seen ≡ [] → r.told ≡ []
    → AllByRecursion (λ (x : Knows). (x.seen ≡ []) × (x.told ≡ [])) readers
new_readers n r readers are seen told =
    subst (AllByRecursion (λ (x : Knows). (x.seen ≡ []) × (x.told ≡ []))) (sym are) (all_nothing n r seen told)

pub as_many_readers : (n : ℕ) (r : Knows) (readers : List Knows) → readers ≡ replicate n r → length readers ≡ n
as_many_readers n r readers are = ap length are ∙ length-replicate n r

-- feeders that were just made are of their queue
pub of_queue : (queue : QueueId) (n : ℕ) (passes : List Feeder) → passes ≡ new_feeders queue n
    → AllByRecursion (λ (p : Feeder). p.queue ≡ queue) passes
of_queue queue n passes are =
    subst (AllByRecursion (λ (p : Feeder). p.queue ≡ queue)) (sym are)
    (all_weaker (IsNew queue) (λ (p : Feeder). p.queue ≡ queue) (λ p new. new.0) (new_feeders queue n) (all_new queue n))
