-- What contracts see of the taker's pass.
use Rattle.std.specs.Prelude.{ℕ, List, refl}
use Rattle.std.specs.Coded.{Coded, code_by, coded×, coded_ℕ, coded_list}
use Rattle.kp_history_defs.specs.declared.fed.Fed.{Fed}
use Rattle.kp_history_defs.specs.contracts.fed.Fed as fed_row
use Rattle.kp_feed.specs.declared.rule.Ended.{Ended}
use Rattle.kp_feed.specs.contracts.rule.Ended as ended_row
use Rattle.kp_feed.specs.Passes.{QueueId, queue_code}

-- the taker of a queue: how many feeders there are, what it has taken, and what the feeders that
-- ended have fed
pub record Taker : Type 0 where
  pub queue : QueueId
  pub feeders : ℕ
  pub taken : List Fed
  pub ended : List Ended

-- how such values are told apart
abbrev pub taker_code : Coded Taker
taker_code =
    code_by (QueueId × (ℕ × (List Fed × List Ended)))
    (coded× queue_code (coded× coded_ℕ
    (coded× (coded_list fed_row.the_row.coded) (coded_list ended_row.the_row.coded))))
    (λ t. (t.queue, (t.feeders, (t.taken, t.ended))))
    (λ p. record { queue = p.0; feeders = p.1.0; taken = p.1.1.0; ended = p.1.1.1 }) (λ _. refl)
