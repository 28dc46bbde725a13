-- What contracts see of a feeder's pass.
use Rattle.std.specs.Prelude.{ℕ, List, refl}
use Rattle.std.specs.Coded.{Coded, code_by, coded×, coded_ℕ, coded_list}
use Rattle.kp_types.specs.declared.event.Event.{Event}
use Rattle.kp_types.specs.contracts.event.Event as event_row

-- which queue it is
abbrev pub QueueId : Type 0
QueueId = ℕ × ℕ

-- queues told apart by numbers
abbrev pub queue_code : Coded QueueId
queue_code = coded× coded_ℕ coded_ℕ

-- a feeder of a queue, and what it has fed
pub record Feeder : Type 0 where
  pub queue : QueueId
  pub feeder : ℕ
  pub fed : List Event

-- feeders told apart by numbers
abbrev pub feeder_code : Coded Feeder
feeder_code =
    code_by (QueueId × (ℕ × List Event))
    (coded× queue_code (coded× coded_ℕ (coded_list event_row.the_row.coded)))
    (λ f. (f.queue, (f.feeder, f.fed)))
    (λ p. record { queue = p.0; feeder = p.1.0; fed = p.1.1 }) (λ _. refl)
