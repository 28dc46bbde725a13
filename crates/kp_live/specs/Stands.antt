-- What contracts see of where a stream stands.
use Rattle.std.specs.Prelude.{refl}
use Rattle.std.specs.Coded.{Coded, code_by, coded×}
use Rattle.kp_choice_defs.specs.Recent.{RecentParts}
use Rattle.kp_recent.specs.Held.{parts_code}
use Rattle.kp_feed.specs.Passes.{Feeder, feeder_code}
use Rattle.kp_hub.specs.Known.{Worker, worker_code}
use Rattle.kp_live.specs.declared.answers.Answers.{Answers}
use Rattle.kp_live.specs.contracts.answers.Answers as answers_row

-- Its passes, its recent lists, and what its lines were answered so far.
pub record Stand : Type 0 where
  pub feeder : Feeder
  pub worker : Worker
  pub lists : RecentParts
  pub answers : Answers

-- it is stored as a tuple
abbrev pub stand_code : Coded Stand
stand_code =
    code_by (Feeder × (Worker × (RecentParts × Answers)))
    (coded× feeder_code (coded× worker_code (coded× parts_code answers_row.the_row.coded)))
    (λ s. (s.feeder, (s.worker, (s.lists, s.answers))))
    (λ p. record { feeder = p.0; worker = p.1.0; lists = p.1.1.0; answers = p.1.1.1 }) (λ _. refl)
