use Rattle.std.proofs.Common.{[], map, refl, ap, ◌∙◌}
use Rattle.kp_worked.specs.Affinity.{under_affinity, in_time, of_one_part, in_minutes}
use Rattle.kp_worked.specs.Decisions.{two}
use Rattle.kp_worked.specs.Setting.{infos}
use Rattle.kp_worked.proofs.Remembered.{answers_are}
use Rattle.kp_worked.proofs.worked_affinity.Goals as goal

pub returns-clause-timeout : goal.returns-clause-timeout
returns-clause-timeout c = ap (map (λ a. a.verdict)) (answers_are 100 (infos (under_affinity 10800) two) in_time []) ∙ refl

pub returns-clause-full : goal.returns-clause-full
returns-clause-full c = ap (map (λ a. a.verdict)) (answers_are 2 (infos (under_affinity 10800) two) of_one_part []) ∙ refl

pub returns-clause-reasons : goal.returns-clause-reasons
returns-clause-reasons c = ap (map (λ a. a.reason)) (answers_are 100 (infos (under_affinity 60) two) in_minutes []) ∙ refl
