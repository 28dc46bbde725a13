use Rattle.std.proofs.Common.{rules}
use Rattle.kp_io.proofs.LineLemmas.{some_found, none_found}
use Rattle.kp_io.proofs.gather.gather.Goals as goal

pub returns-in_ok-add-in-Some-clause-whole : goal.returns-in_ok-add-in-Some-clause-whole
returns-in_ok-add-in-Some-clause-whole c = search (rules, some_found)

pub returns-in_ok-add-in-None-clause-whole : goal.returns-in_ok-add-in-None-clause-whole
returns-in_ok-add-in-None-clause-whole c = search (rules, none_found)
