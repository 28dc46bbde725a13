use Rattle.std.proofs.Common.{append-nil, sym}
use Rattle.kp_modes.proofs.mapping.MappingMode.ending.Goals as goal

pub returns-clause-text : goal.returns-clause-text
returns-clause-text c = λ covered state same stands. sym (append-nil _)
