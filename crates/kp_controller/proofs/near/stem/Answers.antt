use Rattle.std.proofs.Common.{sym}
use Rattle.kp_controller.proofs.Stems.{split_stem, unsplit_stem}
use Rattle.kp_controller.proofs.near.stem.Goals as goal

pub returns-in-Some : goal.returns-in-Some
returns-in-Some c = sym (split_stem c.args.name.now c.in-Some.front.now c.in-Some.field-0-1.now c.in-Some.ensures.cases)

pub returns-in-None : goal.returns-in-None
returns-in-None c = sym (unsplit_stem c.args.name.now c.in-None.ensures.cases)
