use Rattle.kp_writer_laws.proofs.NoClashes.{no_clash_is_local, some_have_no_clash}
use Rattle.kp_writer_laws.proofs.no_clash_is_local.Goals as goal

pub returns-clause-some : goal.returns-clause-some
returns-clause-some c = some_have_no_clash

pub returns-clause-changed : goal.returns-clause-changed
returns-clause-changed c = no_clash_is_local
