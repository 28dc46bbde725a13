use Rattle.kp_history_laws.proofs.Kept as kept
use Rattle.kp_history_laws.proofs.infos_by_name.Goals as goal

pub returns : goal.returns
returns c = kept.infos_by_name c.ports_by_key.ensures.key c.ports_by_key.ensures.all
