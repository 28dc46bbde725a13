-- The same is known of two ports exactly where they are equal.
use Rattle.std.proofs.Common.{sym, ap, ◌∙◌}
use Rattle.kp_history_defs.specs.DirtyPorts.{same_info}
use Rattle.kp_history_laws.proofs.DirtyPorts.{info_itself, infos_exact}
use Rattle.kp_info_laws.specs.InfoLaws.{InfosAreTold}

pub infos_are_told : InfosAreTold
infos_are_told a b =
    (infos_exact a b, λ same. ap (same_info a) (sym same) ∙ info_itself a)
