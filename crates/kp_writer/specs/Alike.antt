-- The test of what is known of ports tells equal ones.
use Rattle.std.proofs.Common.{◌≡◌, true, subst}
use Rattle.std.specs.Prelude.{◌↔◌}
use Rattle.kp_object_defs.specs.PortInfo.{PortInfo}
use Rattle.kp_history_defs.specs.DirtyPorts.{same_info}
use Rattle.kp_history_laws.proofs.DirtyPorts.{info_itself, infos_exact}

pub info_tells : (a b : PortInfo) → (same_info a b ≡ true) ↔ (a ≡ b)
info_tells a b = (infos_exact a b, λ e. subst (λ c. same_info a c ≡ true) e (info_itself a))
