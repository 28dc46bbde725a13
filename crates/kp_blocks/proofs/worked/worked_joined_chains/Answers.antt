use Rattle.std.proofs.Common.{codes}
use Rattle.kp_base.specs.declared.address.Family.TheVariants.{V4, V6}
use Rattle.kp_types.specs.declared.chain.TableName.TheVariants.{Nat, Filter, Nat6}
use Rattle.kp_blocks.specs.Worked.{place, ports, six_ports}
use Rattle.kp_blocks.proofs.WorkedChains.{joined_by}
use Rattle.kp_blocks.proofs.worked.worked_joined_chains.Goals as goal

pub returns-clause-jump : goal.returns-clause-jump
returns-clause-jump c = joined_by V4 ports (place Nat (codes "KUBE-SERVICES"))

pub returns-clause-one : goal.returns-clause-one
returns-clause-one c = joined_by V4 ports (place Nat (codes "KUBE-NODEPORTS"))

pub returns-clause-none : goal.returns-clause-none
returns-clause-none c = joined_by V4 ports (place Filter (codes "KUBE-SERVICES"))

pub returns-clause-six : goal.returns-clause-six
returns-clause-six c = joined_by V6 six_ports (place Nat6 (codes "KUBE-SERVICES"))
