use Rattle.std.proofs.Common.{[], not, cond, ap, sym, ◌∙◌}
use Rattle.kp_object_defs.specs.Desired.{is_empty}
use Rattle.kp_object_defs.specs.PortInfo.{addresses_in, balancer_of, has_balancer}
use Rattle.kp_category.proofs.Addresses.{has_address}
use Rattle.kp_category.proofs.reach.has_balancer.Goals as goal

pub returns-in-LoadBalancer : goal.returns-in-LoadBalancer
returns-in-LoadBalancer c =
    c.has_address_in.ensures ∙ has_address c.args.family c.balancer_of.result.now
    ∙ ap (λ addresses. not (is_empty (addresses_in c.args.family addresses))) c.balancer_of.ensures
    ∙ sym (ap (λ kind. not (is_empty (cond (has_balancer kind) (addresses_in c.args.family (balancer_of c.args.family c.args.service.now)) []))) c.in-LoadBalancer.is)
