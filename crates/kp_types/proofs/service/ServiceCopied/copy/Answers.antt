use Rattle.kp_types.proofs.ObjectEquality.{copied_is_one}
use Rattle.kp_types.proofs.service.ServiceCopied.copy.Goals as goal

pub returns : goal.returns
returns c =
    copied_is_one c.args.self.now c.in_ok-key.key c.in_ok-families.families c.in_ok-families.ports
    c.in_ok-families.selector c.in_ok-external.external c.in_ok-external.balancer c.in_ok-external.ranges
    c.in_ok-six.six _ c.in_ok-key.ensures c.in_ok-families.ensures c.in_ok-external.ensures c.in_ok-six.ensures
