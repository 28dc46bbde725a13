use Rattle.std.proofs.Common.{None, refl}
use Rattle.kp_writer.specs.Written.{parts}
use Rattle.kp_writer.proofs.EitherWay.{either_way}
use Rattle.kp_writer.proofs.KeptPorts.{changed_kept, kept_as, stays_kept}
use Rattle.kp_writer.proofs.writer.Writer.drop_port.Goals as goal

-- where memory is out, none is set aside
pub invariant_of-self : goal.invariant_of-self
invariant_of-self c = kept_as refl refl c.in_err-set_aside.ensures.err c.self.invariant

pub invariant_of-self-2 : goal.invariant_of-self-2
invariant_of-self-2 c =
    let w = parts c.self.inside.family c.self.inside.config c.self.inside.ports in
    let is = c.drop_port.ensures in
    let port = c.args.port.now in
    either_way c.drop_port.result _ _ _ _ _ is.newest is.blocks is.stays is.blocks_stay
    (λ newest blocks. kept_as (λ i. record {
      family = w.family;
      config = w.config;
      written = is.written i;
      newest = newest i;
    }) blocks c.in_ok-set_aside.ensures.ok
    (changed_kept w c.self.inside.blocks c.self.inside.aside c.self.invariant port None (λ i is. absurd (cc))))
    (λ newest blocks. kept_as (λ i. record {
      family = w.family;
      config = w.config;
      written = is.written i;
      newest = newest i;
    }) blocks c.in_ok-set_aside.ensures.ok
    (stays_kept w c.self.inside.blocks c.self.inside.aside c.self.invariant port))
